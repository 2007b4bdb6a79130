-- Page 02, 'Ask 11': what the planner that sends urgent requests first answers. Its refusals: the reading's, 3 at 0, 13 with the number of streams, 21. Assumes nothing.
use Rattle.std.specs.Prelude.{ℕ, List, [], ◌∷◌, not, length, ltb, leb, eqb}
use Rattle.common.specs.Checks.{Check, check, verdict}
use Rattle.common.specs.Sums.{first_of}
use Rattle.sheet_record.specs.Kinds.{pnet}
use Rattle.sheet_rules.specs.Sheets.{Sheet, bus_in}
use Rattle.sheet_rules.specs.Whole.{Outcome, or_else, reading}
use Rattle.sheet_rules.specs.Whole.Outcome.{Read, Not}
use Rattle.pnet_rules.specs.Segment.{Segment, segment_of}
use Rattle.pnet_urgent_rules.specs.Urgent.{unmet}

-- the first stream in sheet order that is not accepted, and the number past the last where there is none
unfoldable pub first_unmet : Segment → ℕ
unfolding first_of unmet
first_unmet S = first_of (unmet S) S.number 1

-- behind the reading's own refusals, where the shortest lent run has `room` places
abbrev pub urgent_checks : Sheet → ℕ → List Check
urgent_checks H room =
    check 3 (not (eqb (bus_in H) pnet)) 0
    ∷ check 13 (ltb room (length H.streams)) (length H.streams)
    ∷ check 21 (leb (first_unmet (segment_of H)) (length H.streams)) (first_unmet (segment_of H))
    ∷ []

-- a sheet that passes them too, or a refusal's number and place
abbrev pub urgent_by : Outcome → ℕ → Outcome
urgent_by (Read H) room = or_else (verdict (urgent_checks H room)) (Read H)
urgent_by (Not n p) room = Not n p

unfoldable pub urgently : List ℕ → ℕ → Outcome
unfolding reading verdict first_unmet segment_of
urgently s room = urgent_by (reading s) room
