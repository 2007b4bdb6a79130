-- Page 02, 'Ask 11': the whole report of a P-NET sheet whose urgent requests go first, from the bytes s of the sheet alone, and whether the sheet is accepted. Assumes
-- nothing.
use Rattle.std.specs.Prelude.{ℕ, List, Bool, true, false}
use Rattle.sheet_rules.specs.Whole.{Outcome}
use Rattle.sheet_rules.specs.Whole.Outcome.{Read, Not}
use Rattle.units.specs.Units.{bp}
use Rattle.pnet_rules.specs.Segment.{Segment, segment_of}
use Rattle.pnet_plan.specs.Planned.{first_late, at_place}
use Rattle.pnet_bounds.specs.Bounded.{bound_of, master_of}
use Rattle.pnet_urgent_rules.specs.Urgent.{place, figure, rounds}
use Rattle.pnet_urgent_rules.specs.Planned.{urgently}
use Rattle.pnet_urgent_streams.specs.Listed.{deadline_of}
use Rattle.report_phrases.specs.Phrases.{refusal_text}
use Rattle.report_urgent_lines.specs.Lines.{urgent_text}

-- each stream, and the first whose R is above its D, which is what first-come queues refuse with 8
unfoldable pub streams_text : Segment → List ℕ
streams_text S =
    urgent_text (at_place (master_of S)) (at_place (place S)) (at_place (figure S)) (at_place (rounds S)) (at_place (deadline_of S)) (first_late S)
    (bp (bound_of S (first_late S))) S.number

abbrev pub answer_text : Outcome → List ℕ
answer_text (Read H) = streams_text (segment_of H)
answer_text (Not n p) = refusal_text n p

abbrev pub is_read : Outcome → Bool
is_read (Read H) = true
is_read (Not n p) = false

-- with room for 800 streams, the most that a sheet has, 13 is never given
unfoldable pub urgent_report : List ℕ → List ℕ
unfolding urgently streams_text
urgent_report s = answer_text (urgently s 800)

unfoldable pub urgent_accepts : List ℕ → Bool
unfolding urgently
urgent_accepts s = is_read (urgently s 800)
