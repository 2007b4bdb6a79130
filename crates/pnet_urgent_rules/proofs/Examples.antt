-- Page 02, 'Ask 11': sheets worked by hand. Cycles have 203 bp, so each master with streams adds 250 to V. Assumes nothing.
use Prim.Native.Nat.{ℕ}
use mathlib.Core.Path.{◌≡◌, refl}
use mathlib.Core.Bool.{true, false}
use mathlib.Core.List.{List, [], ◌∷◌}
use Rattle.common.specs.Checks.{verdict}
use Rattle.common.specs.Checks.Verdict.{Passed, Refused}
use Rattle.sheet_record.specs.declared.Record.{Record}
use Rattle.sheet_record.specs.Kinds.{bus_of}
use Rattle.sheet_rules.specs.Sheets.{Sheet}
use Rattle.pnet_rules.specs.Segment.{Segment, segment_of}
use Rattle.pnet_urgent_rules.specs.Urgent.{rank, place, rounds, figure, unmet}
use Rattle.pnet_urgent_rules.specs.Planned.{first_unmet, urgent_checks}

-- ---- Sheets

abbrev stream : ℕ → ℕ → ℕ → Record
stream y T D = record { kind = 2; a = y; b = 203; c = T; d = D; e = 0 }

abbrev jittery : ℕ → ℕ → ℕ → ℕ → Record
jittery y T D J = record { kind = 7; a = y; b = 203; c = T; d = D; e = J }

-- masters 1..N
abbrev sheet_with : ℕ → List Record → List Record → Sheet
sheet_with N ss rs = record { head = record { kind = 1; a = N; b = 0; c = 0; d = 0; e = 0 }; settings = ss; streams = rs }

abbrev declares : ℕ → List Record → List Record → Segment
unfolding segment_of
declares N ss rs = segment_of (sheet_with N ss rs)

abbrev sheet : ℕ → List Record → Segment
sheet N rs = declares N [] rs

-- the same with an edition
abbrev edited : ℕ → ℕ → List Record → Segment
edited e N rs = declares N (record { kind = 8; a = e; b = 0; c = 0; d = 0; e = 0 } ∷ []) rs

-- ---- One stream: b is 0, nothing is ahead, and value 0 stands

abbrev one : ℕ → Segment
one D = sheet 1 (stream 1 1000 D ∷ [])

alone : (figure (one 1000) 1 ≡ 250) × (rounds (one 1000) 1 ≡ 0) × (unmet (one 1000) 1 ≡ false)
unfolding segment_of figure unmet
alone = (refl, refl, refl)

-- D may be x, and not less: at 249 V is above it at the start
in_time : (unmet (one 250) 1 ≡ false) × (unmet (one 249) 1 ≡ true) × (figure (one 249) 1 ≡ 250) × (first_unmet (one 249) ≡ 1) × (first_unmet (one 250) ≡ 2)
unfolding segment_of figure unmet first_unmet
in_time = (refl, refl, refl, refl, refl)

-- ---- Two streams alike: sheet order decides, the first has b = 1, the second the first ahead

abbrev alike : Segment
alike = sheet 1 (stream 1 1000 1000 ∷ stream 1 1000 1000 ∷ [])

by_sheet_order : (place alike 1 ≡ 1) × (place alike 2 ≡ 2)
unfolding segment_of rank
by_sheet_order = (refl, refl)

alike_figures : (figure alike 1 ≡ 500) × (figure alike 2 ≡ 500) × (rounds alike 1 ≡ 1) × (rounds alike 2 ≡ 1)
unfolding segment_of figure
alike_figures = (refl, refl, refl, refl)

-- ---- Whose J: that of the stream ahead, 500 bp: 250 and 500 are within one T of it, 750 and 500 are not

abbrev late : Segment
late = sheet 1 (jittery 1 1000 500 500 ∷ stream 1 1000 1000 ∷ stream 1 100000 100000 ∷ [])

late_figures : (figure late 1 ≡ 500) × (figure late 2 ≡ 1000) × (figure late 3 ≡ 1000) × (rounds late 1 ≡ 1) × (rounds late 2 ≡ 2) × (rounds late 3 ≡ 2)
unfolding segment_of figure
late_figures = (refl, refl, refl, refl, refl, refl)

-- ---- What first come, first served refuses: R is 750, above the D of stream 1

abbrev tight : Segment
tight = sheet 1 (stream 1 500 500 ∷ stream 1 100000 100000 ∷ stream 1 100000 100000 ∷ [])

tight_figures : (figure tight 1 ≡ 500) × (figure tight 2 ≡ 1000) × (figure tight 3 ≡ 1000) × (first_unmet tight ≡ 4)
unfolding segment_of figure unmet first_unmet
tight_figures = (refl, refl, refl, refl)

-- ---- The smaller D goes first wherever it stands in the sheet, and another master's streams count for V alone

abbrev mixed : Segment
mixed = sheet 2 (stream 1 4000 4000 ∷ stream 2 1000 1000 ∷ stream 1 4000 2000 ∷ stream 1 4000 3000 ∷ [])

by_deadline : (place mixed 1 ≡ 3) × (place mixed 2 ≡ 1) × (place mixed 3 ≡ 1) × (place mixed 4 ≡ 2)
unfolding segment_of rank
by_deadline = (refl, refl, refl, refl)

-- V is 500; stream 2 is its master's first and last
mixed_figures : (figure mixed 1 ≡ 1500) × (figure mixed 2 ≡ 500) × (figure mixed 3 ≡ 1000) × (figure mixed 4 ≡ 1500)
unfolding segment_of figure
mixed_figures = (refl, refl, refl, refl)

-- ---- A stream ahead that takes all the time there is: x is 48, 96, 144 and so on, and never stands

abbrev brief : ℕ → Record
brief T = record { kind = 2; a = 1; b = 1; c = T; d = T; e = 0 }

never_stands : unmet (sheet 1 (brief 48 ∷ brief 60 ∷ [])) 2 ≡ true
unfolding segment_of figure unmet
never_stands = refl

-- ---- 21 names the first in sheet order, be it the last in order of urgency: x is 750 and 500

first_in_sheet : (first_unmet (sheet 1 (stream 1 450 450 ∷ stream 1 400 400 ∷ [])) ≡ 1) × (first_unmet (sheet 1 (stream 1 1000 1000 ∷ stream 1 400 400 ∷ [])) ≡ 2)
unfolding segment_of figure unmet first_unmet
first_in_sheet = (refl, refl)

-- ---- V is the edition's: the second of two masters is silent, and is charged 10, or 250 under edition 2

abbrev silent : ℕ → Segment
silent e = edited e 2 (stream 1 100000 100000 ∷ stream 1 100000 100000 ∷ [])

by_edition : (figure (silent 1) 1 ≡ 520) × (figure (silent 1) 2 ≡ 520) × (figure (silent 2) 1 ≡ 1000) × (figure (silent 2) 2 ≡ 1000) × (rounds (silent 2) 1 ≡ 1)
unfolding segment_of figure
by_edition = (refl, refl, refl, refl, refl)

-- ---- The refusals in their order: neither of two streams is accepted, x being 750 and 500

abbrev neither : Sheet
neither = sheet_with 1 [] (stream 1 450 450 ∷ stream 1 400 400 ∷ [])

in_turn : (verdict (urgent_checks neither 1) ≡ Refused 13 2) × (verdict (urgent_checks neither 2) ≡ Refused 21 1)
unfolding verdict bus_of segment_of first_unmet
in_turn = (refl, refl)

-- a place for each stream is enough where both are
accepted : verdict (urgent_checks (sheet_with 1 [] (stream 1 600 600 ∷ stream 1 500 500 ∷ [])) 2) ≡ Passed
unfolding verdict bus_of segment_of first_unmet
accepted = refl
