-- Page 01, 'Sheets worked by hand': the cases marked (p), in one table, the sheet of page 02, Ask 2, and the figure of Ask 5. The count
-- behind W and its rounds is that of page 02, Ask 2, for all of them. Each sheet goes through its bytes: it is written record by record, read and planned
-- by the definitions that the planners' contracts cite. Assumes nothing.
use Rattle.std.specs.Prelude.{ℕ, List, [], ◌∷◌, ◌++◌, Bool, true, false, ◌&&◌, length, eqb}
use Rattle.common.specs.Runs.{tab}
use Rattle.units.specs.Units.{bp, us, micros_up, nanos_up, periods_down}
use Rattle.sheet_record.specs.declared.Record.{Record}
use Rattle.sheet_rules.specs.Whole.{Outcome, reading}
use Rattle.sheet_rules.specs.Whole.Outcome.{Read, Not}
use Rattle.sheet_rules.specs.Records.{bytes_of}
use Rattle.pnet_rules.specs.Segment.{segment_of, turn, bound}
use Rattle.pnet_rules.specs.Refined.{refined, rounds}
use Rattle.pnet_plan.specs.Planned.{planned, at_place}
use Rattle.profibus_plan.specs.Planned as ring
use Rattle.profibus_plan.specs.declared.answer.Plan.{Plan}
use Rattle.worldfip_plan.specs.Answer as fip
use Rattle.worldfip_plan.specs.declared.answer.Plan as fipPlan
use Rattle.std.specs.declared.result.Result.TheVariants.{Ok, Err}
use Rattle.std.specs.declared.result.Result.{Result}
use Rattle.common.specs.declared.Refusal.{Refusal}

-- ---- What a case works out to, as a list of numbers; a refusal is its number and place

-- V, then R, W and rounds of masters 1..N
abbrev pub pnet_figures : Outcome → List ℕ
pnet_figures (Read H) =
    turn (segment_of H)
    ∷ (tab (at_place (bound (segment_of H))) H.head.a
    ++ (tab (at_place (refined (segment_of H))) H.head.a ++ tab (at_place (rounds (segment_of H))) H.head.a))
pnet_figures (Not n p) = n ∷ p ∷ []

unfoldable pub pnet : List Record → List ℕ
unfolding planned bytes_of turn bound refined rounds tab
pnet rs = pnet_figures (planned (bytes_of rs) 32 32 32)

-- TTR and the stream that limits it
abbrev pub ring_figures : Result Plan Refusal → List ℕ
ring_figures (Ok x) = x.rotation.0 ∷ x.stream ∷ []
ring_figures (Err r) = r.no ∷ r.place ∷ []

unfoldable pub profibus : List Record → List ℕ
unfolding reading bytes_of
profibus rs = ring_figures (ring.plan_of (reading (bytes_of rs)))

-- slots, then the rows
abbrev pub table_figures : Result fipPlan.Plan Refusal → List ℕ → List ℕ
table_figures (Ok x) run = x.slots ∷ run
table_figures (Err r) run = r.no ∷ r.place ∷ []

unfoldable pub worldfip : List Record → List ℕ → List ℕ
unfolding reading bytes_of
worldfip rs room = table_figures (fip.plan_of (reading (bytes_of rs)) (length room)) (fip.run_of (reading (bytes_of rs)) room)

-- ---- Records

abbrev pub segment : ℕ → Record
segment n = record { kind = 1; a = n; b = 0; c = 0; d = 0; e = 0 }

abbrev pub pnet_stream : ℕ → ℕ → ℕ → ℕ → Record
pnet_stream master cycle spacing deadline = record { kind = 2; a = master; b = cycle; c = spacing; d = deadline; e = 0 }

abbrev pub ring_head : ℕ → ℕ → ℕ → Record
ring_head n latency longest = record { kind = 3; a = n; b = latency; c = longest; d = 0; e = 0 }

abbrev pub ring_stream : ℕ → ℕ → ℕ → Record
ring_stream master cycle deadline = record { kind = 4; a = master; b = cycle; c = deadline; d = 0; e = 0 }

abbrev pub exchange : ℕ → Record
exchange e = record { kind = 5; a = e; b = 0; c = 0; d = 0; e = 0 }

abbrev pub variable : ℕ → ℕ → Record
variable identifier period = record { kind = 6; a = identifier; b = period; c = 0; d = 0; e = 0 }

-- N = 4, two streams each, C = 203, T = 100,000: all deadlines 2,000 but the last, which is `last`
abbrev pub four : ℕ → List Record
four last =
    segment 4
    ∷ pnet_stream 1 203 100000 2000 ∷ pnet_stream 1 203 100000 2000
    ∷ pnet_stream 2 203 100000 2000 ∷ pnet_stream 2 203 100000 2000
    ∷ pnet_stream 3 203 100000 2000 ∷ pnet_stream 3 203 100000 2000
    ∷ pnet_stream 4 203 100000 2000 ∷ pnet_stream 4 203 100000 last
    ∷ []

-- N = 2, two streams and one, C = 203; T = D = 100,000 but of the last, which has `last`
abbrev pub two : ℕ → List Record
two last = segment 2 ∷ pnet_stream 1 203 100000 100000 ∷ pnet_stream 1 203 100000 100000 ∷ pnet_stream 2 203 last last ∷ []

abbrev pub three : List Record
three = ring_head 3 300 500 ∷ ring_stream 1 400 8400 ∷ ring_stream 1 500 10000 ∷ ring_stream 2 300 5000 ∷ []

-- E 400; the third period is `third`
abbrev pub variables : ℕ → List Record
variables third = exchange 400 ∷ variable 17 1000 ∷ variable 18 2000 ∷ variable 19 third ∷ variable 20 4000 ∷ []

-- E 210; 1,000 four times, then 3,000
abbrev pub source : List Record
source = exchange 210 ∷ variable 1 1000 ∷ variable 2 1000 ∷ variable 3 1000 ∷ variable 4 1000 ∷ variable 5 3000 ∷ []

-- ---- The table

pub record Case : Type 0 where
  pub worked : List ℕ
  pub wanted : List ℕ

infixr 3 ◌is◌
abbrev pub ◌is◌ : List ℕ → List ℕ → Case
w is x = record { worked = w; wanted = x }

unfoldable pub cases : List Case
unfolding pnet profibus worldfip micros_up nanos_up periods_down
cases =
    -- the six unit lines
    (((micros_up (bp 0)).0 ∷ []) is (0 ∷ []))
    ∷ (((micros_up (bp 1)).0 ∷ []) is (14 ∷ []))
    ∷ (((micros_up (bp 48)).0 ∷ []) is (625 ∷ []))
    ∷ (((micros_up (bp 2000)).0 ∷ []) is (26042 ∷ []))
    ∷ (((periods_down (us 26041)).0 ∷ []) is (1999 ∷ []))
    ∷ (((periods_down (us 26042)).0 ∷ []) is (2000 ∷ []))
    -- page 02, Ask 5: 1,000 bp in ns
    ∷ (((nanos_up (bp 1000)).0 ∷ []) is (13020834 ∷ []))
    -- V 1,000, R 2,000 bp; D = 2,000 passes, 1,999 is refused with 8
    ∷ (pnet (four 2000) is (1000 ∷ 2000 ∷ 2000 ∷ 2000 ∷ 2000 ∷ 2000 ∷ 2000 ∷ 2000 ∷ 2000 ∷ 1 ∷ 1 ∷ 1 ∷ 1 ∷ []))
    ∷ (pnet (four 1999) is (8 ∷ 8 ∷ []))
    -- R 1,000 and 500; W 760 and 500; rounds 1 and 1 by the count of page 02, Ask 2, where page 01's gives 2 and 2
    ∷ (pnet (two 100000) is (500 ∷ 1000 ∷ 500 ∷ 760 ∷ 500 ∷ 1 ∷ 1 ∷ []))
    -- page 02, Ask 2: W 1,000 after 2 rounds, where the count of page 01 gives 760
    ∷ (pnet (two 1000) is (500 ∷ 1000 ∷ 500 ∷ 1000 ∷ 500 ∷ 2 ∷ 1 ∷ []))
    -- TTR 2,500, limited by stream 1
    ∷ (profibus three is (2500 ∷ 1 ∷ []))
    -- slots 2, rows 3, 5, 3, 9; a fifth place keeps what it had. With the third at 2,000: refused, 12, variable 4
    ∷ (worldfip (variables 4000) (7 ∷ 7 ∷ 7 ∷ 7 ∷ 7 ∷ []) is (2 ∷ 3 ∷ 5 ∷ 3 ∷ 9 ∷ 7 ∷ []))
    ∷ (worldfip (variables 2000) (7 ∷ 7 ∷ 7 ∷ 7 ∷ 7 ∷ []) is (12 ∷ 4 ∷ []))
    -- source 004's sheet: refused, 12, variable 5
    ∷ (worldfip source (7 ∷ 7 ∷ 7 ∷ []) is (12 ∷ 5 ∷ []))
    ∷ []

-- ---- The test

unfoldable pub same : List ℕ → List ℕ → Bool
same [] [] = true
same (x ∷ xs) (y ∷ ys) = eqb x y && same xs ys
same [] (y ∷ ys) = false
same (x ∷ xs) [] = false

unfoldable pub all_right : List Case → Bool
unfolding same
all_right [] = true
all_right (c ∷ cs) = same c.worked c.wanted && all_right cs
