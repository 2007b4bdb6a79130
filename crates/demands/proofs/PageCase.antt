-- Demand 3 on the page's worked segment, from its bytes: N = 4, two streams each, C = 203, T = 100,000, D = 2,000. The planner accepts it, some
-- run takes exactly 2,000 bp, and no lower figure is true. So nothing that the demand supposes is empty. The sheet names no edition, so edition 1
-- holds. Assumes nothing.
use Prim.Native.Nat.{ℕ, ◌-◌, ◌≤◌, ◌<◌, zero, suc}
use mathlib.Core.Path.{◌≡◌, refl, sym, ap, ◌∙◌}
use mathlib.Core.Bool.{Bool, true, ◌&&◌}
use mathlib.Core.List.{List, [], ◌∷◌}
use mathlib.Core.Logic.{inr}
use native.Mathlib.Omega.{arith}
use native.Mathlib.Decide.{ℕ_discrete}
use borrow.Author.Tests.{eqb-true}
use lib.Dec.{eqb}
use lib.ListN.{length, get_or}
use Rattle.sheet_record.specs.declared.Record.{Record}
use Rattle.sheet_record.specs.Kinds.{nothing}
use Rattle.sheet_record.proofs.Tables.{both_true}
use Rattle.sheet_rules.specs.Sheets.{Sheet}
use Rattle.sheet_rules.specs.Whole.Outcome.{Read}
use Rattle.sheet_rules.specs.Records.{records_in, bytes_of}
use Rattle.units.specs.Units.{bp}
use Rattle.units.specs.declared.BitPeriods.{BitPeriods}
use Rattle.pnet_rules.specs.Segment.{Segment, segment_of, count, bound}
use Rattle.pnet_plan.specs.Planned.{planned}
use Rattle.pnet_run.specs.Promise.{Safe, Reached, Even}
use Rattle.demands.proofs.Written3.{written, written_is_bound, some_run_takes_exactly_the_written_bound, no_lower_figure_than_the_written_would_be_true}

-- ---- The sheet

abbrev stream : ℕ → Record
stream m = record { kind = 2; a = m; b = 203; c = 100000; d = 2000; e = 0 }

unfoldable pub sheet : Sheet
sheet =
    record {
      head = record { kind = 1; a = 4; b = 0; c = 0; d = 0; e = 0 };
      settings = [];
      streams = stream 1 ∷ stream 1 ∷ stream 2 ∷ stream 2 ∷ stream 3 ∷ stream 3 ∷ stream 4 ∷ stream 4 ∷ [];
    }

-- its bytes, and a lent run with a place for each master
unfoldable pub bytes : List ℕ
unfolding sheet records_in bytes_of
bytes = bytes_of (records_in sheet)

abbrev pub lent : List ℕ
lent = 0 ∷ 0 ∷ 0 ∷ 0 ∷ []

-- its segment
abbrev pub page : Segment
page = segment_of sheet

pub accepts : planned bytes (length lent) (length lent) (length lent) ≡ Read sheet
unfolding sheet bytes planned
accepts = refl

-- ---- It is even

-- all its streams have this C
abbrev all : ℕ → List Record → Bool
all c [] = true
all c (r ∷ rs) = eqb r.b c && all c rs

all_at : (c : ℕ) (rs : List Record) → all c rs ≡ true → (i : ℕ) → i < length rs → (get_or rs i nothing).b ≡ c
all_at c [] e i l = absurd (omega arith)
all_at c (r ∷ rs) e zero l = eqb-true r.b c (both_true (eqb r.b c) (all c rs) e).0
all_at c (r ∷ rs) e (suc i) l = all_at c rs (both_true (eqb r.b c) (all c rs) e).1 i (omega arith)

cycles : (i : ℕ) → 1 ≤ i → i ≤ page.number → (page.stream i).cycle ≡ 203
unfolding sheet segment_of
cycles i lo hi = all_at 203 sheet.streams refl (i - 1) (omega arith)

counts : (y : ℕ) → 1 ≤ y → y ≤ page.masters → count page y ≡ 2
unfolding sheet segment_of count
counts y lo hi = by (ℕ_discrete y 1) (ℕ_discrete y 2) (ℕ_discrete y 3)
  where
    by : Dec (y ≡ 1) → Dec (y ≡ 2) → Dec (y ≡ 3) → count page y ≡ 2
    by (yes e) b c = ap (count page) e
    by (no a) (yes e) c = ap (count page) e
    by (no a) (no b) (yes e) = ap (count page) e
    by (no a) (no b) (no c) = let e : y ≡ 4 = omega (arith, a, b, c) in ap (count page) e

pub even : Even page 1
unfolding sheet segment_of
even =
    record {
      first_edition = refl;
      alike = λ m i j b c. cycles i b.from_one b.to_last ∙ sym (cycles j c.from_one c.to_last);
      others = λ y lo hi z. inr (omega (arith, counts 1 (omega arith) (omega arith), counts y lo hi));
    }

-- ---- The demand

-- master 1 is one of its masters, and has streams
pub one : 1 ≤ sheet.head.a
unfolding sheet
one = omega arith

some : 1 ≤ count page 1
unfolding segment_of
some = omega (arith, counts 1 (omega arith) one)

bound_is_2000 : bound page 1 ≡ 2000
unfolding sheet segment_of bound
bound_is_2000 = refl

-- what the planner writes for it
pub written_is_2000 : written bytes lent lent lent sheet accepts 1 (omega arith) one ≡ 2000
written_is_2000 = written_is_bound bytes lent lent lent sheet accepts 1 (omega arith) one ∙ bound_is_2000

pub some_run_takes_2000 : Reached (bp 2000) page 1
some_run_takes_2000 = rw written_is_2000 at (some_run_takes_exactly_the_written_bound bytes lent lent lent sheet accepts 1 (omega arith) one some even)

pub no_lower_figure_is_true : (figure : BitPeriods) → Safe figure page 1 → 2000 ≤ figure.0
no_lower_figure_is_true figure safe =
    omega (arith, written_is_2000, no_lower_figure_than_the_written_would_be_true bytes lent lent lent sheet accepts 1 (omega arith) one some even figure safe)
