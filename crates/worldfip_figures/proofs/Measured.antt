-- 10 and 11 in this order, or the figures; and what they tell of the sheet. Assumes nothing.
use mathlib.Core.Path.{◌≡◌, refl, sym, ap, ◌∙◌}
use mathlib.Core.Bool.{not}
use mathlib.Core.List.{List}
use Prim.Native.Nat.{ℕ, ◌≤◌, ◌<◌}
use native.Mathlib.Omega.{arith}
use borrow.Author.Tests.{eq-eqb, ne_eqb, lt-ltb, le-ltb, eqb-true, eqb-false, ltb-false, not-false}
use lib.Dec.{eqb}
use Rattle.common.specs.Checks.{Verdict, verdict, refusal, unless}
use Rattle.common.specs.Checks.Verdict.{Passed, Refused}
use Rattle.common.proofs.Answered.{same_refusal, unless_passed, unless_refused}
use Rattle.common.specs.Runs.{tab}
use Rattle.common.proofs.Checks.{Clear, refused_if, passed_if, passed_then}
use Rattle.common.proofs.Checks.Applies.{here, later}
use Rattle.common.proofs.Checks.Clear.{none, and}
use Rattle.sheet_record.specs.Kinds.{worldfip}
use Rattle.sheet_rules.specs.Sheets.{Sheet, bus_in}
use Rattle.sheet_rules.specs.Whole.{Outcome}
use Rattle.sheet_rules.specs.Whole.Outcome.{Read, Not}
use Rattle.units.specs.Units.{us}
use Rattle.worldfip_rules.specs.Traffic.{Traffic, microcycle, slots, rows, period_at}
use Rattle.worldfip_figures.specs.declared.Figures.{Figures}
use Rattle.worldfip_figures.specs.Declares.{traffic_of}
use Rattle.worldfip_figures.specs.Figures.{figure_checks, sheet_checks, place_at, figures_by, figures_of}
use Rattle.worldfip_figures.specs.Held.{measured}
use Rattle.std.specs.declared.result.Result.TheVariants.{Ok, Err}

-- ---- From the traffic

module _ (T : Traffic) where
  by : {v : Verdict} → verdict (figure_checks T) ≡ v → unless v (figures_by T) ≡ measured T
  unfolding measured
  by e = sym (ap (λ (v : Verdict). unless v (figures_by T)) e)

  pub stops_10 : slots T ≡ 0 → Err (refusal 10 0) ≡ measured T
  unfolding figure_checks
  stops_10 e = by (refused_if (here (eq-eqb (slots T) 0 e)))

  module _ (some : slots T ≡ 0 → ⊥) where
    pub stops_11 : 4096 < rows T → Err (refusal 11 0) ≡ measured T
    unfolding figure_checks
    stops_11 l = by (refused_if (later (ne_eqb (slots T) 0 some) (here (lt-ltb 4096 (rows T) l))))

    passes : rows T ≤ 4096 → verdict (figure_checks T) ≡ Passed
    unfolding figure_checks
    passes l = passed_if (and (ne_eqb (slots T) 0 some) (and (le-ltb 4096 (rows T) l) none))

    pub goes_on : rows T ≤ 4096 → (n c s m : ℕ) (v q : List ℕ) → n ≡ T.number → c ≡ microcycle T → s ≡ slots T → m ≡ rows T → v ≡ tab (place_at T) 64 → q ≡ tab (period_at T) 65
        → Ok (record { variables = n; microcycle = us c; slots = s; rows = m; places = v; periods = q }) ≡ measured T
    goes_on l n c s m v q en ec es em ev eq = rw (en, ec, es, em, ev, eq) (by (passes l))

-- ---- To the sheet

-- there are figures: 3, 10 and 11 are not given
pub record Measured (o : Outcome) (f : Figures) : Type 0 where
  pub sheet : Sheet
  pub reads : o ≡ Read sheet
  pub bus : bus_in sheet ≡ worldfip
  pub some : slots (traffic_of sheet) ≡ 0 → ⊥
  pub few : rows (traffic_of sheet) ≤ 4096
  pub number : f.variables ≡ (traffic_of sheet).number
  pub micro : f.microcycle ≡ us (microcycle (traffic_of sheet))
  pub slots_are : f.slots ≡ slots (traffic_of sheet)
  pub rows_are : f.rows ≡ rows (traffic_of sheet)
  pub places : f.places ≡ tab (place_at (traffic_of sheet)) 64
  pub periods : f.periods ≡ tab (period_at (traffic_of sheet)) 65

-- there are none: reading's refusal, or one of these
pub data Stops (o : Outcome) (n p : ℕ) : Type 0 where
  unread : o ≡ Not n p → Stops o n p
  checked : (S : Sheet) → o ≡ Read S → verdict (sheet_checks S) ≡ Refused n p → Stops o n p

passing : (S : Sheet) (f : Figures) → verdict (sheet_checks S) ≡ Passed → f ≡ figures_by (traffic_of S) → Measured (Read S) f
unfolding sheet_checks figure_checks
passing S f e q = clear (passed_then (sheet_checks S) e)
  where
    clear : Clear (sheet_checks S) → Measured (Read S) f
    clear (and b (and s (and r none))) =
        record {
          sheet = S;
          reads = refl;
          bus = eqb-true (bus_in S) worldfip (not-false (eqb (bus_in S) worldfip) b);
          some = eqb-false (slots (traffic_of S)) 0 s;
          few = ltb-false 4096 (rows (traffic_of S)) r;
          number = ap (λ (x : Figures). x.variables) q;
          micro = ap (λ (x : Figures). x.microcycle) q;
          slots_are = ap (λ (x : Figures). x.slots) q;
          rows_are = ap (λ (x : Figures). x.rows) q;
          places = ap (λ (x : Figures). x.places) q;
          periods = ap (λ (x : Figures). x.periods) q;
        }

pub told_table : (o : Outcome) (f : Figures) → Ok f ≡ figures_of o → Measured o f
unfolding figures_of
told_table (Not x y) f e = let z : ◌≡◌ {A = ℕ} 0 1 = cc in absurd (omega arith)
told_table (Read S) f e =
    let u = unless_passed (verdict (sheet_checks S)) (figures_by (traffic_of S)) (sym e) in
    passing S f u.0 (sym u.1)

pub told_refusal : (o : Outcome) (n p : ℕ) → Err (refusal n p) ≡ figures_of o → Stops o n p
unfolding figures_of
told_refusal (Not x y) n p e = let q = same_refusal e in unread (rw (q.0, q.1))
told_refusal (Read S) n p e = checked S refl (unless_refused (verdict (sheet_checks S)) (figures_by (traffic_of S)) (sym e))
