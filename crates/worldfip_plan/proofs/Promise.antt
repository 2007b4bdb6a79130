-- What the lent run holds after the planner, place by place: on a refusal what it held, else the rows of a table, row 0 first, and behind
-- them what it held. Assumes nothing.
use mathlib.Core.Path.{◌≡◌, refl, sym, ap, ◌∙◌}
use mathlib.Core.List.{List}
use Prim.Native.Nat.{ℕ, ◌+◌, ◌-◌, ◌≤◌, ◌<◌}
use native.Mathlib.Omega.{arith}
use lib.ListN.{length, get_or, drop}
use lib.Seq.{get_or-append-add, get_or-drop}
use Rattle.common.specs.Checks.{Verdict, verdict}
use Rattle.common.specs.Checks.Verdict.{Passed, Refused}
use Rattle.common.specs.Runs.{tab, filled}
use Rattle.common.proofs.Runs.{length_tab, length_filled, filled_at}
use Rattle.sheet_record.specs.Kinds.{worldfip}
use Rattle.sheet_rules.specs.Sheets.{Sheet, bus_in}
use Rattle.sheet_rules.specs.Whole.{Outcome}
use Rattle.sheet_rules.specs.Whole.Outcome.{Read, Not}
use Rattle.sheet_rules.proofs.Known.{Known}
use Rattle.units.specs.declared.Micros.{Micros}
use Rattle.worldfip_rules.specs.Table.{Table}
use Rattle.worldfip_rules.specs.Traffic.{Traffic, rows, asked_of, row_of}
use Rattle.worldfip_rules.proofs.Rows.{table_same}
use Rattle.worldfip_rules.proofs.Factors.{asked_sound}
use Rattle.worldfip_figures.specs.Declares.{traffic_of}
use Rattle.worldfip_figures.proofs.Passing.{declared}
use Rattle.worldfip_plan.specs.declared.answer.Plan.{Plan}
use Rattle.worldfip_plan.specs.Answer.{plan_checks, plan_by, run_by, plan_of, run_of}
use Rattle.worldfip_plan.specs.Refusals.{Answers, Room}
use Rattle.worldfip_plan.specs.Refusals.Answers.{another_bus, none_fits, too_many, too_short, misses, table}
use Rattle.worldfip_plan.proofs.Refusals.{plan_answers}
use Rattle.std.specs.declared.result.Result.TheVariants.{Ok, Err}
use Rattle.common.specs.Checks.{refusal}
use Rattle.std.specs.declared.result.Result.{Result}
use Rattle.common.specs.declared.Refusal.{Refusal}

-- ---- A refusal

refused_by : (v : Verdict) (T : Traffic) (old : List ℕ) (n p : ℕ) → plan_by v T ≡ Err (refusal n p) → run_by v T old ≡ old
refused_by Passed T old n p e = let z : ◌≡◌ {A = ℕ} 0 1 = cc in absurd (omega arith)
refused_by (Refused k q) T old n p e = refl

-- every place is as it was
pub refused_keeps : (o : Outcome) (old : List ℕ) (n p : ℕ) → plan_of o (length old) ≡ Err (refusal n p) → run_of o old ≡ old
unfolding plan_of run_of
refused_keeps (Read S) old n p e = refused_by (verdict (plan_checks S (length old))) (traffic_of S) old n p e
refused_keeps (Not k q) old n p e = refl

-- ---- A table

accepted_by : (v : Verdict) (T : Traffic) (old : List ℕ) (c : Micros) (k n : ℕ) → plan_by v T ≡ Ok (record { microcycle = c; slots = k; rows = n }) → run_by v T old ≡ filled (row_of T) (rows T) old
accepted_by Passed T old c k n e = refl
accepted_by (Refused x q) T old c k n e = let z : ◌≡◌ {A = ℕ} 0 1 = cc in absurd (omega arith)

-- what an acceptance takes in
pub record Accepts (S : Sheet) (room : ℕ) : Type 0 where
  pub bus : bus_in S ≡ worldfip
  pub room_for : Room (traffic_of S) room
  pub is_table : Table (asked_of (traffic_of S)) (row_of (traffic_of S))

accepts : (S : Sheet) (room : ℕ) (p : Result Plan Refusal) → Answers S room p → (c : Micros) (k n : ℕ) → p ≡ Ok (record { microcycle = c; slots = k; rows = n }) → Accepts S room
accepts S room p (table b f none t) c k n e = record { bus = b; room_for = f; is_table = t }
accepts S room p (another_bus b) c k n e = let z : ◌≡◌ {A = ℕ} 0 1 = cc in absurd (omega arith)
accepts S room p (none_fits b l) c k n e = let z : ◌≡◌ {A = ℕ} 0 1 = cc in absurd (omega arith)
accepts S room p (too_many b f l) c k n e = let z : ◌≡◌ {A = ℕ} 0 1 = cc in absurd (omega arith)
accepts S room p (too_short b f l) c k n e = let z : ◌≡◌ {A = ℕ} 0 1 = cc in absurd (omega arith)
accepts S room p (misses i b f N) c k n e = let z : ◌≡◌ {A = ℕ} 0 1 = cc in absurd (omega arith)

filled_later : (f : ℕ → ℕ) (n j : ℕ) (d : List ℕ) → n ≤ j → get_or (filled f n d) j 0 ≡ get_or d j 0
unfolding filled
filled_later f n j d l =
    let e : length (tab f n) + (j - n) ≡ j = omega (arith, length_tab f n) in
    let q : n + (j - n) ≡ j = omega arith in
    ap (λ (i : ℕ). get_or (filled f n d) i 0) (sym e) ∙ (get_or-append-add (tab f n) (drop n d) (j - n) 0 ∙ (get_or-drop n d (j - n) 0 ∙ ap (λ (i : ℕ). get_or d i 0) q))

module _ (s : List ℕ) (S : Sheet) (known : Known s S) (old : List ℕ) (c : Micros) (k n : ℕ) (e : plan_of (Read S) (length old) ≡ Ok (record { microcycle = c; slots = k; rows = n })) where
  run_is : run_of (Read S) old ≡ filled (row_of (traffic_of S)) (rows (traffic_of S)) old
  unfolding plan_of run_of
  run_is = accepted_by (verdict (plan_checks S (length old))) (traffic_of S) old c k n e

  how : Accepts S (length old)
  how = accepts S (length old) (plan_of (Read S) (length old)) (plan_answers s S known (length old)) c k n e

  -- it is as long as it was
  pub accepted_length : length (run_of (Read S) old) ≡ length old
  accepted_length = ap length run_is ∙ length_filled (row_of (traffic_of S)) (rows (traffic_of S)) old how.room_for.lent

  -- place m holds row m
  pub accepted_rows : (m : ℕ) → m < rows (traffic_of S) → get_or (run_of (Read S) old) m 0 ≡ row_of (traffic_of S) m
  accepted_rows m l = ap (λ (x : List ℕ). get_or x m 0) run_is ∙ filled_at (row_of (traffic_of S)) (rows (traffic_of S)) m old l

  -- later places keep what they had
  pub accepted_keeps : (m : ℕ) → rows (traffic_of S) ≤ m → get_or (run_of (Read S) old) m 0 ≡ get_or old m 0
  accepted_keeps m l = ap (λ (x : List ℕ). get_or x m 0) run_is ∙ filled_later (row_of (traffic_of S)) (rows (traffic_of S)) m old l

  -- what stands in the lent run is a table
  pub accepted_table : Table (asked_of (traffic_of S)) (λ m. get_or (run_of (Read S) old) m 0)
  unfolding asked_of
  accepted_table =
      table_same (asked_of (traffic_of S)) (asked_sound (traffic_of S) (declared s S known how.bus)) (row_of (traffic_of S)) (λ m. get_or (run_of (Read S) old) m 0)
      (λ m l. sym (accepted_rows m l)) how.is_table
