-- `report_path::report` writes the whole report of what is kept of a path, or nothing where a report might not fit.
use mathlib.Core.Path.{sym, ◌∙◌}
use mathlib.Core.List.{List, [], ◌∷◌}
use mathlib.Core.Bool.{true, false}
use Prim.Native.Nat.{ℕ, zero, suc, ◌-◌, ◌^◌, ◌≤◌, ◌<◌}
use native.Mathlib.Omega.{arith}
use mir.Val.{Val}
use denote.Shadow.{shadow}
use denote.Array.{each}
use lib.ListN.{length}
use Rattle.units.specs.declared.BitPeriods.{BitPeriods}
use Rattle.units.specs.contracts.BitPeriods.{the_row}
use Rattle.pnet_path.specs.declared.Way.{Way}
use Rattle.text.specs.Text.{item}
use Rattle.report_path.specs.Told.{most_path}
use Rattle.report_path.specs.Kept.{count_at, lines_of}
use Rattle.report_path.proofs.Kept.{refused_report, answered_report, few_segments, no_room, written}
use Rattle.report_path.proofs.Lengths.{no_path_longer, no_sheet_refusal_longer, no_path_refusal_longer}
use Rattle.report_path.proofs.report.Goals as goal

-- each count in a run of them is a number of 32 bits
counts-small : (xs : List BitPeriods) (us : List Val) (i : ℕ) → shadow (each the_row.Denot the_row.own_val xs us)
    → (count_at xs i).0 < 2 ^ 32
counts-small [] us i p = omega arith
counts-small (x ∷ xs) [] i p = absurd p
counts-small (x ∷ xs) (u ∷ us) zero p = p.0.1.1.0.1
counts-small (x ∷ xs) (u ∷ us) (suc i) p = counts-small xs us i p.1

-- so the lines of a way have room
short : (w : Way) → ((i : ℕ) → (count_at w.bounds i).0 < 2 ^ 32) → ((i : ℕ) → (count_at w.times i).0 < 2 ^ 32) → (total deadline : BitPeriods) → w.segments - 1 ≤ 10
    → total.0 < 2 ^ 32 → deadline.0 < 2 ^ 32 → length (lines_of w total deadline) ≤ most_path
unfolding lines_of
short w b t total deadline few s d = no_path_longer (item w.masters) (count_at w.bounds) (count_at w.times) b t (w.segments - 1) total deadline few s d

pub returns-then-out-lt-MOST_TEXT : goal.returns-then-out-lt-MOST_TEXT
returns-then-out-lt-MOST_TEXT c =
    let r = no_room _ _ _ c.if-out-lt-MOST_TEXT.true in
    record { value = r.0; out_after = r.1 }

pub returns-in-Some : goal.returns-in-Some
returns-in-Some c =
    let a = c.args in
    let r = written false (refused_report a.way a.deadline c.in-Some.refusal c.in-Some.is) (no_sheet_refusal_longer _ _ _) c.if-out-lt-MOST_TEXT.false c.put_sheet_refusal.ensures in
    record { value = r.0; out_after = r.1 }

pub put_path-requires : goal.put_path-requires
put_path-requires c = few_segments c.args.way c.args.deadline c.in_default.is _ (sym c.in-Ok.is ∙ c.answer.ensures)

pub returns-in-Ok : goal.returns-in-Ok
returns-in-Ok c =
    let a = c.args in
    -- what is known of a way that is passed: each field in its order, a run with what is known of its elements; here from the masters on
    let known = c.well_formed.1.0.1.1.1.1 in
    let b : (i : ℕ) → (count_at a.way.bounds i).0 < 2 ^ 32 = λ i. counts-small a.way.bounds known.1.0.0 i known.1.0.1.1 in
    let t : (i : ℕ) → (count_at a.way.times i).0 < 2 ^ 32 = λ i. counts-small a.way.times known.1.1.0.0 i known.1.1.0.1.1 in
    let d : a.deadline.0 < 2 ^ 32 = omega arith in
    let x = c.in-Ok in
    let small : x.total.0 < 2 ^ 32 = omega arith in
    let is = sym x.is ∙ c.answer.ensures in
    let few = few_segments a.way a.deadline c.in_default.is _ is in
    let r = written true (answered_report a.way a.deadline c.in_default.is _ is)
    (short a.way b t x.total a.deadline (omega (arith, few.1)) small d) c.if-out-lt-MOST_TEXT.false c.put_path.ensures in
    record { value = r.0; out_after = r.1 }

pub returns-in-Err : goal.returns-in-Err
returns-in-Err c =
    let a = c.args in
    let r = written false
    (answered_report a.way a.deadline c.in_default.is _ (sym c.in-Err.is ∙ c.answer.ensures))
    (no_path_refusal_longer _ _) c.if-out-lt-MOST_TEXT.false c.put_path_refusal.ensures in
    record { value = r.0; out_after = r.1 }
