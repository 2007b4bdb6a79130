-- Page 02, 'Ask 4': what the report of a path says, in the words in which pnet_path: Refusals says when a path is refused, and when it is
-- accepted. Assumes nothing.
use mathlib.Core.Path.{◌≡◌, refl, sym, ap, ◌∙◌}
use mathlib.Core.Bool.{true}
use mathlib.Core.Logic.{◌↔◌}
use Prim.Native.Nat.{ℕ, zero, suc, ◌+◌, ◌-◌}
use native.Mathlib.Nat.{zero-add, add-zero}
use native.Mathlib.Omega.{arith}
use Rattle.sheet_rules.specs.Whole.{Outcome}
use Rattle.units.specs.Units.{bp}
use Rattle.units.specs.declared.BitPeriods.{BitPeriods}
use Rattle.pnet_path.specs.Path.{Path, crossed}
use Rattle.pnet_path.specs.Refusals.{Each, FirstBad, Taken, Untaken, Sheets, Given, Accepted}
use Rattle.pnet_path.proofs.Refusals.{refused_exactly, accepted_exactly}
use Rattle.report_path_lines.specs.Lines.{sheet_refusal, path_refusal}
use Rattle.report_path.specs.Report.{path_lines, answer_text, sheet_or, report_from, path_report, is_within, path_accepts}
use Rattle.std.specs.declared.result.Result.TheVariants.{Ok, Err}
use Rattle.std.specs.declared.result.Result.{Result}
use Rattle.common.specs.declared.Refusal.{Refusal}

module _ (P : Path) where
  -- n sheets are accepted, and m are still to come
  report_behind : (n m : ℕ) → n + m ≡ P.segments → Each (Taken P) n → path_report P ≡ report_from P m (suc n)
  unfolding path_report report_from
  report_behind zero m e t = ap (λ (x : ℕ). report_from P x 1) (sym (sym (zero-add m) ∙ e))
  report_behind (suc n) m e t =
      report_behind n (suc m) (omega arith) (λ j lo hi. t j lo (omega arith))
      ∙ ap (λ (o : Outcome). sheet_or (suc n) o (report_from P m (suc (suc n)))) (t (suc n) (omega arith) (omega arith)).reads

  -- of a path with a sheet that is refused: the first of them, with its number and place and its segment
  pub says_the_first_refused_sheet : {i n p : ℕ} → FirstBad (Taken P) (Untaken n p P) P.segments i → path_report P ≡ sheet_refusal i n p
  unfolding report_from
  says_the_first_refused_sheet {i = zero} b = absurd (omega (arith, b.from))
  says_the_first_refused_sheet {i = suc i} b =
      let rest = P.segments - suc i in
      report_behind i (suc rest) (omega (arith, b.to)) (λ j lo hi. b.before j lo (omega arith))
      ∙ ap (λ (o : Outcome). sheet_or (suc i) o (report_from P rest (suc (suc i)))) b.itself

  -- where all are accepted, what the path is answered is told
  pub says_the_answer : Sheets P → path_report P ≡ answer_text P (crossed P)
  unfolding report_from
  says_the_answer t = report_behind P.segments 0 (add-zero P.segments) t

  -- of one whose sheets are all accepted: the path's own refusal,
  pub says_the_paths_refusal : {n p : ℕ} → Sheets P → Given P n p → path_report P ≡ path_refusal n p
  says_the_paths_refusal {n} {p} t g = says_the_answer t ∙ ap (answer_text P) ((refused_exactly P n p).1 g)

  -- and of one that is accepted, at the cost c: its lines, with c as the total
  pub says_the_cost : {c : ℕ} → Accepted P c → path_report P ≡ path_lines P (bp c)
  says_the_cost {c} a = says_the_answer a.sheets ∙ ap (answer_text P) ((accepted_exactly P c).1 a)

  -- a path is told as accepted exactly if it is accepted, at some cost
  pub accepts_exactly : (path_accepts P ≡ true) ↔ ((c : ℕ) × Accepted P c)
  unfolding path_accepts
  accepts_exactly = (λ e. by (crossed P) refl e, λ a. ap is_within ((accepted_exactly P a.0).1 a.1))
    where
      by : (c : Result BitPeriods Refusal) → crossed P ≡ c → is_within c ≡ true → (c : ℕ) × Accepted P c
      by (Ok cost) is e = (cost.0, (accepted_exactly P cost.0).0 is)
      by (Err r) is e = let z : ◌≡◌ {A = ℕ} 0 1 = cc in absurd (omega arith)
