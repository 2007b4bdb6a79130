-- `report_faults::put_silence` stores that no stream has an answer, where none has.
use mathlib.Core.List.{[]}
use mathlib.Core.Path.{◌≡◌, sym, ◌∙◌}
use Prim.Native.Nat.{ℕ}
use borrow.Author.Tests.{eq-eqb, ne_eqb}
use Rattle.text.specs.Text.{word, item}
use Rattle.text.proofs.Writing.{wrote_none}
use Rattle.report_faults.specs.Faults.{exceeding, silence_line}
use Rattle.report_faults.proofs.put_silence.Goals as goal

-- what the code stores, by how many streams have an answer
module _ (answers : ℕ → ℕ) (n heard : ℕ) (e : heard ≡ exceeding answers n) where
  silent : heard ≡ 0 → silence_line answers n ≡ word "no answer in the whole capture\n"
  unfolding silence_line
  silent z = simp (eq-eqb (exceeding answers n) 0 (sym e ∙ z))

  not-silent : (heard ≡ 0 → ⊥) → silence_line answers n ≡ []
  unfolding silence_line
  not-silent some = simp (ne_eqb (exceeding answers n) 0 (λ z. some (e ∙ z)))

pub returns-then-heard-eq0 : goal.returns-then-heard-eq0
returns-then-heard-eq0 c =
    let a = c.args in
    rw (silent (item a.answers.now) a.n _ c.exceeding-heard.ensures c.if-heard-eq0.true) c.put_word.ensures

pub returns : goal.returns
returns c =
    let a = c.args in
    rw (not-silent (item a.answers.now) a.n _ c.exceeding-heard.ensures c.if-heard-eq0.false) wrote_none
