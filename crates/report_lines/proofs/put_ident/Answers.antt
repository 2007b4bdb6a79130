-- `report_lines::put_ident` stores an identifier if its bit is set, and nothing else.
use mathlib.Core.List.{[], append-nil}
use mathlib.Core.Path.{◌≡◌}
use Prim.Native.Nat.{ℕ}
use borrow.Author.Tests.{eq-eqb, ne_eqb}
use Rattle.report_lines.specs.Lines.{name_text}
use Rattle.text.specs.Text.{word, counted}
use Rattle.text.proofs.Writing.{wrote_none}
use Rattle.report_lines.proofs.put_ident.Goals as goal

set : (bit name : ℕ) → bit ≡ 1 → name_text bit name ≡ counted (word " ") name []
unfolding name_text counted
set bit name e = simp (eq-eqb bit 1 e, append-nil)

clear : (bit name : ℕ) → (bit ≡ 1 → ⊥) → name_text bit name ≡ []
unfolding name_text
clear bit name e = simp (ne_eqb bit 1 e)

pub returns-then-bit-eq1 : goal.returns-then-bit-eq1
returns-then-bit-eq1 c = rw (set _ _ c.if-bit-eq1.true) c.put_counted.ensures

pub returns : goal.returns
returns c = rw (clear _ c.args.name c.if-bit-eq1.false) wrote_none
