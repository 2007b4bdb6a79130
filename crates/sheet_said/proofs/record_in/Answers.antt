-- `sheet_said::record_in` meets its contract: a run of 96 bytes holds the line of what was taken, and that is held against the line.
use mathlib.Core.Path.{◌≡◌, sym, ap, ◌∙◌}
use mathlib.Core.Bool.{Bool, cond}
use native.Mathlib.Omega.{arith}
use borrow.Author.Rules.{rules}
use Prim.Native.Nat.{ℕ, ◌≤◌}
use mathlib.Core.List.{List}
use lib.ListN.{length, take}
use Rattle.text.specs.Text.{Wrote}
use Rattle.sheet_record.specs.declared.Record.{Record}
use lib.Seq.{length-take-le}
use Rattle.text.proofs.Writing.{wrote_inside}
use Rattle.sheet_record.specs.Kinds.{numbers, nothing}
use Rattle.sheet_line.specs.Lines.{line_text}
use Rattle.sheet_said.specs.Said.{guess}
use Rattle.sheet_line.proofs.Lines.{Small, line_most}
use Rattle.sheet_said.proofs.Cells.{guess_small, said_is, stored_front}
use Rattle.sheet_said.proofs.record_in.Goals as goal

pub slice_bounds-own-end : goal.slice_bounds-own-end
slice_bounds-own-end c = wrote_inside c.put_line-n.ensures

pub slice_bounds-same-end : goal.slice_bounds-same-end
slice_bounds-same-end c = sym (length-take-le _ _ (wrote_inside c.put_line-n.ensures))

-- what stands in front of the run is the line of what was taken
front : (line : List ℕ) {o o' : List ℕ} {r : ℕ} (taken : Record) → taken ≡ guess line → 96 ≤ length o → Wrote o 0 (line_text taken) o' r → take r o' ≡ line_text taken
front line taken is room w =
    let small : Small (numbers taken) = rw is (guess_small line) in
    stored_front w (omega (arith, line_most taken small))

pub returns-then-sayable-same : goal.returns-then-sayable-same
returns-then-sayable-same c =
    let g = c.guess-taken in
    let tests = said_is _ _ _ _ _ g.ensures c.sayable.ensures (front _ _ g.ensures (search rules) c.put_line-n.ensures) c.same.ensures.0 c.same.ensures.1 in
    sym (tests ∙ ap (λ (b : Bool). cond b g.result nothing) c.if-sayable-same.true)

pub returns : goal.returns
returns c =
    let g = c.guess-taken in
    let tests = said_is _ _ _ _ _ g.ensures c.sayable.ensures (front _ _ g.ensures (search rules) c.put_line-n.ensures) c.same.ensures.0 c.same.ensures.1 in
    sym (tests ∙ ap (λ (b : Bool). cond b g.result nothing) c.if-sayable-same.false)
