use Rattle.std.proofs.Common.{◌≡◌, ℕ, ◌+◌, ◌-◌, ◌*◌, ◌≤◌, ◌<◌, List, length, get_or, drop, arith, ap, ◌∙◌}
use borrow.Rule.Slice.PartMut.{mid_of, mid_len}
use native.Mathlib.Nat.{add_comm}
use Rattle.std.proofs.lemmas.List.{get_or-take, get_or-drop}
use Rattle.common.specs.Sums.{upto}
use Rattle.common.proofs.Sums.{upto_none, upto_more}
use Rattle.profibus_plan.proofs.together.Goals as goal

-- masters 1..n of an array that counts from 0
module _ (messages : List ℕ) (n : ℕ) (room : n + 1 ≤ length messages) where
  masters_long : length (mid_of 1 (n + 1 - 1) messages) ≡ n
  masters_long = mid_len 1 (n + 1) messages room ∙ omega arith

  master_at : (i : ℕ) → i < n → get_or (mid_of 1 (n + 1 - 1) messages) i 0 ≡ get_or messages (i + 1) 0
  master_at i l =
      let e : n + 1 - 1 ≡ n = omega arith in
      rw e (get_or-take n (drop 1 messages) i 0 l ∙ get_or-drop 1 messages i 0 ∙ ap (λ (k : ℕ). get_or messages k 0) (add_comm 1 i))

  module _ (within : (y : ℕ) → 1 ≤ y → y ≤ n → get_or messages y 0 ≤ 100000) (total i : ℕ)
      (so_far : (total ≡ upto (λ y. get_or messages y 0) i) × (total ≤ i * 100000)) (more : i < length (mid_of 1 (n + 1 - 1) messages)) where
    next_at : (get_or (mid_of 1 (n + 1 - 1) messages) i 0 ≡ get_or messages (i + 1) 0) × (get_or messages (i + 1) 0 ≤ 100000)
    next_at = (master_at i (omega (arith, masters_long)), within (i + 1) (omega arith) (omega (arith, masters_long)))

    one_more : (total + get_or (mid_of 1 (n + 1 - 1) messages) i 0 ≡ upto (λ y. get_or messages y 0) (i + 1)) × (total + get_or (mid_of 1 (n + 1 - 1) messages) i 0 ≤ (i + 1) * 100000)
    one_more = (omega (arith, next_at, upto_more (λ y. get_or messages y 0) i), omega (arith, next_at))

pub loop-m-init : goal.loop-m-init
loop-m-init c = (upto_none _, omega arith)

pub loop-m-preserved : goal.loop-m-preserved
loop-m-preserved c =
    let a = c.args in
    one_more a.messages.now a.n (omega arith) c.requires.1 c.loop-m.total c.loop-m.m-index c.loop-m.invariant c.loop-m-test.true

pub overflow_add-total : goal.overflow_add-total
overflow_add-total c =
    let a = c.args in
    let m = next_at a.messages.now a.n (omega arith) c.requires.1 c.loop-m.total c.loop-m.m-index c.loop-m.invariant c.loop-m-test.true in
    omega (arith, masters_long a.messages.now a.n (omega arith))

pub returns : goal.returns
returns c =
    let a = c.args in
    c.loop-m.invariant.0 ∙ ap (upto (λ y. get_or a.messages.now y 0)) (omega (arith, masters_long a.messages.now a.n (omega arith)))
