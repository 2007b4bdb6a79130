-- Page 02, 'Ask 11': the search for x in slots. A slot is one turn of the token, V bp. Every value of the search is a number of slots, so a search from one slot by a right
-- side in slots finds x and its rounds. Assumes nothing.
use mathlib.Core.Path.{◌≡◌, sym, ap, ◌∙◌}
use mathlib.Core.Logic.{◌⊎◌, inl, inr}
use mathlib.Core.Bool.{true, false}
use Prim.Native.Nat.{ℕ, zero, suc, ◌+◌, ◌*◌, ◌/◌, ◌≤◌, ◌<◌}
use native.Mathlib.Nat.{mul-one, mul_comm, mul-div_cancel_left, div-lt_iff_lt-mul}
use native.Mathlib.Omega.{arith}
use borrow.Author.Tests.{lt-ltb, le-ltb}
use Rattle.pnet_rules.specs.Segment.{Segment, turn}
use Rattle.pnet_rules.specs.Search.{value_from, Settles}
use Rattle.pnet_rules.proofs.Sequence.{settles_is_rounds, settles_or_passes, moves_up}
use Rattle.pnet_urgent_rules.specs.Urgent.{right, rounds, figure, unmet}
use Rattle.pnet_urgent_rules.proofs.Right.{right_rises, right_from}

-- one factor, and the other is known
factor_same : (t a b : ℕ) → 1 ≤ t → t * a ≡ t * b → a ≡ b
factor_same t a b some e = sym (mul-div_cancel_left a some) ∙ (ap (λ (x : ℕ). x / t) e ∙ mul-div_cancel_left b some)

-- f is the right side in slots
module _ (S : Segment) (i : ℕ) (some : 1 ≤ turn S) (f : ℕ → ℕ) (in_slots : (n : ℕ) → right S i (turn S * n) ≡ turn S * f n) where
  pub slot_values : (m : ℕ) → value_from (turn S) (right S i) m ≡ turn S * value_from 1 f m
  unfolding value_from
  slot_values zero = sym (mul-one (turn S))
  slot_values (suc m) = ap (right S i) (slot_values m) ∙ in_slots (value_from 1 f m)

  -- the two searches stand still together
  still_in_slots : (m : ℕ) → value_from (turn S) (right S i) m ≡ value_from (turn S) (right S i) (suc m) → value_from 1 f m ≡ value_from 1 f (suc m)
  still_in_slots m e = factor_same (turn S) (value_from 1 f m) (value_from 1 f (suc m)) some (sym (slot_values m) ∙ (e ∙ slot_values (suc m)))

  pub slots_settle : (m : ℕ) → Settles 1 f m → Settles (turn S) (right S i) m
  slots_settle m s =
      record {
        still = slot_values m ∙ (ap (λ (x : ℕ). turn S * x) s.still ∙ sym (slot_values (suc m)));
        first = λ j l e. s.first j l (still_in_slots j e);
      }

  pub settles_in_slots : (m : ℕ) → Settles (turn S) (right S i) m → Settles 1 f m
  settles_in_slots m s =
      record {
        still = still_in_slots m s.still;
        first = λ j l e. s.first j l (slot_values j ∙ (ap (λ (x : ℕ). turn S * x) e ∙ sym (slot_values (suc j))));
      }

  -- where the search in slots settles in time
  module _ (m n : ℕ) (s : Settles 1 f m) (is : n ≡ value_from 1 f m) (in_time : turn S * n ≤ (S.stream i).deadline) where
    value_is : value_from (turn S) (right S i) m ≡ turn S * n
    value_is = slot_values m ∙ ap (λ (x : ℕ). turn S * x) (sym is)

    pub slots_rounds : rounds S i ≡ m
    unfolding rounds
    slots_rounds =
        let t = slots_settle m s in
        let few : turn S + m ≤ value_from (turn S) (right S i) m = moves_up (turn S) (right S i) (right_rises S i) (right_from S i (turn S)) m t.first in
        sym (settles_is_rounds (turn S) (right S i) m (S.stream i).deadline t (omega (arith, value_is)))

    pub slots_figure : figure S i ≡ turn S * n
    unfolding figure
    slots_figure = ap (value_from (turn S) (right S i)) slots_rounds ∙ value_is

    pub slots_met : unmet S i ≡ false
    unfolding unmet
    slots_met = le-ltb (S.stream i).deadline (figure S i) (omega (arith, slots_figure))

  -- where no number of slots in time solves it
  pub slots_unmet : ((w : ℕ) → w ≡ f w → (S.stream i).deadline / turn S < w) → unmet S i ≡ true
  unfolding unmet figure rounds
  slots_unmet none =
      lt-ltb (S.stream i).deadline _ (by _ (settles_or_passes (turn S) (right S i) (right_rises S i) (right_from S i (turn S)) (S.stream i).deadline some))
    where
      by : (m : ℕ) → Settles (turn S) (right S i) m ⊎ ((S.stream i).deadline < value_from (turn S) (right S i) m) → (S.stream i).deadline < value_from (turn S) (right S i) m
      by m (inr l) = l
      by m (inl s) =
          let w = value_from 1 f m in
          let l : (S.stream i).deadline < w * turn S = (div-lt_iff_lt-mul some).0 (none w (still_in_slots m s.still)) in
          omega (arith, slot_values m, mul_comm w (turn S))
