-- Page 02, 'Ask 11', the right side for x: it never falls as x grows and is never below V, so no solution is; and V of a segment with streams is at least 48. Assumes nothing.
use mathlib.Core.Path.{◌≡◌}
use mathlib.Core.Bool.{Bool, true, false}
use Prim.Native.Nat.{ℕ, ◌+◌, ◌≤◌}
use native.Mathlib.Nat.{mul-one, mul-le-mul}
use native.Mathlib.Omega.{arith}
use Rattle.common.specs.Sums.{when}
use Rattle.common.proofs.Sums.{upto_mono, upto_term, up_rises}
use Rattle.pnet_rules.specs.Segment.{Segment, charged, turn_by, turn}
use Rattle.pnet_rules.specs.Limits.{Declared}
use Rattle.pnet_rules.proofs.Holds.{cycle_held, charged_covers}
use Rattle.pnet_urgent_rules.specs.Urgent.{ahead, blocked, ahead_in, right_by, right}

module _ (S : Segment) (i : ℕ) where
  -- as many requests ahead, or more, in as long a window
  pub ahead_rises : (x y : ℕ) → x ≤ y → ahead_in S i x ≤ ahead_in S i y
  unfolding ahead_in
  ahead_rises x y l = upto_mono _ _ S.number (λ j lo hi. split (ahead S i j) (up_rises (x + (S.stream j).jitter) (y + (S.stream j).jitter) (S.stream j).spacing (omega arith)))
    where
      split : {a b : ℕ} (t : Bool) → a ≤ b → when t a ≤ when t b
      split true q = q
      split false q = omega arith

  pub right_rises : (x y : ℕ) → x ≤ y → right S i x ≤ right S i y
  unfolding right right_by
  right_rises x y l =
      mul-le-mul {n₁ = turn S} {m₁ = 1 + blocked S i + ahead_in S i x} {n₂ = turn S} {m₂ = 1 + blocked S i + ahead_in S i y} (omega arith) (omega (arith, ahead_rises x y l))

  -- the own message takes V
  pub right_from : (x : ℕ) → turn S ≤ right S i x
  unfolding right right_by
  right_from x =
      rw (mul-one (turn S)) at (mul-le-mul {n₁ = turn S} {m₁ = 1} {n₂ = turn S} {m₂ = 1 + blocked S i + ahead_in S i x} (omega arith) (omega arith))

  pub solution_from : (x : ℕ) → x ≡ right S i x → turn S ≤ x
  solution_from x e = omega (arith, right_from x)

-- the master of a stream is charged its H, which is 47 and a cycle
module _ (S : Segment) (d : Declared S) where
  pub turn_from : 48 ≤ turn S
  unfolding turn turn_by
  turn_from =
      let r = d.ranges 1 (omega arith) d.number_from in
      let y = (S.stream 1).master in
      omega (
        arith,
        r.cycle_from,
        cycle_held S 1 (omega arith) d.number_from,
        charged_covers S y r.master_from r.master_to,
        upto_term (charged S) S.masters y r.master_from r.master_to,
      )

  pub turn_some : 1 ≤ turn S
  turn_some = omega (arith, turn_from)
