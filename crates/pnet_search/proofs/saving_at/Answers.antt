-- `saving_at` meets its contract: what a look leaves of s, times what a visit costs beyond 10. W and R(y) are each at most 80·V, so the window
-- fits; it is longer than W by R(y), and so is the one that the look reaches.
use Prim.Native.Nat.{◌+◌, ◌*◌, ◌≤◌, min}
use native.Mathlib.Omega.{arith}
use Rattle.pnet_turn.specs.Turn.{at}
use Rattle.pnet_search.specs.Arrays.{asked_at}
use Rattle.pnet_search.proofs.Arrays.{left_same, saved_small, product_small}
use Rattle.pnet_search.proofs.saving_at.Goals as goal
use Rattle.pnet_search.proofs.saving_at.Goals.{After-charge-1}

-- R(y) is small
waited : (c : After-charge-1) → at c.args.counts.now c.args.y * c.args.turn ≤ 4083200
waited c =
    let a = c.args in
    let p = c.requires in
    product_small (at a.counts.now a.y) a.turn p.3.count_to p.0

pub overflow_mul-bound : goal.overflow_mul-bound
overflow_mul-bound c = omega (arith, waited (goal.at.overflow_mul-bound c).After-charge-1)

pub overflow_add-w : goal.overflow_add-w
overflow_add-w c = omega (arith, waited (goal.at.overflow_add-w c).After-charge-1)

pub look-seen-requires : goal.look-seen-requires
look-seen-requires c =
    let p = c.requires in
    (p.3.spaced, p.3.count_to, omega (arith, waited (goal.at.look-seen-requires c).After-charge-1), p.1)

pub overflow_mul-saved : goal.overflow_mul-saved
overflow_mul-saved c =
    let a = c.args in
    omega (arith, saved_small a.s c.look-seen.result.asked (at a.charges.now a.y) (omega arith) (omega arith))

-- what y asks of the s visits stays the same as long as the look's window
pub returns : goal.returns
unfolding asked_at
returns c =
    let a = c.args in
    let e = c.look-seen.ensures in (
      omega arith,
      λ v l h.
          left_same
          {b = min a.s (asked_at a.counts.now a.ends.now a.pairs.now a.turn a.y v)}
          a.s
          (at a.charges.now a.y)
          (e.2 (v + at a.counts.now a.y * a.turn) (omega arith) (omega arith)),
    )
