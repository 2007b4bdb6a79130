-- `worldfip_sets::row_of` meets its contract.
use native.Mathlib.Omega.{arith}
use lib.Count.{ones-le}
use lib.Pow.{pow_pos}
use Rattle.worldfip_sets.specs.Sets.{lowest}
use Rattle.worldfip_sets.proofs.Picks.{lowest_picks, served_all}
use Rattle.worldfip_sets.proofs.Row.{row_fits, row_all, row_served}
use Rattle.worldfip_sets.proofs.row_of.Goals as goal

pub returns-then-s-ge64 : goal.returns-then-s-ge64
returns-then-s-ge64 c =
    served_all 64 lowest (lowest_picks 64 (omega arith)) _ _ (omega arith) (omega (arith, ones-le 64 c.args.x (omega arith)))

pub overflow_sub-row : goal.overflow_sub-row
overflow_sub-row c = omega (arith, c.shifted.ensures, pow_pos c.args.s)

pub returns-then-row-x : goal.returns-then-row-x
returns-then-row-x c =
    let m = c in
    row_all m.args.s m.args.x m.shifted.result m.shifted.ensures (omega arith) c.if-row-x.true

pub overflow_sub-free : goal.overflow_sub-free
overflow_sub-free c =
    let m = c in
    row_fits m.args.s m.args.x m.shifted.result m.shifted.ensures

pub returns : goal.returns
returns c =
    let m = c in
    row_served m.args.s m.args.x m.shifted.result m.shifted.ensures (omega arith) c.leave.result
    c.leave.ensures
