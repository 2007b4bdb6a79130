-- `pnet_path::further` meets its contract: within the places all three are stored; past them, storing changes nothing.
use Prim.Native.Nat.{◌+◌}
use native.Mathlib.Omega.{arith}
use lib.Seq.{set_out}
use Rattle.pnet_path.specs.Ways
use Rattle.pnet_path.proofs.further.Goals as goal

pub returns-then-n-lt11 : goal.returns-then-n-lt11
unfolding Ways.further Ways.one_more_of
returns-then-n-lt11 c = rw c.saturating_add.ensures

pub returns-else-n-lt11 : goal.returns-else-n-lt11
unfolding Ways.further Ways.one_more_of
returns-else-n-lt11 c =
    let a = c.args in
    let w = a.way in
    rw (
      c.saturating_add.ensures,
      set_out w.masters (w.segments + 1) a.master (omega arith),
      set_out w.bounds (w.segments + 1) a.bound (omega arith),
      set_out w.times w.segments a.time (omega arith),
    )
