-- `worldfip_plan::table` meets its contract: either array has room for the rows.
use native.Mathlib.Omega.{arith}
use Rattle.worldfip_plan.proofs.Tied.{cleared}
use Rattle.worldfip_plan.proofs.table.Goals as goal

pub fill-requires : goal.fill-requires
fill-requires c =
    let p = c.requires in
    record { usable = p.usable; cleared = (cleared 128 _ c.if-rows-lt128.true p.rows_bound.0, p.rows_bound.1) }

pub fill-requires-2 : goal.fill-requires-2
fill-requires-2 c =
    let p = c.requires in
    record { usable = p.usable; cleared = (cleared 4097 _ (omega (arith, p.rows_bound.0)) p.rows_bound.0, p.rows_bound.1) }
