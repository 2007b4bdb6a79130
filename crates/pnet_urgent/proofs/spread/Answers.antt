use mathlib.Core.Path.{refl}
use Prim.Native.Nat.{ℕ, ◌<◌}
use native.Mathlib.Omega.{arith}
use Rattle.pnet_urgent.proofs.Spreads.{spread_more}
use Rattle.pnet_urgent.proofs.spread.Goals as goal

pub loop-r-preserved : goal.loop-r-preserved
loop-r-preserved c =
    let l = c.loop-r in
    let k = c.requires.keyed in
    let fits = k.fits l.r (omega arith) in
    let new = λ (q : ℕ) (h : q < l.r). k.distinct q l.r h (omega arith) in
    (spread_more _ l.invariant.0 (omega arith) new refl, spread_more _ l.invariant.1 (omega arith) new refl, spread_more _ l.invariant.2 (omega arith) new refl)
