use mathlib.Core.Path.{refl}
use Rattle.sheet_keep.specs.Steps as Steps
use Rattle.sheet_keep.proofs.Late.{among_more}
use Rattle.sheet_keep.proofs.among.Goals as goal

pub loop-i-init : goal.loop-i-init
unfolding Steps.among
loop-i-init c = refl

pub loop-i-preserved : goal.loop-i-preserved
loop-i-preserved c = rw (among_more c.args.x c.loop-i.i c.args.ids.now, ← c.loop-i.invariant) refl
