-- `pnet_simulate::is_sound` meets its contract: the tests of `sound`, in its order.
use mathlib.Core.Path.{sym, ◌∙◌}
use native.Mathlib.Omega.{arith}
use lib.ListN.{length}
use borrow.Author.Tests.{le-leb, lt-leb}
use Rattle.pnet_simulate.specs.Simulated.{sound}
use Rattle.pnet_simulate.proofs.Sound.{cycles_law, sound_last}
use Rattle.pnet_simulate.proofs.is_sound.Goals as goal

pub returns-then-k-lt1 : goal.returns-then-k-lt1
unfolding sound
returns-then-k-lt1 c = simp (lt-leb _ _ c.if-k-lt1.true)

pub returns-then-n-k : goal.returns-then-n-k
unfolding sound
returns-then-n-k c = simp (le-leb _ _ c.if-k-lt1.false, lt-leb _ _ c.if-n-k.true)

pub returns-then-cycle-owner : goal.returns-then-cycle-owner
unfolding sound
returns-then-cycle-owner c = simp (le-leb _ _ c.if-k-lt1.false, le-leb _ _ c.if-n-k.false, lt-leb _ _ c.if-cycle-owner.true)

pub returns-then-room-owner : goal.returns-then-room-owner
unfolding sound
returns-then-room-owner c =
    simp (le-leb _ _ c.if-k-lt1.false, le-leb _ _ c.if-n-k.false, le-leb _ _ c.if-cycle-owner.false, lt-leb _ _ c.if-room-owner.true)

pub returns : goal.returns
returns c =
    let a = c.args in
    cycles_law a.cycle.now (length a.owner.now) c.have_cycles.result c.have_cycles.ensures
    ∙ sym (sound_last a.n a.owner.now a.cycle.now a.k a.room (omega arith) (omega arith) (omega arith) (omega arith))
