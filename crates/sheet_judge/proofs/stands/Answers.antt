-- `sheet_judge::stands` meets its contract: past the end there is no byte, which reads as 0.
use mathlib.Core.Path.{refl}
use lib.ListN.{get_or-eq_default}
use Rattle.sheet_judge.proofs.stands.Goals as goal

pub returns-then-s-at : goal.returns-then-s-at
returns-then-s-at c =
    let a = c.args in
    rw (get_or-eq_default a.s.now 0 {n = a.at} c.if-s-at.true) refl
