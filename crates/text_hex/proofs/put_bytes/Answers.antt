use native.Mathlib.Omega.{arith}
use Rattle.text_hex.proofs.Laws.{storing_all, storing_more, storing_done}
use Rattle.text_hex.proofs.put_bytes.Goals as goal

pub loop-b-init : goal.loop-b-init
loop-b-init c = storing_all _ _

pub step-next-requires : goal.step-next-requires
step-next-requires c = let s = c.loop-b.invariant in (s.inside, s.small)

pub loop-b-preserved : goal.loop-b-preserved
loop-b-preserved c =
    let x = c.step-next in
    storing_more c.loop-b.invariant _ _ _ c.loop-b-test.true x.auto.out x.ensures.n_in_bounds x.ensures.by_index x.ensures.by_index_2

pub shape_of-out : goal.shape_of-out
shape_of-out c = c.loop-b.invariant.long

pub returns : goal.returns
returns c = let r = storing_done c.loop-b.invariant (omega arith) in record { value = r.0; out_after = r.1 }
