-- `sheet_rewrite::put_one` meets its contract: there is room, so the writer does not refuse.
use Rattle.sheet_rewrite.proofs.Filled.{one_wrote}
use Rattle.sheet_rewrite.proofs.put_one.Goals as goal

pub returns : goal.returns
returns c =
    let a = c.args in
    let put = c.put_free.ensures in
    one_wrote a.out.now a.at a.r c.requires.kind_value c.requires.kind_in_bounds put.value put.buf_after c.unwrap_or.ensures
