-- `sheet_pieces::keep` meets its contract: behind what decides a sheet nothing is kept, else what writing the record answers.
use mathlib.Core.Path.{◌∙◌}
use native.Mathlib.Omega.{arith}
use Rattle.sheet_rules.proofs.Lengths.{enough_is}
use Rattle.sheet_pieces.proofs.Kept.{keeps_none, keeps_by}
use Rattle.sheet_pieces.proofs.keep.Goals as goal

pub returns-then-at-ge-ENOUGH : goal.returns-then-at-ge-ENOUGH
returns-then-at-ge-ENOUGH c =
    let a = c.args in
    let one = keeps_none a.sheet.now a.at a.r (omega (arith, enough_is)) in
    record { value = one.0; sheet_after = one.1 }

pub returns : goal.returns
returns c =
    let a = c.args in
    let put = c.put_free.ensures in
    let one = keeps_by a.sheet.now a.at a.r (omega (arith, enough_is)) put.value put.buf_after in
    record { value = c.unwrap_or.ensures ∙ one.0; sheet_after = one.1 }
