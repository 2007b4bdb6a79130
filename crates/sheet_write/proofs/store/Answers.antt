-- `sheet_write::store` meets its contract, for any widths that a kind has.
use native.Mathlib.Omega.{arith}
use lib.ListN.{length-set}
use Rattle.sheet_write.proofs.Stored.{stored}
use Rattle.sheet_write.proofs.store.Goals as goal

pub put_two-requires : goal.put_two-requires
put_two-requires c = simp length-set (omega arith)

pub put_two-requires-2 : goal.put_two-requires-2
put_two-requires-2 c =
    let a = c.args in
    omega (arith, length-set a.buf.now a.at a.r.kind, c.put_two.auto.buf)

pub put_number-requires : goal.put_number-requires
put_number-requires c =
    let a = c.args in
    omega (arith, length-set a.buf.now a.at a.r.kind, c.put_two.auto.buf, c.put_two-2.auto.buf)

pub shape_of-buf : goal.shape_of-buf
shape_of-buf c =
    let a = c.args in
    omega (
      arith,
      length-set a.buf.now a.at a.r.kind,
      c.put_two.auto.buf,
      c.put_two-2.auto.buf,
      c.put_number.auto.buf,
    )

pub returns : goal.returns
returns c =
    let start = c in
    let a = start.args in
    let t₁ = c.put_two in
    let t₂ = c.put_two-2 in
    let t₃ = c.put_number in
    stored a.r a.wa a.wb a.wc a.wd a.we start.requires.wide
    a.buf.now t₁.new.buf t₂.new.buf t₃.new.buf a.at start.requires.we_in_bounds t₁.ensures t₂.ensures t₃.ensures
