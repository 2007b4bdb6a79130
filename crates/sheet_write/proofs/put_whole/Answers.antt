-- `sheet_write::put_whole` meets its contract: no room, counted or not, or the record is put.
use Prim.Native.Nat.{ℕ, ◌+◌}
use mathlib.Core.Path.{◌≡◌, ap, sym, ◌∙◌}
use native.Mathlib.Omega.{arith}
use Rattle.sheet_record.specs.Kinds.{size_of}
use Rattle.sheet_write.specs.Writing.{needed}
use Rattle.sheet_record.proofs.Tables.{size_is}
use Rattle.sheet_write.proofs.Writing.{short_free, room_free, needed_is, needed_none}
use Rattle.sheet_write.proofs.put_whole.Goals as goal
use Rattle.std.specs.declared.result.Result.TheVariants.{Ok}

pub returns-then-size-at : goal.returns-then-size-at
returns-then-size-at c =
    let start = c in
    let a = start.args in
    let w = start.requires.wide in
    let z = size_is a.r.kind a.wa a.wb a.wc a.wd a.we w in
    let r = short_free a.buf.now a.at a.r start.requires.kind_value (omega arith) 0 (needed_none (a.at + size_of a.r.kind) (omega arith)) in record { value = r.0; buf_after = r.1 }

pub returns-then-buf-end : goal.returns-then-buf-end
returns-then-buf-end c =
    let start = c in
    let a = start.args in
    let w = start.requires.wide in
    let z = size_is a.r.kind a.wa a.wb a.wc a.wd a.we w in
    let e : needed (a.at + size_of a.r.kind) ≡ a.at + (1 + a.wa + a.wb + a.wc + a.wd + a.we) =
    needed_is (a.at + size_of a.r.kind) (omega arith) ∙ omega arith in
    let r = short_free a.buf.now a.at a.r start.requires.kind_value (omega arith) (a.at + (1 + a.wa + a.wb + a.wc + a.wd + a.we)) e in record { value = r.0; buf_after = r.1 }

pub returns : goal.returns
returns c =
    let start = c in
    let a = start.args in
    let w = start.requires.wide in
    let z = size_is a.r.kind a.wa a.wb a.wc a.wd a.we w in
    let p = room_free a.buf.now a.at a.r start.requires.kind_value (omega arith) in
    record {
      value = ap (λ (n : ℕ). Ok (a.at + n)) (sym z) ∙ p.0;
      buf_after = c.store.ensures ∙ p.1;
    }
