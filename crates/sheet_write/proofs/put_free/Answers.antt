-- `sheet_write::put_free` meets its contract: 2, then what `put_whole` answers at the kind's widths.
use mathlib.Core.Path.{◌≡◌, refl, sym, ◌∙◌}
use mathlib.Core.Bool.{true}
use mathlib.Core.Logic.{◌⊎◌, inl, inr}
use Prim.Native.Nat.{ℕ}
use borrow.Author.Tests.{not-true, not-false}
use Rattle.sheet_record.specs.Kinds.{kinds, line_of, fields_of, known, written}
use Rattle.sheet_record.specs.Widths.{width_at, Wide}
use Rattle.sheet_record.proofs.Tables.{wide}
use Rattle.sheet_write.proofs.Writing.{unknown_free, NoneIn, ring_or_message}
use Rattle.sheet_write.proofs.put_free.Goals as goal
use Rattle.sheet_write.proofs.put_free.Goals.{Else-not-written}

pub returns-then-not-written : goal.returns-then-not-written
returns-then-not-written c =
    let a = c.args in
    let r = unknown_free a.buf.now a.at a.r (sym c.written.ensures ∙ not-true _ c.if-not-written.true-raw) in record { value = r.0; buf_after = r.1 }

-- past the first test, the writer puts the kind
put-kind : (c : Else-not-written) → written c.args.r.kind ≡ true
put-kind c = sym c.written.ensures ∙ not-false _ c.if-not-written.false-raw

pub put_whole-requires : goal.put_whole-requires
unfolding width_at fields_of line_of kinds known
put_whole-requires c = record {
  kind_value = put-kind (goal.at.put_whole-requires c).Else-not-written;
  wide = rw c.in-1.is (wide 1 refl);
}

pub put_whole-requires-in-2 : goal.put_whole-requires-in-2
unfolding width_at fields_of line_of kinds known
put_whole-requires-in-2 c = record {
  kind_value = put-kind (goal.at.put_whole-requires-in-2 c).Else-not-written;
  wide = rw c.in-2.is (wide 2 refl);
}

pub put_whole-requires-in-4 : goal.put_whole-requires-in-4
unfolding width_at fields_of line_of kinds known
put_whole-requires-in-4 c = record {
  kind_value = put-kind (goal.at.put_whole-requires-in-4 c).Else-not-written;
  wide = rw c.in-4.is (wide 4 refl);
}

pub put_whole-requires-in-5 : goal.put_whole-requires-in-5
unfolding width_at fields_of line_of kinds known
put_whole-requires-in-5 c = record {
  kind_value = put-kind (goal.at.put_whole-requires-in-5 c).Else-not-written;
  wide = rw c.in-5.is (wide 5 refl);
}

pub put_whole-requires-in-6 : goal.put_whole-requires-in-6
unfolding width_at fields_of line_of kinds known
put_whole-requires-in-6 c = record {
  kind_value = put-kind (goal.at.put_whole-requires-in-6 c).Else-not-written;
  wide = rw c.in-6.is (wide 6 refl);
}

pub put_whole-requires-in-7 : goal.put_whole-requires-in-7
unfolding width_at fields_of line_of kinds known
put_whole-requires-in-7 c = record {
  kind_value = put-kind (goal.at.put_whole-requires-in-7 c).Else-not-written;
  wide = rw c.in-7.is (wide 7 refl);
}

pub put_whole-requires-in-8 : goal.put_whole-requires-in-8
unfolding width_at fields_of line_of kinds known
put_whole-requires-in-8 c = record {
  kind_value = put-kind (goal.at.put_whole-requires-in-8 c).Else-not-written;
  wide = rw c.in-8.is (wide 8 refl);
}

pub put_whole-requires-in_default : goal.put_whole-requires-in_default
unfolding width_at fields_of line_of kinds known NoneIn
put_whole-requires-in_default c =
    let k = c.args.r.kind in
    record {
      kind_value = put-kind (goal.at.put_whole-requires-in_default c).Else-not-written;
      wide = by (ring_or_message k (put-kind (goal.at.put_whole-requires-in_default c).Else-not-written) c.in_default.in_default-own.rest);
    }
  where
    by : {k : ℕ} → k ≡ 9 ⊎ k ≡ 10 → Wide k 1 4 0 0 0
    by (inl e) = rw e (wide 9 refl)
    by (inr e) = rw e (wide 10 refl)

pub shape_of-buf-in-1 : goal.shape_of-buf-in-1
shape_of-buf-in-1 c = c.put_whole.auto.buf

pub returns-in-1 : goal.returns-in-1
returns-in-1 c = c.put_whole.ensures

pub shape_of-buf-in-2 : goal.shape_of-buf-in-2
shape_of-buf-in-2 c = c.put_whole-in-2.auto.buf

pub returns-in-2 : goal.returns-in-2
returns-in-2 c = c.put_whole-in-2.ensures

pub shape_of-buf-in-4 : goal.shape_of-buf-in-4
shape_of-buf-in-4 c = c.put_whole-in-4.auto.buf

pub returns-in-4 : goal.returns-in-4
returns-in-4 c = c.put_whole-in-4.ensures

pub shape_of-buf-in-5 : goal.shape_of-buf-in-5
shape_of-buf-in-5 c = c.put_whole-in-5.auto.buf

pub returns-in-5 : goal.returns-in-5
returns-in-5 c = c.put_whole-in-5.ensures

pub shape_of-buf-in-6 : goal.shape_of-buf-in-6
shape_of-buf-in-6 c = c.put_whole-in-6.auto.buf

pub returns-in-6 : goal.returns-in-6
returns-in-6 c = c.put_whole-in-6.ensures

pub shape_of-buf-in-7 : goal.shape_of-buf-in-7
shape_of-buf-in-7 c = c.put_whole-in-7.auto.buf

pub returns-in-7 : goal.returns-in-7
returns-in-7 c = c.put_whole-in-7.ensures

pub shape_of-buf-in-8 : goal.shape_of-buf-in-8
shape_of-buf-in-8 c = c.put_whole-in-8.auto.buf

pub returns-in-8 : goal.returns-in-8
returns-in-8 c = c.put_whole-in-8.ensures

pub shape_of-buf-in_default : goal.shape_of-buf-in_default
shape_of-buf-in_default c = c.put_whole-in_default.auto.buf

pub returns-in_default : goal.returns-in_default
returns-in_default c = c.put_whole-in_default.ensures
