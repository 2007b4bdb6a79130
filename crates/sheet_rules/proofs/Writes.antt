-- The same round trips through the writer: records written one after the other, each at the place that the one before it answered.
-- Assumes nothing.
use mathlib.Core.Path.{◌≡◌, refl, sym, ap, ◌∙◌, subst}
use mathlib.Core.Bool.{true}
use mathlib.Core.List.{List, [], ◌∷◌, ◌++◌, append_assoc, append-nil}
use Prim.Native.Nat.{ℕ, suc, ◌+◌, ◌≤◌, ◌<◌}
use native.Mathlib.Nat.{add-zero, zero-add}
use native.Mathlib.Omega.{arith}
use lib.ListN.{length, get_or, take, drop, length-append, take-append-drop, drop_of_length-le}
use lib.Seq.{length-take-le, take_at, drop_at, slice}
use Rattle.common.specs.Checks.{Verdict, verdict, unless}
use Rattle.common.specs.Checks.Verdict.{Passed, Refused}
use Rattle.sheet_record.specs.declared.Record.{Record}
use Rattle.sheet_record.specs.Numbers.{pasted}
use Rattle.sheet_record.specs.Kinds.{kinds, line_of, written, size_of, encode, in_range, nothing}
use Rattle.sheet_write.specs.Writing.{greatest, write_checks, pasted_by, put_answer, put_bytes}
use Rattle.sheet_record.proofs.Numbers.{paste_next}
use Rattle.sheet_write.proofs.Trips.{length_encode}
use Rattle.sheet_write.proofs.Writing.{written_stands, room_written}
use Rattle.sheet_rules.specs.Sheets.{Sheet, sheet_of}
use Rattle.sheet_rules.specs.Whole.{reading}
use Rattle.sheet_rules.specs.Whole.Outcome.{Read}
use Rattle.sheet_rules.specs.Records.{records_in, bytes_of, Right, Writes}
use Rattle.sheet_rules.specs.Records.Writes.{none, next}
use Rattle.sheet_rules.proofs.Trips.{right_some, writable, written_reads, read_written, read_right}
use Rattle.std.specs.declared.result.Result.TheVariants.{Ok, Err}
use Rattle.common.specs.Checks.{refusal}

-- ---- What writing leaves

-- a place that is answered: the record's bytes were put
answered_bytes : (v : Verdict) (end e : ℕ) (new old : List ℕ) → unless v end ≡ Ok e → pasted_by v new old ≡ new
answered_bytes Passed end e new old q = refl
answered_bytes (Refused n p) end e new old q = cc

put_answered : (b : List ℕ) (at : ℕ) (r : Record) (e : ℕ) → put_answer (length b) at r ≡ Ok e → put_bytes b at r ≡ pasted b at (encode r)
unfolding put_answer put_bytes
put_answered b at r e q = answered_bytes (verdict (write_checks (length b) at r)) (at + size_of r.kind) e (pasted b at (encode r)) b q

pub record Leaves (b : List ℕ) (at : ℕ) (rs : List Record) (b' : List ℕ) (end : ℕ) : Type 0 where
  -- the records' bytes from place `at` on, and everything else as it was
  pub holds : b' ≡ pasted b at (bytes_of rs)
  pub ends : end ≡ at + length (bytes_of rs)

pub writes_leave : {b b' : List ℕ} {at end : ℕ} {rs : List Record} → Writes b at rs b' end → Leaves b at rs b' end
unfolding bytes_of
writes_leave {b} {at = at} none = record { holds = sym (rw add-zero (take-append-drop at b)); ends = sym (add-zero at) }
writes_leave {b} {at = at} (next {e = e} {r = r} {rs = rs} q w) =
    let s = written_stands b at r e q in
    let n = length_encode r in
    let h = writes_leave w in
    record {
      holds = h.holds ∙ paste_next b at (encode r) (bytes_of rs) e (put_answered b at r e q) (omega (arith, s.ends)) (omega (arith, s.ends, s.room));
      ends = omega (arith, h.ends, s.ends, length-append (encode r) (bytes_of rs));
    }

-- ---- What can be written

-- records of a kind that is written and in range for the writer, and room for their bytes: no one is refused
write_all : (rs : List Record) → ((i : ℕ) → i < length rs → (written (get_or rs i nothing).kind ≡ true) × (in_range greatest (get_or rs i nothing) ≡ true))
    → (b : List ℕ) (at : ℕ) → at + length (bytes_of rs) ≤ length b → (b' : List ℕ) × (end : ℕ) × Writes b at rs b' end
unfolding bytes_of
write_all [] ok b at room = (b, at, none)
write_all (r ∷ rs) ok b at room =
    let o = ok 0 (omega arith) in
    let n = length_encode r in
    let m = length-append (encode r) (bytes_of rs) in
    let w = room_written b at r o.0 o.1 (omega arith) in
    let s = written_stands b at r (at + size_of r.kind) (sym w.0) in
    let t = write_all rs (λ i l. ok (suc i) (omega arith)) (put_bytes b at r) (at + size_of r.kind) (omega (arith, s.same_length)) in
    (t.0, t.1, next (sym w.0) t.2)

-- ---- The round trips

-- a right sheet that does not begin with a ring of kind 3 is written without a refusal from any place of any buffer that has room for it from there
pub right_writes : (rs : List Record) → Right rs → ((get_or rs 0 nothing).kind ≡ 3 → ⊥) → (b : List ℕ) (at : ℕ) → at + length (bytes_of rs) ≤ length b → (b' : List ℕ) × (end : ℕ) × Writes b at rs b' end
right_writes rs right n b at room = write_all rs (writable rs right n) b at (omega arith)

-- a sheet that does is not: the ring is refused with 2, at whatever place
pub old_ring_refused : (n at : ℕ) (r : Record) → r.kind ≡ 3 → put_answer n at r ≡ Err (refusal 2 at)
unfolding put_answer write_checks verdict written line_of kinds
old_ring_refused n at r e = rw e

pub old_ring_unwritten : {b b' : List ℕ} {at end : ℕ} {r : Record} {rs : List Record} → r.kind ≡ 3 → Writes b at (r ∷ rs) b' end → ⊥
old_ring_unwritten {b} {at = at} {r = r} k (next {e = e} q w) =
    let f : Err (refusal 2 at) ≡ Ok e = sym (old_ring_refused (length b) at r k) ∙ q in
    let z : ◌≡◌ {A = ℕ} 0 1 = cc in
    omega arith

-- records that are written begin within the buffer
begins_within : {b b' : List ℕ} {at end : ℕ} {rs : List Record} → Writes b at rs b' end → 1 ≤ length rs → at ≤ length b
begins_within none some = absurd (omega arith)
begins_within {b} {at = at} (next {e = e} {r = r} q w) some = let s = written_stands b at r e q in omega (arith, s.ends, s.room)

-- what stands then from that place up to the place that the last one answered
part_bytes : {b b' : List ℕ} {at end : ℕ} {rs : List Record} → at ≤ length b → Writes b at rs b' end → slice at end b' ≡ bytes_of rs
part_bytes {b} {b'} {at} {end} {rs} within w =
    let h = writes_leave w in
    let p = bytes_of rs in
    let front : length (take at b) ≡ at = length-take-le at b within in
    let both : length (take at b ++ p) ≡ end = omega (arith, length-append (take at b) p, h.ends) in
    let e : b' ≡ (take at b ++ p) ++ drop (at + length p) b = h.holds ∙ sym (append_assoc (take at b) p (drop (at + length p) b)) in
    ap (λ (x : List ℕ). slice at end x) e
    ∙ (ap (drop at) (take_at (take at b ++ p) (drop (at + length p) b) end both) ∙ drop_at (take at b) p at front)

-- it reads back as the same records
pub writes_read : {b b' : List ℕ} {at end : ℕ} {rs : List Record} → Right rs → Writes b at rs b' end → reading (slice at end b') ≡ Read (sheet_of rs)
writes_read {rs = rs} right w = ap reading (part_bytes (begins_within w (right_some rs right)) w) ∙ written_reads rs right

-- and the records of an accepted sheet, where it does not begin with a ring of kind 3, written from any place of any buffer that has room for it from there, give its bytes again, and no other byte
-- of the buffer changes
pub read_writes : (s : List ℕ) (S : Sheet) → ((i : ℕ) → get_or s i 0 < 256) → reading s ≡ Read S → (S.head.kind ≡ 3 → ⊥) → (b : List ℕ) (at : ℕ) → at + length s ≤ length b
    → Writes b at (records_in S) (pasted b at s) (at + length s)
unfolding records_in
read_writes s S bytes e no_old b at room =
    let q = read_written s S bytes e in
    let t = right_writes (records_in S) (read_right s S e) no_old b at (rw q room) in
    let h = writes_leave t.2 in
    let n : t.1 ≡ at + length s = h.ends ∙ ap (λ (x : List ℕ). at + length x) q in
    let w : t.0 ≡ pasted b at s = h.holds ∙ ap (pasted b at) q in
    subst (λ (x : List ℕ). Writes b at (records_in S) x (at + length s)) w (subst (Writes b at (records_in S) t.0) n t.2)

-- a buffer of its length then holds those bytes alone
pub read_writes_alone : (s : List ℕ) (S : Sheet) → ((i : ℕ) → get_or s i 0 < 256) → reading s ≡ Read S → (S.head.kind ≡ 3 → ⊥) → (b : List ℕ) → length b ≡ length s → Writes b 0 (records_in S) s (length s)
read_writes_alone s S bytes e no_old b l =
    let z : drop (0 + length s) b ≡ [] = drop_of_length-le b {i = 0 + length s} (omega arith) in
    let w : pasted b 0 s ≡ s = rw z (append-nil s) in
    subst (λ (x : List ℕ). Writes b 0 (records_in S) x (length s)) w
    (subst (Writes b 0 (records_in S) (pasted b 0 s)) (zero-add (length s)) (read_writes s S bytes e no_old b 0 (omega arith)))
