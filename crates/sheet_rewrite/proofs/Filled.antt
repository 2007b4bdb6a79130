-- What is written at the front of a run: one record, the ring with a longest message for each master, and bytes as a whole where they fit. Assumes nothing.
use Prim.Native.Nat.{ℕ, zero, suc, ◌+◌, ◌*◌, ◌≤◌, ◌<◌}
use mathlib.Core.Path.{◌≡◌, refl, sym, ap, ◌∙◌, subst}
use mathlib.Core.List.{List, ◌++◌, append_assoc}
use mathlib.Core.Bool.{true}
use native.Mathlib.Omega.{arith}
use borrow.Author.Tests.{lt-ltb, le-ltb}
use lib.ListN.{length, take, drop, length-append}
use lib.Seq.{sets-eq}
use Rattle.common.specs.Checks.{verdict}
use Rattle.text.specs.Text.{Wrote, behind}
use Rattle.text.proofs.Writing.{wrote_none, wrote_then, wrote_front, length_wrote}
use Rattle.sheet_record.specs.declared.Record.{Record}
use Rattle.sheet_record.specs.Kinds.{kinds, line_of, fields_of, widths, written, size_of, encode}
use Rattle.sheet_write.specs.Writing.{free_answer, free_bytes}
use Rattle.sheet_write.proofs.Trips.{length_encode}
use Rattle.sheet_write.proofs.Writing.{room_free}
use Rattle.sheet_rules.specs.Records.{bytes_of}
use Rattle.sheet_rules.proofs.Order.{message_of_ring}
use Rattle.sheet_rules.proofs.Trips.{bytes_more}
use Rattle.sheet_rewrite.specs.Rewriting.{open_ring, message_records, alone, front_bytes, fill_answer, fill_bytes}
use Rattle.std.specs.declared.result.Result.TheVariants.{Ok, Err}
use Rattle.common.specs.Checks.{refusal}
use Rattle.std.specs.declared.result.Result.{Result}
use Rattle.common.specs.declared.Refusal.{Refusal}
use Rattle.std.specs.Result.{result_unwrap_or}

-- ---- One record

module _ (b : List ℕ) (at : ℕ) (r : Record) (k : written r.kind ≡ true) (room : at + size_of r.kind ≤ length b) where
  -- there is room
  pub one_wrote : {p : Result ℕ Refusal} {b' : List ℕ} {e : ℕ} → p ≡ free_answer (length b) at r → b' ≡ free_bytes b at r → e ≡ result_unwrap_or p at → Wrote b at (encode r) b' e
  unfolding behind
  one_wrote {p} {b'} {e} a q u =
      let f = room_free b at r k room in
      let n' : e ≡ at + size_of r.kind = u ∙ ap (λ x. result_unwrap_or x at) (a ∙ sym f.0) in
      record {
        stored = q ∙ (sym f.1 ∙ sym (sets-eq (encode r) b at (omega (arith, length_encode r)) ∙ append_assoc (take at b) (encode r) (drop (at + length (encode r)) b)));
        ends = omega (arith, length_encode r);
      }

-- ---- The ring and its messages

-- 9 and 10 are written, in 6 bytes each
pub ring_written : written 9 ≡ true
unfolding written line_of kinds
ring_written = refl

pub message_written : written 10 ≡ true
unfolding written line_of kinds
message_written = refl

pub ring_size : size_of 9 ≡ 6
unfolding size_of widths fields_of line_of kinds
ring_size = refl

pub message_size : size_of 10 ≡ 6
unfolding size_of widths fields_of line_of kinds
message_size = refl

module _ (h : Record) where
  -- the bytes of the longest messages of masters 1..m
  abbrev messages : ℕ → List ℕ
  messages m = bytes_of (message_records (alone h) m)

  -- that of master y, which is M
  abbrev pub own : ℕ → Record
  own y = record { kind = 10; a = y; b = h.c; c = 0; d = 0; e = 0 }

  messages_more : h.kind ≡ 3 → (m : ℕ) → messages (suc m) ≡ messages m ++ encode (own (suc m))
  unfolding message_records
  messages_more three m =
      bytes_more (message_records (alone h) m) _
      ∙ ap (λ (x : ℕ). messages m ++ encode (record { kind = 10; a = suc m; b = x; c = 0; d = 0; e = 0 })) (message_of_ring (alone h) (suc m) (λ e. omega arith))

  messages_length : h.kind ≡ 3 → (m : ℕ) → length (messages m) ≡ 6 * m
  unfolding message_records bytes_of
  messages_length three zero = refl
  messages_length three (suc m) =
      ap length (messages_more three m)
      ∙ (length-append (messages m) (encode (own (suc m))) ∙ omega (arith, messages_length three m, length_encode (own (suc m)), message_size))

  pub front_length : h.kind ≡ 3 → (m : ℕ) → length (front_bytes h m) ≡ 6 + 6 * m
  unfolding front_bytes
  front_length three m =
      length-append (encode (open_ring h)) (messages m) ∙ omega (arith, length_encode (open_ring h), ring_size, messages_length three m)

  -- behind a place of the run stand the messages of masters 1..m
  pub record Fronted (old : List ℕ) (start m : ℕ) (now : List ℕ) (at : ℕ) : Type 0 where
    pub wrote : Wrote old start (messages m) now at
    pub within : m ≤ h.a

  pub fronted_none : (old : List ℕ) (start : ℕ) → Fronted old start 0 old start
  unfolding message_records bytes_of
  fronted_none old start = record { wrote = wrote_none; within = omega arith }

  -- behind the ring there is room for all of them
  pub ring_room : {o old : List ℕ} {start : ℕ} → 6 + 6 * h.a ≤ length o → Wrote o 0 (encode (open_ring h)) old start → start + 6 * h.a ≤ length old
  unfolding behind
  ring_room room w = omega (arith, w.ends, length_encode (open_ring h), ring_size, length_wrote w)

  module _ {old now : List ℕ} {start m at : ℕ} (three : h.kind ≡ 3) (f : Fronted old start m now at) where
    pub fronted_room : start + 6 * h.a ≤ length old → m < h.a → at + size_of 10 ≤ length now
    unfolding behind
    fronted_room room l = omega (arith, f.wrote.ends, messages_length three m, length_wrote f.wrote, message_size)

    pub fronted_more : {n : ℕ} {now' : List ℕ} {at' : ℕ} → n ≡ m + 1 → n ≤ h.a → Wrote now at (encode (own n)) now' at' → Fronted old start n now' at'
    fronted_more {n} e l w =
        let e' : n ≡ suc m = omega arith in
        record { wrote = rw (e', messages_more three m) (wrote_then f.wrote (rw e' at w)); within = l }

    -- behind the ring, all of them
    pub fronted_all : {o : List ℕ} → Wrote o 0 (encode (open_ring h)) old start → h.a ≤ m → Wrote o 0 (front_bytes h h.a) now at
    unfolding front_bytes
    fronted_all {o} w l =
        let e : m ≡ h.a = omega (arith, f.within) in
        subst (λ (x : ℕ). Wrote o 0 (encode (open_ring h) ++ messages x) now at) e (wrote_then w f.wrote)

-- ---- The whole, where it fits

-- what filling a run answers and leaves in it
abbrev pub FilledAs : List ℕ → List ℕ → Result ℕ Refusal → List ℕ → Type 0
FilledAs old t p now = (p ≡ fill_answer (length old) t) × (now ≡ fill_bytes old t)

module _ (old t : List ℕ) where
  pub filled_short : {n : ℕ} → n ≡ length t → length old < n → FilledAs old t (Err (refusal 13 n)) old
  unfolding verdict
  filled_short e l = let q = lt-ltb (length old) (length t) (omega arith) in (rw (e, q) refl, rw q refl)

  pub filled_whole : {new : List ℕ} {n : ℕ} → length t ≤ length old → Wrote old 0 t new n → FilledAs old t (Ok n) new
  unfolding verdict
  filled_whole l w =
      let q = le-ltb (length old) (length t) l in
      let f = wrote_front w l in
      (rw q (ap Ok f.0), rw q f.1)
