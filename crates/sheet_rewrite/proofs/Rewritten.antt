-- Page 02, Ask 8: the rewritten sheet. It is read, keeps its meaning and does not begin with kind 3; written again it stays as it is; its bytes are the ring, a
-- longest message for each master, and the streams' bytes as they were. Assumes nothing.
use Prim.Native.Nat.{ℕ, zero, suc, ◌+◌, ◌*◌, ◌≤◌, ◌<◌}
use mathlib.Core.Path.{◌≡◌, refl, sym, ap, ◌∙◌}
use mathlib.Core.List.{List, [], ◌∷◌, ◌++◌, append_assoc}
use mathlib.Core.Bool.{true}
use native.Mathlib.Omega.{arith}
use native.Mathlib.Decide.{ℕ_discrete}
use borrow.Author.Tests.{eqb-true, eq-eqb, ne_eqb}
use lib.ListN.{length, get_or, drop, length-append}
use lib.Seq.{drop_at}
use Rattle.sheet_record.specs.declared.Record.{Record}
use Rattle.sheet_record.specs.Kinds.{kinds, line_of, bus_of, fields_of, widths, written, is_stream_of, size_of, decode, encode, in_range, nothing}
use Rattle.sheet_record.proofs.Parts.{ring_streams}
use Rattle.sheet_ranges.proofs.Ranges.{ring_ranges}
use Rattle.sheet_write.specs.Writing.{greatest}
use Rattle.sheet_write.proofs.Trips.{length_encode}
use Rattle.sheet_rules.specs.Sheets.{Sheet, sheet_of, masters_of, message_of}
use Rattle.sheet_rules.specs.Records.{records_in, bytes_of, Right}
use Rattle.sheet_rules.specs.Whole.{place_of, first_stream, reading}
use Rattle.sheet_rules.specs.Whole.Outcome.{Read}
use Rattle.sheet_rules.proofs.Walk.{place_order, head_at}
use Rattle.sheet_rules.proofs.Openings.{settings_none}
use Rattle.sheet_rules.proofs.Order.{message_of_ring}
use Rattle.sheet_rules.proofs.Known.{reading_whole, reading_read}
use Rattle.sheet_rules.proofs.Lengths.{length_at_most, longest_sheet_is}
use Rattle.sheet_rules.proofs.Trips.{bytes_append, writable, written_reads, read_written, read_right}
use Rattle.sheet_rewrite.specs.Meaning.{SameMeaning}
use Rattle.sheet_rewrite.specs.Meaning.SameMeaning.{same_sheet, same_ring}
use Rattle.sheet_rewrite.specs.Rewriting.{open_ring, message_records, renewed, rewritten, alone, front_bytes}
use Rattle.sheet_rewrite.proofs.Renewed.{RingStreams, OldRing, renewed_right, renewed_same, renewed_first}
use Rattle.sheet_rewrite.proofs.Filled.{front_length}

-- ---- A ring of kind 3 that reads without refusal

module _ (s : List ℕ) (S : Sheet) (reads : reading s ≡ Read S) (three : S.head.kind ≡ 3) where
  -- it has no settings
  bare : S.settings ≡ []
  bare =
      let r = reading_whole s S reads in
      let k : (decode s 0).kind ≡ 3 = ap (λ (x : Record). x.kind) (sym (head_at s r.m)) ∙ (ap (λ (x : Sheet). x.head.kind) (sym r.says) ∙ three) in
      ap (λ (x : Sheet). x.settings) r.says ∙ settings_none s r.m r.upto (λ e. omega arith) (λ e. omega arith)

  records : records_in S ≡ S.head ∷ S.streams
  unfolding records_in
  records = rw bare refl

  streams_right : Right (S.head ∷ S.streams)
  streams_right = rw records at (read_right s S reads)

  of_ring : (k : ℕ) → is_stream_of (bus_of S.head.kind) k ≡ true → k ≡ 4
  unfolding bus_of line_of kinds
  of_ring k e = eqb-true k 4 (sym (ring_streams k) ∙ (rw three at e))

  pub old_ring : OldRing S
  old_ring =
      let k = reading_read s S reads in
      record {
        is_old = three;
        ranges = ring_ranges _ S.head k.head_ranged three;
        bare = bare;
        streams = λ i l. of_ring _ (k.kinds i l);
        each = λ i l. streams_right.each (suc i) (omega arith);
        some = k.some;
      }

  -- ---- Its bytes

  -- the streams stand behind the 10 bytes of the ring
  old_size : size_of S.head.kind ≡ 10
  unfolding size_of widths fields_of line_of kinds
  old_size = rw three refl

  pub first_at : place_of s (first_stream S) ≡ 10
  unfolding place_of decode size_of widths fields_of line_of kinds
  first_at =
      let r = reading_whole s S reads in
      let k : get_or s 0 0 ≡ 3 = ap (λ (x : Record). x.kind) (sym (head_at s r.m)) ∙ (ap (λ (x : Sheet). x.head.kind) (sym r.says) ∙ three) in
      rw (bare, k) refl

  pub first_within : place_of s (first_stream S) ≤ length s
  first_within =
      let r = reading_whole s S reads in
      let o = place_order s 1 (suc r.m) (omega arith) in
      let f : first_stream S ≡ 1 = ap (λ (rs : List Record). suc (length rs)) bare in
      omega (arith, r.ends, ap (place_of s) f)

  module _ (bytes : (i : ℕ) → get_or s i 0 < 256) where
    its_bytes : s ≡ encode S.head ++ bytes_of S.streams
    unfolding bytes_of
    its_bytes = sym (read_written s S bytes reads) ∙ ap bytes_of records

    pub streams_bytes : drop (place_of s (first_stream S)) s ≡ bytes_of S.streams
    streams_bytes =
        ap (λ (x : ℕ). drop x s) first_at
        ∙ (ap (drop 10) its_bytes ∙ drop_at (encode S.head) (bytes_of S.streams) 10 (length_encode S.head ∙ old_size))

-- ---- The bytes of the new sheet

-- the messages are those of the ring alone
messages_alone : (S : Sheet) → S.head.kind ≡ 3 → (n : ℕ) → message_records S n ≡ message_records (alone S.head) n
unfolding message_records
messages_alone S three zero = refl
messages_alone S three (suc n) =
    let m : message_of S (suc n) ≡ message_of (alone S.head) (suc n) =
    message_of_ring S (suc n) (λ e. omega arith) ∙ sym (message_of_ring (alone S.head) (suc n) (λ e. omega arith)) in
    rw (messages_alone S three n, m) refl

front_then : (S : Sheet) → S.head.kind ≡ 3 → bytes_of (renewed S) ≡ front_bytes S.head (masters_of S) ++ bytes_of S.streams
unfolding renewed front_bytes bytes_of
front_then S three =
    let m = message_records S (masters_of S) in
    let a : bytes_of m ≡ bytes_of (message_records (alone S.head) (masters_of S)) = ap bytes_of (messages_alone S three (masters_of S)) in
    rw (bytes_append m S.streams, a) (sym (append_assoc (encode (open_ring S.head)) (bytes_of (message_records (alone S.head) (masters_of S))) (bytes_of S.streams)))

-- of a ring of kind 3, and of any other sheet
rewritten_renewed : (s : List ℕ) (S : Sheet) → S.head.kind ≡ 3 → rewritten s S ≡ bytes_of (renewed S)
unfolding rewritten
rewritten_renewed s S three = rw (eq-eqb S.head.kind 3 three) refl

pub rewritten_alike : (s : List ℕ) (S : Sheet) → (S.head.kind ≡ 3 → ⊥) → rewritten s S ≡ s
unfolding rewritten
rewritten_alike s S other = rw (ne_eqb S.head.kind 3 other) refl

-- the streams' bytes are those of the old sheet
pub rewritten_bytes : (s : List ℕ) (S : Sheet) → ((i : ℕ) → get_or s i 0 < 256) → reading s ≡ Read S → S.head.kind ≡ 3
    → rewritten s S ≡ front_bytes S.head (masters_of S) ++ drop (place_of s (first_stream S)) s
rewritten_bytes s S bytes reads three =
    rewritten_renewed s S three ∙ (front_then S three ∙ ap (λ (x : List ℕ). front_bytes S.head (masters_of S) ++ x) (sym (streams_bytes s S reads three bytes)))

-- ---- Its length

ring_stream_size : size_of 4 ≡ 10
unfolding size_of widths fields_of line_of kinds
ring_stream_size = refl

streams_length : (rs : List Record) → RingStreams rs → length (bytes_of rs) ≡ 10 * length rs
unfolding bytes_of
streams_length [] each = refl
streams_length (r ∷ rs) each =
    length-append (encode r) (bytes_of rs)
    ∙ omega (arith, length_encode r, ap size_of (each 0 (omega arith)), ring_stream_size, streams_length rs (λ i l. each (suc i) (omega arith)))

module _ (s : List ℕ) (S : Sheet) (reads : reading s ≡ Read S) where
  -- 6 bytes for the ring, 6 for each master and 10 for each stream
  pub renewed_length : S.head.kind ≡ 3 → length (rewritten s S) ≡ 6 + 6 * masters_of S + 10 * length S.streams
  renewed_length three =
      ap length (rewritten_renewed s S three ∙ front_then S three)
      ∙ (length-append (front_bytes S.head (masters_of S)) (bytes_of S.streams)
      ∙ omega (arith, front_length S.head three (masters_of S), streams_length S.streams (old_ring s S reads three).streams))

  -- 8,198 at most: 32 masters and 800 streams
  pub renewed_at_most : S.head.kind ≡ 3 → length (rewritten s S) ≤ 8198
  renewed_at_most three = omega (arith, renewed_length three, (old_ring s S reads three).ranges.masters.most, (reading_read s S reads).few)

  pub rewritten_at_most : length (rewritten s S) ≤ 12804
  rewritten_at_most = split (ℕ_discrete S.head.kind 3)
    where
      split : Dec (S.head.kind ≡ 3) → length (rewritten s S) ≤ 12804
      split (yes e) = omega (arith, renewed_at_most e)
      split (no e) = omega (arith, ap length (rewritten_alike s S e), length_at_most s S reads, longest_sheet_is)

  -- ---- Its meaning

  -- it is read as a sheet that means the same and does not begin with kind 3
  pub record Keeps : Type 0 where
    pub sheet : Sheet
    pub reads_as : reading (rewritten s S) ≡ Read sheet
    pub same : SameMeaning S sheet
    pub not_old : sheet.head.kind ≡ 3 → ⊥

  pub keeps : Keeps
  keeps = split (ℕ_discrete S.head.kind 3)
    where
      split : Dec (S.head.kind ≡ 3) → Keeps
      split (yes e) =
          let o = old_ring s S reads e in
          record {
            sheet = sheet_of (renewed S);
            reads_as = ap reading (rewritten_renewed s S e) ∙ written_reads (renewed S) (renewed_right S o);
            same = same_ring (renewed_same S o);
            not_old = λ z. omega (arith, renewed_first S o);
          }
      split (no e) = record { sheet = S; reads_as = ap reading (rewritten_alike s S e) ∙ reads; same = same_sheet; not_old = e }

  -- so rewriting it again changes nothing
  pub rewritten_again : (S' : Sheet) → reading (rewritten s S) ≡ Read S' → rewritten (rewritten s S) S' ≡ rewritten s S
  rewritten_again S' again =
      let q : Read keeps.sheet ≡ Read S' = sym keeps.reads_as ∙ again in
      let e : keeps.sheet ≡ S' = cc in
      rewritten_alike (rewritten s S) S' (λ z. keeps.not_old (ap (λ (x : Sheet). x.head.kind) e ∙ z))

  -- the writer puts every record of it
  pub renewed_writable : S.head.kind ≡ 3 → (i : ℕ) → i < length (renewed S)
      → (written (get_or (renewed S) i nothing).kind ≡ true) × (in_range greatest (get_or (renewed S) i nothing) ≡ true)
  unfolding renewed
  renewed_writable three = writable (renewed S) (renewed_right S (old_ring s S reads three)) (λ (e : 9 ≡ 3). omega arith)
