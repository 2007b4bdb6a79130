-- Round trips: records that make a right sheet are written and read back as they were; the records of a sheet that reads without refusal, written
-- again, give its bytes; and so no two sheets of bytes have the same records. Assumes nothing.
use mathlib.Core.Path.{◌≡◌, refl, sym, ap, ◌∙◌, subst}
use mathlib.Core.Bool.{Bool, true, false, cond}
use mathlib.Core.List.{List, [], ◌∷◌, ◌++◌, append_assoc, append-nil}
use mathlib.Core.Logic.{◌⊎◌, inl, inr}
use Prim.Native.Nat.{ℕ, zero, suc, ◌+◌, ◌≤◌, ◌<◌}
use native.Mathlib.Omega.{arith}
use borrow.Author.Tests.{eqb-true, ne_eqb}
use lib.Dec.{eqb}
use lib.ListN.{length, get_or, take, drop, length-append, length-take}
use lib.Seq.{split_at, take-suc, take-length, take-add, get_or-take}
use Rattle.common.specs.Sums.{when}
use Rattle.sheet_record.specs.declared.Record.{Record}
use Rattle.sheet_record.specs.declared.Given.{Given}
use Rattle.sheet_record.specs.Kinds.{kinds, line_of, fields_of, limit, ranged, bus_of, part_of, is_first, is_setting, is_stream, is_stream_of, written, size_of, decode, encode, in_range, nothing}
use Rattle.sheet_write.specs.Writing.{greatest}
use Rattle.sheet_record.proofs.Tables.{both_true}
use Rattle.sheet_record.proofs.Parts.{first_kinds, setting_kinds, variables, written_is}
use Rattle.sheet_ranges.proofs.Ranges.{segment_ranges, ring_ranges, edition_ranges, open_ring_ranges, exchange_ranges, message_ranges, in_range_mono}
use Rattle.sheet_write.proofs.Trips.{length_encode, decode_encode, encode_decode, whole_if}
use Rattle.sheet_rules.specs.Sheets.{Sheet, head_of, sheet_of, having, bus_in, given, message_of, longest_of, lacking}
use Rattle.sheet_rules.specs.Whole.{place_of, records_of, before, ended, reading}
use Rattle.sheet_rules.specs.Whole.Outcome.{Read}
use Rattle.sheet_rules.specs.Records.{records_in, bytes_of, Follows, Right}
use Rattle.sheet_rules.proofs.Walk.{length_records, record_at, records_front}
use Rattle.sheet_rules.proofs.Cases.{PassesAt, Upto, upto_front, stops_once, ended_sheet}
use Rattle.sheet_rules.proofs.Cases.Stops.{at_end}
use Rattle.sheet_record.proofs.Tables.{size_some}
use Rattle.sheet_rules.proofs.Order.{no_limits, given_none, message_of_ring, message_of_master, message_fits, Placed, fits_then, stream_of, fits_first, first_some, head_some, in_order}
use Rattle.sheet_rules.proofs.Order.Placed.{as_first, as_setting, as_stream}
use Rattle.sheet_rules.proofs.Messages.{message_in_range}
use Rattle.sheet_rules.proofs.Openings.{none_lacking}
use Rattle.sheet_rules.proofs.Known.{ReadsTo, reading_whole}

-- ---- Ranges at their greatest

-- what is in range behind a first record is in range for the writer
variable_ranged : (g : Given) (r : Record) → r.kind ≡ 6 → in_range g r ≡ true → in_range greatest r ≡ true
unfolding in_range ranged limit fields_of line_of kinds
variable_ranged g r e h = rw e (rw e at h)

edition_ranged : (g : Given) (r : Record) → r.kind ≡ 8 → in_range g r ≡ true → in_range greatest r ≡ true
unfolding in_range ranged limit fields_of line_of kinds
edition_ranged g r e h = rw e (rw e at h)

module _ (S : Sheet) (r : Record) (short : message_of S r.a ≤ 100000) (j : in_range (given S r.a) r ≡ true) where
  in_masters : S.head.a ≤ 32 → in_range greatest r ≡ true
  in_masters l = in_range_mono (given S r.a) greatest r (record { masters = l; message = short }) j

  pub ranged_for_writer : is_first S.head.kind ≡ true → in_range no_limits S.head ≡ true → is_stream_of (bus_in S) r.kind ≡ true → in_range greatest r ≡ true
  unfolding bus_of line_of kinds
  ranged_for_writer f i its = split (first_kinds S.head.kind f)
    where
      split : S.head.kind ≡ 1 ⊎ S.head.kind ≡ 3 ⊎ S.head.kind ≡ 5 ⊎ S.head.kind ≡ 9 → in_range greatest r ≡ true
      split (inl e) = in_masters (segment_ranges no_limits S.head i e).masters.most
      split (inr (inl e)) = in_masters (ring_ranges no_limits S.head i e).masters.most
      split (inr (inr (inl e))) =
          let its' : is_stream_of 5 r.kind ≡ true = rw (ap bus_of e) at its in
          variable_ranged (given S r.a) r (eqb-true r.kind 6 (sym (variables r.kind) ∙ its')) j
      split (inr (inr (inr e))) = in_masters (open_ring_ranges no_limits S.head i e).masters.most

-- a setting's second number is a longest message, or 0
setting_short : (g : Given) (r : Record) → in_range g r ≡ true → is_setting r.kind ≡ true → r.b ≤ 100000
setting_short g r i e = by (setting_kinds r.kind e)
  where
    by : r.kind ≡ 8 ⊎ r.kind ≡ 10 → r.b ≤ 100000
    by (inl k) = omega (arith, (edition_ranges g r i k).one_field.no_b)
    by (inr k) = (message_ranges g r i k).message.most

settings_short : (y : ℕ) (rs : List Record) → ((i : ℕ) → i < length rs → is_setting (get_or rs i nothing).kind ≡ true → (get_or rs i nothing).b ≤ 100000)
    → longest_of y (having is_setting rs) ≤ 100000
unfolding having longest_of
settings_short y [] h = omega arith
settings_short y (r ∷ rs) h = split (is_setting r.kind) refl (settings_short y rs (λ i l. h (suc i) (omega arith)))
  where
    own : r.b ≤ 100000 → (b : Bool) → when b r.b ≤ 100000
    own l true = l
    own l false = omega arith

    split : (b : Bool) → is_setting r.kind ≡ b → longest_of y (having is_setting rs) ≤ 100000 → longest_of y (cond b (r ∷ having is_setting rs) (having is_setting rs)) ≤ 100000
    split true e ih = omega (arith, own (h 0 (omega arith) e) (eqb r.a y))
    split false e ih = ih

-- ---- Bytes of records

pub bytes_append : (rs qs : List Record) → bytes_of (rs ++ qs) ≡ bytes_of rs ++ bytes_of qs
unfolding bytes_of
bytes_append [] qs = refl
bytes_append (r ∷ rs) qs = rw (bytes_append rs qs) (sym (append_assoc (encode r) (bytes_of rs) (bytes_of qs)))

pub bytes_more : (rs : List Record) (r : Record) → bytes_of (rs ++ (r ∷ [])) ≡ bytes_of rs ++ encode r
unfolding bytes_of
bytes_more rs r = bytes_append rs (r ∷ []) ∙ ap (λ (t : List ℕ). bytes_of rs ++ t) (append-nil (encode r))

-- record i and what stands before and behind it
bytes_split : (rs : List Record) (i : ℕ) → i < length rs → bytes_of rs ≡ bytes_of (take i rs) ++ (encode (get_or rs i nothing) ++ bytes_of (drop (suc i) rs))
unfolding bytes_of
bytes_split rs i l = ap bytes_of (split_at rs i nothing l) ∙ bytes_append (take i rs) (get_or rs i nothing ∷ drop (suc i) rs)

-- ---- Written, then read

-- the first of some records
head_front : (rs : List Record) (i : ℕ) → (sheet_of (take (suc i) rs)).head ≡ get_or rs 0 nothing
unfolding sheet_of head_of
head_front [] i = refl
head_front (r ∷ rs) i = refl

module _ (rs : List Record) (right : Right rs) where
  -- record i
  at : ℕ → Record
  at i = get_or rs i nothing

  -- there is a first one
  pub right_some : 1 ≤ length rs
  unfolding sheet_of having
  right_some = split rs right.some
    where
      split : (qs : List Record) → 1 ≤ length (sheet_of qs).streams → 1 ≤ length qs
      split [] l = l
      split (q ∷ qs) l = omega arith

  first_right : Follows [] (at 0)
  unfolding at
  first_right = right.each 0 (omega (arith, right_some))

  stands_first : is_first (at 0).kind ≡ true
  stands_first = sym (fits_first (at 0).kind) ∙ first_right.is_right

  ranged_first : in_range no_limits (at 0) ≡ true
  ranged_first = subst (λ (g : Given). in_range g (at 0) ≡ true) (given_none (at 0).a) first_right.is_ranged

  -- what stands before record i + 1
  front : ℕ → Sheet
  front i = sheet_of (take (suc i) rs)

  first_of : (i : ℕ) → (front i).head ≡ at 0
  unfolding at front
  first_of i = head_front rs i

  -- no longest message there is above 100,000
  front_short : (i y : ℕ) → i < length rs → message_of (front i) y ≤ 100000
  unfolding at front sheet_of
  front_short i y l = by (first_kinds (at 0).kind stands_first)
    where
      S : Sheet
      S = sheet_of (take (suc i) rs)

      kind : S.head.kind ≡ (at 0).kind
      kind = ap (λ (r : Record). r.kind) (first_of i)

      of_first : ((at 0).kind ≡ 9 → ⊥) → message_of S y ≡ (at 0).c
      of_first n = message_of_ring S y (λ e. n (sym kind ∙ e)) ∙ ap (λ (r : Record). r.c) (first_of i)

      short : (j : ℕ) → j < length (take (suc i) rs) → is_setting (get_or (take (suc i) rs) j nothing).kind ≡ true → (get_or (take (suc i) rs) j nothing).b ≤ 100000
      short j m e =
          let k : j < suc i = omega (arith, length-take (suc i) rs) in
          let q : get_or (take (suc i) rs) j nothing ≡ get_or rs j nothing = get_or-take (suc i) rs j nothing k in
          rw q (setting_short _ (get_or rs j nothing) (right.each j (omega arith)).is_ranged (rw q at e))

      by : (at 0).kind ≡ 1 ⊎ (at 0).kind ≡ 3 ⊎ (at 0).kind ≡ 5 ⊎ (at 0).kind ≡ 9 → message_of S y ≤ 100000
      by (inl e) = omega (arith, of_first (λ q. omega arith), (segment_ranges no_limits (at 0) ranged_first e).one_field.no_c)
      by (inr (inl e)) = omega (arith, of_first (λ q. omega arith), (ring_ranges no_limits (at 0) ranged_first e).message.most)
      by (inr (inr (inl e))) = omega (arith, of_first (λ q. omega arith), (exchange_ranges no_limits (at 0) ranged_first e).one_field.no_c)
      by (inr (inr (inr e))) =
          omega (arith, message_of_master S y (kind ∙ e), (message_in_range (longest_of y S.settings) (settings_short y (take (suc i) rs) short)).1)

  -- every record is in range for the writer
  pub right_ranged : (i : ℕ) → i < length rs → in_range greatest (get_or rs i nothing) ≡ true
  unfolding at front
  right_ranged zero l = in_range_mono no_limits greatest (at 0) (record { masters = omega arith; message = omega arith }) ranged_first
  right_ranged (suc i) l = later (fits_then (front i) (at (suc i)).kind (right.each (suc i) l).is_right)
    where
      h : is_first (front i).head.kind ≡ true
      h = ap (λ (r : Record). is_first r.kind) (first_of i) ∙ stands_first

      ranged_head : in_range no_limits (front i).head ≡ true
      ranged_head = ap (in_range no_limits) (first_of i) ∙ ranged_first

      ranged_there : in_range (given (front i) (at (suc i)).a) (at (suc i)) ≡ true
      ranged_there = (right.each (suc i) l).is_ranged

      short : message_of (front i) (at (suc i)).a ≤ 100000
      short = front_short i (at (suc i)).a (omega arith)

      -- a longest message stands behind a ring of kind 9
      set : (at (suc i)).kind ≡ 8 ⊎ (at (suc i)).kind ≡ 10 → in_range greatest (at (suc i)) ≡ true
      set (inl k) = edition_ranged (given (front i) (at (suc i)).a) (at (suc i)) k ranged_there
      set (inr k) =
          let e = sym (message_fits (front i)) ∙ (rw k at (right.each (suc i) l).is_right) in
          let ring : (front i).head.kind ≡ 9 = eqb-true _ 9 (both_true _ _ e).0 in
          in_masters (front i) (at (suc i)) short ranged_there (open_ring_ranges no_limits (front i).head ranged_head ring).masters.most

      later : Placed (front i) (at (suc i)).kind → in_range greatest (at (suc i)) ≡ true
      later (as_first e z) = absurd (first_some (at 0).kind stands_first (ap (λ (r : Record). r.kind) (sym (first_of i)) ∙ z))
      later (as_setting e z) = set (setting_kinds (at (suc i)).kind e)
      later (as_stream e) = ranged_for_writer (front i) (at (suc i)) short ranged_there h ranged_head e

  -- a ring of kind 3 stands first, or nowhere
  old_ring_first : (i : ℕ) → i < length rs → (get_or rs i nothing).kind ≡ 3 → (get_or rs 0 nothing).kind ≡ 3
  unfolding at front is_stream part_of line_of kinds
  old_ring_first zero l k = k
  old_ring_first (suc i) l k = absurd (later (fits_then (front i) (at (suc i)).kind (right.each (suc i) l).is_right))
    where
      set : (at (suc i)).kind ≡ 8 ⊎ (at (suc i)).kind ≡ 10 → ⊥
      set (inl e) = omega arith
      set (inr e) = omega arith

      later : Placed (front i) (at (suc i)).kind → ⊥
      later (as_first e z) = first_some (at 0).kind stands_first (ap (λ (r : Record). r.kind) (sym (first_of i)) ∙ z)
      later (as_setting e z) = set (setting_kinds (at (suc i)).kind e)
      later (as_stream e) =
          let no : is_stream 3 ≡ true = rw k at (stream_of (bus_in (front i)) (at (suc i)).kind e).0 in
          let z : ◌≡◌ {A = ℕ} 0 1 = cc in
          omega arith

  -- and without one every record may be written
  pub writable : ((get_or rs 0 nothing).kind ≡ 3 → ⊥) → (i : ℕ) → i < length rs → (written (get_or rs i nothing).kind ≡ true) × (in_range greatest (get_or rs i nothing) ≡ true)
  writable n i l = (written_is (get_or rs i nothing).kind ∙ rw ((right.each i l).is_known, ne_eqb (get_or rs i nothing).kind 3 (λ k. n (old_ring_first i l k))), right_ranged i l)

  s : List ℕ
  s = bytes_of rs

  decode_at : (i : ℕ) → i < length rs → decode s (length (bytes_of (take i rs))) ≡ at i
  unfolding s at
  decode_at i l = rw (bytes_split rs i l) (decode_encode (at i) (right_ranged i l) (bytes_of (take i rs)) (bytes_of (drop (suc i) rs)))

  length_front : (i : ℕ) → i < length rs → length (bytes_of (take (suc i) rs)) ≡ length (bytes_of (take i rs)) + size_of (at i).kind
  unfolding at
  length_front i l =
      ap (λ (qs : List Record). length (bytes_of qs)) (take-suc rs i nothing l) ∙ ap length (bytes_more (take i rs) (at i))
      ∙ length-append (bytes_of (take i rs)) (encode (at i)) ∙ ap (λ (n : ℕ). length (bytes_of (take i rs)) + n) (length_encode (at i))

  -- reading comes to record i where the bytes of those before it end
  place_at : (i : ℕ) → i ≤ length rs → place_of s i ≡ length (bytes_of (take i rs))
  unfolding place_of decode bytes_of
  place_at zero l = refl
  place_at (suc i) l = next (place_at i (omega arith))
    where
      kind : get_or s (length (bytes_of (take i rs))) 0 ≡ (at i).kind
      kind = ap (λ (r : Record). r.kind) (decode_at i l)

      next : {p : ℕ} → p ≡ length (bytes_of (take i rs)) → p + size_of (get_or s p 0) ≡ length (bytes_of (take (suc i) rs))
      next e = rw (e, kind) (sym (length_front i l))

  record_at' : (i : ℕ) → i < length rs → decode s (place_of s i) ≡ at i
  record_at' i l = ap (decode s) (place_at i (omega arith)) ∙ decode_at i l

  records_at : (i : ℕ) → i ≤ length rs → records_of s i ≡ take i rs
  unfolding records_of at
  records_at zero l = refl
  records_at (suc i) l = next (records_at i (omega arith)) (record_at' i l)
    where
      next : {qs : List Record} {r : Record} → qs ≡ take i rs → r ≡ at i → qs ++ (r ∷ []) ≡ take (suc i) rs
      next e q = rw (e, q) (sym (take-suc rs i nothing l))

  before_at : (i : ℕ) → i ≤ length rs → before s i ≡ sheet_of (take i rs)
  unfolding before
  before_at i l = ap sheet_of (records_at i l)

  -- it ends within the sheet
  ends_at : (i : ℕ) → i < length rs → place_of s i + size_of (at i).kind ≤ length s
  unfolding s at
  ends_at i l =
      let e = ap length (bytes_split rs i l) in
      let a = length-append (bytes_of (take i rs)) (encode (at i) ++ bytes_of (drop (suc i) rs)) in
      omega (arith, length-append (encode (at i)) (bytes_of (drop (suc i) rs)), length_encode (at i), place_at i (omega arith))

  passes_at : (i : ℕ) → i < length rs → PassesAt s i
  unfolding at
  passes_at i l =
      let f = right.each i l in
      let e = record_at' i l in
      let q : before s i ≡ sheet_of (take i rs) = before_at i (omega arith) in
      record {
        is_known = rw e f.is_known;
        is_right = rw (e, q) f.is_right;
        is_whole = rw e (ends_at i l);
        is_ranged = rw (e, q) f.is_ranged;
        first_of_master = rw (e, q) f.first_of_master;
        none_missing = rw (e, q) f.none_missing;
        in_limits = rw (e, q) f.in_limits;
        is_new = rw (e, q) f.is_new;
      }

  upto_all : Upto s (length rs)
  upto_all =
      record {
        inside =
            λ j l. let e = ends_at j l in omega (arith, size_some (at j).kind);
        passed = passes_at;
      }

  whole_place : place_of s (length rs) ≡ length s
  unfolding s
  whole_place = place_at (length rs) (omega arith) ∙ ap (λ (qs : List Record). length (bytes_of qs)) (take-length rs)

  -- records that make a right sheet read back as they were written
  pub written_reads : reading (bytes_of rs) ≡ Read (sheet_of rs)
  unfolding s
  written_reads = stops_once s (at_end (length rs) upto_all whole_place refl) ∙ last (length rs) refl
    where
      last : (n : ℕ) → length rs ≡ n → ended s (length rs) ≡ Read (sheet_of rs)
      last zero e = absurd (omega (arith, right_some))
      last (suc n) e =
          let q : before s (length rs) ≡ sheet_of rs = before_at (length rs) (omega arith) ∙ ap sheet_of (take-length rs) in
          let h : (before s (length rs)).head.kind ≡ 0 → ⊥ = λ z. head_some s n (subst (Upto s) e upto_all) (ap (λ (x : ℕ). (before s x).head.kind) (sym e) ∙ z) in
          let t : length (before s (length rs)).streams ≡ 0 → ⊥ = λ z. omega (arith, right.some, ap (λ (x : Sheet). length x.streams) q) in
          let some : 1 ≤ length (before s (suc n)).streams = omega (arith, right.some, ap (λ (x : Sheet). length x.streams) q, ap (λ (x : ℕ). length (before s x).streams) e) in
          let k : lacking (before s (length rs)) ≡ false = ap (λ (x : ℕ). lacking (before s x)) e ∙ none_lacking s n (subst (Upto s) e upto_all) some in
          ended_sheet s (length rs) h k t ∙ ap Read q

-- ---- Read, then written

-- the records behind which reading goes on, encoded again, are the bytes before their end
bytes_front : (s : List ℕ) → ((i : ℕ) → get_or s i 0 < 256) → (i : ℕ) → Upto s i → bytes_of (records_of s i) ≡ take (place_of s i) s
unfolding bytes_of records_of place_of
bytes_front s b zero u = refl
bytes_front s b (suc i) u = next (bytes_front s b i (upto_front s (suc i) i (omega arith) u))
  where
    p : PassesAt s i
    p = u.passed i (omega arith)

    own : encode (decode s (place_of s i)) ≡ take (size_of (get_or s (place_of s i) 0)) (drop (place_of s i) s)
    own = sym (encode_decode s (place_of s i) b (whole_if s (place_of s i) (record { is_known = p.is_known; ends = p.is_whole })))

    next : bytes_of (records_of s i) ≡ take (place_of s i) s
        → bytes_of (records_of s i ++ (decode s (place_of s i) ∷ [])) ≡ take (place_of s i + size_of (get_or s (place_of s i) 0)) s
    next e = bytes_more (records_of s i) (decode s (place_of s i)) ∙ (rw (e, own) (sym (take-add (place_of s i) (size_of (get_or s (place_of s i) 0)) s)))

records_read : (s : List ℕ) (S : Sheet) (r : ReadsTo s S) → records_in S ≡ records_of s (suc r.m)
records_read s S r = ap records_in r.says ∙ in_order s r.m r.upto

-- a sheet that reads without refusal is its records, written one after the other
pub read_written : (s : List ℕ) (S : Sheet) → ((i : ℕ) → get_or s i 0 < 256) → reading s ≡ Read S → bytes_of (records_in S) ≡ s
read_written s S b e =
    let r = reading_whole s S e in
    ap bytes_of (records_read s S r) ∙ (bytes_front s b (suc r.m) r.upto ∙ (ap (λ (n : ℕ). take n s) r.ends ∙ take-length s))

-- so two sheets of bytes with the same records are the same bytes
pub same_records_same_bytes : (s t : List ℕ) (S : Sheet) → ((i : ℕ) → get_or s i 0 < 256) → ((i : ℕ) → get_or t i 0 < 256) → reading s ≡ Read S → reading t ≡ Read S → s ≡ t
same_records_same_bytes s t S s-bytes t-bytes s_reads t-reads = sym (read_written s S s-bytes s_reads) ∙ read_written t S t-bytes t-reads

-- the records of a sheet that reads without refusal make a right sheet
records_right : (s : List ℕ) (m : ℕ) → 1 ≤ length (before s (suc m)).streams → Upto s (suc m) → Right (records_of s (suc m))
unfolding before
records_right s m l u =
    record {
      each =
          λ i h.
          let k : i < suc m = rw (length_records s (suc m)) at h in
          let p = u.passed i k in
          rw (records_front s (suc m) i (omega arith), record_at s (suc m) i k)
          (record { is_known = p.is_known; is_right = p.is_right; is_ranged = p.is_ranged; first_of_master = p.first_of_master; none_missing = p.none_missing; in_limits = p.in_limits; is_new = p.is_new });
      some = l;
    }

pub read_right : (s : List ℕ) (S : Sheet) → reading s ≡ Read S → Right (records_in S)
read_right s S e =
    let r = reading_whole s S e in
    rw (records_read s S r) (records_right s r.m (subst (λ (x : Sheet). 1 ≤ length x.streams) r.says r.some) r.upto)
