-- A record and its bytes: what is encoded decodes to itself, wherever it stands; what is decoded encodes to the bytes that stand there;
-- and decoding looks at no other bytes. Assumes nothing.
use mathlib.Core.Path.{◌≡◌, refl, sym, ap, ◌∙◌}
use mathlib.Core.Bool.{true}
use mathlib.Core.List.{List, [], ◌∷◌, ◌++◌, append_assoc}
use Prim.Native.Nat.{ℕ, zero, suc, ◌+◌, ◌≤◌, ◌<◌}
use native.Mathlib.Numerals.{add-one}
use native.Mathlib.Omega.{arith}
use borrow.Author.Tests.{le-leb, leb-true}
use lib.Dec.{leb}
use lib.ListN.{length, get_or, take, drop, length-append}
use lib.Seq.{get_or_at, take-add, drop-drop, drop-cons}
use Rattle.sheet_record.specs.declared.Record.{Record}
use Rattle.sheet_record.specs.Numbers.{be, digits}
use Rattle.sheet_record.specs.Kinds.{Field, fields_of, widths, size_of, known, field_at, decode, body, numbers, encode, whole, in_range}
use Rattle.sheet_record.specs.Widths.{width_at}
use Rattle.sheet_write.specs.Writing.{greatest}
use Rattle.sheet_record.proofs.Numbers.{length_digits, be_digits, be_same, digits_be}
use Rattle.sheet_record.proofs.Tables.{both_true, wide, size_is, fields_at_most}
use Rattle.sheet_write.proofs.Stored.{encode_is}
use Rattle.sheet_record.proofs.Records.{decode_is}
use Rattle.sheet_ranges.proofs.Fits.{Fit, in_range_fits}
use Rattle.sheet_ranges.proofs.Fits.Fit.{none, over, more}

-- ---- Whole records

pub record Whole (s : List ℕ) (at : ℕ) : Type 0 where
  pub is_known : known (get_or s at 0) ≡ true
  pub ends : at + size_of (get_or s at 0) ≤ length s

pub whole_then : (s : List ℕ) (at : ℕ) → whole s at ≡ true → Whole s at
unfolding whole
whole_then s at e =
    let b = both_true (known (get_or s at 0)) (leb (at + size_of (get_or s at 0)) (length s)) e in
    record { is_known = b.0; ends = leb-true (at + size_of (get_or s at 0)) (length s) b.1 }

pub whole_if : (s : List ℕ) (at : ℕ) → Whole s at → whole s at ≡ true
unfolding whole
whole_if s at w = simp (w.is_known, le-leb (at + size_of (get_or s at 0)) (length s) w.ends)

-- ---- The length of an encoded record

length_body : (fs : List Field) (xs : List ℕ) → length fs ≤ length xs → length (body fs xs) ≡ widths fs
unfolding body widths
length_body [] xs l = refl
length_body (f ∷ fs) [] l = absurd (omega arith)
length_body (f ∷ fs) (x ∷ xs) l =
    let g : length fs ≤ length xs = omega arith in
    omega (arith, length-append (digits f.width x) (body fs xs), length_digits f.width x, length_body fs xs g)

pub length_encode : (r : Record) → length (encode r) ≡ size_of r.kind
unfolding encode size_of
length_encode r = omega (arith, length_body (fields_of r.kind) (numbers r) (fields_at_most r.kind))

-- ---- Encoded, then decoded

fields_back : {fs : List Field} {xs : List ℕ} → Fit fs xs → (p q : List ℕ) (j : ℕ) → field_at (p ++ (body fs xs ++ q)) (length p) fs j ≡ get_or xs j 0
unfolding field_at body
fields_back none p q zero = refl
fields_back none p q (suc j) = refl
fields_back (over e t) p q zero = sym e
fields_back (over e t) p q (suc j) = fields_back t p q j
fields_back (more {f} {fs} {x} {xs} h t) p q zero = rw append_assoc (be_digits f.width x p (body fs xs ++ q) h)
fields_back (more {f} {fs} {x} {xs} h t) p q (suc j) =
    let d = digits f.width x in
    let e : p ++ ((d ++ body fs xs) ++ q) ≡ (p ++ d) ++ (body fs xs ++ q) = simp append_assoc in
    let n : length p + f.width ≡ length (p ++ d) = omega (arith, length-append p d, length_digits f.width x) in
    ap (λ (s : List ℕ). field_at s (length p + f.width) fs j) e ∙ (ap (λ (i : ℕ). field_at ((p ++ d) ++ (body fs xs ++ q)) i fs j) n ∙ fields_back t (p ++ d) q j)

module _ (r : Record) (fit : Fit (fields_of r.kind) (numbers r)) (p q : List ℕ) where
  kind_back : get_or (p ++ (encode r ++ q)) (length p) 0 ≡ r.kind
  unfolding encode
  kind_back = get_or_at p r.kind (body (fields_of r.kind) (numbers r) ++ q) 0 (length p) refl

  field_back : (j : ℕ) → field_at (p ++ (encode r ++ q)) (length p + 1) (fields_of r.kind) j ≡ get_or (numbers r) j 0
  unfolding encode
  field_back j =
      let k : List ℕ = r.kind ∷ [] in
      let fs = fields_of r.kind in
      let g : p ++ (k ++ (body fs (numbers r) ++ q)) ≡ (p ++ k) ++ (body fs (numbers r) ++ q) = simp append_assoc in
      let n : length p + 1 ≡ length (p ++ k) = omega (arith, length-append p k) in
      rw (g, n) (fields_back fit (p ++ k) q j)

  -- a record whose numbers fit their bytes, encoded anywhere, decodes to itself
  pub decode_fit : decode (p ++ (encode r ++ q)) (length p) ≡ r
  unfolding decode
  decode_fit = simp (kind_back, field_back)

-- so does one in range
module _ (r : Record) (e : in_range greatest r ≡ true) (p q : List ℕ) where
  fit_in_range : Fit (fields_of r.kind) (numbers r)
  fit_in_range = in_range_fits greatest (omega arith) (omega arith) r e

  pub decode_encode : decode (p ++ (encode r ++ q)) (length p) ≡ r
  decode_encode = decode_fit r fit_in_range p q

  pub whole_encode : known r.kind ≡ true → whole (p ++ (encode r ++ q)) (length p) ≡ true
  whole_encode k =
      let s = p ++ (encode r ++ q) in
      let n : length p + size_of r.kind ≤ length s = omega (arith, length-append p (encode r ++ q), length-append (encode r) q, length_encode r) in
      whole_if s (length p) (record { is_known = rw (kind_back r fit_in_range p q) k; ends = rw (kind_back r fit_in_range p q) n })

-- ---- Decoded, then encoded

-- a run of n and m bytes is a run of n and one of m behind it
take_run : (n m at : ℕ) (s : List ℕ) → take (n + m) (drop at s) ≡ take n (drop at s) ++ take m (drop (at + n) s)
take_run n m at s = rw (take-add n m (drop at s), drop-drop n at s)

module _ (s : List ℕ) (at : ℕ) (bytes : (i : ℕ) → get_or s i 0 < 256) where
  -- the bytes of a whole record are those of what is decoded there
  pub encode_decode : whole s at ≡ true → take (size_of (get_or s at 0)) (drop at s) ≡ encode (decode s at)
  encode_decode e =
      let h = whole_then s at e in
      let k = get_or s at 0 in
      let wa = width_at (fields_of k) 0 in
      let wb = width_at (fields_of k) 1 in
      let wc = width_at (fields_of k) 2 in
      let wd = width_at (fields_of k) 3 in
      let we = width_at (fields_of k) 4 in
      let w = wide k h.is_known in
      let z = size_is k wa wb wc wd we w in
      let a = at + 1 in
      let b = a + wa in
      let c = b + wb in
      let d = c + wc in
      let f = d + wd in
      let n : size_of k ≡ suc (wa + (wb + (wc + (wd + we)))) = omega arith in
      let r : Record = record { kind = k; a = be s a wa; b = be s b wb; c = be s c wc; d = be s d wd; e = be s f we } in
      let q : encode r ≡ k ∷ (take wa (drop a s) ++ (take wb (drop b s) ++ (take wc (drop c s) ++ (take wd (drop d s) ++ take we (drop f s))))) =
      encode_is r wa wb wc wd we w
      ∙ simp (
        digits_be s a wa bytes (omega (arith, h.ends)),
        digits_be s b wb bytes (omega (arith, h.ends)),
        digits_be s c wc bytes (omega (arith, h.ends)),
        digits_be s d wd bytes (omega (arith, h.ends)),
        digits_be s f we bytes (omega (arith, h.ends)),
      ) in
      let l : at < length s = omega (arith, h.ends) in
      rw (n, drop-cons s at 0 l, ← add-one at, take_run wa (wb + (wc + (wd + we))) a s, take_run wb (wc + (wd + we)) b s, take_run wc (wd + we) c s, take_run wd we d s)
      (sym q ∙ ap encode (decode_is s at wa wb wc wd we w k r.a r.b r.c r.d r.e refl refl refl refl refl refl))

-- ---- Decoding looks at the record's own bytes only

fields_same : (s t : List ℕ) (at : ℕ) (fs : List Field) (j : ℕ) → ((i : ℕ) → at ≤ i → i < at + widths fs → get_or s i 0 ≡ get_or t i 0)
    → field_at s at fs j ≡ field_at t at fs j
unfolding field_at widths
fields_same s t at [] j same = refl
fields_same s t at (f ∷ fs) zero same = be_same s t at f.width (λ i lo hi. same i lo (omega arith))
fields_same s t at (f ∷ fs) (suc j) same = fields_same s t (at + f.width) fs j (λ i lo hi. same i (omega arith) (omega arith))

pub decode_same : (s t : List ℕ) (at : ℕ) → ((i : ℕ) → at ≤ i → i < at + size_of (get_or t at 0) → get_or s i 0 ≡ get_or t i 0) → decode s at ≡ decode t at
unfolding decode size_of
decode_same s t at same =
    let fs = fields_of (get_or t at 0) in
    let k = same at (omega arith) (omega arith) in
    let f : (j : ℕ) → field_at s (at + 1) fs j ≡ field_at t (at + 1) fs j = λ j. fields_same s t (at + 1) fs j (λ i lo hi. same i (omega arith) (omega arith)) in
    rw (k, f 0, f 1, f 2, f 3, f 4)
