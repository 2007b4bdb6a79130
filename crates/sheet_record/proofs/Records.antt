-- Laws of a record that stands at a place: its fields one by one, and what `met_at` and `met_of` answer. Assumes nothing.
use mathlib.Core.Path.{◌≡◌, refl, sym, ap, ◌∙◌}
use mathlib.Core.Bool.{Bool, true, false, cond}
use mathlib.Core.List.{List, [], ◌∷◌}
use Prim.Native.Nat.{ℕ, zero, suc, ◌+◌, ◌≤◌, ◌<◌}
use native.Mathlib.Nat.{add-zero, add_assoc}
use native.Mathlib.Omega.{arith}
use borrow.Author.Tests.{le-leb, lt-leb, eq-eqb, ne_eqb}
use lib.Dec.{eqb}
use lib.ListN.{length, get_or, take, get_or-eq_default}
use Rattle.sheet_record.specs.declared.Met.{Met}
use Rattle.sheet_record.specs.declared.Record.{Record}
use Rattle.sheet_record.specs.Numbers.{be}
use Rattle.sheet_record.specs.Kinds.{Field, kinds, line_of, fields_of, widths, size_of, known, field_at, decode, whole, nothing, met_at, met_of, stream_met, is_stream_of}
use Rattle.sheet_record.specs.Widths.{width_at, Wide}
use Rattle.sheet_record.proofs.Tables.{steps, size_is}

-- field j stands behind the fields before it
pub field_is : (s : List ℕ) (p : ℕ) (fs : List Field) (j : ℕ) → field_at s p fs j ≡ be s (p + widths (take j fs)) (width_at fs j)
unfolding field_at widths width_at be
field_is s p [] zero = refl
field_is s p [] (suc j) = refl
field_is s p (f ∷ fs) zero = rw add-zero refl
field_is s p (f ∷ fs) (suc j) = field_is s (p + f.width) fs j ∙ ap (λ (q : ℕ). be s q (width_at fs j)) (add_assoc p f.width (widths (take j fs)))

-- a record and the place just after it, as `met_at` answers them
abbrev pub found_at : Record → ℕ → Met
found_at r n = record { found = r; next = n }

module _ (s : List ℕ) (at : ℕ) where
  -- the fields of the kind that stands there
  abbrev fields : List Field
  fields = fields_of (get_or s at 0)

  pub met_unknown : known (get_or s at 0) ≡ false → found_at nothing at ≡ met_at s at
  unfolding met_at whole
  met_unknown e = simp e

  pub met_past : length s ≤ at → found_at nothing at ≡ met_at s at
  unfolding known fields_of line_of kinds
  met_past h = met_unknown (ap known (get_or-eq_default s 0 h))

  module _ (wa wb wc wd we : ℕ) (w : Wide (get_or s at 0) wa wb wc wd we) where
    pub met_cut : length s < at + (1 + wa + wb + wc + wd + we) → found_at nothing at ≡ met_at s at
    unfolding met_at whole
    met_cut h =
        let l : length s < at + size_of (get_or s at 0) = omega (arith, size_is (get_or s at 0) wa wb wc wd we w) in
        simp (w.is_known, lt-leb (at + size_of (get_or s at 0)) (length s) l)

    field_read : (j p v : ℕ) → p ≡ at + 1 + widths (take j fields) → v ≡ width_at fields j → be s p v ≡ field_at s (at + 1) fields j
    field_read j p v e q = rw (e, q) (sym (field_is s (at + 1) fields j))

    -- the record, its fields read one behind the other
    pub decode_is : (k a b c d e : ℕ) → k ≡ get_or s at 0 → a ≡ be s (at + 1) wa → b ≡ be s (at + 1 + wa) wb
        → c ≡ be s (at + 1 + wa + wb) wc → d ≡ be s (at + 1 + wa + wb + wc) wd → e ≡ be s (at + 1 + wa + wb + wc + wd) we
        → record { kind = k; a = a; b = b; c = c; d = d; e = e } ≡ decode s at
    unfolding decode widths
    decode_is k a b c d e ek ea eb ec ed ee =
        let t = steps (get_or s at 0) wa wb wc wd we w in
        let fa = field_read 0 (at + 1) wa (omega arith) w.a in
        let fb = field_read 1 (at + 1 + wa) wb (omega (arith, t.to_b)) w.b in
        let fc = field_read 2 (at + 1 + wa + wb) wc (omega (arith, t.to_c)) w.c in
        let fd = field_read 3 (at + 1 + wa + wb + wc) wd (omega (arith, t.to_d)) w.d in
        let fe = field_read 4 (at + 1 + wa + wb + wc + wd) we (omega (arith, t.to_e)) w.e in
        cc

    pub met_whole : (r : Record) (n : ℕ) → r ≡ decode s at → n ≡ at + 1 + wa + wb + wc + wd + we → n ≤ length s → found_at r n ≡ met_at s at
    unfolding met_at whole
    met_whole r n e q h =
        let z : n ≡ at + size_of (get_or s at 0) = omega (arith, size_is (get_or s at 0) wa wb wc wd we w) in
        let l : at + size_of (get_or s at 0) ≤ length s = omega arith in
        rw (e, z) (simp (w.is_known, le-leb (at + size_of (get_or s at 0)) (length s) l))

-- ---- A record of one kind alone

module _ (s : List ℕ) (at kind : ℕ) where
  -- where that kind stands, it is the record at the place
  pub met_same : get_or s at 0 ≡ kind → met_of s at kind ≡ met_at s at
  unfolding met_of
  met_same e = simp (eq-eqb (get_or s at 0) kind e)

  pub met_other : (get_or s at 0 ≡ kind → ⊥) → found_at nothing at ≡ met_of s at kind
  unfolding met_of
  met_other n = simp (ne_eqb (get_or s at 0) kind n)

  -- where nothing stands, neither does a record of that kind
  pub met_none : found_at nothing at ≡ met_at s at → found_at nothing at ≡ met_of s at kind
  unfolding met_of
  met_none e = either (eqb (get_or s at 0) kind)
    where
      either : (b : Bool) → found_at nothing at ≡ cond b (met_at s at) (found_at nothing at)
      either true = e
      either false = refl

-- ---- A stream of one bus alone

module _ (s : List ℕ) (at bus : ℕ) where
  -- where one stands, it is the record at the place
  pub stream_same : is_stream_of bus (get_or s at 0) ≡ true → stream_met s at bus ≡ met_at s at
  unfolding stream_met
  stream_same e = rw e

  pub stream_other : is_stream_of bus (get_or s at 0) ≡ false → found_at nothing at ≡ stream_met s at bus
  unfolding stream_met
  stream_other e = rw e

  -- where nothing stands, neither does a stream
  pub stream_none : found_at nothing at ≡ met_at s at → found_at nothing at ≡ stream_met s at bus
  unfolding stream_met
  stream_none e = either (is_stream_of bus (get_or s at 0))
    where
      either : (b : Bool) → found_at nothing at ≡ cond b (met_at s at) (found_at nothing at)
      either true = e
      either false = refl

  -- where what stands there is a stream of the bus if it is of one kind, and else is none, that kind is met
  pub stream_kind : (kind : ℕ) → is_stream_of bus (get_or s at 0) ≡ eqb (get_or s at 0) kind → met_of s at kind ≡ stream_met s at bus
  unfolding stream_met met_of
  stream_kind kind e = rw e
