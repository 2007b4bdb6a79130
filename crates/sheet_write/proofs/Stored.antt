-- Laws of a record that is put field by field: the bytes are those of the record. Assumes nothing.
use mathlib.Core.Path.{◌≡◌, refl, sym, ap, ◌∙◌}
use mathlib.Core.List.{List, [], ◌∷◌, ◌++◌, append_assoc, append-nil}
use Prim.Native.Nat.{ℕ, ◌+◌, ◌≤◌}
use native.Mathlib.Omega.{arith}
use lib.ListN.{length, set, length-append}
use Rattle.sheet_record.specs.declared.Record.{Record}
use Rattle.sheet_record.specs.Numbers.{digits, pasted}
use Rattle.sheet_record.specs.Kinds.{Field, fields_of, body, encode}
use Rattle.sheet_record.specs.Widths.{width_at, Wide}
use Rattle.sheet_record.proofs.Numbers.{length_digits, paste_one, paste_next}

-- no number, no byte
body_none : (fs : List Field) → body fs [] ≡ []
unfolding body
body_none [] = refl
body_none (f ∷ fs) = refl

-- the digits of each field, one behind the other; a field that the kind does not have takes none
five_fields : (fs : List Field) (a b c d e : ℕ)
    → body fs (a ∷ b ∷ c ∷ d ∷ e ∷ [])
    ≡ digits (width_at fs 0) a ++ (digits (width_at fs 1) b ++ (digits (width_at fs 2) c ++ (digits (width_at fs 3) d ++ digits (width_at fs 4) e)))
unfolding body width_at digits
five_fields [] a b c d e = refl
five_fields (f ∷ []) a b c d e = refl
five_fields (f ∷ g ∷ []) a b c d e = refl
five_fields (f ∷ g ∷ h ∷ []) a b c d e = refl
five_fields (f ∷ g ∷ h ∷ i ∷ []) a b c d e = refl
five_fields (f ∷ g ∷ h ∷ i ∷ j ∷ fs) a b c d e = simp (body_none fs, append-nil)

module _ (r : Record) (wa wb wc wd we : ℕ) (w : Wide r.kind wa wb wc wd we) where
  pub encode_is : encode r ≡ r.kind ∷ (digits wa r.a ++ (digits wb r.b ++ (digits wc r.c ++ (digits wd r.d ++ digits we r.e))))
  unfolding encode
  encode_is = rw (w.a, w.b, w.c, w.d, w.e) (ap (λ (t : List ℕ). r.kind ∷ t) (five_fields (fields_of r.kind) r.a r.b r.c r.d r.e))

  -- the kind byte, then two fields, then two, then the last
  pub stored : (l l₁ l₂ l₃ : List ℕ) (at : ℕ) → at + (1 + wa + wb + wc + wd + we) ≤ length l
      → l₁ ≡ pasted (set l at r.kind) (at + 1) (digits wa r.a ++ digits wb r.b)
      → l₂ ≡ pasted l₁ (at + 1 + wa + wb) (digits wc r.c ++ digits wd r.d)
      → l₃ ≡ pasted l₂ (at + 1 + wa + wb + wc + wd) (digits we r.e)
      → l₃ ≡ pasted l at (encode r)
  stored l l₁ l₂ l₃ at fits e₁ e₂ e₃ =
      let k : List ℕ = r.kind ∷ [] in
      let A = digits wa r.a in
      let B = digits wb r.b in
      let C = digits wc r.c in
      let D = digits wd r.d in
      let E = digits we r.e in
      let n₁ : length (k ++ (A ++ B)) ≡ 1 + wa + wb = omega (arith, length-append A B, length_digits wa r.a, length_digits wb r.b) in
      let p₁ : l₁ ≡ pasted l at (k ++ (A ++ B)) = e₁ ∙ paste_next l at k (A ++ B) (at + 1) (paste_one l at r.kind (omega arith)) refl (omega arith) in
      let p₂ : l₂ ≡ pasted l at ((k ++ (A ++ B)) ++ (C ++ D)) = e₂ ∙ paste_next l at (k ++ (A ++ B)) (C ++ D) (at + 1 + wa + wb) p₁ (omega arith) (omega arith) in
      let n₂ : length ((k ++ (A ++ B)) ++ (C ++ D)) ≡ 1 + wa + wb + wc + wd =
      omega (arith, n₁, length-append (k ++ (A ++ B)) (C ++ D), length-append C D, length_digits wc r.c, length_digits wd r.d) in
      let p₃ : l₃ ≡ pasted l at (((k ++ (A ++ B)) ++ (C ++ D)) ++ E) =
      e₃ ∙ paste_next l at ((k ++ (A ++ B)) ++ (C ++ D)) E (at + 1 + wa + wb + wc + wd) p₂ (omega arith) (omega arith) in
      let same : ((k ++ (A ++ B)) ++ (C ++ D)) ++ E ≡ k ++ (A ++ (B ++ (C ++ (D ++ E)))) = simp append_assoc in
      p₃ ∙ ap (pasted l at) (same ∙ sym encode_is)
