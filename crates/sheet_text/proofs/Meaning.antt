-- Page 02, 'Ask 14': what a text stands for. The lines of records stand for their bytes, no other text stands for a sheet, and a text that stands for none has
-- a first line that is not of the form. Assumes nothing.
use Prim.Native.Nat.{ℕ, suc, ◌+◌}
use mathlib.Core.Path.{◌≡◌, refl, sym, ap, ◌∙◌, subst}
use mathlib.Core.List.{List, [], ◌∷◌, ◌++◌, append_assoc, append-nil}
use mathlib.Core.Bool.{Bool, true, false, cond}
use mathlib.Core.Logic.{◌↔◌}
use native.Mathlib.Nat.{add-zero}
use native.Mathlib.Omega.{arith}
use native.Mathlib.Decide.{ℕ_discrete}
use borrow.Author.Tests.{eqb-true, eqb-false, ne_eqb}
use lib.Dec.{eqb}
use lib.ListN.{length, length-append}
use Rattle.sheet_record.specs.declared.Record.{Record}
use Rattle.sheet_record.specs.Kinds.{encode}
use Rattle.sheet_rules.specs.Records.{bytes_of}
use Rattle.sheet_line.specs.Lines.{line_text, sayable, Says}
use Rattle.sheet_said.specs.Said.{record_in}
use Rattle.sheet_said.proofs.Without.{Without, without_append}
use Rattle.sheet_said.proofs.Without.Without.{none, more}
use Rattle.sheet_said.proofs.Guessed.{has_word_law}
use Rattle.sheet_said.proofs.Laws.{reads_line, line_read, word_some, no_line, line_ended}
use Rattle.sheet_pieces.specs.Texts.{Meaning, text_of, meaning_from, meaning}
use Rattle.sheet_pieces.specs.Texts.Meaning.{Stands, Bad}
use Rattle.sheet_text.specs.Refusals.{AllSayable, StandsFor, NoLine, BadLine}
use Rattle.sheet_text.specs.Refusals.AllSayable.{none as no-records, more as and-more}

-- ---- One line

-- bytes without a line's end are held
walked : {p : List ℕ} → Without 10 p → (n : ℕ) (front s t : List ℕ) → meaning_from n front s (p ++ t) ≡ meaning_from n (front ++ p) s t
unfolding meaning_from
walked none n front s t = ap (λ (f : List ℕ). meaning_from n f s t) (sym (append-nil front))
walked (more {b} {l} e w) n front s t =
    rw e (walked w n (front ++ (b ∷ [])) s t ∙ ap (λ (f : List ℕ). meaning_from n f s t) (append_assoc front (b ∷ []) l))

-- at a line's end
module _ (n : ℕ) (front s t : List ℕ) where
  ends_bad : (record_in (front ++ (10 ∷ []))).kind ≡ 0 → meaning_from n front s (10 ∷ t) ≡ Bad n
  unfolding meaning_from
  ends_bad e = rw e

  ends_well : ((record_in (front ++ (10 ∷ []))).kind ≡ 0 → ⊥) → meaning_from n front s (10 ∷ t) ≡ meaning_from (suc n) [] (s ++ encode (record_in (front ++ (10 ∷ [])))) t
  unfolding meaning_from
  ends_well d = rw (ne_eqb (record_in (front ++ (10 ∷ []))).kind 0 d)

-- the line of a record
line_means : (r : Record) → sayable r ≡ true → (n : ℕ) (s t : List ℕ) → meaning_from n [] s (line_text r ++ t) ≡ meaning_from (suc n) [] (s ++ encode r) t
line_means r e n s t =
    let d = line_ended r e in
    let q : record_in (d.front ++ (10 ∷ [])) ≡ r = reads_line (d.front ++ (10 ∷ [])) r (record { can_be = e; is_line = sym d.is_front }) in
    let some : (record_in (d.front ++ (10 ∷ []))).kind ≡ 0 → ⊥ = λ z. word_some r.kind (has_word_law r e) (ap (λ (x : Record). x.kind) (sym q) ∙ z) in
    ap (λ (l : List ℕ). meaning_from n [] s (l ++ t)) d.is_front
    ∙ (ap (meaning_from n [] s) (append_assoc d.front (10 ∷ []) t)
    ∙ (walked d.unended n [] s (10 ∷ t) ∙ (ends_well n d.front s t some ∙ ap (λ (x : Record). meaning_from (suc n) [] (s ++ encode x) t) q)))

-- ---- Lines of records

one_later : (n m : ℕ) → n + suc m ≡ suc n + m
one_later n m = omega arith

lines_mean : {rs : List Record} → AllSayable rs → (n : ℕ) (s t : List ℕ) → meaning_from n [] s (text_of rs ++ t) ≡ meaning_from (n + length rs) [] (s ++ bytes_of rs) t
unfolding text_of bytes_of
lines_mean no-records n s t = rw (append-nil s, add-zero n)
lines_mean (and-more {r} {rs} e a) n s t =
    ap (meaning_from n [] s) (append_assoc (line_text r) (text_of rs) t)
    ∙ (line_means r e n s (text_of rs ++ t)
    ∙ (lines_mean a (suc n) (s ++ encode r) t
    ∙ rw (append_assoc s (encode r) (bytes_of rs), one_later n (length rs))))

-- they stand for the records' bytes
pub text_means : {rs : List Record} → AllSayable rs → meaning (text_of rs) ≡ Stands (bytes_of rs)
unfolding meaning meaning_from
text_means {rs} a = ap (meaning_from 1 [] []) (sym (append-nil (text_of rs))) ∙ lines_mean a 1 [] []

-- ---- Any text

-- the first end of two texts that are one stands at one place
without_not : {c : ℕ} (p q : List ℕ) → Without c (p ++ (c ∷ q)) → ⊥
without_not {c} [] q (more e w) = eqb-false c c e refl
without_not (b ∷ p) q (more e w) = without_not p q w

one_front : {c : ℕ} {p q : List ℕ} → Without c p → Without c q → (x y : List ℕ) → p ++ (c ∷ x) ≡ q ++ (c ∷ y) → p ≡ q
one_front none none x y e = refl
one_front {c} none (more {b} f w) x y e = let h : c ≡ b = cc in absurd (eqb-false b c f (sym h))
one_front {c} (more {b} f w) none x y e = let h : b ≡ c = cc in absurd (eqb-false b c f h)
one_front {c} (more {b} {l} f v) (more {b = d} {l = m} g w) x y e =
    let h : b ≡ d = cc in
    let t : l ++ (c ∷ x) ≡ m ++ (c ∷ y) = cc in
    let u = one_front v w x y t in
    cc

-- the line of a record, and what stands behind it, by its end
line_front : (r : Record) (e : sayable r ≡ true) (t : List ℕ) → line_text r ++ t ≡ (line_ended r e).front ++ (10 ∷ t)
line_front r e t = let d = line_ended r e in ap (λ (l : List ℕ). l ++ t) d.is_front ∙ append_assoc d.front (10 ∷ []) t

-- an unended line is that of no record
unended_none : {front : List ℕ} → Without 10 front → (length front ≡ 0 → ⊥) → NoLine front
unended_none {front} w some =
    record {
      some = omega (arith, some);
      of_none = λ r behind e q. without_not (line_ended r e).front behind (subst (Without 10) (q ∙ line_front r e behind) w);
    }

-- and so is one that says none
ended_none : {front : List ℕ} → Without 10 front → (t : List ℕ) → (record_in (front ++ (10 ∷ []))).kind ≡ 0 → NoLine (front ++ (10 ∷ t))
ended_none {front} w t z =
    record {
      some = omega (arith, length-append front (10 ∷ t));
      of_none =
          λ r behind e q.
          let d = line_ended r e in
          let f : front ≡ d.front = one_front w d.unended t behind (q ∙ line_front r e behind) in
          no_line (front ++ (10 ∷ [])) z r (record { can_be = e; is_line = ap (λ (l : List ℕ). l ++ (10 ∷ [])) f ∙ sym d.is_front });
    }

-- what a text t stands for from line n on, behind the bytes s: all its lines are those of records, or a first one is not
data Walked (n : ℕ) (s t : List ℕ) : Meaning → Type 0 where
  to_end : {rs : List Record} → AllSayable rs → t ≡ text_of rs → Walked n s t (Stands (s ++ bytes_of rs))
  to_bad : {rs : List Record} {rest : List ℕ} → AllSayable rs → t ≡ text_of rs ++ rest → NoLine rest → Walked n s t (Bad (n + length rs))

-- it ends here
ends_here : {n : ℕ} {s t : List ℕ} → t ≡ [] → Walked n s t (Stands s)
unfolding text_of bytes_of
ends_here {n} {s} {t} e = subst (Walked n s t) (ap Stands (append-nil s)) (to_end no-records e)

-- its first line is bad
bad_here : {n : ℕ} {s t : List ℕ} → NoLine t → Walked n s t (Bad n)
unfolding text_of
bad_here {n} {s} {t} b = subst (Walked n s t) (ap Bad (add-zero n)) (to_bad no-records refl b)

-- a line more in front
line_more : {n : ℕ} {s t l : List ℕ} {r : Record} {m : Meaning} → Says l r → Walked (suc n) (s ++ encode r) t m → Walked n s (l ++ t) m
unfolding text_of bytes_of
line_more {n} {s} {t} {l} {r} says (to_end {rs} a e) =
    subst (Walked n s (l ++ t)) (ap Stands (sym (append_assoc s (encode r) (bytes_of rs)))) (to_end (and-more says.can_be a) (rw (says.is_line, e)))
line_more {n} {s} {t} {l} {r} says (to_bad {rs} {rest} a e b) =
    subst (Walked n s (l ++ t)) (ap Bad (one_later n (length rs)))
    (to_bad (and-more says.can_be a) (rw (says.is_line, e) (sym (append_assoc (line_text r) (text_of rs) rest))) b)

empty_list : (l : List ℕ) → length l ≡ 0 → l ≡ []
empty_list [] e = refl
empty_list (x ∷ l) e = absurd (omega arith)

walks : (n : ℕ) {front : List ℕ} → Without 10 front → (s t : List ℕ) → Walked n s (front ++ t) (meaning_from n front s t)
unfolding meaning_from
walks n {front} w s [] = last (eqb (length front) 0) refl
  where
    last : (b : Bool) → eqb (length front) 0 ≡ b → Walked n s (front ++ []) (cond b (Stands s) (Bad n))
    last true e = ends_here (append-nil front ∙ empty_list front (eqb-true (length front) 0 e))
    last false e = bad_here (subst NoLine (sym (append-nil front)) (unended_none w (eqb-false (length front) 0 e)))
walks n {front} w s (b ∷ t) = byte (eqb b 10) refl (λ x. walks (suc n) none x t) (λ v. walks n v s t)
  where
    ended : ((x : List ℕ) → Walked (suc n) x t (meaning_from (suc n) [] x t)) → Dec ((record_in (front ++ (10 ∷ []))).kind ≡ 0)
        → Walked n s (front ++ (10 ∷ t)) (meaning_from n front s (10 ∷ t))
    ended next (yes z) = subst (Walked n s (front ++ (10 ∷ t))) (sym (ends_bad n front s t z)) (bad_here (ended_none w t z))
    ended next (no d) =
        let l = front ++ (10 ∷ []) in
        let m : Walked n s (l ++ t) (meaning_from (suc n) [] (s ++ encode (record_in l)) t) = line_more (line_read l d) (next (s ++ encode (record_in l))) in
        rw (ends_well n front s t d) (subst (λ (x : List ℕ). Walked n s x (meaning_from (suc n) [] (s ++ encode (record_in l)) t)) (append_assoc front (10 ∷ []) t) m)

    byte : (c : Bool) → eqb b 10 ≡ c → ((x : List ℕ) → Walked (suc n) x t (meaning_from (suc n) [] x t))
        → (Without 10 (front ++ (b ∷ [])) → Walked n s ((front ++ (b ∷ [])) ++ t) (meaning_from n (front ++ (b ∷ [])) s t))
        → Walked n s (front ++ (b ∷ t)) (meaning_from n front s (b ∷ t))
    byte true e next more' = rw (eqb-true b 10 e) (ended next (ℕ_discrete (record_in (front ++ (10 ∷ []))).kind 0))
    byte false e next more' =
        rw e (subst (λ (x : List ℕ). Walked n s x (meaning_from n (front ++ (b ∷ [])) s t)) (append_assoc front (b ∷ []) t) (more' (without_append w (more e none))))

-- ---- The sheet that a text stands for

walks_all : (t : List ℕ) → Walked 1 [] t (meaning t)
unfolding meaning
walks_all t = walks 1 none [] t

pub means_then : (t s : List ℕ) → meaning t ≡ Stands s → StandsFor t s
means_then t s e = by (walks_all t) e
  where
    by : {m : Meaning} → Walked 1 [] t m → m ≡ Stands s → StandsFor t s
    by (to_end {rs} a q) f = let g : bytes_of rs ≡ s = cc in record { records = rs; each = a; is_text = q; is_sheet = sym g }
    by (to_bad a q b) f = let z : ◌≡◌ {A = ℕ} 0 1 = cc in absurd (omega arith)

pub means_if : {t s : List ℕ} → StandsFor t s → meaning t ≡ Stands s
means_if f = ap meaning f.is_text ∙ (text_means f.each ∙ ap Stands (sym f.is_sheet))

pub means_exactly : (t s : List ℕ) → (meaning t ≡ Stands s) ↔ StandsFor t s
means_exactly t s = (means_then t s, means_if)

-- there is one at most
pub one_sheet : {t s s' : List ℕ} → StandsFor t s → StandsFor t s' → s ≡ s'
one_sheet {t} {s} {s'} f g = let e : Stands s ≡ Stands s' = sym (means_if f) ∙ means_if g in cc

-- ---- The first line that is not of the form

pub bad_then : (t : List ℕ) (n : ℕ) → meaning t ≡ Bad n → BadLine t n
bad_then t n e = by (walks_all t) e
  where
    by : {m : Meaning} → Walked 1 [] t m → m ≡ Bad n → BadLine t n
    by (to_end a q) f = let z : ◌≡◌ {A = ℕ} 0 1 = cc in absurd (omega arith)
    by (to_bad {rs} {rest} a q b) f =
        let g : 1 + length rs ≡ n = cc in
        record { before = rs; rest = rest; each = a; is_text = q; number = omega arith; is_bad = b }

-- a text that begins with the line of no record is bad in its first line
none_means : (n : ℕ) (s : List ℕ) {rest : List ℕ} → NoLine rest → meaning_from n [] s rest ≡ Bad n
unfolding text_of
none_means n s {rest} b = by (walks n none s rest)
  where
    by : {m : Meaning} → Walked n s rest m → m ≡ Bad n
    by (to_end no-records q) = absurd (omega (arith, b.some, ap length q))
    by (to_end (and-more {r} {rs} e a) q) = absurd (b.of_none r (text_of rs) e q)
    by (to_bad no-records q c) = ap Bad (add-zero n)
    by (to_bad {rest = more'} (and-more {r} {rs} e a) q c) = absurd (b.of_none r (text_of rs ++ more') e (q ∙ append_assoc (line_text r) (text_of rs) more'))

pub bad_if : {t : List ℕ} {n : ℕ} → BadLine t n → meaning t ≡ Bad n
unfolding meaning
bad_if {t} {n} b =
    let k : 1 + length b.before ≡ n = omega (arith, b.number) in
    ap meaning b.is_text ∙ (lines_mean b.each 1 [] b.rest ∙ (none_means (1 + length b.before) (bytes_of b.before) b.is_bad ∙ ap Bad k))

pub bad_exactly : (t : List ℕ) (n : ℕ) → (meaning t ≡ Bad n) ↔ BadLine t n
bad_exactly t n = (bad_then t n, bad_if)

pub one_bad_line : {t : List ℕ} {n m : ℕ} → BadLine t n → BadLine t m → n ≡ m
one_bad_line {t} {n} {m} b c = let e : Bad n ≡ Bad m = sym (bad_if b) ∙ bad_if c in cc

-- a text that stands for a sheet has no bad line
pub not_both : {t s : List ℕ} {n : ℕ} → StandsFor t s → BadLine t n → ⊥
not_both {t} {s} {n} f b =
    let e : Stands s ≡ Bad n = sym (means_if f) ∙ bad_if b in
    let z : ◌≡◌ {A = ℕ} 0 1 = cc in
    omega arith
