-- A text of lines: each line that it was made of stands in it, and a line that stands in it is one of those. Assumes nothing.
use Prim.Native.Nat.{ℕ, zero, suc, ◌+◌, ◌/◌, ◌%◌, ◌<◌}
use mathlib.Core.Path.{◌≡◌, refl, sym, ap, ◌∙◌}
use mathlib.Core.Bool.{Bool, true, false, not, ◌&&◌}
use mathlib.Core.List.{List, [], ◌∷◌, ◌++◌, append_assoc, append-nil, Memᴰ}
use mathlib.Core.Logic.{◌⊎◌, inl, inr}
use native.Mathlib.Decide.{ℕ_discrete}
use native.Mathlib.Omega.{arith}
use lib.Dec.{eqb}
use lib.ListN.{get_or, drop, length}
use borrow.Author.Tests.{eqb-false, not-true}
use Rattle.sheet_record.proofs.Tables.{both_true}
use Rattle.text.specs.Text.{word, places, width_of, decimal, ◌·◌, texts}

-- ---- Without a newline, which is 10

pub data Plain : List ℕ → Type 0 where
  end : Plain []
  more : {c : ℕ} {x : List ℕ} → (c ≡ 10 → ⊥) → Plain x → Plain (c ∷ x)

pub plain_of : (x : List ℕ) → (Memᴰ 10 x → ⊥) → Plain x
plain_of [] f = end
plain_of (c ∷ x) f = more (λ e. f (Memᴰ.head (sym e))) (plain_of x (λ j. f (Memᴰ.tail j)))

abbrev pub free : List ℕ → Bool
free [] = true
free (c ∷ x) = not (eqb c 10) && free x

-- a word of the report is one by computation
pub plain_if : (x : List ℕ) → free x ≡ true → Plain x
plain_if [] e = end
plain_if (c ∷ x) e =
    let h = both_true (not (eqb c 10)) (free x) e in
    more (not_true_then c h.0) (plain_if x h.1)
  where
    not_true_then : (c : ℕ) → not (eqb c 10) ≡ true → c ≡ 10 → ⊥
    not_true_then c f = eqb-false c 10 (not-true (eqb c 10) f)

pub plain_both : {x y : List ℕ} → Plain x → Plain y → Plain (x ++ y)
plain_both end q = q
plain_both (more n p) q = more n (plain_both p q)

pub plain_places : (k n : ℕ) → Plain (places k n)
unfolding places
plain_places zero n = end
plain_places (suc k) n = plain_both (plain_places k (n / 10)) (more (λ e. omega arith) end)

pub plain_decimal : (n : ℕ) → Plain (decimal n)
unfolding decimal
plain_decimal n = plain_places (width_of n) n

-- ---- Lines

-- lines that are all such, each ended by a newline
pub data Lined (Such : List ℕ → Type 0) : List ℕ → Type 0 where
  none : Lined Such []
  one : {z : List ℕ} (y r : List ℕ) → z ≡ y ++ (10 ∷ r) → Plain y → Such y → Lined Such r → Lined Such z

head_of_law : {c d : ℕ} {x y : List ℕ} → c ∷ x ≡ d ∷ y → c ≡ d
head_of_law {c} {d} {x} {y} e = ap (λ (l : List ℕ). get_or l 0 0) e

tail_of : {c d : ℕ} {x y : List ℕ} → c ∷ x ≡ d ∷ y → x ≡ y
tail_of {c} {d} {x} {y} e = ap (λ (l : List ℕ). drop 1 l) e

-- up to the first newline two texts that are equal have the same line
first_same : (x y a r : List ℕ) → Plain x → Plain y → x ++ (10 ∷ a) ≡ y ++ (10 ∷ r) → x ≡ y
first_same [] [] a r p q e = refl
first_same [] (d ∷ y) a r p (more n q) e = absurd (n (sym (head_of_law e)))
first_same (c ∷ x) [] a r (more n p) q e = absurd (n (head_of_law e))
first_same (c ∷ x) (d ∷ y) a r (more n p) (more m q) e = let h = head_of_law e in rw h (ap (λ (l : List ℕ). d ∷ l) (first_same x y a r p q (tail_of e)))

-- a newline is the first one or stands behind it
behind_first : (b y z r : List ℕ) → Plain y → b ++ (10 ∷ z) ≡ y ++ (10 ∷ r) → (z ≡ r) ⊎ ((b' : List ℕ) × (b' ++ (10 ∷ z) ≡ r))
behind_first [] [] z r q e = inl (tail_of e)
behind_first (c ∷ b) [] z r q e = inr (b, tail_of e)
behind_first [] (d ∷ y) z r (more n q) e = absurd (n (sym (head_of_law e)))
behind_first (c ∷ b) (d ∷ y) z r (more n q) e = behind_first b y z r q (tail_of e)

some_byte : (x a : List ℕ) → x ++ (10 ∷ a) ≡ [] → ⊥
some_byte [] a e = let n = ap length e in omega arith
some_byte (c ∷ x) a e = let n = ap length e in omega arith

module _ {Such : List ℕ → Type 0} where
  pub lined_both : {x y : List ℕ} → Lined Such x → Lined Such y → Lined Such (x ++ y)
  lined_both none q = q
  lined_both {x = x} {y = w} (one y r e plain such rest) q =
      one y (r ++ w) (ap (λ (l : List ℕ). l ++ w) e ∙ append_assoc y (10 ∷ r) w) plain such (lined_both rest q)

  -- a first line is such
  such_first : {z : List ℕ} (x a : List ℕ) → Plain x → Lined Such z → x ++ (10 ∷ a) ≡ z → Such x
  such_first x a p none e = absurd (some_byte x a e)
  such_first x a p (one y r f q such rest) e = let same = first_same x y a r p q (e ∙ f) in rw same such

  -- and so is one behind a newline
  pub such_later : {z : List ℕ} (b x a : List ℕ) → Plain x → Lined Such z → b ++ (10 ∷ (x ++ (10 ∷ a))) ≡ z → Such x
  such_later b x a p none e = absurd (some_byte b (x ++ (10 ∷ a)) e)
  such_later b x a p (one y r f q such rest) e = by (behind_first b y (x ++ (10 ∷ a)) r q (e ∙ f)) (λ b'. such_later b' x a p rest)
    where
      by : (x ++ (10 ∷ a) ≡ r) ⊎ ((b' : List ℕ) × (b' ++ (10 ∷ (x ++ (10 ∷ a))) ≡ r)) → ((b' : List ℕ) → b' ++ (10 ∷ (x ++ (10 ∷ a))) ≡ r → Such x) → Such x
      by (inl g) later = such_first x a p rest g
      by (inr g) later = later g.0 g.1

-- ---- Texts one behind the other

-- t i stands among t 0, .., t (n - 1), behind those before it
pub among : (t : ℕ → List ℕ) (n i : ℕ) → i < n → (after : List ℕ) × (texts t n ≡ texts t i · t i · after)
unfolding texts
among t zero i l = absurd (omega arith)
among t (suc n) i l = by (ℕ_discrete i n) (among t n i)
  where
    by : Dec (i ≡ n) → (i < n → (after : List ℕ) × (texts t n ≡ texts t i · t i · after)) → (after : List ℕ) × (texts t (suc n) ≡ texts t i · t i · after)
    by (yes e) earlier = ([], rw (e, append-nil (t n)))
    by (no e) earlier =
        let rest = earlier (omega (arith, e)) in
        (rest.0 ++ t n, rw (rest.1, append_assoc (texts t i) (t i ++ rest.0) (t n), append_assoc (t i) rest.0 (t n)))

-- a text ends with a newline
abbrev pub Ended : List ℕ → Type 0
Ended x = (before : List ℕ) × (x ≡ before ++ word "\n")

-- each ends with one or is empty, so they do behind a text that does
pub ended : (x : List ℕ) → Ended x → (t : ℕ → List ℕ) → ((i : ℕ) → (t i ≡ []) ⊎ Ended (t i)) → (n : ℕ) → Ended (x · texts t n)
unfolding texts
ended x h t each zero = (h.0, append-nil x ∙ h.1)
ended x h t each (suc n) = by (ended x h t each n) (each n)
  where
    by : Ended (x · texts t n) → (t n ≡ []) ⊎ Ended (t n) → Ended (x · texts t n · t n)
    by g (inl e) = (g.0, rw (e, append-nil (texts t n)) g.1)
    by g (inr e) = (x ++ (texts t n ++ e.0), rw (e.1, append_assoc x (texts t n ++ e.0) (word "\n"), append_assoc (texts t n) e.0 (word "\n")))

-- a text that is ended, a line, and what comes then
pub joined : (head all front own after before line : List ℕ) → all ≡ front · own · after → head · front ≡ before ++ word "\n" → own ≡ line ++ word "\n"
    → head · all ≡ before · word "\n" · line · word "\n" · after
joined head all front own after before line a b c = rw (a, c) (sym (append_assoc head front ((line ++ word "\n") ++ after)) ∙ rw b (simp append_assoc))
