-- Laws of a text that is stored in a run, as far as the run goes: one behind another is one text, and what a loop stores is one text.
-- Assumes nothing.
use mathlib.Core.Path.{◌≡◌, refl, sym, ap, ◌∙◌}
use mathlib.Core.List.{List, [], ◌∷◌, ◌++◌, append_assoc}
use Prim.Native.Nat.{ℕ, zero, suc, ◌+◌, ◌-◌, ◌≤◌, ◌<◌, min}
use native.Mathlib.Nat.{add-zero, zero-add, add-suc, suc-add}
use native.Mathlib.Numerals.{add-one}
use native.Mathlib.Omega.{arith}
use native.Mathlib.Decide.{dec_lt, dec_le}
use lib.ListN.{length, take, drop, set, length-append, take-append-drop}
use lib.Seq.{sets, sets-eq, length-sets, set_comm, set_out, take-length, length-take-le}
use Rattle.text.specs.Text.{decimal, counted, texts, behind, Wrote}

-- ---- Stores of a text

-- p, and q right behind it
pub sets_then : (p q l : List ℕ) (at : ℕ) → sets l at (p ++ q) ≡ sets (sets l at p) (at + length p) q
sets_then [] q l at = ap (λ (k : ℕ). sets l k q) (sym (add-zero at))
sets_then (a ∷ p) q l at =
    sets_then p q (set l at a) (suc at)
    ∙ ap (λ (k : ℕ). sets (sets (set l at a) (suc at) p) k q) (suc-add at (length p) ∙ sym (add-suc at (length p)))

-- one byte more
pub sets_more : (p l : List ℕ) (at v : ℕ) → set (sets l at p) (at + length p) v ≡ sets l at (p ++ (v ∷ []))
sets_more p l at v = sym (sets_then p (v ∷ []) l at)

-- a byte behind the text may be stored first
pub sets_after : (p l : List ℕ) (at i v : ℕ) → at + length p ≤ i → sets (set l i v) at p ≡ set (sets l at p) i v
sets_after [] l at i v h = refl
sets_after (a ∷ p) l at i v h =
    let h' : suc at + length p ≤ i = omega arith in
    ap (λ (x : List ℕ). sets x (suc at) p) (set_comm l i at v a (λ e. omega arith)) ∙ sets_after p (set l at a) (suc at) i v h'

-- what lies past the run's end is left out
pub sets_out : (q l : List ℕ) (at : ℕ) → length l ≤ at → sets l at q ≡ l
sets_out [] l at h = refl
sets_out (a ∷ q) l at h = let e : set l at a ≡ l = set_out l at a h in rw e (sets_out q l (suc at) (omega arith))

-- a text of which c bytes fit
pub sets_fit : (t l : List ℕ) (at c : ℕ) → c ≡ min (length t) (length l - at) → sets l at (take c t) ≡ sets l at t
sets_fit t l at c e = split (dec_lt c (length t))
  where
    split : Dec (c < length t) → sets l at (take c t) ≡ sets l at t
    split (no h) = let w : c ≡ length t = omega (arith, h) in ap (sets l at) (ap (λ (k : ℕ). take k t) w ∙ take-length t)
    split (yes h) =
        let p = take c t in
        let n : length p ≡ c = length-take-le c t (omega arith) in
        sym (ap (sets l at) (sym (take-append-drop c t)) ∙ (sets_then p (drop c t) l at ∙ sets_out (drop c t) (sets l at p) (at + length p) (omega (arith, length-sets l at p))))

-- ---- Texts one behind another

-- q behind p, whether p fits or not
sets_behind : (p q l : List ℕ) (at : ℕ) → sets (sets l at p) (behind (length l) at p) q ≡ sets l at (p ++ q)
unfolding behind
sets_behind p q l at = split (dec_le (length p) (length l - at))
  where
    split : Dec (length p ≤ length l - at) → sets (sets l at p) (at + min (length p) (length l - at)) q ≡ sets l at (p ++ q)
    split (yes h) =
        let e : min (length p) (length l - at) ≡ length p = omega arith in
        ap (λ (k : ℕ). sets (sets l at p) (at + k) q) e ∙ sym (sets_then p q l at)
    split (no h) =
        sets_out q (sets l at p) (at + min (length p) (length l - at)) (omega (arith, h, length-sets l at p))
        ∙ sym (sets_then p q l at ∙ sets_out q (sets l at p) (at + length p) (omega (arith, h, length-sets l at p)))

module _ {o : List ℕ} {at : ℕ} {p : List ℕ} {o' : List ℕ} {r : ℕ} (w : Wrote o at p o' r) where
  pub length_wrote : length o' ≡ length o
  length_wrote = ap length w.stored ∙ length-sets o at p

  -- q behind p is p ++ q
  pub wrote_then : {q o'' : List ℕ} {r' : ℕ} → Wrote o' r q o'' r' → Wrote o at (p ++ q) o'' r'
  unfolding behind
  wrote_then {q} {o''} {r'} v =
      record {
        stored = v.stored ∙ (ap (λ (x : List ℕ). sets x r q) w.stored ∙ (ap (λ (k : ℕ). sets (sets o at p) k q) w.ends ∙ sets_behind p q o at));
        ends = omega (arith, w.ends, v.ends, length_wrote, length-append p q);
      }

-- ---- Texts that a loop stores

-- nothing yet
pub wrote_none : {o : List ℕ} {at : ℕ} → Wrote o at [] o at
unfolding behind
wrote_none {o} {at} = record { stored = refl; ends = omega arith }

module _ (t : ℕ → List ℕ) where
  pub texts_more : (i : ℕ) → texts t (i + 1) ≡ texts t i ++ t i
  unfolding texts
  texts_more i = rw add-one refl

  module _ {o : List ℕ} {at : ℕ} {i : ℕ} {o' : List ℕ} {r : ℕ} (w : Wrote o at (texts t i) o' r) where
    -- one text more
    pub wrote_next : {o'' : List ℕ} {r' : ℕ} → Wrote o' r (t i) o'' r' → Wrote o at (texts t (i + 1)) o'' r'
    wrote_next v = rw texts_more (wrote_then w v)

    -- the loop's end
    pub wrote_all : {n : ℕ} → i ≡ n → Wrote o at (texts t n) o' r
    wrote_all e = rw (← e) w

-- ---- A number between words

-- what stands behind it
pub counted_then : (before : List ℕ) (n : ℕ) (after t : List ℕ) → before ++ (decimal n ++ (after ++ t)) ≡ counted before n after ++ t
unfolding counted
counted_then before n after t = simp append_assoc

-- texts that agree below n
pub texts_same : (t u : ℕ → List ℕ) (n : ℕ) → ((i : ℕ) → i < n → t i ≡ u i) → texts t n ≡ texts u n
unfolding texts
texts_same t u zero e = refl
texts_same t u (suc n) e = rw (texts_same t u n (λ i h. e i (omega arith)), e n (omega arith))

-- what is stored from the start of a run lies within it
pub wrote_inside : {o t o' : List ℕ} {r : ℕ} → Wrote o 0 t o' r → r ≤ length o'
unfolding behind
wrote_inside {o} {t} {o'} {r} w = omega (arith, w.ends, length_wrote w)

-- a text at the start of a run that holds it: the text, and behind it what stood there
pub wrote_front : {o t o' : List ℕ} {r : ℕ} → Wrote o 0 t o' r → length t ≤ length o → (r ≡ length t) × (o' ≡ t ++ drop (length t) o)
unfolding behind
wrote_front {o} {t} {o'} {r} w h = (
  omega (arith, w.ends),
  w.stored ∙ (sets-eq t o 0 (omega arith) ∙ ap (λ (k : ℕ). t ++ drop k o) (zero-add (length t))),
)
