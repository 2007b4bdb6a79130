-- Laws of big-endian numbers, over the width, and of bytes that are put at a place. Assumes nothing.
use mathlib.Core.Path.{◌≡◌, refl, sym, ap, ◌∙◌}
use mathlib.Core.List.{List, [], ◌∷◌, ◌++◌, append_assoc}
use Prim.Native.Nat.{ℕ, zero, suc, ◌+◌, ◌*◌, ◌/◌, ◌%◌, ◌^◌, ◌≤◌, ◌<◌}
use native.Mathlib.Nat.{div-add-mod', add-zero, div-lt_iff_lt-mul, pow-suc, pow-le-pow_right}
use native.Mathlib.Numerals.{add-one}
use native.Mathlib.Omega.{arith}
use lib.ListN.{length, get_or, take, drop, set, length-append, length-set, length-drop, take-append-drop}
use lib.Dec.{lit<}
use lib.Seq.{take-suc, get_or-drop, set_split, length-take-le, take_at, drop_at, drop-drop, get_or-append-add, get_or_at, take-set-le, drop-cons, get_or-set_same, drop-set-lt}
use Rattle.sheet_record.specs.Numbers.{be, digits, pasted}

-- w bytes hold w digits
pub length_digits : (w v : ℕ) → length (digits w v) ≡ w
unfolding digits
length_digits zero v = refl
length_digits (suc w) v = simp (length-append, length_digits w (v / 256)) (add-one w)

-- one more byte: the code's i + 1
pub be_more : (s : List ℕ) (at w : ℕ) → be s at (w + 1) ≡ be s at w * 256 + get_or s (at + w) 0
unfolding be
be_more s at w = rw add-one refl

pub digits_more : (w v : ℕ) → digits (w + 1) v ≡ digits w (v / 256) ++ (v % 256 ∷ [])
unfolding digits
digits_more w v = rw add-one refl

-- a number of w bytes is below 256 to the w
pub step_below : (i x b : ℕ) → x < 256 ^ i → b < 256 → x * 256 + b < 256 ^ (i + 1)
step_below i x b hx hb = rw (add-one, pow-suc) (omega arith)

pub be_below : (s : List ℕ) (at w : ℕ) → ((i : ℕ) → get_or s i 0 < 256) → be s at w < 256 ^ w
unfolding be
be_below s at zero bytes = omega arith
be_below s at (suc w) bytes = rw (← add-one w) (step_below w (be s at w) (get_or s (at + w) 0) (be_below s at w bytes) (bytes (at + w)))

pub four_at_most : (i : ℕ) → i < 4 → 256 ^ i ≤ 16777216
four_at_most i h = let g : i ≤ 3 = omega arith in pow-le-pow_right {n = 256} (lit< tt) g

-- what is written reads back, wherever it stands
pub be_digits : (w v : ℕ) (p q : List ℕ) → v < 256 ^ w → be (p ++ (digits w v ++ q)) (length p) w ≡ v
unfolding be digits
be_digits zero v p q h = omega arith
be_digits (suc w) v p q h =
    let h' : v / 256 < 256 ^ w = (div-lt_iff_lt-mul (lit< tt)).1 (rw pow-suc at h) in
    let s : digits (suc w) v ++ q ≡ digits w (v / 256) ++ (v % 256 ∷ q) = simp append_assoc in
    ap (λ (x : List ℕ). be (p ++ x) (length p) (suc w)) s ∙ simp (be_digits w (v / 256) p (v % 256 ∷ q) h', get_or-append-add, get_or_at (digits w (v / 256)) (v % 256) q 0 w (length_digits w (v / 256)))
    (div-add-mod' v 256)

-- a number is read off its own bytes only
pub be_same : (s t : List ℕ) (at w : ℕ) → ((i : ℕ) → at ≤ i → i < at + w → get_or s i 0 ≡ get_or t i 0) → be s at w ≡ be t at w
unfolding be
be_same s t at zero same = refl
be_same s t at (suc w) same =
    let a = be_same s t at w (λ i lo hi. same i lo (omega arith)) in
    let b = same (at + w) (omega arith) (omega arith) in
    omega arith

-- and its digits are those bytes
pub digits_be : (s : List ℕ) (at w : ℕ) → ((i : ℕ) → get_or s i 0 < 256) → at + w ≤ length s → digits w (be s at w) ≡ take w (drop at s)
unfolding be digits
digits_be s at zero bytes h = refl
digits_be s at (suc w) bytes h =
    let x = be s at w in
    let y = get_or s (at + w) 0 in
    let b = bytes (at + w) in
    let q : (x * 256 + y) / 256 ≡ x = omega arith in
    let m : (x * 256 + y) % 256 ≡ y = omega arith in
    let l : w < length (drop at s) = rw length-drop (omega arith) in
    rw (q, m, take-suc (drop at s) w 0 l, get_or-drop at s w 0) (ap (λ (t : List ℕ). t ++ (y ∷ [])) (digits_be s at w bytes (omega arith)))

-- one store of a written number: what is left to write takes the store up
pub put_step : (l : List ℕ) (at j x : ℕ) → at + j < length l →
    take at (set l (at + j) (x % 256)) ++ (digits j (x / 256) ++ drop (at + j) (set l (at + j) (x % 256)))
    ≡ take at l ++ (digits (j + 1) x ++ drop (at + (j + 1)) l)
put_step l at j x h =
    let l' = set l (at + j) (x % 256) in
    let h' : at + j < length l' = rw length-set h in
    let a : at ≤ at + j = omega arith in
    let b : at + j < suc (at + j) = omega arith in
    let e : at + (j + 1) ≡ suc (at + j) = omega arith in
    rw (take-set-le at l (at + j) (x % 256), drop-cons l' (at + j) 0 h', get_or-set_same l (at + j) (x % 256) 0 h, drop-set-lt (suc (at + j)) l (at + j), digits_more, append_assoc, e)

-- nothing left to write
pub put_done : (l : List ℕ) (at x : ℕ) → take at l ++ (digits 0 x ++ drop (at + 0) l) ≡ l
unfolding digits
put_done l at x = rw add-zero (take-append-drop at l)

-- ---- a run of bytes put at a place

module _ (l : List ℕ) (at : ℕ) where
  pub paste_one : (v : ℕ) → at < length l → set l at v ≡ pasted l at (v ∷ [])
  paste_one v h = rw (set_split l at v h, add-one)

  module _ (p : List ℕ) (fits : at + length p ≤ length l) where
    -- the bytes before and the bytes put
    pub pasted_front : pasted l at p ≡ (take at l ++ p) ++ drop (at + length p) l
    pasted_front = sym (append_assoc (take at l) p (drop (at + length p) l))

    length_front' : length (take at l ++ p) ≡ at + length p
    length_front' =
        let a : at ≤ length l = omega arith in
        simp (length-append, length-take-le at l a)

    pub length_pasted : length (pasted l at p) ≡ length l
    length_pasted = rw (pasted_front, length-append, length_front', length-drop) (omega arith)

    -- a second run right behind the first is one run
    pub paste_paste : (q : List ℕ) → pasted (pasted l at p) (at + length p) q ≡ pasted l at (p ++ q)
    paste_paste q =
        let n = at + length p in
        let e₁ : take n (pasted l at p) ≡ take at l ++ p =
        ap (take n) pasted_front ∙ take_at (take at l ++ p) (drop n l) n length_front' in
        let e₂ : drop (n + length q) (pasted l at p) ≡ drop (n + length q) l =
        sym (drop-drop (length q) n (pasted l at p)) ∙ ap (drop (length q)) (ap (drop n) pasted_front ∙ drop_at (take at l ++ p) (drop n l) n length_front')
        ∙ drop-drop (length q) n l in
        let e₃ : at + length (p ++ q) ≡ n + length q = omega (arith, length-append p q) in
        rw (e₁, e₂, e₃) (simp append_assoc)

-- the same, as code has it: what was put so far, and where the next run goes
pub paste_next : {l' : List ℕ} (l : List ℕ) (at : ℕ) (p q : List ℕ) (n : ℕ) → l' ≡ pasted l at p → n ≡ at + length p → at + length p ≤ length l →
    pasted l' n q ≡ pasted l at (p ++ q)
paste_next l at p q n e m h = rw (e, m) (paste_paste l at p h q)
