-- What one byte of a text adds to the bytes that it says. Assumes nothing.
use Prim.Native.Nat.{ℕ, ◌+◌, ◌*◌, ◌≤◌, ◌<◌, min}
use mathlib.Core.Path.{◌≡◌, refl, sym, ap, ◌∙◌}
use mathlib.Core.List.{List, [], ◌∷◌}
use native.Mathlib.Numerals.{add-one}
use native.Mathlib.Omega.{arith}
use borrow.Author.Tests.{lt-ltb, le-ltb}
use lib.ListN.{length, get_or, drop}
use lib.Seq.{sets, drop-cons, drop-length}
use Rattle.text_hex.specs.Hex.{value_of, said, bytes_in}

module _ (high b : ℕ) (t : List ℕ) where
  pub said_none : 16 ≤ value_of b → said high (b ∷ t) ≡ said high t
  unfolding said
  said_none v = rw (le-ltb (value_of b) 16 v) refl

  module _ (v : value_of b < 16) where
    pub said_high : 16 ≤ high → said high (b ∷ t) ≡ said (value_of b) t
    unfolding said
    said_high h = rw (lt-ltb (value_of b) 16 v, le-ltb high 16 h) refl

    pub said_byte : high < 16 → said high (b ∷ t) ≡ (high * 16 + value_of b) ∷ said 16 t
    unfolding said
    said_byte h = rw (lt-ltb (value_of b) 16 v, lt-ltb high 16 h) refl

-- ---- The bytes that are stored on the way

-- behind i bytes of the text: n are stored, and with those that the rest says, the run is what it is to be
pub record Storing (out₀ text out : List ℕ) (n high i : ℕ) : Type 0 where
  pub way : i ≤ length text
  pub long : length out ≡ length out₀
  pub inside : n ≤ length out
  pub small : high ≤ 16
  pub run : sets out n (said high (drop i text)) ≡ sets out₀ 0 (bytes_in text)
  pub count : min (n + length (said high (drop i text))) (length out₀) ≡ min (length (bytes_in text)) (length out₀)

pub storing_all : (out text : List ℕ) → Storing out text out 0 16 0
unfolding bytes_in
storing_all out text = record { way = omega arith; long = refl; inside = omega arith; small = omega arith; run = refl; count = omega arith }

module _ {out₀ text out : List ℕ} {n high i : ℕ} (s : Storing out₀ text out n high i) where
  pub storing_more : (out' : List ℕ) (n' high' : ℕ) → i < length text → length out' ≡ length out → (n' ≤ length out) × (high' ≤ 16)
      → ((t : List ℕ) → sets out' n' (said high' t) ≡ sets out n (said high (get_or text i 0 ∷ t)))
      → ((t : List ℕ) → min (n' + length (said high' t)) (length out) ≡ min (n + length (said high (get_or text i 0 ∷ t))) (length out))
      → Storing out₀ text out' n' high' (i + 1)
  storing_more out' n' high' h l b r c =
      let e : drop i text ≡ get_or text i 0 ∷ drop (i + 1) text = drop-cons text i 0 h ∙ ap (λ (k : ℕ). get_or text i 0 ∷ drop k text) (sym (add-one i)) in
      record {
        way = omega arith;
        long = l ∙ s.long;
        inside = omega (arith, b.0, l);
        small = b.1;
        run = r (drop (i + 1) text) ∙ (ap (λ (t : List ℕ). sets out n (said high t)) (sym e) ∙ s.run);
        count = omega (arith, c (drop (i + 1) text), ap (λ (t : List ℕ). length (said high t)) e, s.count, s.long);
      }

  pub storing_done : length text ≤ i → (n ≡ min (length (bytes_in text)) (length out₀)) × (out ≡ sets out₀ 0 (bytes_in text))
  unfolding said
  storing_done h =
      let w : i ≡ length text = omega (arith, s.way) in
      let e : drop i text ≡ [] = ap (λ (k : ℕ). drop k text) w ∙ drop-length text in
      (omega (arith, s.count, ap (λ (t : List ℕ). length (said high t)) e, s.inside, s.long), ap (λ (t : List ℕ). sets out n (said high t)) (sym e) ∙ s.run)
