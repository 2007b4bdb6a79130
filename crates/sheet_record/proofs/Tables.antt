-- Laws of the page's table of kinds: what one computed test over all its lines shows of every kind. Assumes nothing.
use mathlib.Core.Path.{◌≡◌, refl, sym, ap, ◌∙◌}
use mathlib.Core.Bool.{Bool, true, false, ◌&&◌}
use mathlib.Core.List.{List, [], ◌∷◌}
use Prim.Native.Nat.{ℕ, zero, suc, ◌+◌, ◌≤◌, ◌<◌}
use native.Mathlib.Omega.{arith}
use borrow.Author.Tests.{leb-true, le-leb, lt-leb}
use lib.Dec.{leb}
use lib.ListN.{length, get_or, take}
use lib.Seq.{take_all}
use Rattle.sheet_record.specs.Kinds.{Field, Kind, no_kind, kinds, line_of, fields_of, widths, size_of, some, known}
use Rattle.sheet_record.specs.Widths.{width_at, Wide}

-- ---- Tests

pub both_true : (a b : Bool) → a && b ≡ true → (a ≡ true) × (b ≡ true)
both_true true b e = (refl, e)
both_true false b e = (e, cc)

-- a test holds of every line of a table
abbrev everywhere : (Kind → Bool) → List Kind → Bool
everywhere p [] = true
everywhere p (l ∷ t) = p l && everywhere p t

everywhere_at : (p : Kind → Bool) → p no_kind ≡ true → (t : List Kind) → everywhere p t ≡ true → (k : ℕ) → p (get_or t k no_kind) ≡ true
everywhere_at p none [] e k = none
everywhere_at p none (l ∷ t) e zero = (both_true (p l) (everywhere p t) e).0
everywhere_at p none (l ∷ t) e (suc k) = everywhere_at p none t (both_true (p l) (everywhere p t) e).1 k

-- and so of every kind, also of one that has no line
pub at_every_line : (p : Kind → Bool) → p no_kind ≡ true → everywhere p kinds ≡ true → (k : ℕ) → p (line_of k) ≡ true
unfolding line_of
at_every_line p none e k = everywhere_at p none kinds e k

-- a test of the fields alone
pub at_every_kind : (p : List Field → Bool) → p [] ≡ true → everywhere (λ l. p l.fields) kinds ≡ true → (k : ℕ) → p (fields_of k) ≡ true
unfolding fields_of
at_every_kind p none e k = at_every_line (λ l. p l.fields) none e k

-- a record has its kind byte at least
pub size_some : (k : ℕ) → 1 ≤ size_of k
unfolding size_of
size_some k = omega arith

-- ---- What the tests show

pub size_at_most : (k : ℕ) → size_of k ≤ 16
unfolding size_of widths kinds
size_at_most k = leb-true (1 + widths (fields_of k)) 16 (at_every_kind (λ fs. leb (1 + widths fs) 16) refl refl k)

pub fields_at_most : (k : ℕ) → length (fields_of k) ≤ 5
unfolding kinds
fields_at_most k = leb-true (length (fields_of k)) 5 (at_every_kind (λ fs. leb (length fs) 5) refl refl k)

-- every field's width is at most four bytes
abbrev narrow_line : List Field → Bool
narrow_line [] = true
narrow_line (f ∷ fs) = leb f.width 4 && narrow_line fs

narrow_at : (fs : List Field) → narrow_line fs ≡ true → (j : ℕ) → width_at fs j ≤ 4
unfolding width_at
narrow_at [] e j = omega arith
narrow_at (f ∷ fs) e zero = leb-true f.width 4 (both_true (leb f.width 4) (narrow_line fs) e).0
narrow_at (f ∷ fs) e (suc j) = narrow_at fs (both_true (leb f.width 4) (narrow_line fs) e).1 j

pub width_at_most : (k j : ℕ) → width_at (fields_of k) j ≤ 4
unfolding kinds
width_at_most k j = narrow_at (fields_of k) (at_every_kind narrow_line refl refl k) j

-- ---- Kinds

-- the known kinds are 1..10
pub known_within : (k : ℕ) → (leb 1 k && leb k 10) ≡ known k
unfolding known fields_of line_of kinds
known_within zero = refl
known_within (suc zero) = refl
known_within (suc (suc zero)) = refl
known_within (suc (suc (suc zero))) = refl
known_within (suc (suc (suc (suc zero)))) = refl
known_within (suc (suc (suc (suc (suc zero))))) = refl
known_within (suc (suc (suc (suc (suc (suc zero)))))) = refl
known_within (suc (suc (suc (suc (suc (suc (suc zero))))))) = refl
known_within (suc (suc (suc (suc (suc (suc (suc (suc zero)))))))) = refl
known_within (suc (suc (suc (suc (suc (suc (suc (suc (suc zero))))))))) = refl
known_within (suc (suc (suc (suc (suc (suc (suc (suc (suc (suc zero)))))))))) = refl
known_within (suc (suc (suc (suc (suc (suc (suc (suc (suc (suc (suc n))))))))))) = beyond (suc (suc (suc (suc (suc (suc (suc (suc (suc (suc (suc n))))))))))) (omega arith)
  where
    beyond : (k : ℕ) → 10 < k → (leb 1 k && leb k 10) ≡ false
    beyond k h = simp (le-leb 1 k (omega arith), lt-leb k 10 h)

pub known_bounds : (k : ℕ) → known k ≡ true → (1 ≤ k) × (k ≤ 10)
known_bounds k e =
    let b = both_true (leb 1 k) (leb k 10) (known_within k ∙ e) in
    (leb-true 1 k b.0, leb-true k 10 b.1)

pub unknown : (k : ℕ) → (1 ≤ k → k ≤ 10 → ⊥) → known k ≡ false
unknown k out = sym (known_within k) ∙ outside (leb 1 k) refl (leb k 10) refl
  where
    outside : (a : Bool) → leb 1 k ≡ a → (b : Bool) → leb k 10 ≡ b → a && b ≡ false
    outside true ea true eb = absurd (out (leb-true 1 k ea) (leb-true k 10 eb))
    outside true ea false eb = refl
    outside false ea b eb = refl

-- k is none of 1..n, in the form in which the last arm of a `match` with arms for 1..n knows it
unfoldable pub NoneOf : ℕ → ℕ → Type 0
NoneOf zero k = Unit {0}
NoneOf (suc n) k = NoneOf n k × (k ≡ suc n → ⊥)

-- so it is past that range, or 0
pub past_all : (n k : ℕ) → NoneOf n k → 1 ≤ k → n < k
unfolding NoneOf
past_all zero k none lo = lo
past_all (suc n) k none lo = omega (arith, past_all n k none.0 lo, none.1)

pub none_of : (n k : ℕ) → NoneOf n k → 1 ≤ k → k ≤ n → ⊥
none_of n k none lo hi = omega (arith, past_all n k none lo)

some_false : (fs : List Field) → some fs ≡ false → fs ≡ []
some_false [] e = refl
some_false (f ∷ fs) e = cc

-- a kind that is not known has no field
pub no_fields : (k : ℕ) → known k ≡ false → fields_of k ≡ []
unfolding known
no_fields k e = some_false (fields_of k) e

-- ---- Widths

-- the widths of a known kind's fields
pub wide : (k : ℕ) → known k ≡ true → Wide k (width_at (fields_of k) 0) (width_at (fields_of k) 1) (width_at (fields_of k) 2) (width_at (fields_of k) 3) (width_at (fields_of k) 4)
wide k e =
    record {
      is_known = e;
      a = refl;
      b = refl;
      c = refl;
      d = refl;
      e = refl;
      a_at_most = width_at_most k 0;
      b_at_most = width_at_most k 1;
      c_at_most = width_at_most k 2;
      d_at_most = width_at_most k 3;
      e_at_most = width_at_most k 4;
    }

-- one field more
pub widths_more : (fs : List Field) (j : ℕ) → widths (take (suc j) fs) ≡ widths (take j fs) + width_at fs j
unfolding widths width_at
widths_more [] zero = refl
widths_more [] (suc j) = refl
widths_more (f ∷ fs) zero = omega arith
widths_more (f ∷ fs) (suc j) = omega (arith, widths_more fs j)

-- how far field b, c, d, e and the end stand from field a
pub record Steps (fs : List Field) (wa wb wc wd we : ℕ) : Type 0 where
  pub to_b : widths (take 1 fs) ≡ wa
  pub to_c : widths (take 2 fs) ≡ wa + wb
  pub to_d : widths (take 3 fs) ≡ wa + wb + wc
  pub to_e : widths (take 4 fs) ≡ wa + wb + wc + wd
  pub to_end : widths fs ≡ wa + wb + wc + wd + we

pub steps : (k wa wb wc wd we : ℕ) → Wide k wa wb wc wd we → Steps (fields_of k) wa wb wc wd we
unfolding widths
steps k wa wb wc wd we w =
    let fs = fields_of k in
    let b = widths_more fs 0 in
    let c = widths_more fs 1 in
    let d = widths_more fs 2 in
    let e = widths_more fs 3 in
    let f = widths_more fs 4 in
    let all : widths (take 5 fs) ≡ widths fs = ap widths (take_all 5 fs (fields_at_most k)) in
    record {
      to_b = omega (arith, w.a);
      to_c = omega (arith, w.a, w.b);
      to_d = omega (arith, w.a, w.b, w.c);
      to_e = omega (arith, w.a, w.b, w.c, w.d);
      to_end = omega (arith, w.a, w.b, w.c, w.d, w.e);
    }

-- a record is its kind byte and its fields
pub size_is : (k wa wb wc wd we : ℕ) → Wide k wa wb wc wd we → size_of k ≡ 1 + wa + wb + wc + wd + we
unfolding size_of
size_is k wa wb wc wd we w = omega (arith, (steps k wa wb wc wd we w).to_end)
