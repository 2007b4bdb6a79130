-- Page 01, 'P-NET bounds', the refined figure: the right side, with its minus, is a sum of terms that never fall as W grows, so the
-- search ends soon and at the least solution. For any charge h(y) of at least 10, any count a(y) that never falls, and any s.
-- Assumes nothing.
use mathlib.Core.Path.{◌≡◌, refl, ap, ◌∙◌, subst}
use mathlib.Core.Bool.{Bool, true, false, cond}
use Prim.Native.Nat.{ℕ, suc, ◌+◌, ◌-◌, ◌*◌, ◌≤◌, ◌<◌, min, zero-le}
use native.Mathlib.Nat.{mul-le-mul, suc-mul}
use native.Mathlib.Omega.{arith}
use lib.Dec.{eqb}
use Rattle.common.specs.Sums.{when, upto}
use Rattle.common.proofs.Sums.{upto_mono, upto_same, upto_terms, upto_most, upto_add, upto_scale, upto_only}
use Rattle.pnet_rules.specs.Search.{value_from, rounds_from, Settles}
use Rattle.pnet_rules.specs.Refined.{saving}
use Rattle.pnet_rules.proofs.Sequence.{Least, still_least, value_at_most, moves_at_most, rounds_settle, rounds_at_most}

-- the page's right side for a master k with s streams, among N masters
unfoldable pub right_of : (ℕ → ℕ) → (ℕ → ℕ → ℕ) → ℕ → ℕ → ℕ → ℕ → ℕ
unfolding upto saving
right_of h a N s k w = s * upto h N - upto (λ y. saving h s k (a y w) y) N

-- what is left of s·h(y): all of it at k itself, else 10·s and min(s, a(y))·(h(y) - 10)
unfoldable pub charge : (ℕ → ℕ) → ℕ → ℕ → ℕ → ℕ → ℕ
charge h s k n y = cond (eqb y k) (s * h y) (10 * s + min s n * (h y - 10))

-- the visits to y, other than k, that are not saved
unfoldable pub visit : ℕ → ℕ → ℕ → ℕ → ℕ
visit s k n y = cond (eqb y k) 0 (min s n)

-- ---- One master's term

-- s·H less (s - m)·(H - 10) is 10·s + m·(H - 10)
term : (q m d : ℕ) → (q + m) * (d + 10) ≡ q * d + (10 * (q + m) + m * d)
term q m d = omega arith

term_is : (s m H : ℕ) → m ≤ s → 10 ≤ H → s * H ≡ (s - m) * (H - 10) + (10 * s + m * (H - 10))
term_is s m H l h =
    let a : (s - m) + m ≡ s = omega arith in
    let b : (H - 10) + 10 ≡ H = omega arith in
    subst (λ (x : ℕ). x * H ≡ (s - m) * (H - 10) + (10 * x + m * (H - 10))) a
    (subst (λ (x : ℕ). ((s - m) + m) * x ≡ (s - m) * (H - 10) + (10 * ((s - m) + m) + m * (H - 10))) b (term (s - m) m (H - 10)))

module _ (h : ℕ → ℕ) (s k y : ℕ) where
  pub saved_and_charged : (n : ℕ) → 10 ≤ h y → s * h y ≡ saving h s k n y + charge h s k n y
  unfolding saving charge
  saved_and_charged n big = split (eqb y k)
    where
      split : (b : Bool) → s * h y ≡ cond b 0 ((s - min s n) * (h y - 10)) + cond b (s * h y) (10 * s + min s n * (h y - 10))
      split true = omega arith
      split false = term_is s (min s n) (h y) (omega arith) big

  -- as many visits, as large a charge
  charge_same : (m n : ℕ) → visit s k m y ≡ visit s k n y → charge h s k m y ≡ charge h s k n y
  unfolding charge visit
  charge_same m n e = split (eqb y k) e
    where
      split : (b : Bool) → cond b 0 (min s m) ≡ cond b 0 (min s n)
          → cond b (s * h y) (10 * s + min s m * (h y - 10)) ≡ cond b (s * h y) (10 * s + min s n * (h y - 10))
      split true q = refl
      split false q = ap (λ (x : ℕ). 10 * s + x * (h y - 10)) q

-- it is never less of a larger charge and with more requests
charge_rises : (h g : ℕ → ℕ) (s k y m n : ℕ) → h y ≤ g y → m ≤ n → charge h s k m y ≤ charge g s k n y
unfolding charge
charge_rises h g s k y m n l a = split (eqb y k)
  where
    own : s * h y ≤ s * g y
    own = mul-le-mul {n₁ = s} {m₁ = h y} {n₂ = s} {m₂ = g y} (omega arith) l

    other : min s m * (h y - 10) ≤ min s n * (g y - 10)
    other = mul-le-mul {n₁ = min s m} {m₁ = h y - 10} {n₂ = min s n} {m₂ = g y - 10} (omega arith) (omega arith)

    split : (b : Bool) → cond b (s * h y) (10 * s + min s m * (h y - 10)) ≤ cond b (s * g y) (10 * s + min s n * (g y - 10))
    split true = own
    split false = omega (arith, other)

visit_rises : (s k y m n : ℕ) → m ≤ n → visit s k m y ≤ visit s k n y
unfolding visit
visit_rises s k y m n l = split (eqb y k)
  where
    split : (b : Bool) → cond b 0 (min s m) ≤ cond b 0 (min s n)
    split true = omega arith
    split false = omega arith

-- a visit leaves room for the s of k's own
visit_and_own : (s k n y : ℕ) → visit s k n y + when (eqb y k) s ≤ s
unfolding visit
visit_and_own s k n y = split (eqb y k)
  where
    split : (b : Bool) → cond b 0 (min s n) + when b s ≤ s
    split true = omega arith
    split false = omega arith

-- ---- The right side

module _ (h : ℕ → ℕ) (a : ℕ → ℕ → ℕ) (N s k : ℕ) where
  -- it is at most s·V, whatever is saved
  pub right_at_most : (w : ℕ) → right_of h a N s k w ≤ s * upto h N
  unfolding right_of
  right_at_most w = omega arith

  module _ (big : (y : ℕ) → 1 ≤ y → y ≤ N → 10 ≤ h y) where
    parts : (w : ℕ) → s * upto h N ≡ upto (λ y. saving h s k (a y w) y) N + upto (λ y. charge h s k (a y w) y) N
    parts w =
        upto_scale s h N
        ∙ (upto_same (λ y. s * h y) (λ y. saving h s k (a y w) y + charge h s k (a y w) y) N (λ y lo hi. saved_and_charged h s k y (a y w) (big y lo hi))
        ∙ upto_add (λ y. saving h s k (a y w) y) (λ y. charge h s k (a y w) y) N)

    -- no more is saved than there is
    pub savings_at_most : (w : ℕ) → upto (λ y. saving h s k (a y w) y) N ≤ s * upto h N
    savings_at_most w = omega (arith, parts w)

    pub right_is_charges : (w : ℕ) → right_of h a N s k w ≡ upto (λ y. charge h s k (a y w) y) N
    unfolding right_of
    right_is_charges w = omega (arith, parts w)

-- of two charges the larger has no less a right side, where as many are asked for, or more
pub right_no_less : (h g : ℕ → ℕ) (a b : ℕ → ℕ → ℕ) (N s k v w : ℕ) → ((y : ℕ) → 1 ≤ y → y ≤ N → 10 ≤ h y) → ((y : ℕ) → 1 ≤ y → y ≤ N → h y ≤ g y)
    → ((y : ℕ) → a y v ≤ b y w) → right_of h a N s k v ≤ right_of g b N s k w
right_no_less h g a b N s k v w big less more =
    rw (right_is_charges h a N s k big v, right_is_charges g b N s k (λ y lo hi. omega (arith, big y lo hi, less y lo hi)) w)
    (upto_mono (λ y. charge h s k (a y v) y) (λ y. charge g s k (b y w) y) N (λ y lo hi. charge_rises h g s k y (a y v) (b y w) (less y lo hi) (more y)))

-- ---- The search

module _ (h : ℕ → ℕ) (a : ℕ → ℕ → ℕ) (N s k : ℕ) where
  -- the sum of the visits, at most (N - 1)·s
  visits : ℕ → ℕ
  visits w = upto (λ y. visit s k (a y w) y) N

  visits_at_most : 1 ≤ k → k ≤ N → (w : ℕ) → visits w ≤ (N - 1) * s
  unfolding visits
  visits_at_most lo hi w =
      let own : upto (λ y. when (eqb y k) s) N ≡ s = upto_only s k N lo hi in
      let all : upto (λ y. visit s k (a y w) y + when (eqb y k) s) N ≤ N * s = upto_most _ s N (λ y l u. visit_and_own s k (a y w) y) in
      let less : suc (N - 1) * s ≡ N * s = ap (λ (x : ℕ). x * s) (omega arith) in
      omega (arith, upto_add (λ y. visit s k (a y w) y) (λ y. when (eqb y k) s) N, suc-mul (N - 1) s)

  module _ (big : (y : ℕ) → 1 ≤ y → y ≤ N → 10 ≤ h y) (grows : (y v w : ℕ) → v ≤ w → a y v ≤ a y w) where
    pub right_rises : (v w : ℕ) → v ≤ w → right_of h a N s k v ≤ right_of h a N s k w
    right_rises v w l = right_no_less h h a a N s k v w big (λ y lo hi. omega arith) (λ y. grows y v w l)

    -- no value of the sequence is above s·V
    pub right_value_at_most : (m : ℕ) → value_from 0 (right_of h a N s k) m ≤ s * upto h N
    right_value_at_most m = value_at_most 0 (right_of h a N s k) right_rises zero-le (s * upto h N) (right_at_most h a N s k (s * upto h N)) zero-le m

    visits_rise : (v w : ℕ) → v ≤ w → visits v ≤ visits w
    unfolding visits
    visits_rise v w l = upto_mono (λ y. visit s k (a y v) y) (λ y. visit s k (a y w) y) N (λ y lo hi. visit_rises s k y (a y v) (a y w) (grows y v w l))

    -- the same visits, the same right side
    visits_settle : (v w : ℕ) → v ≤ w → visits v ≡ visits w → right_of h a N s k v ≡ right_of h a N s k w
    unfolding visits
    visits_settle v w l e =
        rw (right_is_charges h a N s k big v, right_is_charges h a N s k big w)
        (upto_same (λ y. charge h s k (a y v) y) (λ y. charge h s k (a y w) y) N (λ y lo hi. charge_same h s k y (a y v) (a y w) (each y lo hi)))
      where
        each : (y : ℕ) → 1 ≤ y → y ≤ N → visit s k (a y v) y ≡ visit s k (a y w) y
        each =
            upto_terms (λ y. visit s k (a y v) y) (λ y. visit s k (a y w) y) N
            (λ y lo hi. visit_rises s k y (a y v) (a y w) (grows y v w l)) e

    module _ (lo : 1 ≤ k) (hi : k ≤ N) where
      -- a search that still moves before value m has an m of at most 1 + (N - 1)·s
      pub right_moves_at_most : (m : ℕ) → ((j : ℕ) → j < m → value_from 0 (right_of h a N s k) j ≡ value_from 0 (right_of h a N s k) (suc j) → ⊥) → m ≤ 1 + (N - 1) * s
      right_moves_at_most = moves_at_most 0 (right_of h a N s k) right_rises zero-le visits visits_rise ((N - 1) * s) (visits_at_most lo hi) visits_settle

      -- the round count is the first m whose value equals the next one
      pub right_rounds : Settles 0 (right_of h a N s k) (rounds_from 0 (right_of h a N s k) (1 + (N - 1) * s))
      right_rounds = rounds_settle 0 (right_of h a N s k) right_rises zero-le visits visits_rise ((N - 1) * s) (visits_at_most lo hi) visits_settle

      pub right_rounds_at_most : rounds_from 0 (right_of h a N s k) (1 + (N - 1) * s) ≤ 1 + (N - 1) * s
      right_rounds_at_most = rounds_at_most 0 (right_of h a N s k) right_rises zero-le visits visits_rise ((N - 1) * s) (visits_at_most lo hi) visits_settle

      -- and the value there is the least solution
      pub right_least : Least (right_of h a N s k) (value_from 0 (right_of h a N s k) (rounds_from 0 (right_of h a N s k) (1 + (N - 1) * s)))
      right_least = still_least 0 (right_of h a N s k) right_rises zero-le _ right_rounds.still (λ x q. zero-le)
