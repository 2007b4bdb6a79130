-- The right side of the refined figure is a charge for each visit and a surcharge for each used one: master y is charged h(y) for each of s
-- visits, or, where it cannot use them all, 10 for each and h(y) - 10 for each that it can use. Assumes nothing.
use Prim.Native.Nat.{ℕ, ◌+◌, ◌-◌, ◌*◌, ◌≤◌, ◌<◌, min}
use mathlib.Core.Path.{◌≡◌, refl, ap, ◌∙◌, sym}
use mathlib.Core.Bool.{Bool, true, false, cond, ◌||◌}
use native.Mathlib.Nat.{mul-add}
use native.Mathlib.Omega.{arith}
use lib.Dec.{eqb, leb}
use borrow.Author.Tests.{eq-eqb, eqb-true, leb-true, leb-false}
use Rattle.common.specs.Sums.{when, upto, up}
use Rattle.common.proofs.Sums.{upto_same, upto_add, upto_scale, upto_grouped, up_covers}
use Rattle.pnet_rules.specs.Segment.{Segment, owns, count, turn_by, bound_by}
use Rattle.pnet_rules.specs.Refined.{right_by, asked_by}
use Rattle.pnet_rules.proofs.Right.{charge}
use Rattle.pnet_rules.proofs.Figures.{right_is_sum_by, asked_rises}
use Rattle.pnet_run.proofs.Charges.{Covers, free}

-- s visits of which a can be used: all of them in full, or 10 for each and H - 10 for each used one
either_way : (H s a : ℕ) → 10 ≤ H → (own all : Bool) → leb s a ≡ all
    → s * cond (own || all) H 10 + a * cond (own || all) 0 (H - 10) ≡ cond own (s * H) (10 * s + min s a * (H - 10))
either_way H s a big true all e = omega arith
either_way H s a big false true e =
    let l : s ≤ a = leb-true s a e in
    let m : min s a * (H - 10) ≡ s * (H - 10) = ap (λ (x : ℕ). x * (H - 10)) (omega arith) in
    let w : s * (10 + (H - 10)) ≡ s * H = ap (λ (x : ℕ). s * x) (omega arith) in
    omega (arith, m, w, mul-add s 10 (H - 10))
either_way H s a big false false e =
    let l : a < s = leb-false s a e in
    let m : min s a * (H - 10) ≡ a * (H - 10) = ap (λ (x : ℕ). x * (H - 10)) (omega arith) in
    omega (arith, m)

module _ (h : ℕ → ℕ) (S : Segment) (W : ℕ) where
  -- the window of stream i, if it is a stream of master y: W, what a request may have waited before, and the jitter
  abbrev span : ℕ → ℕ → ℕ
  span y i = W + bound_by h S y + (S.stream i).jitter

  -- how often stream i can be answered in a window of W
  unfoldable pub requests : ℕ → ℕ
  requests i = up (span (S.stream i).master i) (S.stream i).spacing

  pub requests_cover : (i : ℕ) → 1 ≤ (S.stream i).spacing
      → W + bound_by h S (S.stream i).master + (S.stream i).jitter ≤ requests i * (S.stream i).spacing
  unfolding requests
  requests_cover i some = up_covers (span (S.stream i).master i) (S.stream i).spacing some

  -- the sum over master y's streams is the count a(y)
  requests_asked : (y : ℕ) → upto (λ i. when (eqb (S.stream i).master y) (requests i)) S.number ≡ asked_by h S y W
  unfolding requests asked_by owns
  requests_asked y =
      upto_same (λ i. when (eqb (S.stream i).master y) (requests i)) (λ i. when (eqb (S.stream i).master y) (up (span y i) (S.stream i).spacing))
      S.number (λ i lo hi. own i (eqb (S.stream i).master y) refl)
    where
      own : (i : ℕ) (b : Bool) → eqb (S.stream i).master y ≡ b
          → when b (up (span (S.stream i).master i) (S.stream i).spacing) ≡ when b (up (span y i) (S.stream i).spacing)
      own i true e = ap (λ (m : ℕ). up (span m i) (S.stream i).spacing) (eqb-true (S.stream i).master y e)
      own i false e = refl

  module _ (k : ℕ) where
    -- master y is charged in full: it is k, or can use every one of k's s visits
    unfoldable pub full : ℕ → Bool
    full y = eqb y k || leb (count S k) (asked_by h S y W)

    -- the charge for each visit
    unfoldable pub share : ℕ → ℕ
    unfolding full
    share y = cond (full y) (h y) 10

    -- the surcharge for each used one
    unfoldable pub extra : ℕ → ℕ
    unfolding full
    extra y = cond (full y) 0 (h y - 10)

    pub share_own : share k ≡ h k
    unfolding share
    share_own = rw (eq-eqb k k refl)

    -- together they are at least h, whatever is charged in full
    pub shares_cover : Covers h free S → Covers share extra S
    unfolding share extra
    shares_cover c = record {
      unused = λ y lo hi. least y (full y) (c.unused y lo hi);
      used = λ y i b. both y (full y) (c.used y i b);
    }
      where
        least : (y : ℕ) (b : Bool) → 10 ≤ h y → 10 ≤ cond b (h y) 10
        least y true l = l
        least y false l = omega arith

        both : {x : ℕ} (y : ℕ) (b : Bool) → x ≤ h y + 0 → x ≤ cond b (h y) 10 + cond b 0 (h y - 10)
        both y true l = l
        both y false l = omega arith

    -- master y's part of the right side
    term : (y : ℕ) → 10 ≤ h y → count S k * share y + asked_by h S y W * extra y ≡ charge h (count S k) k (asked_by h S y W) y
    unfolding share extra charge
    term y big = either_way (h y) (count S k) (asked_by h S y W) big (eqb y k) (leb (count S k) (asked_by h S y W)) refl

    pub shares_are_the_right_side : ((y : ℕ) → 1 ≤ y → y ≤ S.masters → 10 ≤ h y) → 1 ≤ k → k ≤ S.masters
        → ((i : ℕ) → 1 ≤ i → i ≤ S.number → (1 ≤ (S.stream i).master) × ((S.stream i).master ≤ S.masters))
        → bound_by share S k + upto (λ i. requests i * extra (S.stream i).master) S.number ≡ right_by h (asked_by h S) S k W
    unfolding bound_by turn_by
    shares_are_the_right_side big lo hi ring =
        omega (arith, by_visit, by_use, sums, right_is_sum_by h (asked_by h S) S k big (asked_rises h S) lo hi W)
      where
        by_visit : count S k * upto share S.masters ≡ upto (λ y. count S k * share y) S.masters
        by_visit = upto_scale (count S k) share S.masters

        -- the surcharges, stream by stream, are grouped by master
        by_use : upto (λ i. requests i * extra (S.stream i).master) S.number ≡ upto (λ y. asked_by h S y W * extra y) S.masters
        by_use =
            upto_grouped requests extra (λ i. (S.stream i).master) S.masters S.number ring
            ∙ upto_same (λ y. upto (λ i. when (eqb (S.stream i).master y) (requests i)) S.number * extra y) (λ y. asked_by h S y W * extra y) S.masters
            (λ y a b. ap (λ (x : ℕ). x * extra y) (requests_asked y))

        sums : upto (λ y. count S k * share y) S.masters + upto (λ y. asked_by h S y W * extra y) S.masters
            ≡ upto (λ y. charge h (count S k) k (asked_by h S y W) y) S.masters
        sums =
            sym (upto_add (λ y. count S k * share y) (λ y. asked_by h S y W * extra y) S.masters)
            ∙ upto_same (λ y. count S k * share y + asked_by h S y W * extra y) (λ y. charge h (count S k) k (asked_by h S y W) y) S.masters (λ y a b. term y (big y a b))
