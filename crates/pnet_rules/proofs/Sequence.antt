-- Pages 01 and 02: a sequence that starts at z and puts a right side for its unknown again and again rises, and where it first stands still is the
-- least solution. For any right side that never falls, and is not below z at z. Assumes nothing.
use mathlib.Core.Path.{◌≡◌, refl, sym, ap, ◌∙◌}
use mathlib.Core.Logic.{◌⊎◌, inl, inr}
use mathlib.Core.Bool.{Bool, true, false}
use Prim.Native.Nat.{ℕ, zero, suc, ◌+◌, ◌≤◌, ◌<◌, zero-le}
use native.Mathlib.Decide.{ℕ_discrete}
use native.Mathlib.Numerals.{add-one}
use native.Mathlib.Omega.{arith}
use borrow.Author.Count.{below_more}
use borrow.Author.Tests.{eq-eqb, eqb-true, eqb-false}
use Rattle.common.specs.Sums.{first_of}
use Rattle.common.proofs.Firsts.{First, first_is, first_hit}
use Rattle.pnet_rules.specs.Search.{value_from, stands, rounds_from, Settles}

-- w is what the right side gives for it, and nothing smaller is
pub record Least (f : ℕ → ℕ) (w : ℕ) : Type 0 where
  pub solves : w ≡ f w
  pub least : (x : ℕ) → x ≡ f x → w ≤ x

-- two answers of one test
differ : true ≡ false → ⊥
differ e = let z : ◌≡◌ {A = ℕ} 0 1 = cc in omega arith

-- a search on its way: w is value m, and no value before it equals the next one
pub record Moving (z : ℕ) (f : ℕ → ℕ) (m w : ℕ) : Type 0 where
  pub value : w ≡ value_from z f m
  pub moved : (j : ℕ) → j < m → value_from z f j ≡ value_from z f (suc j) → ⊥

module _ (z : ℕ) (f : ℕ → ℕ) where
  -- a test is read as the fact that it tests
  still_if : (m : ℕ) → stands z f m ≡ true → value_from z f m ≡ value_from z f (suc m)
  unfolding stands
  still_if m e = eqb-true (value_from z f m) (value_from z f (suc m)) e

  moves_if : (m : ℕ) → stands z f m ≡ false → value_from z f m ≡ value_from z f (suc m) → ⊥
  unfolding stands
  moves_if m e = eqb-false (value_from z f m) (value_from z f (suc m)) e

  -- where the right side is z at z, value 0 stands
  pub still_at_once : f z ≡ z → (most : ℕ) → rounds_from z f (1 + most) ≡ 0
  unfolding rounds_from stands value_from
  still_at_once e most = first_hit (stands z f) 0 0 (1 + most) (λ j lo hi. absurd (omega arith)) (eq-eqb z (f z) (sym e)) (omega arith)

  pub moving_none : Moving z f 0 z
  unfolding value_from
  moving_none = record { value = refl; moved = λ j l. absurd (omega arith) }

  module _ (m w x : ℕ) (on : Moving z f m w) (next : x ≡ f w) where
    after : x ≡ value_from z f (suc m)
    unfolding value_from
    after = next ∙ ap f on.value

    pub moving_more : (x ≡ w → ⊥) → Moving z f (m + 1) x
    moving_more go =
        record {
          value = after ∙ ap (value_from z f) (sym (add-one m));
          moved = below_more (λ j. value_from z f j ≡ value_from z f (suc j) → ⊥) m on.moved (λ e. go (after ∙ (sym e ∙ sym on.value)));
        }

    pub moving_ends : x ≡ w → Settles z f m
    moving_ends e = record { still = sym on.value ∙ (sym e ∙ after); first = on.moved }

  -- a first m whose value equals the next one is the round count
  pub settles_is_rounds : (m most : ℕ) → Settles z f m → m ≤ most → m ≡ rounds_from z f most
  unfolding rounds_from
  settles_is_rounds m most s l =
      let r = first_is (stands z f) most 0 in
      let a : (m < first_of (stands z f) most 0 → ⊥) = λ h. moves_if m (r.fails m zero-le h) s.still in
      let b : (first_of (stands z f) most 0 < m → ⊥) = λ h. s.first (first_of (stands z f) most 0) h (still_if (first_of (stands z f) most 0) (r.holds (omega arith))) in
      omega (arith, a, b)

module _ (z : ℕ) (f : ℕ → ℕ) (mono : (x y : ℕ) → x ≤ y → f x ≤ f y) (low : z ≤ f z) where
  pub value_rises : (m : ℕ) → value_from z f m ≤ value_from z f (suc m)
  unfolding value_from
  value_rises zero = low
  value_rises (suc m) = mono (value_from z f m) (f (value_from z f m)) (value_rises m)

  -- no value is above a number, from the start on, that the right side does not exceed
  pub value_at_most : (x : ℕ) → f x ≤ x → z ≤ x → (m : ℕ) → value_from z f m ≤ x
  unfolding value_from
  value_at_most x h from zero = from
  value_at_most x h from (suc m) = omega (arith, mono (value_from z f m) x (value_at_most x h from m))

  -- where the sequence stands still is the least solution, if none is below the start
  pub still_least : (m : ℕ) → value_from z f m ≡ value_from z f (suc m) → ((x : ℕ) → x ≡ f x → z ≤ x) → Least f (value_from z f m)
  unfolding value_from
  still_least m e from = record { solves = e; least = λ x q. value_at_most x (omega (arith, q)) (from x q) m }

  -- while the sequence moves, each value is at least one more
  pub moves_up : (m : ℕ) → ((j : ℕ) → j < m → value_from z f j ≡ value_from z f (suc j) → ⊥) → z + m ≤ value_from z f m
  unfolding value_from
  moves_up zero go = omega arith
  moves_up (suc m) go = omega (arith, moves_up m (λ j l. go j (omega arith)), value_rises m, go m (omega arith))

  -- so it stands still within the first so many values, or comes above that number
  pub settles_or_passes : (most : ℕ) → 1 ≤ z → Settles z f (rounds_from z f most) ⊎ (most < value_from z f (rounds_from z f most))
  unfolding rounds_from
  settles_or_passes most some = by (first_of (stands z f) most 0) (first_is (stands z f) most 0) (stands z f (first_of (stands z f) most 0)) refl
    where
      by : (m : ℕ) → First (stands z f) most 0 m → (b : Bool) → stands z f m ≡ b → Settles z f m ⊎ (most < value_from z f m)
      by m r true e = inl (record { still = still_if z f m e; first = λ j l. moves_if z f j (r.fails j zero-le l) })
      by m r false e =
          let end : (m < most → ⊥) = λ l. differ (sym (r.holds (omega arith)) ∙ e) in
          inr (omega (arith, end, r.to, moves_up m (λ j l. moves_if z f j (r.fails j zero-le l))))

  -- a credit that rises with W, is at most K, and settles the right side where it does not rise
  module _ (credit : ℕ → ℕ) (rise : (x y : ℕ) → x ≤ y → credit x ≤ credit y) (K : ℕ) (most : (x : ℕ) → credit x ≤ K)
      (settled : (x y : ℕ) → x ≤ y → credit x ≡ credit y → f x ≡ f y) where
    -- while the sequence moves, the credit is at least the number of the value
    credit_grows : (m : ℕ) → ((j : ℕ) → j < suc m → value_from z f j ≡ value_from z f (suc j) → ⊥) → m ≤ credit (value_from z f m)
    unfolding value_from
    credit_grows zero go = zero-le
    credit_grows (suc m) go =
        let v = value_from z f m in
        let a : m ≤ credit v = credit_grows m (λ j l. go j (omega arith)) in
        let b : credit v ≤ credit (f v) = rise v (f v) (value_rises m) in
        let c : (credit v ≡ credit (f v) → ⊥) = λ e. go (suc m) (omega arith) (settled v (f v) (value_rises m) e) in
        omega (arith, c)

    pub moves_at_most : (m : ℕ) → ((j : ℕ) → j < m → value_from z f j ≡ value_from z f (suc j) → ⊥) → m ≤ 1 + K
    moves_at_most zero go = zero-le
    moves_at_most (suc m) go = omega (arith, credit_grows m go, most (value_from z f m))

    first_settles : (m : ℕ) → First (stands z f) (1 + K) 0 m → Settles z f m
    first_settles m r = record { still = still_if z f m (holds (stands z f m) refl); first = λ j l. moves_if z f j (r.fails j zero-le l) }
      where
        -- were it to move there too, it would move too often
        holds : (b : Bool) → stands z f m ≡ b → stands z f m ≡ true
        holds true e = e
        holds false e =
            let end : (m < 1 + K → ⊥) = λ l. differ (sym (r.holds (omega arith)) ∙ e) in
            absurd (omega (arith, moves_at_most (suc m) (λ j h. moves_if z f j (all j h (ℕ_discrete j m)))))
          where
            all : (j : ℕ) → j < suc m → Dec (j ≡ m) → stands z f j ≡ false
            all j h (yes q) = ap (stands z f) q ∙ e
            all j h (no q) = r.fails j zero-le (omega (arith, q))

    -- the round count is found among 0..1 + K: the first m whose value equals the next one
    pub rounds_settle : Settles z f (rounds_from z f (1 + K))
    unfolding rounds_from
    rounds_settle = first_settles (first_of (stands z f) (1 + K) 0) (first_is (stands z f) (1 + K) 0)

    pub rounds_at_most : rounds_from z f (1 + K) ≤ 1 + K
    unfolding rounds_from
    rounds_at_most = omega (arith, (first_is (stands z f) (1 + K) 0).to)
