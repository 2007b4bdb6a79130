-- How often one stream asks in so many slots, and at which slot it asks once more. Pure numbers; g is `beyond_once`. Assumes nothing.
use mathlib.Core.Path.{◌≡◌, ap, ◌∙◌}
use Prim.Native.Nat.{ℕ, suc, ◌+◌, ◌-◌, ◌*◌, ◌/◌, ◌%◌, ◌≤◌, ◌<◌}
use native.Mathlib.Nat.{mul_comm, mul-le-mul_left, mul-le-mul_right, mul-add, mul-zero, suc-mul, div-add-mod, le-div_iff_mul-le}
use native.Mathlib.Decide.{dec_le}
use native.Mathlib.Numerals.{add-one}
use native.Mathlib.Omega.{arith}
use Rattle.common.specs.Sums.{up}
use Rattle.common.proofs.Sums.{up_at_most, up_rises}
use Rattle.pnet_urgent_table.specs.Table.{beyond_once}
use Rattle.pnet_urgent_table.specs.Tally.{Asking}

-- ---- The count

module _ (V' T J : ℕ) where
  -- it never falls
  pub rises : (m n : ℕ) → m ≤ n → beyond_once V' T J m ≤ beyond_once V' T J n
  unfolding beyond_once
  rises m n h =
      let a : V' * m ≤ V' * n = mul-le-mul_left V' h in
      omega (arith, up_rises (V' * m + J) (V' * n + J) T (omega arith))

  -- and is the same between two slots at which it is
  pub level : (a n p : ℕ) → a ≤ n → n ≤ p → beyond_once V' T J p ≡ beyond_once V' T J a → beyond_once V' T J n ≡ beyond_once V' T J p
  level a n p l h e = omega (arith, rises a n l, rises n p h)

  module _ (some : 0 < T) where
    pub at_most : (n c : ℕ) → V' * n + J ≤ (c + 1) * T → beyond_once V' T J n ≤ c
    unfolding beyond_once
    at_most n c h = omega (arith, up_at_most (V' * n + J) T (c + 1) some h)

    pub at_least : (n c : ℕ) → c * T < V' * n + J → c ≤ beyond_once V' T J n
    unfolding beyond_once up
    at_least n c h =
        let l : suc c * T ≤ V' * n + J + (T - 1) = omega (arith, suc-mul c T) in
        let q : suc c ≤ (V' * n + J + (T - 1)) / T = (le-div_iff_mul-le some).1 l in
        omega arith

  -- a stream that asks at most once in a slot
  pub no_more_than_slots : V' < T → J < T → (n : ℕ) → beyond_once V' T J n ≤ n
  no_more_than_slots slow less n =
      let a : V' * n ≤ T * n = mul-le-mul_right n (omega arith) in
      at_most (omega arith) n n (omega (arith, suc-mul n T, mul_comm n T, ap (λ (m : ℕ). m * T) (add-one n)))

-- ---- From one release to the next, T later: from slot p with the rest e to slot q with the rest f

-- T has a whole slot or more, and not too many
pub slots_some : (V' T : ℕ) → 48 ≤ V' → V' < T → 1 ≤ T / V'
slots_some V' T long slow = (le-div_iff_mul-le {k = V'} (omega arith)).1 (omega arith)

pub slots_few : (V' T : ℕ) → 48 ≤ V' → T ≤ 1000000000 → T / V' ≤ 20833333
slots_few V' T long most =
    let a : 48 * (T / V') ≤ V' * (T / V') = mul-le-mul_right (T / V') long in
    omega (arith, div-add-mod T V')

-- that many whole slots later, before a whole slot of the rest is carried
pub later : (V' T p e : ℕ) → V' * (p + T / V') + (e + T % V') ≡ V' * p + e + T
later V' T p e = omega (arith, mul-add V' p (T / V'), div-add-mod T V')

-- and after
pub carried : (V' p e x : ℕ) → V' ≤ e → V' * p + e ≡ x → V' * (p + 1) + (e - V') ≡ x
carried V' p e x l h = omega (arith, mul-add V' p 1)

module _ (V' T p e q f : ℕ) (slow : V' < T) (step : V' * q + f ≡ V' * p + e + T) where
  -- that is a later slot
  pub further : f < V' → p < q
  further small = by (dec_le q p)
    where
      by : Dec (q ≤ p) → p < q
      by (yes h) =
          let a : V' * q ≤ V' * p = mul-le-mul_left V' h in
          absurd (omega arith)
      by (no h) = omega (arith, h)

  module _ (J : ℕ) (short : e < V') (asks : V' * p + e + J ≡ (beyond_once V' T J p + 1) * T) where
    again : V' * q + f + J ≡ (beyond_once V' T J p + 1 + 1) * T
    again =
        let c = beyond_once V' T J p + 1 in
        omega (arith, suc-mul c T, ap (λ (m : ℕ). m * T) (add-one c))

    -- behind slot p the stream has asked once more, and up to slot q no more than that
    pub between : (n : ℕ) → p < n → n ≤ q → beyond_once V' T J n ≡ beyond_once V' T J p + 1
    between n l h =
        let a : V' * (p + 1) ≤ V' * n = mul-le-mul_left V' (omega arith) in
        let b : V' * n ≤ V' * q = mul-le-mul_left V' h in
        let lo = at_least V' T J (omega arith) n (beyond_once V' T J p + 1) (omega (arith, mul-add V' p 1)) in
        let hi = at_most V' T J (omega arith) n (beyond_once V' T J p + 1) (omega (arith, again)) in
        omega arith

    pub asks_again : p < q → V' * q + f + J ≡ (beyond_once V' T J q + 1) * T
    asks_again on = again ∙ ap (λ (m : ℕ). (m + 1) * T) (omega (arith, between q on (omega arith)))

-- ---- The first release

module _ (V' T J : ℕ) (less : J < T) where
  -- until T - J has passed it asks no more than once
  first_none : (n : ℕ) → V' * n ≤ T - J → beyond_once V' T J n ≡ 0
  first_none n h = omega (arith, at_most V' T J (omega arith) n 0 (omega arith))

  pub first : 48 ≤ V' → T ≤ 1000000000 → (next rest : ℕ) → rest < V' → V' * next + rest + J ≡ T → Asking V' T J 0 next rest
  first long most next rest small at-T =
      let a : 48 * next ≤ V' * next = mul-le-mul_right next long in
      let z = first_none next (omega arith) in
      record {
        from = omega arith;
        to = omega arith;
        rest_to = small;
        asks = omega (arith, ap (λ (m : ℕ). (m + 1) * T) z);
        still = omega (arith, z, first_none 0 (omega (arith, mul-zero V')));
      }
