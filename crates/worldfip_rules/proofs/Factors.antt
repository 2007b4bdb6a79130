-- The microcycle is the highest common factor of the periods, and rows times microcycle their least common multiple; so what a sheet
-- asks of its table is sound. Assumes nothing.
use mathlib.Core.Path.{◌≡◌, sym, ap, ◌∙◌, subst}
use mathlib.Core.Logic.{◌⊎◌, inl, inr}
use Prim.Native.Nat.{ℕ, zero, suc, ◌*◌, ◌/◌, ◌%◌, ◌∣◌, ◌<◌, ◌≤◌}
use native.Mathlib.Nat.{dvd_trans, dvd_refl, dvd-zero, one-dvd, mod-eq-zero_of_dvd, dvd_of_mod-eq-zero, pos_of_dvd_of_pos, div-mul_cancel, eq-zero-or-pos, zero-mul, mul-dvd-mul_right, dvd_of_mul-dvd-mul_right}
use native.Mathlib.Omega.{arith}
use native.Mathlib.Decide.{ℕ_discrete}
use borrow.Author.Tests.{lt-ltb}
use Rattle.worldfip_sets.specs.Remainder.{hcf, lcm}
use Rattle.worldfip_sets.proofs.Divides.{hcf_common, lcm_first, lcm_second, lcm_least, lcm_pos}
use Rattle.worldfip_rules.specs.Table.{Sound}
use Rattle.worldfip_rules.specs.Traffic.{Traffic, Declared, period_of, variable_of, factor_upto, multiple_upto, microcycle, in_rows, rows, period_at, asked_of}
use Rattle.worldfip_rules.proofs.Ranks.{variable_within}

-- ---- The highest common factor of f 1, .., f n

module _ (f : ℕ → ℕ) where
  factor_each : (n i : ℕ) → 1 ≤ i → i ≤ n → factor_upto f n ∣ f i
  unfolding factor_upto
  factor_each zero i lo hi = absurd (omega arith)
  factor_each (suc n) i lo hi = last (ℕ_discrete i (suc n)) (factor_each n i lo)
    where
      last : Dec (i ≡ suc n) → (i ≤ n → factor_upto f n ∣ f i) → hcf (factor_upto f n) (f (suc n)) ∣ f i
      last (yes q) ih = rw q (hcf_common (factor_upto f n) (f (suc n))).second
      last (no q) ih = dvd_trans _ (hcf_common (factor_upto f n) (f (suc n))).first (ih (omega (arith, q)))

  factor_highest : (n d : ℕ) → ((i : ℕ) → 1 ≤ i → i ≤ n → d ∣ f i) → d ∣ factor_upto f n
  unfolding factor_upto
  factor_highest zero d h = dvd-zero d
  factor_highest (suc n) d h =
      (hcf_common (factor_upto f n) (f (suc n))).highest d (factor_highest n d (λ i lo hi. h i lo (omega arith))) (h (suc n) (omega arith) (omega arith))

-- ---- The least common multiple of f 1, .., f n, none of them 0

module _ (f : ℕ → ℕ) (most : ℕ) (pos : (i : ℕ) → 1 ≤ i → i ≤ most → 0 < f i) where
  pub multiple_pos : (n : ℕ) → n ≤ most → 0 < multiple_upto f n
  unfolding multiple_upto
  multiple_pos zero h = omega arith
  multiple_pos (suc n) h = lcm_pos (multiple_upto f n) (f (suc n)) (multiple_pos n (omega arith)) (pos (suc n) (omega arith) h)

  multiple_first : (n : ℕ) → suc n ≤ most → multiple_upto f n ∣ lcm (multiple_upto f n) (f (suc n))
  multiple_first n h = lcm_first (multiple_upto f n) (f (suc n)) (multiple_pos n (omega arith)) (pos (suc n) (omega arith) h)

  -- a part's divides the whole's
  pub multiple_up : (j n : ℕ) → j ≤ n → n ≤ most → multiple_upto f j ∣ multiple_upto f n
  unfolding multiple_upto
  multiple_up j zero l h = let e : j ≡ 0 = omega arith in rw e (dvd_refl 1)
  multiple_up j (suc n) l h = last (ℕ_discrete j (suc n)) (multiple_up j n)
    where
      last : Dec (j ≡ suc n) → (j ≤ n → n ≤ most → multiple_upto f j ∣ multiple_upto f n) → multiple_upto f j ∣ lcm (multiple_upto f n) (f (suc n))
      last (yes q) ih = rw q (dvd_refl (lcm (multiple_upto f n) (f (suc n))))
      last (no q) ih = dvd_trans _ (ih (omega (arith, q)) (omega arith)) (multiple_first n h)

  multiple_each : (n : ℕ) → n ≤ most → (i : ℕ) → 1 ≤ i → i ≤ n → f i ∣ multiple_upto f n
  unfolding multiple_upto
  multiple_each zero h i lo hi = absurd (omega arith)
  multiple_each (suc n) h i lo hi = last (ℕ_discrete i (suc n)) (multiple_each n (omega arith) i lo)
    where
      last : Dec (i ≡ suc n) → (i ≤ n → f i ∣ multiple_upto f n) → f i ∣ lcm (multiple_upto f n) (f (suc n))
      last (yes q) ih = rw q (lcm_second (multiple_upto f n) (f (suc n)) (multiple_pos n (omega arith)) (pos (suc n) (omega arith) h))
      last (no q) ih = dvd_trans _ (ih (omega (arith, q))) (multiple_first n h)

  multiple_least : (n : ℕ) → n ≤ most → (m : ℕ) → ((i : ℕ) → 1 ≤ i → i ≤ n → f i ∣ m) → multiple_upto f n ∣ m
  unfolding multiple_upto
  multiple_least zero h m d = one-dvd m
  multiple_least (suc n) h m d =
      lcm_least (multiple_upto f n) (f (suc n)) (multiple_pos n (omega arith)) (pos (suc n) (omega arith) h) m
      (multiple_least n (omega arith) m (λ i lo hi. d i lo (omega arith))) (d (suc n) (omega arith) (omega arith))

-- ---- The figures of a sheet

module _ (T : Traffic) where
  pub micro_each : (i : ℕ) → 1 ≤ i → i ≤ T.number → microcycle T ∣ period_of T i
  unfolding microcycle
  micro_each i lo hi = factor_each (period_of T) T.number i lo hi

  pub micro_highest : (d : ℕ) → ((i : ℕ) → 1 ≤ i → i ≤ T.number → d ∣ period_of T i) → d ∣ microcycle T
  unfolding microcycle
  micro_highest d h = factor_highest (period_of T) T.number d h

  module _ (D : Declared T) where
    pub micro_pos : 0 < microcycle T
    micro_pos = pos_of_dvd_of_pos (micro_each 1 (omega arith) D.number_in.0) (D.period_in 1 (omega arith) D.number_in.0).0

    -- a period is a whole number of microcycles
    pub in_rows_law : (i : ℕ) → 1 ≤ i → i ≤ T.number → in_rows T i * microcycle T ≡ period_of T i
    unfolding in_rows
    in_rows_law i lo hi = div-mul_cancel (microcycle T) (micro_each i lo hi)

    pub in_rows_pos : (i : ℕ) → 1 ≤ i → i ≤ T.number → 0 < in_rows T i
    in_rows_pos i lo hi = go (eq-zero-or-pos (in_rows T i))
      where
        go : (in_rows T i ≡ 0) ⊎ (0 < in_rows T i) → 0 < in_rows T i
        go (inr q) = q
        go (inl q) =
            let z : period_of T i ≡ 0 = sym (in_rows_law i lo hi) ∙ (ap (λ (x : ℕ). x * microcycle T) q ∙ zero-mul (microcycle T)) in
            absurd (omega (arith, (D.period_in i lo hi).0))

    -- row m is a multiple of the period in rows exactly if m microcycles are a multiple of the period
    module _ (i m : ℕ) (lo : 1 ≤ i) (hi : i ≤ T.number) where
      pub row_then : m % in_rows T i ≡ 0 → (m * microcycle T) % period_of T i ≡ 0
      row_then e =
          mod-eq-zero_of_dvd (period_of T i)
          (subst (λ (t : ℕ). t ∣ m * microcycle T) (in_rows_law i lo hi)
          (mul-dvd-mul_right (in_rows T i) (dvd_of_mod-eq-zero (in_rows T i) e) (microcycle T)))

      pub row_if : (m * microcycle T) % period_of T i ≡ 0 → m % in_rows T i ≡ 0
      row_if e =
          mod-eq-zero_of_dvd (in_rows T i)
          (dvd_of_mul-dvd-mul_right {k = microcycle T} (in_rows T i) micro_pos
          (subst (λ (t : ℕ). t ∣ m * microcycle T) (sym (in_rows_law i lo hi)) (dvd_of_mod-eq-zero (period_of T i) e)))

    rows_each : (i : ℕ) → 1 ≤ i → i ≤ T.number → in_rows T i ∣ rows T
    unfolding rows
    rows_each i lo hi = multiple_each (in_rows T) T.number in_rows_pos T.number (omega arith) i lo hi

    -- rows times microcycle is a multiple of every period
    pub rows_multiple : (i : ℕ) → 1 ≤ i → i ≤ T.number → period_of T i ∣ rows T * microcycle T
    rows_multiple i lo hi =
        subst (λ (t : ℕ). t ∣ rows T * microcycle T) (in_rows_law i lo hi) (mul-dvd-mul_right (in_rows T i) (rows_each i lo hi) (microcycle T))

    -- and divides each of their common multiples
    pub rows_least : (m : ℕ) → ((i : ℕ) → 1 ≤ i → i ≤ T.number → period_of T i ∣ m) → rows T * microcycle T ∣ m
    unfolding rows
    rows_least m d =
        let e : m / microcycle T * microcycle T ≡ m =
        div-mul_cancel (microcycle T) (dvd_trans _ (micro_each 1 (omega arith) D.number_in.0) (d 1 (omega arith) D.number_in.0)) in
        subst (λ (t : ℕ). rows T * microcycle T ∣ t) e
        (mul-dvd-mul_right (rows T)
        (multiple_least (in_rows T) T.number in_rows_pos T.number (omega arith) (m / microcycle T)
        (λ i lo hi. dvd_of_mul-dvd-mul_right {k = microcycle T} (in_rows T i) micro_pos (part i lo hi e)))
        (microcycle T))
      where
        part : (i : ℕ) → 1 ≤ i → i ≤ T.number → m / microcycle T * microcycle T ≡ m → in_rows T i * microcycle T ∣ m / microcycle T * microcycle T
        part i lo hi e = rw (in_rows_law i lo hi, e) (d i lo hi)

    -- ---- What the sheet asks of its table

    pub period_is : (r : ℕ) → r < T.number → period_at T r ≡ in_rows T (variable_of T r)
    unfolding period_at
    period_is r l = simp (lt-ltb r T.number l)

    pub asked_sound : Sound (asked_of T)
    unfolding asked_of
    asked_sound =
        record {
          few = D.number_in.1;
          long = λ r l. (let v = variable_within T r l in rw (period_is r l) (in_rows_pos (variable_of T r) v.0 v.1));
          whole =
              λ r l. (let v = variable_within T r l in
              rw (period_is r l) (mod-eq-zero_of_dvd (in_rows T (variable_of T r)) (rows_each (variable_of T r) v.0 v.1)));
          some = some_rows;
        }
      where
        some_rows : 1 ≤ rows T
        some_rows = multiple_pos (in_rows T) T.number in_rows_pos T.number (omega arith)
