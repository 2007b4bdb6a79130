-- Laws of the highest common factor and the least common multiple: repeated remainder finds the one, and the other divides every
-- common multiple. Assumes nothing.
use mathlib.Core.Path.{◌≡◌, sym, ap, ◌∙◌, subst}
use Prim.Native.Nat.{ℕ, zero, suc, ◌+◌, ◌*◌, ◌/◌, ◌%◌, ◌∣◌, ◌<◌}
use native.Mathlib.Nat.{dvd-mod_iff, dvd_refl, dvd-zero, dvd_antisymm, mod-lt, zero-mul, mul-zero, mul_comm, div-add-mod', mul-lt-mul_of_pos_left, dvd-mul_left, dvd-mul_right, mul-dvd-mul_right, mul-dvd-mul_left, dvd_of_mul-dvd-mul_right, div-mul_cancel, pos_of_dvd_of_pos, mul-pos, one-mul}
use native.Mathlib.Omega.{arith}
use lib.Arith.{digits_mod}
use borrow.Author.Tests.{ne_eqb}
use Rattle.worldfip_sets.specs.Remainder.{Common, remainders, hcf, lcm}

-- ---- The highest common factor

pub common_none : (a : ℕ) → Common a 0 a
common_none a = record { first = dvd_refl a; second = dvd-zero a; highest = λ d p q. p }

pub common_more : (a b g : ℕ) → Common b (a % b) g → Common a b g
common_more a b g c =
    record {
      first = (dvd-mod_iff g c.first).0 c.second;
      second = c.first;
      highest = λ d p q. c.highest d q ((dvd-mod_iff d q).1 p);
    }

-- there is one only
pub common_one : (a b g h : ℕ) → Common a b g → Common a b h → g ≡ h
common_one a b g h c k = dvd_antisymm (k.highest g c.first c.second) (c.highest h k.first k.second)

-- a remainder of multiples
spread : (k q b r : ℕ) → k * (q * b + r) ≡ q * (k * b) + k * r
spread k q b r = omega arith

mul_mod : (k a b : ℕ) → 0 < b → (k * a) % (k * b) ≡ k * (a % b)
mul_mod zero a b h = rw (zero-mul, zero-mul, zero-mul)
mul_mod (suc k) a b h =
    let l : suc k * (a % b) < suc k * b = mul-lt-mul_of_pos_left {k = suc k} (mod-lt a h) (omega arith) in
    let e : suc k * a ≡ a / b * (suc k * b) + suc k * (a % b) =
    ap (λ (x : ℕ). suc k * x) (sym (div-add-mod' a b)) ∙ spread (suc k) (a / b) b (a % b) in
    ap (λ (x : ℕ). x % (suc k * b)) e ∙ digits_mod (a / b) l

module _ (k : ℕ) where
  found : (f a b : ℕ) → b < f → Common (k * a) (k * b) (k * remainders f a b)
  unfolding remainders
  found zero a b h = absurd (omega arith)
  found (suc f) a zero h = rw mul-zero (common_none (k * a))
  found (suc f) a (suc b) h =
      simp (ne_eqb (suc b) 0 (λ (e : suc b ≡ 0). omega arith))
      (common_more (k * a) (k * suc b) (k * remainders f (suc b) (a % suc b))
      (rw (mul_mod k a (suc b) (omega arith)) (found f (suc b) (a % suc b) (omega (arith, mod-lt a {m = suc b} (omega arith))))))

  -- also of multiples, k times as much
  pub hcf_scaled : (a b : ℕ) → Common (k * a) (k * b) (k * hcf a b)
  unfolding hcf
  hcf_scaled a b = found (suc b) a b (omega arith)

pub hcf_common : (a b : ℕ) → Common a b (hcf a b)
hcf_common a b = simp one-mul at (hcf_scaled 1 a b)

-- what the code finds is `hcf`
pub hcf_is : (a b g : ℕ) → Common a b g → g ≡ hcf a b
hcf_is a b g c = common_one a b g (hcf a b) c (hcf_common a b)

-- ---- The least common multiple of two numbers that are not 0

regroup : (x y z : ℕ) → x * y * z ≡ x * z * y
regroup x y z = omega arith

module _ (a b : ℕ) (pa : 0 < a) (pb : 0 < b) where
  hcf_pos : 0 < hcf a b
  hcf_pos = pos_of_dvd_of_pos (hcf_common a b).first pa

  a_is : a / hcf a b * hcf a b ≡ a
  a_is = div-mul_cancel (hcf a b) (hcf_common a b).first

  b_is : b / hcf a b * hcf a b ≡ b
  b_is = div-mul_cancel (hcf a b) (hcf_common a b).second

  lcm_mul : lcm a b * hcf a b ≡ a * b
  unfolding lcm
  lcm_mul = regroup (a / hcf a b) b (hcf a b) ∙ ap (λ (x : ℕ). x * b) a_is

  lcm_other : lcm a b ≡ a * (b / hcf a b)
  unfolding lcm
  lcm_other = ap (λ (y : ℕ). a / hcf a b * y) (sym b_is) ∙ (around (a / hcf a b) (b / hcf a b) (hcf a b) ∙ ap (λ (x : ℕ). x * (b / hcf a b)) a_is)
    where
      around : (x y z : ℕ) → x * (y * z) ≡ x * z * y
      around x y z = omega arith

  pub lcm_first : a ∣ lcm a b
  lcm_first = rw lcm_other (dvd-mul_right a (b / hcf a b))

  pub lcm_second : b ∣ lcm a b
  unfolding lcm
  lcm_second = dvd-mul_left b (a / hcf a b)

  pub lcm_least : (m : ℕ) → a ∣ m → b ∣ m → lcm a b ∣ m
  lcm_least m p q =
      let x : a * b ∣ m * b = mul-dvd-mul_right a p b in
      let y : a * b ∣ m * a = subst (λ (t : ℕ). a * b ∣ t) (mul_comm a m) (mul-dvd-mul_left b a q) in
      let z : a * b ∣ m * hcf a b = (hcf_scaled m a b).highest (a * b) y x in
      dvd_of_mul-dvd-mul_right {k = hcf a b} (lcm a b) hcf_pos (subst (λ (t : ℕ). t ∣ m * hcf a b) (sym lcm_mul) z)

  pub lcm_pos : 0 < lcm a b
  lcm_pos =
      pos_of_dvd_of_pos (lcm_least (a * b) (dvd-mul_right a b) (dvd-mul_left b a)) (mul-pos pa pb)
