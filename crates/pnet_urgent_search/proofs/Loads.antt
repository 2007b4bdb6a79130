-- Where the streams ahead take the whole bus, the right side is above its unknown everywhere; where they do not, each asks at most once in a slot. Assumes nothing.
use mathlib.Core.Path.{◌≡◌, refl, ap, ◌∙◌}
use mathlib.Core.List.{List}
use Prim.Native.Nat.{ℕ, zero, suc, ◌+◌, ◌*◌, ◌/◌, ◌≤◌, ◌<◌, zero-le}
use native.Mathlib.Nat.{zero-mul, mul_comm, add-mul, mul_left_comm, mul-le-mul_left, mul-le-mul_right, le_of_mul-le-mul_left, div-mul-le_self, div-lt_iff_lt-mul}
use native.Mathlib.Decide.{ℕ_discrete}
use native.Mathlib.Omega.{arith}
use Rattle.common.specs.Sums.{sum, up}
use Rattle.common.proofs.Sums.{up_covers}
use Rattle.pnet_turn.specs.Turn.{at}
use Rattle.pnet_urgent_table.proofs.Blocks.{sum_more}
use Rattle.pnet_urgent_search.specs.Walks.{slots_for}
use Rattle.pnet_urgent_search.specs.Steps.{load}

-- ---- Sums from 0

pub sum_rises : (f g : ℕ → ℕ) (n : ℕ) → ((j : ℕ) → j < n → f j ≤ g j) → sum f n ≤ sum g n
unfolding sum
sum_rises f g zero le = zero-le
sum_rises f g (suc n) le = omega (arith, sum_rises f g n (λ j l. le j (omega arith)), le n (omega arith))

-- a part of a sum is at most the whole
pub sum_part : (f : ℕ → ℕ) (i n : ℕ) → i ≤ n → sum f i ≤ sum f n
unfolding sum
sum_part f i zero h = let e : i ≡ 0 = omega arith in omega (arith, ap (sum f) e)
sum_part f i (suc n) h = last (ℕ_discrete i (suc n)) (sum_part f i n)
  where
    last : Dec (i ≡ suc n) → (i ≤ n → sum f i ≤ sum f n) → sum f i ≤ sum f n + f n
    last (yes q) ih = omega (arith, ap (sum f) q)
    last (no q) ih = omega (arith, ih (omega (arith, q)))

-- and so is a term
sum_term : (f : ℕ → ℕ) (j n : ℕ) → j < n → f j ≤ sum f n
unfolding sum
sum_term f j n h = omega (arith, sum_part f (suc j) n (omega arith))

-- ---- The load

pub load_none : (V' : ℕ) (Ts : List ℕ) → 0 ≡ load V' Ts 0
unfolding load sum
load_none V' Ts = refl

pub load_more : (V' : ℕ) (Ts : List ℕ) (j : ℕ) → load V' Ts (j + 1) ≡ load V' Ts j + V' * 1099511627776 / at Ts j
unfolding load
load_more V' Ts j = sum_more (λ i. V' * 1099511627776 / at Ts i) j

pub load_part : (V' : ℕ) (Ts : List ℕ) (i n : ℕ) → i ≤ n → load V' Ts i ≤ load V' Ts n
unfolding load
load_part V' Ts i n h = sum_part (λ j. V' * 1099511627776 / at Ts j) i n h

-- q of E parts are V/T rounded down, and u times T covers V·w: then u is at least those parts of w
part_asks : (V' E T q w u : ℕ) → 0 < V' → q * T ≤ V' * E → V' * w ≤ u * T → q * w ≤ E * u
part_asks V' E T q w u pos parts covers =
    let a : q * (V' * w) ≤ q * (u * T) = mul-le-mul_left q covers in
    let b : u * (q * T) ≤ u * (V' * E) = mul-le-mul_left u parts in
    let e : u * (V' * E) ≡ V' * (E * u) = mul_left_comm u V' E ∙ ap (λ (x : ℕ). V' * x) (mul_comm u E) in
    let h : V' * (q * w) ≤ V' * (E * u) = omega (arith, mul_left_comm V' q w, mul_left_comm q u T) in
    le_of_mul-le-mul_left h pos

module _ (V' : ℕ) (Ts Js : List ℕ) (pos : 0 < V') where
  -- what the first i streams ask for in w slots is at least their load's part of w
  load_asks : (w i : ℕ) → ((j : ℕ) → j < i → 0 < at Ts j) → load V' Ts i * w ≤ 1099511627776 * sum (λ j. up (V' * w + at Js j) (at Ts j)) i
  unfolding load sum
  load_asks w zero some = omega (arith, zero-mul w)
  load_asks w (suc i) some =
      let T = at Ts i in
      let u = up (V' * w + at Js i) T in
      let q = V' * 1099511627776 / T in
      let a = load_asks w i (λ j l. some j (omega arith)) in
      let b = part_asks V' 1099511627776 T q w u pos (div-mul-le_self (V' * 1099511627776) T) (omega (arith, up_covers (V' * w + at Js i) T (some i (omega arith)))) in
      omega (arith, a, b, add-mul (load V' Ts i) q w)

  -- the whole bus is taken: no slot is a solution
  pub loaded_none : (L i : ℕ) → ((j : ℕ) → j < i → 0 < at Ts j) → 1099511627776 ≤ load V' Ts i → (w : ℕ) → w ≡ slots_for V' Ts Js L i w → ⊥
  unfolding slots_for
  loaded_none L i some full w e =
      let a = load_asks w i some in
      let b : 1099511627776 * w ≤ load V' Ts i * w = mul-le-mul_right w full in
      omega arith

-- it is not: each T is above V
pub loaded_slow : (V' : ℕ) (Ts : List ℕ) (K : ℕ) → load V' Ts K < 1099511627776 → (j : ℕ) → j < K → 0 < at Ts j → V' < at Ts j
unfolding load
loaded_slow V' Ts K below j l some =
    let a = sum_term (λ i. V' * 1099511627776 / at Ts i) j K l in
    let b : V' * 1099511627776 < 1099511627776 * at Ts j = (div-lt_iff_lt-mul some).0 (omega arith) in
    omega arith
