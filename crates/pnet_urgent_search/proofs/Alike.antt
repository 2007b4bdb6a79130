-- One function of the slot serves every stream of a master: within D of a stream those behind it ask just once, so each right side is a constant of its own and what all that
-- are laid out ask beyond once. Assumes nothing.
use mathlib.Core.Path.{◌≡◌, refl, sym, ap}
use mathlib.Core.List.{List}
use Prim.Native.Nat.{ℕ, zero, suc, ◌+◌, ◌*◌, ◌/◌, ◌≤◌, ◌<◌, zero-le}
use native.Mathlib.Nat.{mul_comm, mul-zero, mul-le-mul, mul-le-mul_left, add-mul, le-div_iff_mul-le}
use native.Mathlib.Decide.{ℕ_discrete}
use native.Mathlib.Omega.{arith}
use Rattle.common.specs.Sums.{sum, up}
use Rattle.common.proofs.Sums.{up_at_most, up_rises}
use Rattle.common.proofs.FromZero.{sum_none}
use Rattle.pnet_turn.specs.Turn.{at}
use Rattle.pnet_urgent_table.specs.Table.{beyond_once, queued, Slow}
use Rattle.pnet_urgent_search.specs.Walks.{blocked_at, slots_for, Urgency}
use Rattle.pnet_urgent_search.proofs.Loads.{sum_rises}

-- ---- Any right side

module _ (V' : ℕ) (Ts Js : List ℕ) (L i : ℕ) where
  pub slots_rise : (x y : ℕ) → x ≤ y → slots_for V' Ts Js L i x ≤ slots_for V' Ts Js L i y
  unfolding slots_for
  slots_rise x y l =
      let a = sum_rises (λ j. up (V' * x + at Js j) (at Ts j)) (λ j. up (V' * y + at Js j) (at Ts j)) i
      (λ j _. up_rises (V' * x + at Js j) (V' * y + at Js j) (at Ts j) (omega (arith, mul-le-mul_left V' l))) in
      omega arith

  pub slots_some : (x : ℕ) → 1 ≤ slots_for V' Ts Js L i x
  unfolding slots_for
  slots_some x = omega arith

-- ---- What is laid out

-- at least 1 where there is something to cover
up_some : (x t : ℕ) → 0 < t → 1 ≤ x → 1 ≤ up x t
unfolding up
up_some x t p l = (le-div_iff_mul-le p).1 (omega arith)

-- a stream that asks at most once in a slot asks at most n times beyond once
beyond_few : (V' T J n : ℕ) → V' < T → J < T → beyond_once V' T J n ≤ n
unfolding beyond_once
beyond_few V' T J n slow short =
    let a : V' * n ≤ T * n = mul-le-mul {n₁ = V'} {m₁ = n} {n₂ = T} {m₂ = n} (omega arith) (omega arith) in
    let b = up_at_most (V' * n + J) T (1 + n) (omega arith) (omega (arith, mul_comm T n, add-mul 1 n T)) in
    omega arith

-- and not at all in none
beyond_none : (V' T J : ℕ) → J < T → beyond_once V' T J 0 ≡ 0
unfolding beyond_once
beyond_none V' T J short = omega (arith, up_at_most (V' * 0 + J) T 1 (omega arith) (omega (arith, mul-zero V')))

module _ {V' K : ℕ} {Ts Js : List ℕ} (slow : Slow V' Ts Js K) where
  pub queued_none : 0 ≡ queued V' Ts Js K 0
  unfolding queued
  queued_none = sym (sum_none (λ j. beyond_once V' (at Ts j) (at Js j) 0) K (λ j l. beyond_none V' (at Ts j) (at Js j) (slow.jitter_to j l)))

  queued_few : (n i : ℕ) → i ≤ K → queued V' Ts Js i n ≤ i * n
  unfolding queued sum
  queued_few n zero l = zero-le
  queued_few n (suc i) l =
      let a = queued_few n i (omega arith) in
      let b = beyond_few V' (at Ts i) (at Js i) n (slow.longer i (omega arith)) (slow.jitter_to i (omega arith)) in
      omega (arith, a, b, add-mul 1 i n)

  -- no more than 32 bits hold
  pub queued_small : (n : ℕ) → n ≤ 20833845 → queued V' Ts Js K n ≤ 1700000000
  queued_small n l =
      let a : K * n ≤ 80 * 20833845 = mul-le-mul {n₁ = K} {m₁ = n} {n₂ = 80} {m₂ = 20833845} slow.few l in
      omega (arith, queued_few n K (omega arith))

-- ---- The right side of one stream

module _ {V' L : ℕ} {Ts Js Ds : List ℕ} (u : Urgency V' Ts Js Ds L) (n : ℕ) (from : 1 ≤ n) where
  window_some : 1 ≤ V' * n
  window_some = omega (arith, u.turn_from, mul-le-mul {n₁ = 1} {m₁ = 1} {n₂ = V'} {m₂ = n} (omega (arith, u.turn_from)) from)

  -- the first i streams: each asks once, and beyond
  asks_beyond : (i : ℕ) → i ≤ L → sum (λ j. up (V' * n + at Js j) (at Ts j)) i ≡ i + queued V' Ts Js i n
  unfolding queued sum beyond_once
  asks_beyond zero l = refl
  asks_beyond (suc i) l =
      let a = asks_beyond i (omega arith) in
      let b = up_some (V' * n + at Js i) (at Ts i) (u.spacing_from i (omega arith)) (omega (arith, window_some)) in
      omega arith

  -- a stream behind i asks just once within D of i
  once : (i j : ℕ) → i ≤ j → j < L → V' * n ≤ at Ds i → beyond_once V' (at Ts j) (at Js j) n ≡ 0
  unfolding beyond_once
  once i j h l within =
      let short : V' * n + at Js j ≤ 1 * at Ts j = omega (arith, u.sorted i j h l, u.deadline_to j l, u.jitter_to j l) in
      omega (arith, up_at_most (V' * n + at Js j) (at Ts j) 1 (u.spacing_from j l) short)

  -- so those behind i may be counted too
  queued_alike : (i K : ℕ) → i ≤ K → K ≤ L → V' * n ≤ at Ds i → queued V' Ts Js K n ≡ queued V' Ts Js i n
  unfolding queued sum
  queued_alike i zero h l within = let e : i ≡ 0 = omega arith in ap (λ (k : ℕ). queued V' Ts Js k n) (sym e)
  queued_alike i (suc K) h l within = last (ℕ_discrete i (suc K)) (queued_alike i K)
    where
      last : Dec (i ≡ suc K) → (i ≤ K → K ≤ L → V' * n ≤ at Ds i → queued V' Ts Js K n ≡ queued V' Ts Js i n) → queued V' Ts Js (suc K) n ≡ queued V' Ts Js i n
      last (yes q) ih = ap (λ (k : ℕ). queued V' Ts Js k n) (sym q)
      last (no q) ih = omega (arith, ih (omega (arith, q)) (omega arith) within, once i K (omega (arith, q)) (omega arith) within)

  pub alike : (i K : ℕ) → i ≤ K → K ≤ L → n ≤ at Ds i / V' → 1 + blocked_at L i + i + queued V' Ts Js K n ≡ slots_for V' Ts Js L i n
  unfolding slots_for
  alike i K h l within =
      let w : V' * n ≤ at Ds i = omega (arith, (le-div_iff_mul-le {k = V'} {x = n} {y = at Ds i} (omega (arith, u.turn_from))).0 within, mul_comm n V') in
      omega (arith, asks_beyond i (omega arith), queued_alike i K h l w)
