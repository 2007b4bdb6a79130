-- Laws of the passing rule: a stream that passes at a target passes at less, and it passes exactly if it bears the rotation.
-- Assumes nothing.
use mathlib.Core.Path.{◌≡◌, refl, ◌∙◌}
use Prim.Native.Nat.{ℕ, ◌+◌, ◌-◌, ◌*◌, ◌/◌, ◌≤◌, ◌<◌}
use native.Mathlib.Nat.{le-div_iff_mul-le, mul-le-mul, mul-le-mul_left, mul_comm}
use native.Mathlib.Decide.{dec_le}
use native.Mathlib.Omega.{arith}
use borrow.Author.Tests.{eq-eqb}
use Rattle.common.specs.Sums.{when}
use Rattle.common.proofs.Sums.{upto_same, upto_term, upto_even}
use Rattle.sheet_rules.specs.Sheets.{Sheet, masters_of, message_of}
use Rattle.profibus_rules.specs.Ring.{Ring, ring_of, On, owns, count, messages, rotation, needed, Declared}
use Rattle.profibus_rules.specs.Target.{AllPass, bears}

-- behind kind 3 the sum of the longest messages is page 01's n·M
pub messages_of_one : (S : Sheet) → S.head.kind ≡ 3 → messages (ring_of S) ≡ masters_of S * S.head.c
unfolding messages ring_of message_of
messages_of_one S k = upto_same (message_of S) (λ y. S.head.c) (masters_of S) (λ y lo hi. rw k) ∙ upto_even S.head.c (masters_of S)

-- ---- A lower target

pub needed_mono : (R : Ring) (a b i : ℕ) → a ≤ b → needed R a i ≤ needed R b i
unfolding needed rotation
needed_mono R a b i l =
    let m : a + messages R ≤ b + messages R = omega arith in
    omega (arith, mul-le-mul_left (count R (R.stream i).master) m)

pub all_pass_below : (R : Ring) (a b : ℕ) → a ≤ b → AllPass R b → AllPass R a
all_pass_below R a b l p = record { each = λ i on. omega (arith, needed_mono R a b i l, p.each i on) }

-- ---- What a stream bears

-- one of h streams, with cycle c and deadline d, at a rotation x
pub passes_bears : (h x c d : ℕ) → 1 ≤ h → h * x + c ≤ d → x ≤ (d - c) / h
passes_bears h x c d p l = (le-div_iff_mul-le p).1 (omega (arith, mul_comm h x))

pub bears_passes : (h x c d : ℕ) → 1 ≤ h → 1 ≤ x → x ≤ (d - c) / h → h * x + c ≤ d
bears_passes h x c d p q l =
    let a : x * h ≤ d - c = (le-div_iff_mul-le p).0 l in
    let b : 1 * 1 ≤ x * h = mul-le-mul {n₁ = 1} {m₁ = 1} {n₂ = x} {m₂ = h} q p in
    omega (arith, mul_comm h x)

module _ (R : Ring) (declared : Declared R) (i : ℕ) (on : On R i) where
  -- a stream is one of its master's
  pub counts_itself : 1 ≤ count R (R.stream i).master
  unfolding count owns
  counts_itself =
      let k = (R.stream i).master in
      rw (eq-eqb k k refl) at (upto_term (λ j. when (owns R k j) 1) R.number i on.0 on.1)

  pub some_messages : 1 ≤ messages R
  unfolding messages
  some_messages =
      let k = (R.stream i).master in
      let m = declared.master_in i on in
      omega (arith, upto_term R.longest R.masters k m.0 m.1, declared.longest_in k m.0 m.1)

  pub passing_bears : (ttr : ℕ) → needed R ttr i ≤ (R.stream i).deadline → rotation R ttr ≤ bears R i
  unfolding needed bears
  passing_bears ttr l = passes_bears (count R (R.stream i).master) (rotation R ttr) (R.stream i).cycle (R.stream i).deadline counts_itself l

  pub bearing_passes : (ttr : ℕ) → rotation R ttr ≤ bears R i → needed R ttr i ≤ (R.stream i).deadline
  unfolding needed bears rotation
  bearing_passes ttr l =
      bears_passes (count R (R.stream i).master) (rotation R ttr) (R.stream i).cycle (R.stream i).deadline counts_itself (omega (arith, some_messages)) l

  pub not_bearing_fails : (ttr : ℕ) → bears R i < rotation R ttr → (R.stream i).deadline < needed R ttr i
  not_bearing_fails ttr l = over (dec_le (needed R ttr i) (R.stream i).deadline)
    where
      over : Dec (needed R ttr i ≤ (R.stream i).deadline) → (R.stream i).deadline < needed R ttr i
      over (yes p) = absurd (omega (arith, passing_bears ttr p))
      over (no p) = omega (arith, p)
