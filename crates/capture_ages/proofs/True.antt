-- Ages and gaps are true, whatever the counter was at the start, wherever successive records are less than 2^31 bp apart; and where two
-- are up to 2^32 - 1 bp apart, or one stands up to 2^31 bp before the one that it is recorded behind, the capture is broken.
-- Assumes nothing.
use Rattle.std.proofs.Common.{◌≡◌, ℕ, ◌+◌, ◌-◌, ◌^◌, ◌<◌, ◌≤◌, Bool, true, false, ◌&&◌, eqb, List, [], ◌∷◌, ◌++◌, refl, arith, eq-eqb, eqb-true, le-leb}
use mathlib.Core.Bool.{or-true}
use borrow.Author.Tests.{lt-leb}
use Rattle.sheet_record.proofs.Tables.{both_true}
use Rattle.capture_log.specs.declared.Event.{Event}
use Rattle.capture_log.specs.Log.{asks, stamp_at, around}
use Rattle.capture_log.proofs.Stamps.{true_response}
use Rattle.capture_ages.specs.Ages.{clock, far, broken, asked}
use Rattle.capture_ages.specs.Timed.{Timed, UpTo}
use Rattle.capture_ages.specs.Timed.Timed.{one, next}
use Rattle.capture_ages.specs.Timed.UpTo.{here, later}

-- ---- The clock

pub in_order : {z a u : ℕ} {es : List Event} → Timed z es a u → a ≤ u
in_order (one e) = omega arith
in_order (next t l n e) = omega (arith, in_order t)

latest_at : {z a u : ℕ} {e : Event} {es : List Event} → Timed z (e ∷ es) a u → e.stamp ≡ stamp_at z u
latest_at (one e) = e
latest_at (next t l n e) = e

-- a step is the time that passed
passed : {z a t u : ℕ} {f : Event} {es : List Event} (e : Event) → Timed z (f ∷ es) a t → t ≤ u → u - t < 2 ^ 31 → e.stamp ≡ stamp_at z u
    → around e.stamp f.stamp ≡ u - t
passed {z} {a} {t} {u} {f} e r le near is = rw (is, latest_at r) (true_response z t u le (omega arith))

pub true_clock : {z a u : ℕ} {es : List Event} → Timed z es a u → clock es ≡ 1 + (u - a)
unfolding clock
true_clock (one e) = omega arith
true_clock (next {e} t l n is) = omega (arith, true_clock t, in_order t, passed e t l n is)

pub not_broken : {z a u : ℕ} {es : List Event} → Timed z es a u → broken es ≡ false
unfolding broken far
not_broken (one e) = refl
not_broken (next {e} t l n is) = rw (not_broken t, passed e t l n is) (lt-leb (2 ^ 31) _ n)

-- ---- Ages and gaps

pub asks_not : (e : Event) (i : ℕ) → (e.kind ≡ 16 → e.stream ≡ i → ⊥) → asks e i ≡ false
unfolding asks
asks_not e i other = split (eqb e.kind 16 && eqb e.stream i) refl
  where
    split : (b : Bool) → (eqb e.kind 16 && eqb e.stream i) ≡ b → b ≡ false
    split true q = let t = both_true (eqb e.kind 16) (eqb e.stream i) q in absurd (other (eqb-true e.kind 16 t.0) (eqb-true e.stream i t.1))
    split false q = refl

-- the clock at the last request is what is kept of it
asked_at : {i : ℕ} {es fs : List Event} → UpTo i es fs → asked es i ≡ clock fs
unfolding asked asks
asked_at {i} (here {e} k s) = rw (eq-eqb e.kind 16 k, eq-eqb e.stream i s) refl
asked_at {i} (later {e} other r) = rw (asks_not e i other) (asked_at r)

-- the last request stood at an instant of its own, no later than the latest record
pub record Instant (z : ℕ) (fs : List Event) (a u : ℕ) : Type 0 where
  pub r : ℕ
  pub at : Timed z fs a r
  pub past : r ≤ u

pub asked_instant : {z i a u : ℕ} {es fs : List Event} → UpTo i es fs → Timed z es a u → Instant z fs a u
asked_instant (here k s) t = record { r = _; at = t; past = omega arith }
asked_instant {z = z} {i = i} {a = a} (later {e = e} {fs = fs} other q) (one _) = elim q [ ]
asked_instant (later other q) (next t l n e) = let x = asked_instant q t in record { r = x.r; at = x.at; past = omega (arith, x.past) }

-- that is r
module _ {z i a u r : ℕ} {es fs : List Event} (q : UpTo i es fs) (last : Timed z fs a r) where
  -- its age at the latest record, at u
  pub true_age : Timed z es a u → clock es - asked es i ≡ u - r
  true_age t = omega (arith, true_clock t, true_clock last, asked_at q, in_order last, in_order t)

  -- the gap to one record more, at u
  pub true_gap : (e : Event) → Timed z (e ∷ es) a u → clock (e ∷ es) - asked es i ≡ u - r
  true_gap e t = omega (arith, true_clock t, true_clock last, asked_at q, in_order last, in_order t)

-- ---- Broken

runs_back : (z t u : ℕ) → u < t → t ≤ u + 2 ^ 31 → 2 ^ 31 ≤ around (stamp_at z u) (stamp_at z t)
unfolding around stamp_at
runs_back z t u lo hi = omega arith

broken_at : (e f : Event) (es : List Event) → 2 ^ 31 ≤ around e.stamp f.stamp → broken (e ∷ f ∷ es) ≡ true
unfolding broken far
broken_at e f es h = rw (le-leb (2 ^ 31) (around e.stamp f.stamp) h) (or-true (broken (f ∷ es)))

module _ (z t u : ℕ) (f e : Event) (es : List Event) (before : f.stamp ≡ stamp_at z t) (behind : e.stamp ≡ stamp_at z u) where
  pub broken_by_silence : t + 2 ^ 31 ≤ u → u < t + 2 ^ 32 → broken (e ∷ f ∷ es) ≡ true
  broken_by_silence lo hi = broken_at e f es (rw (before, behind) (omega (arith, true_response z t u (omega arith) (omega arith))))

  pub broken_by_order : u < t → t ≤ u + 2 ^ 31 → broken (e ∷ f ∷ es) ≡ true
  broken_by_order lo hi = broken_at e f es (rw (before, behind) (runs_back z t u lo hi))

-- and it stays so
pub still_broken : (es fs : List Event) → broken es ≡ true → broken (fs ++ es) ≡ true
unfolding broken
still_broken es [] h = h
still_broken es (f ∷ fs) h = rw (still_broken es fs h) refl
