-- What too soon comes to: sooner than T behind the one before in any case, and where J is 0 just that. Assumes nothing.
use Rattle.std.proofs.Common.{◌≡◌, ℕ, ◌+◌, ◌-◌, ◌<◌, ◌≤◌, Bool, true, false, cond, not, ◌&&◌, eqb, ltb, List, [], ◌∷◌, sym, refl, ap, ◌∙◌, arith, ltb-false, ltb-true, le-ltb, lt-ltb, eq-eqb, ne_eqb}
use native.Mathlib.Decide.{ℕ_discrete}
use Rattle.common.specs.Sums.{when}
use Rattle.sheet_record.proofs.Tables.{both_true}
use Rattle.capture_log.specs.declared.Event.{Event}
use Rattle.capture_log.specs.Log.{asks}
use Rattle.capture_ages.specs.Ages.{clock, asked, lead_behind, kept_lead, lead, early}
use Rattle.capture_ages.proofs.True.{asks_not}

-- ---- A lead

pub kept_most : (J x : ℕ) → kept_lead J x ≤ J
unfolding kept_lead
kept_most J x = split (ltb J x) refl
  where
    split : (b : Bool) → ltb J x ≡ b → cond b 0 x ≤ J
    split true q = omega arith
    split false q = ltb-false J x q

pub kept_at_most : (J x : ℕ) → kept_lead J x ≤ x
unfolding kept_lead
kept_at_most J x = split (ltb J x)
  where
    split : (b : Bool) → cond b 0 x ≤ x
    split true = omega arith
    split false = omega arith

pub kept_in_time : (J x : ℕ) → x ≤ J → kept_lead J x ≡ x
unfolding kept_lead
kept_in_time J x l = rw (le-ltb J x l) refl

-- the lead of what comes behind another, and of a first request
pub lead_next : (T previous l gap : ℕ) → (previous ≡ 0 → ⊥) → lead_behind T previous l gap ≡ l + T - gap
unfolding lead_behind
lead_next T previous l gap z = rw (ne_eqb previous 0 z) refl

pub lead_first : (T previous l gap : ℕ) → previous ≡ 0 → lead_behind T previous l gap ≡ 0
unfolding lead_behind
lead_first T previous l gap z = rw (eq-eqb previous 0 z) refl

pub lead_at_most : (T previous l gap : ℕ) → lead_behind T previous l gap ≤ l + T - gap
lead_at_most T previous l gap = split (ℕ_discrete previous 0)
  where
    split : Dec (previous ≡ 0) → lead_behind T previous l gap ≤ l + T - gap
    split (yes z) = omega (arith, lead_first T previous l gap z)
    split (no z) = omega (arith, lead_next T previous l gap z)

-- ---- One record more

-- a request of stream i
module _ (i : ℕ) (e : Event) (es : List Event) (asks-it : e.kind ≡ 16) (own : e.stream ≡ i) where
  pub asked_here : asked (e ∷ es) i ≡ clock (e ∷ es)
  unfolding asked asks
  asked_here = rw (eq-eqb e.kind 16 asks-it, eq-eqb e.stream i own) refl

  pub lead_here : (T J : ℕ → ℕ) → lead T J (e ∷ es) i ≡ kept_lead (J i) (lead_behind (T i) (asked es i) (lead T J es i) (clock (e ∷ es) - asked es i))
  unfolding lead asks
  lead_here T J = rw (eq-eqb e.kind 16 asks-it, eq-eqb e.stream i own) refl

-- any other record
module _ (i : ℕ) (e : Event) (es : List Event) (other : e.kind ≡ 16 → e.stream ≡ i → ⊥) where
  pub asked_there : asked (e ∷ es) i ≡ asked es i
  unfolding asked
  asked_there = rw (asks_not e i other) refl

  pub lead_there : (T J : ℕ → ℕ) → lead T J (e ∷ es) i ≡ lead T J es i
  unfolding lead
  lead_there T J = rw (asks_not e i other) refl

-- ---- Too soon

module _ (T J : ℕ → ℕ) where
  pub lead_most : (es : List Event) (i : ℕ) → lead T J es i ≤ J i
  unfolding lead
  lead_most [] i = omega arith
  lead_most (e ∷ es) i = split (asks e i) (lead_most es i)
    where
      split : (b : Bool) → lead T J es i ≤ J i
          → cond b (kept_lead (J i) (lead_behind (T i) (asked es i) (lead T J es i) (clock (e ∷ es) - asked es i))) (lead T J es i) ≤ J i
      split true h = kept_most (J i) _
      split false h = h

  -- a request that came too soon stands less than T behind the one before
  pub early_sooner : (e : Event) (es : List Event) → early T J e es ≡ true → clock (e ∷ es) - asked es e.stream < T e.stream
  unfolding early
  early_sooner e es q = split (ℕ_discrete (asked es i) 0)
    where
      i : ℕ
      i = e.stream

      gap : ℕ
      gap = clock (e ∷ es) - asked es i

      above : J i < lead_behind (T i) (asked es i) (lead T J es i) gap
      above = ltb-true (J i) _ (both_true (eqb e.kind 16) _ q).1

      split : Dec (asked es i ≡ 0) → gap < T i
      split (yes z) = absurd (omega (arith, above, lead_first (T i) (asked es i) (lead T J es i) gap z))
      split (no z) = omega (arith, above, lead_next (T i) (asked es i) (lead T J es i) gap z, lead_most es i)

  -- where J is 0, too soon is to stand less than T behind the one before
  pub early_without_jitter : (e : Event) (es : List Event) → J e.stream ≡ 0
      → early T J e es ≡ eqb e.kind 16 && (not (eqb (asked es e.stream) 0) && ltb (clock (e ∷ es) - asked es e.stream) (T e.stream))
  unfolding early
  early_without_jitter e es z = ap (λ (b : Bool). eqb e.kind 16 && b) (split (ℕ_discrete (asked es e.stream) 0))
    where
      i : ℕ
      i = e.stream

      gap : ℕ
      gap = clock (e ∷ es) - asked es i

      none : lead T J es i ≡ 0
      none = omega (arith, lead_most es i, z)

      over : (b : Bool) → ltb gap (T i) ≡ b → ltb (J i) (lead T J es i + T i - gap) ≡ b
      over true q = lt-ltb (J i) (lead T J es i + T i - gap) (omega (arith, none, z, ltb-true gap (T i) q))
      over false q = le-ltb (J i) (lead T J es i + T i - gap) (omega (arith, none, z, ltb-false gap (T i) q))

      split : Dec (asked es i ≡ 0) → ltb (J i) (lead_behind (T i) (asked es i) (lead T J es i) gap) ≡ not (eqb (asked es i) 0) && ltb gap (T i)
      split (yes p) = rw (lead_first (T i) (asked es i) (lead T J es i) gap p, eq-eqb (asked es i) 0 p) (le-ltb (J i) 0 (omega arith))
      split (no p) = rw (lead_next (T i) (asked es i) (lead T J es i) gap p, ne_eqb (asked es i) 0 p) (over (ltb gap (T i)) refl)
