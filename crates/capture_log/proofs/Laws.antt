-- What one record more changes of what a capture says. Assumes nothing.
use Rattle.std.proofs.Common.{◌≡◌, ℕ, ◌+◌, max, true, false, eqb, ltb, List, ◌∷◌, refl, arith, eq-eqb, ne_eqb}
use mathlib.Core.Bool.{and-false}
use Rattle.common.specs.Sums.{when}
use Rattle.capture_log.specs.declared.Event.{Event}
use Rattle.capture_log.specs.Log.{Before, asks, answers, left, since, shown, answered, largest, above}

module _ (b : Before) (es : List Event) (e : Event) (i : ℕ) where
  -- a record of another stream changes nothing
  module _ (other : e.stream ≡ i → ⊥) where
    asks_not : asks e i ≡ false
    unfolding asks
    asks_not = rw (ne_eqb e.stream i other) (and-false (eqb e.kind 16))

    answers_not : answers e i ≡ false
    unfolding answers
    answers_not = rw (ne_eqb e.stream i other) (and-false (eqb e.kind 17))

    pub left_other : left b (e ∷ es) i ≡ left b es i
    unfolding left
    left_other = rw (asks_not, answers_not) refl

    pub since_other : since b (e ∷ es) i ≡ since b es i
    unfolding since
    since_other = rw asks_not refl

    pub answered_other : answered (e ∷ es) i ≡ answered es i
    unfolding answered
    answered_other = rw answers_not (omega arith)

    pub largest_other : largest b (e ∷ es) i ≡ largest b es i
    unfolding largest
    largest_other = rw answers_not (omega arith)

    pub above_other : (R : ℕ) → above b R (e ∷ es) i ≡ above b R es i
    unfolding above
    above_other R = rw answers_not (omega arith)

  -- a request
  module _ (is : e.kind ≡ 16) where
    unanswered : answers e i ≡ false
    unfolding answers
    unanswered = rw (ne_eqb e.kind 17 (λ h. omega (arith, is, h))) refl

    pub answered_request : answered (e ∷ es) i ≡ answered es i
    unfolding answered
    answered_request = rw unanswered (omega arith)

    pub largest_request : largest b (e ∷ es) i ≡ largest b es i
    unfolding largest
    largest_request = rw unanswered (omega arith)

    pub above_request : (R : ℕ) → above b R (e ∷ es) i ≡ above b R es i
    unfolding above
    above_request R = rw unanswered (omega arith)

    -- of this stream
    module _ (own : e.stream ≡ i) where
      asked : asks e i ≡ true
      unfolding asks
      asked = rw (eq-eqb e.stream i own, eq-eqb e.kind 16 is) refl

      pub left_request : left b (e ∷ es) i ≡ 1
      unfolding left
      left_request = rw asked refl

      pub since_request : since b (e ∷ es) i ≡ e.stamp
      unfolding since
      since_request = rw asked refl

  -- an answer
  module _ (is : e.kind ≡ 17) where
    unasked : asks e i ≡ false
    unfolding asks
    unasked = rw (ne_eqb e.kind 16 (λ h. omega (arith, is, h))) refl

    pub since_answer : since b (e ∷ es) i ≡ since b es i
    unfolding since
    since_answer = rw unasked refl

    module _ (own : e.stream ≡ i) where
      answers_it : answers e i ≡ true
      unfolding answers
      answers_it = rw (eq-eqb e.stream i own, eq-eqb e.kind 17 is) refl

      pub left_answer : left b (e ∷ es) i ≡ 0
      unfolding left
      left_answer = rw (unasked, answers_it) refl

      pub answered_answer : answered (e ∷ es) i ≡ 1 + answered es i
      unfolding answered
      answered_answer = rw answers_it refl

      pub largest_answer : largest b (e ∷ es) i ≡ max (shown b es e) (largest b es i)
      unfolding largest
      largest_answer = rw answers_it refl

      pub above_answer : (R : ℕ) → above b R (e ∷ es) i ≡ when (ltb R (shown b es e)) 1 + above b R es i
      unfolding above
      above_answer R = rw answers_it refl
