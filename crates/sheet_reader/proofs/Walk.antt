-- Page 01, 'Sheet records': where a reader's steps lead, and how many of them move. Assumes nothing.
use mathlib.Core.Path.{◌≡◌, refl, sym, ap, ◌∙◌}
use mathlib.Core.Bool.{Bool, true, false, not, ◌&&◌, true≢false}
use mathlib.Core.List.{List}
use Prim.Native.Nat.{ℕ, zero, suc, ◌+◌, ◌≤◌, ◌<◌}
use native.Mathlib.Numerals.{add-one}
use native.Mathlib.Omega.{arith}
use native.Mathlib.Decide.{dec_le, ℕ_discrete}
use borrow.Author.Tests.{leb-true, le-leb, eqb-false, eq-eqb, ne_eqb}
use lib.ListN.{length, get_or}
use lib.Dec.{leb, eqb}
use Rattle.common.proofs.Firsts.{found_first, found_none}
use Rattle.sheet_record.specs.Kinds.{known, size_of, decode, whole}
use Rattle.sheet_reader.specs.declared.Found.{Found}
use Rattle.sheet_reader.specs.declared.Found.TheVariants as found
use Rattle.sheet_reader.specs.Walk.{found_of, behind_of, step_from, place_after, stays_after, count}
use Rattle.sheet_reader.proofs.Cases.{found_end, found_unknown, found_over, found_whole}

module _ (s : List ℕ) where
  -- ---- One step

  module _ (at : ℕ) where
    by : Found → ℕ
    by f = behind_of f at

    -- just behind the record, where one stands whole; elsewhere it stays
    data Steps : Type 0 where
      over : known (get_or s at 0) ≡ true → at + size_of (get_or s at 0) ≤ length s → step_from s at ≡ at + size_of (get_or s at 0) → Steps
      stays : step_from s at ≡ at → Steps

    steps : Steps
    unfolding step_from by
    steps = split (dec_le (length s) at) (known (get_or s at 0)) refl (dec_le (at + size_of (get_or s at 0)) (length s))
      where
        split : Dec (length s ≤ at) → (k : Bool) → known (get_or s at 0) ≡ k → Dec (at + size_of (get_or s at 0) ≤ length s) → Steps
        split (yes h) k e d = stays (ap by (found_end s at h))
        split (no h) false e d = stays (ap by (found_unknown s at (omega (arith, h)) e))
        split (no h) true e (yes l) = over e l (ap by (found_whole s at (omega (arith, h)) e l))
        split (no h) true e (no l) = stays (ap by (found_over s at (omega (arith, h)) e (omega (arith, l))))

    -- never back
    pub step_on : at ≤ step_from s at
    step_on = split steps
      where
        split : Steps → at ≤ step_from s at
        split (over k l e) = omega (arith, e)
        split (stays e) = omega (arith, e)

    -- nor beyond the end
    step_within : at ≤ length s → step_from s at ≤ length s
    step_within h = split steps
      where
        split : Steps → step_from s at ≤ length s
        split (over k l e) = omega (arith, l, e)
        split (stays e) = omega (arith, h, e)

    module _ (w : whole s at ≡ true) where
      whole_then : (known (get_or s at 0) ≡ true) × (at + size_of (get_or s at 0) ≤ length s)
      unfolding whole
      whole_then = split (known (get_or s at 0)) (leb (at + size_of (get_or s at 0)) (length s)) refl refl w
        where
          split : (k d : Bool) → known (get_or s at 0) ≡ k → leb (at + size_of (get_or s at 0)) (length s) ≡ d → (k && d) ≡ true
              → (known (get_or s at 0) ≡ true) × (at + size_of (get_or s at 0) ≤ length s)
          split true true e f g = (e, leb-true _ _ f)
          split true false e f g = absurd (true≢false (sym g))
          split false d e f g = absurd (true≢false (sym g))

      pub finds_whole : found_of s at ≡ found.One (record { found = decode s at; next = at + size_of (get_or s at 0) })
      unfolding size_of
      finds_whole = found_whole s at (omega (arith, whole_then.1)) whole_then.0 whole_then.1

      pub steps_over : step_from s at ≡ at + size_of (get_or s at 0)
      unfolding step_from by
      steps_over = ap by finds_whole

  -- ---- Steps from the first byte

  pub place_within : (i : ℕ) → place_after s i ≤ length s
  unfolding place_after
  place_within zero = omega arith
  place_within (suc i) = step_within (place_after s i) (place_within i)

  -- a step stays exactly where no record of a known kind stands whole
  pub stays_unless_whole : (i : ℕ) → stays_after s i ≡ not (whole s (place_after s i))
  unfolding stays_after place_after whole size_of
  stays_unless_whole i = split (whole s (place_after s i)) refl (steps (place_after s i))
    where
      at : ℕ
      at = place_after s i

      split : (b : Bool) → whole s at ≡ b → Steps at → eqb (step_from s at) at ≡ not (whole s at)
      split true w t = ne_eqb (step_from s at) at (λ q. omega (arith, q, steps_over at w)) ∙ ap not (sym w)
      split false w (stays e) = eq-eqb (step_from s at) at e ∙ ap not (sym w)
      split false w (over k l e) = absurd (true≢false (sym (simp (k, le-leb (at + size_of (get_or s at 0)) (length s) l)) ∙ w))

  -- the first n steps move
  abbrev pub Moves : ℕ → Type 0
  Moves n = (j : ℕ) → j < n → stays_after s j ≡ false

  -- each by a byte at least
  moves_by : (n : ℕ) → Moves n → n ≤ place_after s n
  unfolding place_after stays_after
  moves_by zero m = omega arith
  moves_by (suc n) m =
      let e = eqb-false (place_after s (suc n)) (place_after s n) (m n (omega arith)) in
      omega (arith, e, step_on (place_after s n), moves_by n (λ j h. m j (omega arith)))

  -- n steps move and the next one stays
  pub count_is : (n : ℕ) → Moves n → stays_after s n ≡ true → n ≡ count s
  unfolding count
  count_is n m e = by (ℕ_discrete n (length s))
    where
      by : Dec (n ≡ length s) → n ≡ count s
      by (yes q) = found_none (stays_after s) (length s) n m q
      by (no q) = found_first (stays_after s) (length s) n m e (omega (arith, q, moves_by n m, place_within n))

  -- ---- A reader behind n steps, which all move: where it stands, and where the next step leads

  pub record Walked (n at next : ℕ) : Type 0 where
    pub stands : at ≡ place_after s n
    pub leads : next ≡ place_after s (suc n)
    pub moves : Moves n

  pub walked_none : (next : ℕ) → next ≡ step_from s 0 → Walked 0 0 next
  unfolding place_after
  walked_none next e = record { stands = refl; leads = e; moves = λ j h. absurd (omega arith) }

  module _ {n at next : ℕ} (w : Walked n at next) where
    -- the next step moves too
    module _ (e : next ≡ at → ⊥) where
      pub walked_room : (n < length s) × (at < next) × (next ≤ length s)
      unfolding place_after
      walked_room =
          let up : at < next = omega (arith, e, w.stands, w.leads, step_on (place_after s n)) in
          let most : next ≤ length s = omega (arith, w.leads, place_within (suc n)) in
          (omega (arith, w.stands, moves_by n w.moves), up, most)

      pub walked_on : (after : ℕ) → after ≡ step_from s next → Walked (n + 1) next after
      unfolding place_after stays_after
      walked_on after f =
          rw (add-one n)
          (record {
            stands = w.leads;
            leads = f ∙ ap (step_from s) w.leads;
            moves = λ j h. by j h (ℕ_discrete j n);
          })
        where
          by : (j : ℕ) → j < suc n → Dec (j ≡ n) → stays_after s j ≡ false
          by j h (yes q) = ap (stays_after s) q ∙ ne_eqb (place_after s (suc n)) (place_after s n) (λ l. e (w.leads ∙ (l ∙ sym w.stands)))
          by j h (no q) = w.moves j (omega (arith, q))

    -- it stays
    pub walked_all : next ≡ at → n ≡ count s
    unfolding stays_after
    walked_all e = count_is n w.moves (eq-eqb (place_after s (suc n)) (place_after s n) (sym w.leads ∙ (e ∙ w.stands)))
