-- What the code's arrays hold are the figures of the sheet's traffic. Assumes nothing.
use mathlib.Core.Path.{◌≡◌, refl, sym, ap, ◌∙◌}
use mathlib.Core.List.{List}
use Prim.Native.Nat.{ℕ, ◌+◌, ◌-◌, ◌*◌, ◌/◌, ◌≤◌, ◌<◌}
use native.Mathlib.Nat.{div-eq_of_lt, div-lt_iff_lt-mul}
use native.Mathlib.Omega.{arith}
use native.Mathlib.Decide.{dec_lt}
use lib.Dec.{ltb}
use lib.ListN.{length, get_or}
use borrow.Author.Tests.{lt-ltb, le-ltb}
use Rattle.common.specs.Sums.{when}
use Rattle.common.specs.Runs.{tab}
use Rattle.common.proofs.Runs.{tab_places}
use Rattle.worldfip_rules.specs.Traffic.{Traffic, Declared, plain, ahead, rank_of, variable_of, factor_upto, multiple_upto, microcycle, slots, in_rows, rows, period_at}
use Rattle.worldfip_rules.proofs.Ranks.{variable_within}
use Rattle.worldfip_rules.proofs.Factors.{micro_pos, in_rows_pos}
use Rattle.worldfip_figures.specs.Figures.{place_at}
use Rattle.worldfip_figures.specs.Held.{numbered, held, Sheeted, Whole, Placed, Within, Ranked}
use Rattle.worldfip_figures.proofs.Turns.{quotients, numbered_next}

module _ {ps : List ℕ} {n e : ℕ} (S : Sheeted ps n e) where
  D : Declared (held ps n e)
  D = S.declares

  pub few : n ≤ 64
  unfolding held plain
  few = D.number_in.1

  -- ---- The places by rank

  module _ {v : List ℕ} (P : Placed ps n v) where
    pub variable_is : (r : ℕ) → r < n → get_or v r 0 + 1 ≡ variable_of (held ps n e) r
    unfolding variable_of rank_of ahead held plain
    variable_is r l = P.are r l

    pub places_within : Within v n
    unfolding held plain
    places_within = record { long = P.long; below = λ r l. omega (arith, variable_is r l, variable_within (held ps n e) r l) }

    pub places_are : v ≡ tab (place_at (held ps n e)) 64
    unfolding place_at held plain
    places_are = tab_places (place_at (held ps n e)) v 64 P.long (λ r l. at r (dec_lt r n))
      where
        at : (r : ℕ) → Dec (r < n) → get_or v r 0 ≡ place_at (held ps n e) r
        at r (yes l) = let q : get_or v r 0 ≡ variable_of (held ps n e) r - 1 = omega (arith, variable_is r l) in q ∙ sym (simp (lt-ltb r n l))
        at r (no l) = P.rest r (omega (arith, l)) ∙ sym (simp (le-ltb r n (omega (arith, l))))

  -- ---- Microcycle, slots and rows

  pub micro_is : factor_upto (numbered ps) n ≡ microcycle (held ps n e)
  unfolding microcycle held plain
  micro_is = refl

  module _ {c : ℕ} (M : c ≡ microcycle (held ps n e)) where
    pub whole : Whole ps n c
    unfolding in_rows held plain
    whole =
        record {
          few = few;
          there = S.there;
          some = rw M (micro_pos (held ps n e) D);
          long = λ i lo hi. rw M (in_rows_pos (held ps n e) D i lo hi);
        }

    pub slots_are : c / e ≡ slots (held ps n e)
    unfolding slots held plain
    slots_are = ap (λ (x : ℕ). x / e) M

    pub none_fits : c < e → slots (held ps n e) ≡ 0
    none_fits l = sym slots_are ∙ div-eq_of_lt l

    pub some_fit : e ≤ c → slots (held ps n e) ≡ 0 → ⊥
    unfolding held plain
    some_fit l z =
        let h : c < 1 * e = (div-lt_iff_lt-mul D.exchange_in.0).0 (omega (arith, slots_are)) in
        omega arith

    pub rows_are : multiple_upto (quotients ps c) n ≡ rows (held ps n e)
    unfolding rows in_rows held plain
    rows_are = ap (λ (x : ℕ). multiple_upto (quotients ps x) n) M

    -- ---- The periods by rank

    module _ {v q : List ℕ} (P : Placed ps n v) (lq : length q ≡ 65) (Q : Ranked (λ i. get_or ps i 0 / c) v n q) where
      period_in : (r : ℕ) → r < n → get_or ps (get_or v r 0) 0 / c ≡ in_rows (held ps n e) (variable_of (held ps n e) r)
      unfolding in_rows held plain
      period_in r l =
          ap (λ (x : ℕ). get_or ps (get_or v r 0) 0 / x) M
          ∙ ap (λ (x : ℕ). x / microcycle (held ps n e)) (sym (numbered_next ps (get_or v r 0)) ∙ ap (numbered ps) (variable_is P r l))

      period_at_law : (r : ℕ) → get_or q r 0 ≡ period_at (held ps n e) r
      unfolding period_at held plain
      period_at_law r = Q.are r ∙ go (dec_lt r n)
        where
          go : Dec (r < n) → when (ltb r n) (get_or ps (get_or v r 0) 0 / c) ≡ when (ltb r n) (in_rows (held ps n e) (variable_of (held ps n e) r))
          go (yes l) = ap (when (ltb r n)) (period_in r l)
          go (no l) = simp (le-ltb r n (omega (arith, l)))

      pub periods_are : q ≡ tab (period_at (held ps n e)) 65
      periods_are = tab_places (period_at (held ps n e)) q 65 lq (λ r l. period_at_law r)
