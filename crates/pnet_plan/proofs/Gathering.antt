-- The pass that places a segment's pairs of T and J by master: nothing is placed at first, and a store of each number places one stream more.
-- Assumes nothing.
use mathlib.Core.Path.{◌≡◌, refl, sym, ap, ◌∙◌, subst}
use mathlib.Core.Bool.{true, false}
use mathlib.Core.List.{List}
use Prim.Native.Nat.{ℕ, ◌+◌, ◌-◌, ◌*◌, ◌≤◌, ◌<◌, min}
use native.Mathlib.Omega.{arith}
use native.Mathlib.Decide.{ℕ_discrete, dec_lt}
use borrow.Author.Tests.{eq-eqb, ne_eqb}
use lib.ListN.{length, set, length-set, replicate, length-replicate, get_or-replicate}
use lib.Seq.{get_or-set_same, get_or-set_other}
use Rattle.common.specs.Sums.{when, upto}
use Rattle.common.proofs.Sums.{upto_more, upto_same, upto_part, upto_even, upto_grouped}
use Rattle.pnet_rules.specs.Segment.{Segment, owns, count}
use Rattle.pnet_rules.specs.Limits.{Declared}
use Rattle.pnet_turn.specs.Turn.{at}
use Rattle.pnet_search.specs.Arrays.{spacing_at, jitter_at}
use Rattle.pnet_plan.specs.Arrays.{part, Grouped}

-- ---- Where the pairs of a master stand

module _ (S : Segment) where
  -- where those of y begin
  abbrev pub start : ℕ → ℕ
  start y = upto (count S) (y - 1)

  -- those of an earlier master end before
  pub apart : (z y : ℕ) → 1 ≤ z → z < y → start z + count S z ≤ start y
  apart z y lo l =
      let e : z - 1 + 1 ≡ z = omega arith in
      let more : upto (count S) z ≡ upto (count S) (z - 1) + count S z = subst (λ (x : ℕ). upto (count S) x ≡ upto (count S) (z - 1) + count S x) e (upto_more (count S) (z - 1)) in
      omega (arith, more, upto_part (count S) z (y - 1) (omega arith))

  -- each stream is counted for one master
  all_counted : Declared S → upto (count S) S.masters ≡ S.number
  unfolding count owns
  all_counted d =
      let g = upto_grouped (λ i. 1) (λ y. 1) (λ i. (S.stream i).master) S.masters S.number (λ i lo hi. ((d.ranges i lo hi).master_from, (d.ranges i lo hi).master_to)) in
      upto_same (count S) (λ y. count S y * 1) S.masters (λ y lo hi. omega arith) ∙ (sym g ∙ (upto_even 1 S.number ∙ omega arith))

  -- so those of all need a place for each stream
  pub start_inside : Declared S → (y : ℕ) → 1 ≤ y → y ≤ S.masters → start y + count S y ≤ S.number
  start_inside d y lo hi = omega (arith, apart y (S.masters + 1) lo (omega arith), all_counted d, ap (upto (count S)) (back S.masters))
    where
      back : (n : ℕ) → n + 1 - 1 ≡ n
      back n = omega arith

-- ---- Nothing yet

pub grouped_none : (S : Segment) (ends pairs : List ℕ) → length ends ≡ 33 → 2 * S.number ≤ length pairs → ((y : ℕ) → 1 ≤ y → y ≤ S.masters → at ends y ≡ start S y)
    → Grouped S 0 ends (replicate 33 1000000000) pairs
unfolding count upto
grouped_none S ends pairs l room e =
    record {
      ends_long = l;
      slack_long = length-replicate {A = ℕ} 33 1000000000;
      room = room;
      ends_are = λ y lo hi. omega (arith, e y lo hi);
      pairs_are = λ g y lo hi. refl;
      slack_to = λ y h. omega (arith, longest y h);
      above_none = λ y x h lo hi o. absurd (omega arith);
      greatest_such = λ y b h small o. omega (arith, longest y h);
    }
  where
    longest : (y : ℕ) → y ≤ 32 → at (replicate 33 1000000000) y ≡ 1000000000
    longest y h = get_or-replicate {A = ℕ} 33 y 1000000000 0 (omega arith)

-- ---- One stream more

-- how many of the first i + 1 streams a master has
module _ (S : Segment) (i y : ℕ) where
  count_next : count (part S (i + 1)) y ≡ count (part S i) y + when (owns S y (i + 1)) 1
  unfolding count owns
  count_next = upto_more (λ j. when (owns S y j) 1) i

  pub count_other : owns S y (i + 1) ≡ false → count (part S (i + 1)) y ≡ count (part S i) y
  count_other e = count_next ∙ rw e (omega arith)

  pub count_own : owns S y (i + 1) ≡ true → count (part S (i + 1)) y ≡ count (part S i) y + 1
  count_own e = count_next ∙ rw e

  -- no more than it has in all
  pub count_part : i ≤ S.number → count (part S i) y ≤ count S y
  unfolding count owns
  count_part l = upto_part (λ j. when (owns S y j) 1) i S.number l

module _ (S : Segment) (d : Declared S) (i : ℕ) (lt : i < S.number) (m : ℕ) (its : m ≡ (S.stream (i + 1)).master) where
  -- its master m
  pub owned : owns S m (i + 1) ≡ true
  unfolding owns
  owned = eq-eqb (S.stream (i + 1)).master m (sym its)

  pub not_owned : (y : ℕ) → (y ≡ m → ⊥) → owns S y (i + 1) ≡ false
  unfolding owns
  not_owned y e = ne_eqb (S.stream (i + 1)).master y (λ q. e (sym q ∙ sym its))

  pub master_from : 1 ≤ m
  master_from = omega (arith, (d.ranges (i + 1) (omega arith) (omega arith)).master_from)

  pub master_to : m ≤ S.masters
  master_to = omega (arith, (d.ranges (i + 1) (omega arith) (omega arith)).master_to)

  pub master_inside : m ≤ 32
  master_inside = omega (arith, master_to, d.masters_to)

  -- one of its master's is still to come
  pub fewer : count (part S i) m < count S m
  fewer = omega (arith, count_own S i m owned, count_part S (i + 1) m (omega arith))

  module _ {ends slacks pairs : List ℕ} (g : Grouped S i ends slacks pairs) where
    -- the place for its pair: within those of its master
    place_is : at ends m ≡ start S m + count (part S i) m
    place_is = g.ends_are m master_from master_to

    pub place_inside : at ends m < S.number
    place_inside = omega (arith, place_is, fewer, start_inside S d m master_from master_to)

    module _ (t x : ℕ) (spaced : t ≡ (S.stream (i + 1)).spacing) (shifted : x ≡ (S.stream (i + 1)).jitter) where
      -- the pairs with the new one stored
      abbrev paired : List ℕ
      paired = set (set pairs (2 * at ends m) t) (2 * at ends m + 1) x

      paired_long : length paired ≡ length pairs
      paired_long = length-set (set pairs (2 * at ends m) t) (2 * at ends m + 1) x ∙ length-set pairs (2 * at ends m) t

      -- it is the one read at its place
      spacing_here : spacing_at paired (at ends m) ≡ t
      spacing_here =
          get_or-set_other (set pairs (2 * at ends m) t) (2 * at ends m + 1) (2 * at ends m) x 0 (λ e. omega arith)
          ∙ get_or-set_same pairs (2 * at ends m) t 0 (omega (arith, place_inside, g.room))

      jitter_here : jitter_at paired (at ends m) ≡ x
      jitter_here =
          get_or-set_same (set pairs (2 * at ends m) t) (2 * at ends m + 1) x 0 (omega (arith, place_inside, g.room, length-set pairs (2 * at ends m) t))

      -- and at another place the old one is
      module _ (p : ℕ) (q : p ≡ at ends m → ⊥) where
        spacing_there : spacing_at paired p ≡ spacing_at pairs p
        spacing_there =
            get_or-set_other (set pairs (2 * at ends m) t) (2 * at ends m + 1) (2 * p) x 0 (λ e. omega arith)
            ∙ get_or-set_other pairs (2 * at ends m) (2 * p) t 0 (λ e. q (omega arith))

        jitter_there : jitter_at paired p ≡ jitter_at pairs p
        jitter_there =
            get_or-set_other (set pairs (2 * at ends m) t) (2 * at ends m + 1) (2 * p + 1) x 0 (λ e. q (omega arith))
            ∙ get_or-set_other pairs (2 * at ends m) (2 * p + 1) t 0 (λ e. omega arith)

      module _ (f : ℕ → ℕ → ℕ) where
        -- f of the pair at a place, and of a stream
        abbrev of_place : List ℕ → ℕ → ℕ
        of_place run p = f (spacing_at run p) (jitter_at run p)

        abbrev of_stream : ℕ → ℕ
        of_stream z = f (S.stream z).spacing (S.stream z).jitter

        -- the sum over the first n of y's places, with the new pair stored, and that over the first n streams
        placed : ℕ → ℕ → ℕ
        placed y n = upto (λ j. of_place paired (start S y + (j - 1))) n

        streamed : ℕ → ℕ → ℕ
        streamed y n = upto (λ z. when (owns S y z) (of_stream z)) n

        -- the new place is none of those in use
        old_sum : (y : ℕ) → 1 ≤ y → y ≤ S.masters → placed y (count (part S i) y) ≡ streamed y i
        unfolding placed streamed
        old_sum y lo hi =
            upto_same (λ j. of_place paired (start S y + (j - 1))) (λ j. of_place pairs (start S y + (j - 1))) (count (part S i) y) same ∙ g.pairs_are f y lo hi
          where
            other : (j : ℕ) → 1 ≤ j → j ≤ count (part S i) y → start S y + (j - 1) ≡ at ends m → (y ≡ m → ⊥) → Dec (y < m) → ⊥
            other j from to e q (yes l) = omega (arith, place_is, count_part S i y (omega arith), apart S y m lo l)
            other j from to e q (no l) = omega (arith, place_is, fewer, apart S m y master_from (omega (arith, q, l)))

            clash : (j : ℕ) → 1 ≤ j → j ≤ count (part S i) y → start S y + (j - 1) ≡ at ends m → Dec (y ≡ m) → ⊥
            clash j from to e (yes q) = omega (arith, place_is, ap (start S) q, ap (count (part S i)) q)
            clash j from to e (no q) = other j from to e q (dec_lt y m)

            same : (j : ℕ) → 1 ≤ j → j ≤ count (part S i) y → of_place paired (start S y + (j - 1)) ≡ of_place pairs (start S y + (j - 1))
            same j from to =
                let p = start S y + (j - 1) in
                let away : (p ≡ at ends m → ⊥) = λ e. clash j from to e (ℕ_discrete y m) in
                ap (λ (a : ℕ). f a (jitter_at paired p)) (spacing_there p away) ∙ ap (f (spacing_at pairs p)) (jitter_there p away)

        sum_own : placed m (count (part S i) m + 1) ≡ streamed m (i + 1)
        unfolding placed streamed
        sum_own =
            let c = count (part S i) m in
            let p : start S m + (c + 1 - 1) ≡ at ends m = omega (arith, place_is) in
            let here : of_place paired (start S m + (c + 1 - 1)) ≡ f t x =
            ap (of_place paired) p ∙ (ap (λ (a : ℕ). f a (jitter_at paired (at ends m))) spacing_here ∙ ap (f t) jitter_here) in
            let term : when (owns S m (i + 1)) (of_stream (i + 1)) ≡ f t x = rw (owned, spaced, shifted) in
            upto_more (λ j. of_place paired (start S m + (j - 1))) c
            ∙ (omega (arith, old_sum m master_from master_to, here, term) ∙ sym (upto_more (λ z. when (owns S m z) (of_stream z)) i))

        sum_other : (y : ℕ) → 1 ≤ y → y ≤ S.masters → (y ≡ m → ⊥) → placed y (count (part S i) y) ≡ streamed y (i + 1)
        unfolding placed streamed
        sum_other y lo hi q =
            let term : when (owns S y (i + 1)) (of_stream (i + 1)) ≡ 0 = rw (not_owned y q) in
            omega (arith, old_sum y lo hi, term, upto_more (λ z. when (owns S y z) (of_stream z)) i)

        new_sum : (y : ℕ) → 1 ≤ y → y ≤ S.masters → placed y (count (part S (i + 1)) y) ≡ streamed y (i + 1)
        new_sum y lo hi = split (ℕ_discrete y m)
          where
            split : Dec (y ≡ m) → placed y (count (part S (i + 1)) y) ≡ streamed y (i + 1)
            split (yes q) = rw (q, count_own S i m owned) sum_own
            split (no q) = rw (count_other S i y (not_owned y q)) (sum_other y lo hi q)

      new_end : (y : ℕ) → 1 ≤ y → y ≤ S.masters → at (set ends m (at ends m + 1)) y ≡ start S y + count (part S (i + 1)) y
      new_end y lo hi = split (ℕ_discrete y m)
        where
          split : Dec (y ≡ m) → at (set ends m (at ends m + 1)) y ≡ start S y + count (part S (i + 1)) y
          split (yes q) = rw q (get_or-set_same ends m (at ends m + 1) 0 (omega (arith, master_inside, g.ends_long)) ∙ omega (arith, place_is, count_own S i m owned))
          split (no q) = get_or-set_other ends m y (at ends m + 1) 0 q ∙ omega (arith, g.ends_are y lo hi, count_other S i y (not_owned y q))

      -- T - J of a stream
      abbrev slack_of : ℕ → ℕ
      slack_of z = (S.stream z).spacing - (S.stream z).jitter

      new_slack : t - x ≡ slack_of (i + 1)
      new_slack = omega (arith, spaced, shifted)

      -- the slack of m is now the lesser of two, and that of another master as it was
      module _ (y : ℕ) (h : y ≤ 32) where
        abbrev lesser : ℕ
        lesser = min (at slacks m) (t - x)

        same_slack : y ≡ m → at (set slacks m lesser) y ≡ lesser
        same_slack q = ap (at (set slacks m lesser)) q ∙ get_or-set_same slacks m lesser 0 (omega (arith, master_inside, g.slack_long))

        other_slack : (y ≡ m → ⊥) → at (set slacks m lesser) y ≡ at slacks y
        other_slack q = get_or-set_other slacks m y lesser 0 q

        new_to : at (set slacks m lesser) y ≤ 1000000000
        new_to = split (ℕ_discrete y m)
          where
            split : Dec (y ≡ m) → at (set slacks m lesser) y ≤ 1000000000
            split (yes q) = omega (arith, same_slack q, g.slack_to m master_inside)
            split (no q) = omega (arith, other_slack q, g.slack_to y h)

        new_above : (z : ℕ) → 1 ≤ z → z ≤ i + 1 → owns S y z ≡ true → at (set slacks m lesser) y ≤ slack_of z
        new_above z lo hi o = split (ℕ_discrete y m) (ℕ_discrete z (i + 1))
          where
            split : Dec (y ≡ m) → Dec (z ≡ i + 1) → at (set slacks m lesser) y ≤ slack_of z
            split (yes q) (yes e) = omega (arith, same_slack q, new_slack, ap slack_of e)
            split (yes q) (no e) = omega (arith, same_slack q, ap (at slacks) q, g.above_none y z h lo (omega (arith, e)) o)
            split (no q) (yes e) =
                let b : true ≡ false = sym o ∙ (ap (owns S y) e ∙ not_owned y q) in
                let b' : ◌≡◌ {A = ℕ} 0 1 = cc in
                absurd (omega arith)
            split (no q) (no e) = omega (arith, other_slack q, g.above_none y z h lo (omega (arith, e)) o)

        new_greatest : (b : ℕ) → b ≤ 1000000000 → ((z : ℕ) → 1 ≤ z → z ≤ i + 1 → owns S y z ≡ true → b ≤ slack_of z) → b ≤ at (set slacks m lesser) y
        new_greatest b small all = split (ℕ_discrete y m)
          where
            before : b ≤ at slacks y
            before = g.greatest_such y b h small (λ z lo hi o. all z lo (omega arith) o)

            split : Dec (y ≡ m) → b ≤ at (set slacks m lesser) y
            split (yes q) = omega (arith, same_slack q, before, ap (at slacks) q, new_slack, all (i + 1) (omega arith) (omega arith) (ap (λ (z : ℕ). owns S z (i + 1)) q ∙ owned))
            split (no q) = omega (arith, other_slack q, before)

      pub grouped_more : (least : ℕ) → least ≡ min (at slacks m) (t - x)
          → Grouped S (i + 1) (set ends m (at ends m + 1)) (set slacks m least) (set (set pairs (2 * at ends m) t) (2 * at ends m + 1) x)
      unfolding placed streamed
      grouped_more least e =
          subst (λ (a : ℕ). Grouped S (i + 1) (set ends m (at ends m + 1)) (set slacks m a) paired) (sym e)
          (record {
            ends_long = length-set ends m (at ends m + 1) ∙ g.ends_long;
            slack_long = length-set slacks m (min (at slacks m) (t - x)) ∙ g.slack_long;
            room = omega (arith, g.room, paired_long);
            ends_are = new_end;
            pairs_are = new_sum;
            slack_to = new_to;
            above_none = λ y z h lo hi o. new_above y h z lo hi o;
            greatest_such = λ y b h small all. new_greatest y h b small all;
          })
