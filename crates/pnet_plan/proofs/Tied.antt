-- The figures that are read off the arrays are those of the segment that they hold. Assumes nothing.
use mathlib.Core.Path.{◌≡◌, refl, ap, ◌∙◌, fun_ext}
use mathlib.Core.Bool.{Bool, true, false}
use mathlib.Core.List.{List}
use Prim.Native.Nat.{ℕ, ◌+◌, ◌-◌, ◌*◌, ◌≤◌, ◌<◌}
use native.Mathlib.Omega.{arith}
use borrow.Author.Tests.{eqb-true, lt-ltb, le-ltb, le-leb, lt-leb}
use lib.Dec.{ltb, leb}
use Rattle.common.specs.Sums.{when, upto, up}
use Rattle.common.proofs.Sums.{upto_same, upto_term, upto_most}
use Rattle.pnet_rules.specs.Segment.{Segment, owns, count, charged, turn_by, bound_by, turn, bound}
use Rattle.pnet_rules.specs.Refined.{saving, right_by, most_rounds, asked_by, right, rounds, refined}
use Rattle.pnet_rules.specs.Limits.{Declared}
use Rattle.pnet_rules.proofs.Holds.{charged_at_least, charged_at_most, bound_at_most}
use Rattle.pnet_turn.specs.Turn.{at}
use Rattle.pnet_search.specs.Arrays.{spacing_at, jitter_at, asked_in, asked_at, turn_in, bound_in, saved_in, right_in, rounds_in, refined_in, Spaced, Served, Kept, Slack}
use Rattle.pnet_plan.specs.Arrays.{Grouped}
use Rattle.pnet_plan.proofs.Gathering.{start, start_inside}

-- the arrays hold a segment: what each master has, and all its streams placed
pub record Laid (S : Segment) (counts charges ends slacks pairs : List ℕ) : Type 0 where
  pub counts_are : (y : ℕ) → y ≤ 32 → at counts y ≡ count S y
  pub charges_are : (y : ℕ) → 1 ≤ y → y ≤ S.masters → at charges y ≡ charged S y
  pub grouped : Grouped S S.number ends slacks pairs

module _ {S : Segment} (d : Declared S) {counts charges ends slacks pairs : List ℕ} (g : Laid S counts charges ends slacks pairs) where
  inside : (y : ℕ) → y ≤ S.masters → y ≤ 32
  inside y hi = omega (arith, d.masters_to)

  -- ---- Where a master's pairs stand

  end_is : (y : ℕ) → 1 ≤ y → y ≤ S.masters → at ends y ≡ start S y + count S y
  unfolding count
  end_is y lo hi = g.grouped.ends_are y lo hi

  start_is : (y : ℕ) → 1 ≤ y → y ≤ S.masters → at ends y - at counts y ≡ start S y
  start_is y lo hi = omega (arith, end_is y lo hi, g.counts_are y (inside y hi))

  -- f of the pair that stands j places behind the first of y's, and of a stream
  abbrev of_place : (ℕ → ℕ → ℕ) → ℕ → ℕ → ℕ
  of_place f y j = f (spacing_at pairs (at ends y - at counts y + j)) (jitter_at pairs (at ends y - at counts y + j))

  abbrev of_stream : (ℕ → ℕ → ℕ) → ℕ → ℕ
  of_stream f x = f (S.stream x).spacing (S.stream x).jitter

  sum_is : (f : ℕ → ℕ → ℕ) (y : ℕ) → 1 ≤ y → y ≤ S.masters
      → upto (λ j. of_place f y (j - 1)) (at counts y) ≡ upto (λ x. when (owns S y x) (of_stream f x)) S.number
  unfolding count
  sum_is f y lo hi = rw (start_is y lo hi, g.counts_are y (inside y hi)) (g.grouped.pairs_are f y lo hi)

  -- a test that none of its streams meets is met by none of its pairs
  none_meets : (test : ℕ → ℕ → Bool) (y : ℕ) → 1 ≤ y → y ≤ S.masters
      → ((x : ℕ) → 1 ≤ x → x ≤ S.number → owns S y x ≡ true → test (S.stream x).spacing (S.stream x).jitter ≡ false) → (j : ℕ) → j < at counts y
      → test (spacing_at pairs (at ends y - at counts y + j)) (jitter_at pairs (at ends y - at counts y + j)) ≡ true → ⊥
  none_meets test y lo hi e j h q =
      let f : ℕ → ℕ → ℕ = λ t x. when (test t x) 1 in
      let b : j + 1 - 1 ≡ j = omega arith in
      let one : of_place f y (j + 1 - 1) ≡ 1 = ap (of_place f y) b ∙ ap (λ (t : Bool). when t 1) q in
      let some : of_place f y (j + 1 - 1) ≤ upto (λ j. of_place f y (j - 1)) (at counts y) =
      upto_term (λ j. of_place f y (j - 1)) (at counts y) (j + 1) (omega arith) (omega arith) in
      let all : upto (λ x. when (owns S y x) (of_stream f x)) S.number ≤ S.number * 0 =
      upto_most (λ x. when (owns S y x) (of_stream f x)) 0 S.number (λ x a b'. none (owns S y x) (λ o. ap (λ (t : Bool). when t 1) (e x a b' o))) in
      omega (arith, sum_is f y lo hi)
    where
      none : {x : ℕ} (b : Bool) → (b ≡ true → x ≡ 0) → when b x ≤ 0
      none true q' = omega (arith, q' refl)
      none false q' = omega arith

  spaced : (y : ℕ) → 1 ≤ y → y ≤ S.masters → Spaced pairs (at ends y - at counts y) (at counts y)
  spaced y lo hi =
      record {
        inside = omega (arith, start_is y lo hi, g.counts_are y (inside y hi), start_inside S d y lo hi, g.grouped.room);
        most = λ j h. omega (arith, not_more j h);
        less = λ j h. omega (arith, not_all j h);
      }
    where
      not_more : (j : ℕ) → j < at counts y → 1000000000 < spacing_at pairs (at ends y - at counts y + j) → ⊥
      not_more j h q =
          none_meets (λ t x. ltb 1000000000 t) y lo hi (λ x a b o. le-ltb 1000000000 (S.stream x).spacing (d.ranges x a b).spacing_to) j h (lt-ltb 1000000000 _ q)

      not_all : (j : ℕ) → j < at counts y → spacing_at pairs (at ends y - at counts y + j) ≤ jitter_at pairs (at ends y - at counts y + j) → ⊥
      not_all j h q =
          none_meets (λ t x. leb t x) y lo hi (λ x a b o. lt-leb (S.stream x).spacing (S.stream x).jitter (d.ranges x a b).jitter_to) j h (le-leb _ _ q)

  pub kept : Kept S.masters (turn_in charges S.masters) counts charges ends pairs
  kept = record { few = d.masters_to; turn_is = refl; each = served }
    where
      served : (y : ℕ) → 1 ≤ y → y ≤ S.masters → Served counts charges ends pairs y
      served y lo hi =
          record {
            inside = inside y hi;
            count_to = omega (arith, g.counts_are y (inside y hi), d.counts y);
            charge_from = omega (arith, g.charges_are y lo hi, charged_at_least S y lo hi);
            charge_to = omega (arith, g.charges_are y lo hi, charged_at_most S d y);
            behind = omega (arith, end_is y lo hi, g.counts_are y (inside y hi));
            spaced = spaced y lo hi;
          }

  -- ---- V and R

  pub turn_tied : turn_in charges S.masters ≡ turn S
  unfolding turn_in turn turn_by
  turn_tied = upto_same (at charges) (charged S) S.masters (λ y lo hi. g.charges_are y lo hi)

  pub bound_tied : (k : ℕ) → k ≤ 32 → bound_in counts charges S.masters k ≡ bound S k
  unfolding bound_in bound bound_by turn
  bound_tied k l = rw (g.counts_are k l, turn_tied)

  -- R(y), as it stands in the window of a(y)
  window_tied : (y : ℕ) → y ≤ 32 → at counts y * turn_in charges S.masters ≡ bound_by (charged S) S y
  unfolding bound_in bound
  window_tied y l = bound_tied y l

  -- where every stream passes, no R is above a T - J
  pub slack_tied : ((x : ℕ) → 1 ≤ x → x ≤ S.number → bound S (S.stream x).master ≤ (S.stream x).deadline)
      → Slack S.masters (turn_in charges S.masters) counts ends slacks pairs
  unfolding bound owns
  slack_tied passes = record { covers = covers; above_none = λ y j lo hi h. omega (arith, not_above y j lo hi h) }
    where
      own_passes : (y x : ℕ) → 1 ≤ x → x ≤ S.number → owns S y x ≡ true → bound_by (charged S) S y ≤ (S.stream x).spacing - (S.stream x).jitter
      own_passes y x lo hi o =
          omega (arith, passes x lo hi, (d.ranges x lo hi).deadline_to, ap (bound_by (charged S) S) (eqb-true (S.stream x).master y o))

      covers : (y : ℕ) → 1 ≤ y → y ≤ S.masters → at counts y * turn_in charges S.masters ≤ at slacks y
      covers y lo hi =
          let small = bound_at_most S d y in
          rw (window_tied y (inside y hi)) (g.grouped.greatest_such y (bound_by (charged S) S y) (inside y hi) (omega (arith, small)) (own_passes y))

      not_above : (y j : ℕ) → 1 ≤ y → y ≤ S.masters → j < at counts y
          → spacing_at pairs (at ends y - at counts y + j) - jitter_at pairs (at ends y - at counts y + j) < at slacks y → ⊥
      not_above y j lo hi h q =
          none_meets (λ t x. ltb (t - x) (at slacks y)) y lo hi
          (λ x a b o. le-ltb ((S.stream x).spacing - (S.stream x).jitter) (at slacks y) (g.grouped.above_none y x (inside y hi) a b o)) j h (lt-ltb _ (at slacks y) q)

  -- ---- W and its rounds

  asked_tied : (y w : ℕ) → 1 ≤ y → y ≤ S.masters → asked_at counts ends pairs (turn_in charges S.masters) y w ≡ asked_by (charged S) S y w
  unfolding asked_at asked_in asked_by
  asked_tied y w lo hi =
      ap (λ (R : ℕ). asked_in pairs (at ends y - at counts y) (w + R) (at counts y)) (window_tied y (inside y hi)) ∙ sum_is (λ t x. up (w + bound_by (charged S) S y + x) t) y lo hi

  module _ (k : ℕ) (lo : 1 ≤ k) (hi : k ≤ S.masters) where
    saved_tied : (y w : ℕ) → 1 ≤ y → y ≤ S.masters
        → saved_in counts charges ends pairs (turn_in charges S.masters) k w y ≡ saving (charged S) (count S k) k (asked_by (charged S) S y w) y
    unfolding saved_in saving
    saved_tied y w lo' hi' = rw (g.charges_are y lo' hi', g.counts_are k (inside k hi), asked_tied y w lo' hi')

    right_tied : (w : ℕ) → right_in counts charges ends pairs S.masters k w ≡ right S k w
    unfolding right_in right right_by bound_in turn
    right_tied w =
        let v = turn_in charges S.masters in
        let each : upto (saved_in counts charges ends pairs v k w) S.masters ≡ upto (λ y. saving (charged S) (count S k) k (asked_by (charged S) S y w) y) S.masters =
        upto_same (saved_in counts charges ends pairs v k w) (λ y. saving (charged S) (count S k) k (asked_by (charged S) S y w) y) S.masters (λ y lo' hi'. saved_tied y w lo' hi') in
        rw (each, g.counts_are k (inside k hi), turn_tied)

    pub rounds_tied : rounds_in counts charges ends pairs S.masters k ≡ rounds S k
    unfolding rounds_in rounds most_rounds
    rounds_tied = rw (fun_ext right_tied, g.counts_are k (inside k hi))

    pub refined_tied : refined_in counts charges ends pairs S.masters k ≡ refined S k
    unfolding refined_in refined
    refined_tied = rw (rounds_tied, fun_ext right_tied)
