-- Master by master: what is searched for in slots, over the streams of one master by urgency, are the figures of the sheet's streams. Assumes nothing.
use mathlib.Core.Path.{◌≡◌, refl, sym, ap, ◌∙◌, subst}
use mathlib.Core.Bool.{true}
use mathlib.Core.List.{List}
use Prim.Native.Nat.{ℕ, suc, ◌+◌, ◌-◌, ◌*◌, ◌/◌, ◌≤◌, ◌<◌}
use native.Mathlib.Nat.{mul-zero, mul_comm, mul-le-mul, mul-one, le-div_iff_mul-le}
use native.Mathlib.Decide.{ℕ_discrete}
use native.Mathlib.Omega.{arith}
use borrow.Author.Tests.{eq-eqb}
use lib.ListN.{length}
use lib.Dec.{eqb}
use Rattle.common.specs.Sums.{sum, up}
use Rattle.common.proofs.FromZero.{sum_same}
use Rattle.pnet_rules.specs.Segment.{Stream, Segment, owns, count, turn}
use Rattle.pnet_rules.specs.Limits.{Ranged as InRange, Declared}
use Rattle.pnet_rules.proofs.Holds.{turn_at_most}
use Rattle.pnet_turn.specs.Turn.{at}
use Rattle.pnet_plan.proofs.Gathering.{start_inside}
use Rattle.pnet_urgent_rules.specs.Urgent.{rank, place, figure, rounds, unmet, blocked, ahead_in, right_by, right}
use Rattle.pnet_urgent_rules.proofs.Order.{blocked_by_rank}
use Rattle.pnet_urgent_rules.proofs.Right.{turn_from, turn_some}
use Rattle.pnet_urgent_rules.proofs.Slots.{slots_rounds, slots_figure, slots_met, slots_unmet}
use Rattle.pnet_urgent_search.specs.Walks.{blocked_at, slots_for, Found}
use Rattle.pnet_urgent_search.specs.Walks.Found.{solved, none}
use Rattle.pnet_urgent_order.specs.Order.{stream_in, start_of, Ranked, Ordered}
use Rattle.pnet_urgent_order.proofs.Sums.{Run, run_of, of_master, rank_inside, stream_at_rank, deadlines_rise, sum_ahead}
use Rattle.pnet_urgent.specs.Masters.{index_at, deadline_at, Keyed, Gathered, Ranged, Spread, Searched, Served, Sought, Solved}
use Rattle.pnet_urgent.specs.Masters.Sought.{met, not_met}

-- T and J of each stream, in sheet order
pub record Listed (S : Segment) (spacings jitters : List ℕ) : Type 0 where
  pub spacings_are : (i : ℕ) → i < S.number → at spacings i ≡ (S.stream (suc i)).spacing
  pub jitters_are : (i : ℕ) → i < S.number → at jitters i ≡ (S.stream (suc i)).jitter

module _ {S : Segment} (d : Declared S) {ends keys spacings jitters : List ℕ} (o : Ordered S S.number ends keys) (listed : Listed S spacings jitters)
    (y : ℕ) (lo : 1 ≤ y) (hi : y ≤ S.masters) where
  run : Run S y (start_of S y) keys
  run = run_of d refl o y lo hi

  -- the stream at a place of the master's order
  abbrev stream_at : ℕ → ℕ
  stream_at r = stream_in (at keys (start_of S y + r))

  module _ (r : ℕ) (l : r < count S y) where
    ranked : Ranked S y r (at keys (start_of S y + r))
    ranked = run.ranked r l

    in_range_law : InRange S.masters (S.stream (stream_at r))
    in_range_law = d.ranges (stream_at r) (omega arith) ranked.to_last

    index_inside : index_at keys (start_of S y + r) < S.number
    index_inside = omega (arith, ranked.to_last)

    deadline_is : deadline_at keys (start_of S y + r) ≡ (S.stream (stream_at r)).deadline
    deadline_is = omega (arith, ranked.key_is)

    spacing_is : at spacings (index_at keys (start_of S y + r)) ≡ (S.stream (stream_at r)).spacing
    spacing_is = listed.spacings_are (index_at keys (start_of S y + r)) index_inside

    jitter_is : at jitters (index_at keys (start_of S y + r)) ≡ (S.stream (stream_at r)).jitter
    jitter_is = listed.jitters_are (index_at keys (start_of S y + r)) index_inside

  -- ---- What the search asks for

  pub keyed : (room : ℕ) → S.number ≤ room → Keyed keys (start_of S y) (count S y) room
  keyed room fits =
      record {
        few = d.counts y;
        inside = omega (arith, start_inside S d y lo hi, o.room);
        fits = λ r l. omega (arith, index_inside r l);
        distinct = λ q r l h e.
            omega (arith, (ranked q (omega arith)).rank_is, (ranked r h).rank_is, ap (λ (x : ℕ). rank S (suc x)) e);
      }

  pub ranged : (V' : ℕ) → V' ≡ turn S → Ranged keys spacings jitters (start_of S y) (count S y) V'
  ranged V' e =
      record {
        turn_from = omega (arith, turn_from S d);
        turn_to = omega (arith, turn_at_most S d);
        spacing_from = λ r l. omega (arith, spacing_is r l, (in_range_law r l).spacing_from);
        spacing_to = λ r l. omega (arith, spacing_is r l, (in_range_law r l).spacing_to);
        jitter_to = λ r l. omega (arith, spacing_is r l, jitter_is r l, (in_range_law r l).jitter_to);
        deadline_from = λ r l. omega (arith, deadline_is r l, (in_range_law r l).deadline_from);
        deadline_to = λ r l. omega (arith, deadline_is r l, spacing_is r l, jitter_is r l, (in_range_law r l).deadline_to);
        sorted = λ q r l h. omega (arith, deadline_is q (omega arith), deadline_is r h, deadlines_rise run q r l h);
      }

  -- ---- What it finds

  module _ {Ts Js Ds : List ℕ} (g : Gathered keys spacings jitters (start_of S y) (count S y) Ts Js Ds) (r : ℕ) (l : r < count S y) where
    abbrev i : ℕ
    i = stream_at r

    -- the requests ahead, place by place
    ahead_is : (x : ℕ) → ahead_in S i x ≡ sum (λ q. up (x + at Js q) (at Ts q)) r
    unfolding ahead_in
    ahead_is x =
        let k = ranked r l in
        (sum_ahead run (λ j. up (x + (S.stream j).jitter) (S.stream j).spacing) i (omega arith) k.to_last k.own
        ∙ ap (sum (λ q. up (x + (S.stream (stream_at q)).jitter) (S.stream (stream_at q)).spacing)) k.rank_is)
        ∙ sum_same _ (λ q. up (x + at Js q) (at Ts q)) r
        (λ q h. rw (g.jitters_are q (omega arith) ∙ jitter_is q (omega arith), g.spacings_are q (omega arith) ∙ spacing_is q (omega arith)))

    blocked_is : blocked S i ≡ blocked_at (count S y) r
    blocked_is =
        let k = ranked r l in
        blocked_by_rank S i (omega arith) k.to_last ∙ rw (k.rank_is, of_master S y i k.own)

    in_slots : (n : ℕ) → right S i (turn S * n) ≡ turn S * slots_for (turn S) Ts Js (count S y) r n
    unfolding right right_by slots_for
    in_slots n = rw (blocked_is, ahead_is (turn S * n))

    own_deadline : at Ds r ≡ (S.stream i).deadline
    own_deadline = g.deadlines_are r l ∙ deadline_is r l

    pub found_sought : (n m : ℕ) → Found (slots_for (turn S) Ts Js (count S y) r) (at Ds r / turn S) n m → Sought S i (turn S * n) m
    found_sought n m (solved some most is settles) =
        let v = turn_some S d in
        let in-time : turn S * n ≤ (S.stream i).deadline = omega (arith, (le-div_iff_mul-le {k = turn S} {x = n} {y = at Ds r} v).0 most, mul_comm n (turn S), own_deadline) in
        let one : 1 ≤ turn S * n = omega (arith, mul-le-mul {n₁ = 1} {m₁ = 1} {n₂ = turn S} {m₂ = n} v some) in
        let f = slots_for (turn S) Ts Js (count S y) r in
        met one (sym (slots_figure S i v f in_slots m n settles is in-time)) (sym (slots_rounds S i v f in_slots m n settles is in-time)) (slots_met S i v f in_slots m n settles is in-time)
    found_sought n m (none e above) =
        not_met (ap (λ (x : ℕ). turn S * x) e ∙ mul-zero (turn S))
        (slots_unmet S i (turn_some S d) (slots_for (turn S) Ts Js (count S y) r) in_slots (λ w q. omega (arith, above w q, ap (λ (x : ℕ). x / turn S) own_deadline)))

  -- ---- All of a master's streams have their figures

  module _ {i : ℕ} (from : 1 ≤ i) (to : i ≤ S.number) where
    -- one of the master's stands at its rank
    module _ (of-y : (S.stream i).master ≡ y) where
      own : owns S y i ≡ true
      unfolding owns
      own = eq-eqb (S.stream i).master y of-y

      inside : rank S i < count S y
      inside = rank_inside run i from to own

      stream_is : stream_at (rank S i) ≡ i
      stream_is = stream_at_rank run i from to own

      index_is : index_at keys (start_of S y + rank S i) ≡ i - 1
      index_is = omega (arith, stream_is)

      spread_own : {f : ℕ → ℕ} {old new : List ℕ} → Spread keys (start_of S y) (count S y) f old new → at new (i - 1) ≡ f (rank S i)
      spread_own {f} {old} {new} s = ap (at new) (sym index_is) ∙ s.put (rank S i) inside

      pub sought_own : {slots turns : List ℕ} → Searched keys spacings jitters (start_of S y) (count S y) (turn S) slots turns
          → Sought S i (turn S * at slots (rank S i)) (at turns (rank S i))
      sought_own {slots} {turns} s =
          subst (λ (x : ℕ). Sought S x (turn S * at slots (rank S i)) (at turns (rank S i))) stream_is
          (found_sought s.gathered (rank S i) inside (at slots (rank S i)) (at turns (rank S i)) (s.found (rank S i) inside))

    -- another's keeps what it had
    module _ (of_other : (S.stream i).master ≡ y → ⊥) where
      spread_other : {f : ℕ → ℕ} {old new : List ℕ} → Spread keys (start_of S y) (count S y) f old new → at new (i - 1) ≡ at old (i - 1)
      spread_other {f} {old} {new} s =
          s.others (i - 1)
          (λ r l e. of_other (ap (λ (x : ℕ). (S.stream x).master) (same r e) ∙ of_master S y (stream_at r) (ranked r l).own))
        where
          same : (r : ℕ) → index_at keys (start_of S y + r) ≡ i - 1 → i ≡ stream_at r
          same r e = omega arith

  pub solved_more : {places figures rounds' newPlaces newFigures newRounds : List ℕ}
      → Served keys spacings jitters (start_of S y) (count S y) (turn S) places figures rounds' newPlaces newFigures newRounds
      → Solved S (y - 1) places figures rounds' → Solved S y newPlaces newFigures newRounds
  solved_more {places} {figures} {rounds'} {newPlaces} {newFigures} {newRounds} v s =
      record { placed = λ i from to l. placed' i from to l (ℕ_discrete (S.stream i).master y); sought = λ i from to l. sought' i from to l (ℕ_discrete (S.stream i).master y) }
    where
      placed' : (i : ℕ) → 1 ≤ i → i ≤ S.number → (S.stream i).master ≤ y → Dec ((S.stream i).master ≡ y) → at newPlaces (i - 1) ≡ place S i
      placed' i from to l (yes e) = spread_own from to e v.by_place ∙ omega arith
      placed' i from to l (no e) = spread_other from to e v.by_place ∙ s.placed i from to (omega (arith, e))

      sought' : (i : ℕ) → 1 ≤ i → i ≤ S.number → (S.stream i).master ≤ y → Dec ((S.stream i).master ≡ y) → Sought S i (at newFigures (i - 1)) (at newRounds (i - 1))
      sought' i from to l (yes e) = rw (spread_own from to e v.by_figure, spread_own from to e v.by_rounds) (sought_own from to e v.searched)
      sought' i from to l (no e) =
          rw (spread_other from to e v.by_figure, spread_other from to e v.by_rounds) (s.sought i from to (omega (arith, e)))
