-- Page 02, 'Ask 11', from the bytes of a sheet: what the planner that sends urgent requests first answers and what it leaves in the three lent runs is what the page
-- says, and nobody can answer otherwise. `urgently` is what the planner answers, and `stream_run` what a lent run then holds: both are the words of its
-- contract. Assumes nothing.
use Prim.Native.Nat.{ℕ, ◌≤◌, ◌<◌}
use mathlib.Core.Path.{◌≡◌, refl, sym, ap, ◌∙◌}
use mathlib.Core.Bool.{false}
use mathlib.Core.List.{List}
use mathlib.Core.Logic.{◌↔◌}
use native.Mathlib.Numerals.{add-one}
use native.Mathlib.Omega.{arith}
use lib.ListN.{length}
use Rattle.common.specs.Runs.{filled}
use Rattle.common.proofs.Runs.{filled_at}
use Rattle.sheet_rules.specs.Sheets.{Sheet}
use Rattle.sheet_rules.specs.Whole.{Outcome}
use Rattle.sheet_rules.specs.Whole.Outcome.{Read, Not}
use Rattle.sheet_rules.proofs.Known.{reading_read}
use Rattle.pnet_rules.specs.Segment.{Segment, segment_of, turn}
use Rattle.pnet_rules.specs.Search.{value_from}
use Rattle.pnet_rules.specs.Limits.{Declared}
use Rattle.pnet_rules.proofs.Declares.{declared}
use Rattle.pnet_plan.specs.Planned.{plan_of, at_place}
use Rattle.pnet_plan.specs.declared.answer.Plan.{Plan}
use Rattle.pnet_bounds.specs.Bounded.{stream_run}
use Rattle.pnet_urgent_rules.specs.Urgent.{place, right, rounds, figure, unmet}
use Rattle.pnet_urgent_rules.specs.Planned.{urgently}
use Rattle.pnet_urgent_rules.specs.Refusals.{Given, Accepted}
use Rattle.pnet_urgent_rules.proofs.Right.{turn_some}
use Rattle.pnet_urgent_rules.proofs.Figures.{solves_if, solves_then, figure_in_time, rounds_first, figure_solves, figure_least, met_if}
use Rattle.pnet_urgent_rules.proofs.Refusals.{refused_exactly, accepted_exactly}
use Rattle.demands.proofs.Demand2Pnet.{kept_filled, same_run}
use Rattle.demands_urgent.specs.Written.{written_at, Figures, room_in, Answers, refused, accepted}
use Rattle.std.specs.declared.result.Result.{Result}
use Rattle.common.specs.declared.Refusal.{Refusal}

-- ---- One stream

module _ (S : Segment) (i : ℕ) where
  -- the planner's figures are those of the page
  published : 1 ≤ turn S → unmet S i ≡ false → Figures S i (place S i) (figure S i) (rounds S i)
  unfolding figure
  published some met =
      let settled = rounds_first S i some met in
      record {
        placed = omega arith;
        solves = solves_if S i (figure S i) (figure_solves S i some met);
        least = λ w s. omega (arith, figure_least S i some met w (solves_then S i w s));
        in_time = figure_in_time S i some met;
        reached = refl;
        stands = settled.still ∙ ap (value_from (turn S) (right S i)) (sym (add-one (rounds S i)));
        first = λ m l e. settled.first m (omega (arith, l)) (e ∙ ap (value_from (turn S) (right S i)) (add-one m));
      }

  -- and there are no others
  one_each : {p p' x x' m m' : ℕ} → Figures S i p x m → Figures S i p' x' m' → (p ≡ p') × (x ≡ x') × (m ≡ m')
  one_each {p} {p'} {x} {x'} {m} {m'} a b =
      let low : x ≤ x' = omega (arith, a.least x' b.solves) in
      let high : x' ≤ x = omega (arith, b.least x a.solves) in
      let before : (m < m' → ⊥) = λ l. b.first m (omega (arith, l)) a.stands in
      let behind : (m' < m → ⊥) = λ l. a.first m' (omega (arith, l)) b.stands in
      (a.placed ∙ sym b.placed, omega (arith, low, high), omega (arith, before, behind))

-- ---- One run

-- what it holds for stream i once it is filled
pub stands_for : (f : ℕ → ℕ) (N i : ℕ) (old : List ℕ) → 1 ≤ i → i ≤ N → written_at (filled (at_place f) N old) i ≡ f i
stands_for f N i old from to = filled_at (at_place f) N _ old (omega arith) ∙ ap f (omega arith)

-- ---- What an accepted sheet is

module _ (s : List ℕ) (room : ℕ) (H : Sheet) (a : Accepted s room H) where
  pub in_range_law : Declared (segment_of H)
  in_range_law = declared s H (reading_read s H a.on_bus.reads) a.on_bus.pnet

  pub all_met : (i : ℕ) → 1 ≤ i → i ≤ (segment_of H).number → unmet (segment_of H) i ≡ false
  all_met i from to = met_if (segment_of H) i (turn_some (segment_of H) in_range_law) (a.met i from to)

-- ---- The answer and the three runs

module _ (s lent-places lent-x lent-rounds : List ℕ) where
  abbrev room : ℕ
  room = room_in lent-places lent-x lent-rounds

  -- what the planner makes of the bytes
  abbrev pub outcome : Outcome
  outcome = urgently s room

  -- 'A stream is accepted exactly if the least solution exists and is at most D.' A sheet is accepted exactly if the bytes read as a P-NET sheet, each run has a place for
  -- each stream, and each stream is accepted
  pub urgent_accepted_exactly : (H : Sheet) → (outcome ≡ Read H) ↔ Accepted s room H
  urgent_accepted_exactly = accepted_exactly s room

  -- 'Refusals: 13, a place for each stream; then 21, first stream in sheet order not accepted; 8 isn't given here.' A number and its place are given exactly if the page's list
  -- has them
  pub urgent_refused_exactly : (n p : ℕ) → (outcome ≡ Not n p) ↔ Given s room n p
  urgent_refused_exactly = refused_exactly s room

  module _ (H : Sheet) (a : Accepted s room H) where
    abbrev S : Segment
    S = segment_of H

    abbrev many : ℕ
    many = length H.streams

    -- the three numbers of each stream, of the page
    each : (i : ℕ) → 1 ≤ i → i ≤ many → Figures S i (place S i) (figure S i) (rounds S i)
    unfolding segment_of
    each i from to = published S i (turn_some S (in_range_law s room H a)) (all_met s room H a i from to)

    -- and as they stand in the runs
    written : (i : ℕ) → 1 ≤ i → i ≤ many
        → Figures S i (written_at (stream_run (Read H) place lent-places) i) (written_at (stream_run (Read H) figure lent-x) i) (written_at (stream_run (Read H) rounds lent-rounds) i)
    written i from to =
        rw (stands_for (place S) many i lent-places from to, stands_for (figure S) many i lent-x from to, stands_for (rounds S) many i lent-rounds from to) (each i from to)

  -- where the planner accepts a sheet, the three numbers that stand at the place of stream i are the page's
  pub written_as_published : (H : Sheet) → outcome ≡ Read H → (i : ℕ) → 1 ≤ i → i ≤ length H.streams
      → Figures (segment_of H) i (written_at (stream_run outcome place lent-places) i) (written_at (stream_run outcome figure lent-x) i) (written_at (stream_run outcome rounds lent-rounds) i)
  written_as_published H e i from to = rw e (written H ((urgent_accepted_exactly H).0 e) i from to)

  answers_read : (H : Sheet) → Accepted s room H
      → Answers s lent-places lent-x lent-rounds (plan_of (Read H)) (stream_run (Read H) place lent-places) (stream_run (Read H) figure lent-x) (stream_run (Read H) rounds lent-rounds)
  answers_read H a =
      accepted a (written H a)
      (kept_filled (at_place (place (segment_of H))) (length H.streams) lent-places (omega (arith, a.enough)))
      (kept_filled (at_place (figure (segment_of H))) (length H.streams) lent-x (omega (arith, a.enough)))
      (kept_filled (at_place (rounds (segment_of H))) (length H.streams) lent-rounds (omega (arith, a.enough)))

  -- the planner answers as the page says, and leaves in the runs what the page says
  pub urgent_answers_as_published :
      Answers s lent-places lent-x lent-rounds (plan_of outcome) (stream_run outcome place lent-places) (stream_run outcome figure lent-x) (stream_run outcome rounds lent-rounds)
  urgent_answers_as_published = by outcome refl
    where
      by : (o : Outcome) → outcome ≡ o
          → Answers s lent-places lent-x lent-rounds (plan_of o) (stream_run o place lent-places) (stream_run o figure lent-x) (stream_run o rounds lent-rounds)
      by (Read H) e = answers_read H ((urgent_accepted_exactly H).0 e)
      by (Not n p) e = refused ((urgent_refused_exactly n p).0 e)

  -- and no other answer, and no other numbers in the runs, are as the page says
  pub no_other_urgent_answer : {answer : Result Plan Refusal} {places x m : List ℕ} → Answers s lent-places lent-x lent-rounds answer places x m
      → (answer ≡ plan_of outcome) × (places ≡ stream_run outcome place lent-places) × (x ≡ stream_run outcome figure lent-x) × (m ≡ stream_run outcome rounds lent-rounds)
  no_other_urgent_answer (refused {n} {p} g) = rw ((urgent_refused_exactly n p).1 g) (refl, refl, refl, refl)
  no_other_urgent_answer (accepted {H = H} {places = places} {x = x} {rounds = m} a own kp kx km) =
      let S = segment_of H in
      let N = length H.streams in
      let one : (i : ℕ) (from : 1 ≤ i) (to : i ≤ N) → (written_at places i ≡ place S i) × (written_at x i ≡ figure S i) × (written_at m i ≡ rounds S i) =
      λ i from to. one_each S i (own i from to) (each H a i from to) in
      rw ((urgent_accepted_exactly H).1 a) (
        refl,
        same_run N kp (kept_filled (at_place (place S)) N lent-places (omega (arith, a.enough))) (λ i from to. (one i from to).0 ∙ sym (stands_for (place S) N i lent-places from to)),
        same_run N kx (kept_filled (at_place (figure S)) N lent-x (omega (arith, a.enough))) (λ i from to. (one i from to).1 ∙ sym (stands_for (figure S) N i lent-x from to)),
        same_run N km (kept_filled (at_place (rounds S)) N lent-rounds (omega (arith, a.enough))) (λ i from to. (one i from to).2 ∙ sym (stands_for (rounds S) N i lent-rounds from to)),
      )
