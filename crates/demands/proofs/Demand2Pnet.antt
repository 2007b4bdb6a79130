-- Demand 2 of P-NET, from the bytes of a sheet: what the planner answers and what it leaves in the three lent runs is what page 01 says, and nobody
-- can answer otherwise. `planned` is what the planner answers, and `run_of` what a lent run then holds: both are the words of its contract.
-- Assumes nothing.
use Prim.Native.Nat.{ℕ, ◌+◌, ◌-◌, ◌≤◌, ◌<◌}
use mathlib.Core.Path.{◌≡◌, refl, sym, ap, subst, ◌∙◌}
use mathlib.Core.List.{List}
use mathlib.Core.Logic.{◌↔◌}
use native.Mathlib.Decide.{dec_lt}
use native.Mathlib.Numerals.{add-one}
use native.Mathlib.Omega.{arith}
use lib.ListN.{length, get_or, drop}
use lib.Seq.{get_or-append-add, get_or-drop, ext_get_or}
use Rattle.common.specs.Runs.{tab, filled}
use Rattle.common.proofs.Runs.{length_tab, length_filled, filled_at}
use Rattle.sheet_rules.specs.Sheets.{Sheet, masters_of}
use Rattle.sheet_rules.specs.Whole.{Outcome}
use Rattle.sheet_rules.specs.Whole.Outcome.{Read, Not}
use Rattle.pnet_rules.specs.Segment.{Segment, segment_of, turn, bound}
use Rattle.pnet_rules.specs.Search.{value_from}
use Rattle.pnet_rules.specs.Refined.{right, refined, rounds}
use Rattle.pnet_rules.proofs.Figures as figures
use Rattle.pnet_plan.specs.Planned.{planned, plan_of, at_place, run_of}
use Rattle.pnet_plan.specs.declared.answer.Plan.{Plan}
use Rattle.pnet_plan.specs.Refusals.{Accepted}
use Rattle.pnet_plan.proofs.Refusals as pnet
use Rattle.demands.specs.Pnet.{Figures, LaterKept, Answers, refused, accepted}
use Rattle.std.specs.declared.result.Result.{Result}
use Rattle.common.specs.declared.Refusal.{Refusal}

-- ---- One master

module _ (S : Segment) (k : ℕ) where
  -- the planner's figures are those of the page
  published : 1 ≤ k → k ≤ S.masters → Figures S k (bound S k) (refined S k) (rounds S k)
  unfolding bound turn refined
  published from to =
      let settled = figures.rounds_first S k from to in
      let most = figures.rounds_at_most S k from to in
      record {
        bound = refl;
        solves = figures.refined_solves S k from to;
        least = figures.refined_least S k from to;
        reached = refl;
        stands = settled.still ∙ ap (value_from 0 (right S k)) (sym (add-one (rounds S k)));
        first = λ m l e. settled.first m (omega (arith, l)) (e ∙ ap (value_from 0 (right S k)) (add-one m));
        few = omega (arith, most);
        silent = figures.silent_zero S k;
      }

  -- and there are no others
  one_each : {R R' W W' m m' : ℕ} → Figures S k R W m → Figures S k R' W' m' → (R ≡ R') × (W ≡ W') × (m ≡ m')
  one_each {R} {R'} {W} {W'} {m} {m'} a b =
      let low : W ≤ W' = a.least W' b.solves in
      let high : W' ≤ W = b.least W a.solves in
      let before : (m < m' → ⊥) = λ l. b.first m (omega (arith, l)) a.stands in
      let behind : (m' < m → ⊥) = λ l. a.first m' (omega (arith, l)) b.stands in
      (a.bound ∙ sym b.bound, omega (arith, low, high), omega (arith, before, behind))

-- ---- One run

pub kept_filled : (f : ℕ → ℕ) (N : ℕ) (old : List ℕ) → N ≤ length old → LaterKept N old (filled f N old)
unfolding filled
kept_filled f N old room = record {
  long = length_filled f N old room;
  later =
      λ i l.
      let e : i ≡ length (tab f N) + (i - N) = omega (arith, length_tab f N) in
      let back : N + (i - N) ≡ i = omega arith in
      ap (λ (j : ℕ). get_or (filled f N old) j 0) e
      ∙ (get_or-append-add (tab f N) (drop N old) (i - N) 0 ∙ (get_or-drop N old (i - N) 0 ∙ ap (λ (j : ℕ). get_or old j 0) back));
}

-- a run is known by the places of the masters, if the later ones keep what they had
pub same_run : (N : ℕ) {old a b : List ℕ} → LaterKept N old a → LaterKept N old b → ((k : ℕ) → 1 ≤ k → k ≤ N → get_or a (k - 1) 0 ≡ get_or b (k - 1) 0) → a ≡ b
same_run N {old} {a} {b} ka kb same = ext_get_or 0 a b (ka.long ∙ sym kb.long) (λ i l. by i (dec_lt i N))
  where
    by : (i : ℕ) → Dec (i < N) → get_or a i 0 ≡ get_or b i 0
    by i (yes l) = let e : i + 1 - 1 ≡ i = omega arith in subst (λ (j : ℕ). get_or a j 0 ≡ get_or b j 0) e (same (i + 1) (omega arith) (omega arith))
    by i (no l) = ka.later i (omega (arith, l)) ∙ sym (kb.later i (omega (arith, l)))

at_place_law : (f : ℕ → ℕ) (N k : ℕ) (old : List ℕ) → 1 ≤ k → k ≤ N → get_or (filled (at_place f) N old) (k - 1) 0 ≡ f k
at_place_law f N k old from to = let e : k - 1 + 1 ≡ k = omega arith in filled_at (at_place f) N (k - 1) old (omega arith) ∙ ap f e

-- ---- The answer and the three runs

module _ (s lent_R lent_W lent_rounds : List ℕ) where
  -- what the planner makes of the bytes
  abbrev outcome : Outcome
  outcome = planned s (length lent_R) (length lent_W) (length lent_rounds)

  -- 'Stream i of k passes if R(k) is at most D.' A sheet is accepted exactly if the bytes read as a P-NET sheet, each run has N places, and each
  -- stream passes
  pub pnet_accepted_exactly : (H : Sheet) → (outcome ≡ Read H) ↔ Accepted s (length lent_R) (length lent_W) (length lent_rounds) H
  pnet_accepted_exactly = pnet.accepted_exactly s (length lent_R) (length lent_W) (length lent_rounds)

  answers_read : (H : Sheet) → Accepted s (length lent_R) (length lent_W) (length lent_rounds) H
      → Answers s lent_R lent_W lent_rounds (plan_of (Read H)) (run_of (Read H) bound lent_R) (run_of (Read H) refined lent_W) (run_of (Read H) rounds lent_rounds)
  unfolding segment_of
  answers_read H a =
      let S = segment_of H in
      let N = masters_of H in
      let each : (k : ℕ) → 1 ≤ k → k ≤ N → Figures S k (get_or (run_of (Read H) bound lent_R) (k - 1) 0) (get_or (run_of (Read H) refined lent_W) (k - 1) 0) (get_or (run_of (Read H) rounds lent_rounds) (k - 1) 0) =
      λ k from to.
      rw (at_place_law (bound S) N k lent_R from to, at_place_law (refined S) N k lent_W from to, at_place_law (rounds S) N k lent_rounds from to) (published S k from to) in
      accepted a each
      (kept_filled (at_place (bound S)) N lent_R a.room.for_bound)
      (kept_filled (at_place (refined S)) N lent_W a.room.for_refined)
      (kept_filled (at_place (rounds S)) N lent_rounds a.room.for_rounds)

  -- the planner answers as the page says, and leaves in the runs what the page says
  pub pnet_answers_as_published : Answers s lent_R lent_W lent_rounds (plan_of outcome) (run_of outcome bound lent_R) (run_of outcome refined lent_W) (run_of outcome rounds lent_rounds)
  pnet_answers_as_published = by outcome refl
    where
      by : (o : Outcome) → outcome ≡ o → Answers s lent_R lent_W lent_rounds (plan_of o) (run_of o bound lent_R) (run_of o refined lent_W) (run_of o rounds lent_rounds)
      by (Read H) e = answers_read H ((pnet_accepted_exactly H).0 e)
      by (Not n p) e = refused ((pnet.refused_exactly s (length lent_R) (length lent_W) (length lent_rounds) n p).0 e)

  -- and no other answer, and no other numbers in the runs, are as the page says
  pub no_other_pnet_answer : {answer : Result Plan Refusal} {R W m : List ℕ} → Answers s lent_R lent_W lent_rounds answer R W m
      → (answer ≡ plan_of outcome) × (R ≡ run_of outcome bound lent_R) × (W ≡ run_of outcome refined lent_W) × (m ≡ run_of outcome rounds lent_rounds)
  unfolding segment_of
  no_other_pnet_answer (refused {n} {p} g) =
      let e = (pnet.refused_exactly s (length lent_R) (length lent_W) (length lent_rounds) n p).1 g in
      rw e (refl, refl, refl, refl)
  no_other_pnet_answer (accepted {H = H} {R = R} {W = W} {rounds = m} a each kR kW km) =
      let e = (pnet_accepted_exactly H).1 a in
      let S = segment_of H in
      let N = masters_of H in
      let one : (k : ℕ) (from : 1 ≤ k) (to : k ≤ N) → (get_or R (k - 1) 0 ≡ bound S k) × (get_or W (k - 1) 0 ≡ refined S k) × (get_or m (k - 1) 0 ≡ rounds S k) =
      λ k from to. one_each S k (each k from to) (published S k from to) in
      rw e (
        refl,
        same_run N kR (kept_filled (at_place (bound S)) N lent_R a.room.for_bound) (λ k from to. (one k from to).0 ∙ sym (at_place_law (bound S) N k lent_R from to)),
        same_run N kW (kept_filled (at_place (refined S)) N lent_W a.room.for_refined) (λ k from to. (one k from to).1 ∙ sym (at_place_law (refined S) N k lent_W from to)),
        same_run N km (kept_filled (at_place (rounds S)) N lent_rounds a.room.for_rounds) (λ k from to. (one k from to).2 ∙ sym (at_place_law (rounds S) N k lent_rounds from to)),
      )
