-- The answer of the planner that sends urgent requests first, from the figures of all streams. Assumes nothing.
use mathlib.Core.Path.{◌≡◌, refl, sym, ap, ◌∙◌}
use mathlib.Core.Bool.{true, false, true≢false}
use mathlib.Core.List.{List}
use Prim.Native.Nat.{ℕ, ◌+◌, ◌-◌, ◌≤◌, ◌<◌, min}
use native.Mathlib.Omega.{arith}
use borrow.Author.Tests.{eq-eqb, ne_eqb}
use lib.ListN.{length}
use lib.Dec.{eqb}
use Rattle.common.specs.Runs.{filled}
use Rattle.common.specs.Sums.{first_of}
use Rattle.common.proofs.Runs.{filled_same}
use Rattle.common.proofs.Firsts.{First, first_is, first_same}
use Rattle.sheet_record.specs.Kinds.{pnet}
use Rattle.sheet_rules.specs.Sheets.{masters_of}
use Rattle.sheet_rules.specs.Ready.{sheet_in, Ready}
use Rattle.sheet_rules.specs.Whole.{Outcome}
use Rattle.sheet_rules.specs.Whole.Outcome.{Read, Not}
use Rattle.pnet_rules.specs.Segment.{Segment, segment_of}
use Rattle.pnet_rules.specs.Limits.{Declared}
use Rattle.pnet_turn.specs.Turn.{at}
use Rattle.pnet_plan.specs.Arrays.{segment_in, Sheeted}
use Rattle.pnet_plan.specs.Planned.{plan_of, at_place}
use Rattle.pnet_plan.specs.declared.answer.Plan.{Plan}
use Rattle.pnet_plan.proofs.Bytes.{declares, number_is}
use Rattle.pnet_bounds.specs.Bounded.{stream_run}
use Rattle.pnet_urgent_rules.specs.Urgent.{place, figure, rounds, unmet}
use Rattle.pnet_urgent_rules.specs.Planned.{first_unmet, urgently}
use Rattle.pnet_urgent_rules.proofs.Cases.{ready_unmet, ready_read}
use Rattle.pnet_urgent.specs.Masters.{Sought, Solved}
use Rattle.pnet_urgent.specs.Masters.Sought.{met, not_met}
use Rattle.std.specs.declared.result.Result.TheVariants.{Ok, Err}
use Rattle.common.specs.Checks.{refusal}
use Rattle.std.specs.declared.result.Result.{Result}
use Rattle.common.specs.declared.Refusal.{Refusal}

-- the length of the shortest of three runs
abbrev pub room_of : List ℕ → List ℕ → List ℕ → ℕ
room_of x y z = min (length x) (min (length y) (length z))

-- the answer r, and the runs a, b and c where x, y and z were lent
abbrev pub Returned : List ℕ → List ℕ → List ℕ → List ℕ → Result Plan Refusal → List ℕ → List ℕ → List ℕ → Type 0
Returned s x y z r a b c =
    let outcome = urgently s (room_of x y z) in
    (r ≡ plan_of outcome) × (a ≡ stream_run outcome place x) × (b ≡ stream_run outcome figure y) × (c ≡ stream_run outcome rounds z)

pub returned_refused : (s x y z : List ℕ) (n p : ℕ) → urgently s (room_of x y z) ≡ Not n p → Returned s x y z (Err (refusal n p)) x y z
returned_refused s x y z n p e = (
  ap plan_of (sym e),
  ap (λ (o : Outcome). stream_run o place x) (sym e),
  ap (λ (o : Outcome). stream_run o figure y) (sym e),
  ap (λ (o : Outcome). stream_run o rounds z) (sym e),
)

-- ---- Where the figures of all streams are known

-- x is 0 exactly where a stream is not accepted
sought_zero : {S : Segment} {i x m : ℕ} → Sought S i x m → eqb x 0 ≡ unmet S i
sought_zero {S} {i} {x} {m} (met one e q f) = ne_eqb x 0 (λ z. omega arith) ∙ sym f
sought_zero {S} {i} {x} {m} (not_met e f) = eq-eqb x 0 e ∙ sym f

sought_figure : {S : Segment} {i x m : ℕ} → Sought S i x m → unmet S i ≡ false → x ≡ figure S i
sought_figure (met one e q f) t = e
sought_figure (not_met e f) t = absurd (true≢false (sym f ∙ t))

sought_rounds : {S : Segment} {i x m : ℕ} → Sought S i x m → unmet S i ≡ false → m ≡ rounds S i
sought_rounds (met one e q f) t = q
sought_rounds (not_met e f) t = absurd (true≢false (sym f ∙ t))

module _ {s : List ℕ} {N n first : ℕ} {counts longests : List ℕ} (h : Sheeted s N n first counts longests) (x y z : List ℕ)
    (long-x : n ≤ length x) (long-y : n ≤ length y) (long-z : n ≤ length z) {ranks figures turns : List ℕ} (v : Solved (segment_in s) N ranks figures turns)
    (u : ℕ) (first-zero : u ≡ first_of (λ i. eqb (at figures (i - 1)) 0) n 1) where
  abbrev S : Segment
  S = segment_in s

  -- every stream is one of masters 1..N
  within : (i : ℕ) → 1 ≤ i → i ≤ n → (S.stream i).master ≤ N
  within i from to = omega (arith, h.masters_are, ((declares h.ready).ranges i from (omega (arith, number_is h.ready))).master_to)

  sought_at : (i : ℕ) → 1 ≤ i → i ≤ n → Sought S i (at figures (i - 1)) (at turns (i - 1))
  sought_at i from to = v.sought i from (omega (arith, number_is h.ready)) (within i from to)

  -- the first whose x is 0 is the first that is not accepted
  first_is_unmet : u ≡ first_unmet S
  unfolding first_unmet
  first_is_unmet =
      first-zero
      ∙ (first_same (λ i. eqb (at figures (i - 1)) 0) (unmet S) n 1 (λ j from to. sought_zero (sought_at j from (omega arith)))
      ∙ ap (λ (k : ℕ). first_of (unmet S) k 1) (number_is h.ready))

  pub returned_unmet : u ≤ n → Returned s x y z (Err (refusal 21 u)) x y z
  returned_unmet l = returned_refused s x y z 21 u (ready_unmet h.ready (room_of x y z) (omega arith) u first_is_unmet l)

  module _ (l : n < u) where
    read : urgently s (room_of x y z) ≡ Read (sheet_in s)
    read = ready_read h.ready (room_of x y z) (omega arith) u first_is_unmet l

    all_met : (i : ℕ) → 1 ≤ i → i ≤ n → unmet S i ≡ false
    unfolding first_unmet
    all_met i from to = (first_is (unmet S) S.number 1).fails i from (omega (arith, first_is_unmet))

    run_read : (f : Segment → ℕ → ℕ) (from old run : List ℕ) → run ≡ filled (at from) n old → ((i : ℕ) → 1 ≤ i → i ≤ n → at from (i - 1) ≡ f S i)
        → run ≡ stream_run (urgently s (room_of x y z)) f old
    run_read f from old run e g =
        (e ∙ (filled_same (at from) (at_place (f S)) n old (λ i k. let back : i ≡ i + 1 - 1 = omega arith in ap (at from) back ∙ g (i + 1) (omega arith) (omega arith))
        ∙ ap (λ (k : ℕ). filled (at_place (f S)) k old) (sym h.ready.number)))
        ∙ ap (λ (o : Outcome). stream_run o f old) (sym read)

    pub returned_read : (a b c : List ℕ) → a ≡ filled (at ranks) n x → b ≡ filled (at figures) n y → c ≡ filled (at turns) n z
        → Returned s x y z (Ok (record { masters = N; streams = n })) a b c
    unfolding segment_of
    returned_read a b c ea eb ec =
        let r : Ok (record { masters = N; streams = n }) ≡ plan_of (Read (sheet_in s)) = ap (λ (k : ℕ). Ok (record { masters = k; streams = n })) h.masters_are ∙ ap (λ k. Ok (record { masters = masters_of (sheet_in s); streams = k })) (sym h.ready.number) in (
          r ∙ ap plan_of (sym read),
          run_read place ranks x a ea (λ i from to. v.placed i from (omega (arith, number_is h.ready)) (within i from to)),
          run_read figure figures y b eb (λ i from to. sought_figure (sought_at i from to) (all_met i from to)),
          run_read rounds turns z c ec (λ i from to. sought_rounds (sought_at i from to) (all_met i from to)),
        )
