-- A capture that stands in memory as a whole is one piece, with nothing kept before it. Assumes nothing.
use Prim.Native.Nat.{ℕ, zero, suc, ◌+◌, ◌-◌, ◌*◌, ◌%◌, ◌^◌, ◌≤◌, ◌<◌, min, max}
use mathlib.Core.Path.{◌≡◌, refl, sym, ap, fun_ext, ◌∙◌}
use mathlib.Core.Bool.{Bool, true, false, cond, ◌&&◌}
use mathlib.Core.List.{List}
use native.Mathlib.Omega.{arith}
use lib.Dec.{ltb}
use lib.ListN.{length, get_or, replicate}
use Rattle.common.specs.Checks.{Verdict, refusal, unless}
use Rattle.common.specs.Checks.Verdict.{Passed, Refused}
use Rattle.common.specs.Runs.{tab, filled}
use Rattle.common.specs.Sums.{up}
use Rattle.common.proofs.Runs.{filled_same, get_d_tab, zero_at}
use Rattle.capture_log.specs.Log.{Before, fresh, answers, answered, largest, above, left, shown}
use Rattle.capture_log.specs.Records.{size, event_at, events_in, records, events, heard}
use Rattle.common.proofs.Answered.{unless_passed, unless_refused}
use Rattle.capture_tally.specs.Pieces as Pieces
use Rattle.capture_tally.specs.Pieces.{most, before, answer_to, left_after, answers_after, largest_after, above_after}
use Rattle.capture_compare.specs.Steps.{run_by}
use Rattle.std.specs.declared.result.Result.TheVariants.{Ok, Err}
use Rattle.std.specs.Bool.{⊤}
use Rattle.std.specs.declared.result.Result.{Result}
use Rattle.common.specs.declared.Refusal.{Refusal}

-- ---- Counts are small

one : (b : Bool) → cond b 1 0 ≤ 1
one true = omega arith
one false = omega arith

pub answered_few : (c : List ℕ) (n i : ℕ) → answered (events_in c n) i ≤ n
unfolding events_in answered
answered_few c zero i = omega arith
answered_few c (suc n) i = omega (arith, answered_few c n i, one (answers (event_at c (size * n)) i))

pub above_few : (b : Before) (R : ℕ) (c : List ℕ) (n i : ℕ) → above b R (events_in c n) i ≤ n
unfolding events_in above
above_few b R c zero i = omega arith
above_few b R c (suc n) i = omega (arith, above_few b R c n i, one (answers (event_at c (size * n)) i && ltb R (shown b (events_in c n) (event_at c (size * n)))))

-- ---- From nothing

abbrev none : List ℕ
none = replicate most 0

begins_fresh : before none none ≡ fresh
begins_fresh =
    let z : ◌≡◌ {A = ℕ → ℕ} (λ i. get_or none (i - 1) 0) (λ i. 0) = fun_ext (λ i. zero_at most (i - 1)) in
    ap {A = ℕ → ℕ} {B = Before} (λ f. record { waiting = f; stamp = f }) z

-- the answer to it, for n streams
module _ (c : List ℕ) (n : ℕ) (few : n ≤ most) where
  heard_same : heard c (min n most) (before none none) ≡ heard c n fresh
  heard_same = let e : min n most ≡ n = omega arith in rw (e, begins_fresh) refl

  pub whole_refused : (r p : ℕ) → answer_to c n (before none none) ≡ Err (refusal r p) → heard c n fresh ≡ Refused r p
  unfolding answer_to
  whole_refused r p e = sym heard_same ∙ unless_refused _ tt e

  pub whole_passed : answer_to c n (before none none) ≡ Ok tt → heard c n fresh ≡ Passed
  unfolding answer_to
  whole_passed e = sym heard_same ∙ (unless_passed _ tt e).0

  pub whole_taken : heard c n fresh ≡ Passed → answer_to c n (before none none) ≡ Ok tt
  unfolding answer_to
  whole_taken h = ap (λ (v : Verdict). unless v tt) (heard_same ∙ h)

-- the runs then
module _ (c : List ℕ) (i : ℕ) (l : i < most) where
  -- what is told of the piece behind zeros is told of the whole capture
  told : (f : Before → ℕ → ℕ) → get_or (tab (f (before none none)) most) i 0 ≡ f fresh i
  told f = get_d_tab (f (before none none)) most i l ∙ ap (λ (b : Before). f b i) begins_fresh

  pub left_whole : get_or (left_after c (before none none)) i 0 ≡ left fresh (events c) (i + 1)
  unfolding left_after
  left_whole = told (λ b j. left b (events c) (j + 1))

  pub largest_whole : get_or (largest_after c (before none none) none) i 0 ≡ largest fresh (events c) (i + 1)
  unfolding largest_after
  largest_whole = told (λ b j. max (get_or none j 0) (largest b (events c) (j + 1))) ∙ rw (zero_at most i) (omega arith)

  module _ (short : length c < 2 ^ 64) where
    some_records : records c < 2 ^ 64
    unfolding records up
    some_records = omega arith

    pub answers_whole : get_or (answers_after c none) i 0 ≡ answered (events c) (i + 1)
    unfolding answers_after events
    answers_whole =
        told (λ b j. (get_or none j 0 + answered (events c) (j + 1)) % 2 ^ 64)
        ∙ rw (zero_at most i) (omega (arith, answered_few c (records c) (i + 1), some_records))

    pub above_whole : (bound : List ℕ) → get_or (above_after c (before none none) bound none) i 0 ≡ above fresh (get_or bound i 0) (events c) (i + 1)
    unfolding above_after events
    above_whole bound =
        told (λ b j. (get_or none j 0 + above b (get_or bound j 0) (events c) (j + 1)) % 2 ^ 64)
        ∙ rw (zero_at most i) (omega (arith, above_few fresh (get_or bound i 0) c (records c) (i + 1), some_records))

-- a run that is handed over, where the capture is heard to its end: taking it as one piece made `kept` of the zeros
pub handed : (c : List ℕ) (n : ℕ) (f : ℕ → ℕ) (run kept zeros old new : List ℕ) {t : Result ⊤ Refusal} → t ≡ Ok tt → heard c n fresh ≡ Passed
    → new ≡ filled (λ i. get_or run i 0) n old → run ≡ Pieces.run_by t kept zeros → ((i : ℕ) → i < n → get_or kept i 0 ≡ f i) → new ≡ run_by (heard c n fresh) f n old
handed c n f run kept zeros old new all h e k w =
    let is : run ≡ kept = k ∙ ap (λ (x : Result ⊤ Refusal). Pieces.run_by x kept zeros) all in
    let same : new ≡ filled f n old = e ∙ filled_same (λ i. get_or run i 0) f n old (λ i l. ap (λ (x : List ℕ). get_or x i 0) is ∙ w i l) in
    rw h same
