-- What the figure needs, by one run on the sheet of Three with T 1,000 for stream 1: it asks at 0 and at 500, and stream 3's request takes 1,000 bp (Laps). With J 500 every stream
-- keeps its spacing, and the figure of stream 3 is 1,000; without the J in the count it would be 750. With J 0 stream 1 asks too early, and the figure, 750, does
-- not hold, though the other two keep their spacing. Assumes nothing.
use Prim.Native.Nat.{ℕ, ◌+◌, ◌≤◌}
use mathlib.Core.Path.{◌≡◌, refl}
use mathlib.Core.Logic.{◌⊎◌, inr, ⊎_elim}
use mathlib.Core.List.Memᴰ
use mathlib.Core.List.{List, [], ◌∷◌, Memᴰ}
use native.Mathlib.Omega.{arith}
use Rattle.units.specs.Units.{bp}
use Rattle.pnet_rules.specs.Segment.{Segment, segment_of}
use Rattle.pnet_urgent_rules.specs.Urgent.{figure}
use Rattle.pnet_run.specs.Run.{Request, request, Answer, answer, Token, toward, RunBy}
use Rattle.pnet_run.specs.Promise.{Kept, quiet, other, asks, Spaced}
use Rattle.pnet_run.proofs.Few.{each}
use Rattle.pnet_urgent_run.specs.Stack.{Held, Everyone, stacked}
use Rattle.pnet_urgent_run.specs.Promise.{AnsweredOf}
use Rattle.pnet_urgent_run.proofs.Three.{three_of}
use Rattle.pnet_urgent_run.proofs.Laps.{last_came, last_went, last_run, second_keeps, third_keeps}

-- ---- The figures

abbrev pub jittery : Segment
jittery = three_of 1000 500

abbrev pub punctual : Segment
punctual = three_of 1000 0

pub with_J_it_is_1000 : figure jittery 3 ≡ 1000
unfolding segment_of figure
with_J_it_is_1000 = refl

pub without_J_it_is_750 : figure punctual 3 ≡ 750
unfolding segment_of figure
without_J_it_is_750 = refl

-- ---- Who keeps its spacing

-- nominal times 500 bp before the run and at 500; the instants 500 bp behind them are 0 and 1,000
first_keeps : Kept 1000 500 1 last_came (1000 ∷ 0 ∷ [])
first_keeps =
    asks {r = request 1 500} 1000 refl (omega arith) (omega arith) far
    (other {r = request 3 0} (λ e. omega arith)
    (other {r = request 2 0} (λ e. omega arith) (asks {r = request 1 0} 0 refl (omega arith) (omega arith) (λ v j. absurd (Memᴰ.not-nil j)) quiet)))
  where
    far : (v : ℕ) → Memᴰ v (0 ∷ []) → (1000 + 1000 ≤ v) ⊎ (v + 1000 ≤ 1000)
    far v j = ⊎_elim (λ (e : v ≡ 0). inr (omega arith)) (λ (c : Memᴰ v []). absurd (Memᴰ.not-nil c)) (Memᴰ.cases_cons j)

all_keep : (k : ℕ) → Spaced jittery k last_came
unfolding segment_of
all_keep k i b =
    each (λ n. (due : List ℕ) × Kept (jittery.stream n).spacing (jittery.stream n).jitter n last_came due) (1000 ∷ 0 ∷ [], first_keeps) (0 ∷ [], second_keeps)
    (0 ∷ [], third_keeps) i b.from_one b.to_last

-- all but stream 1
abbrev pub OthersSpaced : Segment → List Request → Type 0
OthersSpaced S came = (i : ℕ) → 2 ≤ i → i ≤ S.number → (due : List ℕ) × Kept (S.stream i).spacing (S.stream i).jitter i came due

others_keep : OthersSpaced punctual last_came
unfolding segment_of
others_keep i a b =
    each (λ n. 2 ≤ n → (due : List ℕ) × Kept (punctual.stream n).spacing (punctual.stream n).jitter n last_came due) (λ l. absurd (omega arith))
    (λ l. (0 ∷ [], second_keeps)) (λ l. (0 ∷ [], third_keeps)) i (omega arith) b a

-- ---- The count without J is not enough

pub not_with_the_count_without_J :
    ((t : ℕ) (y : Token) (q : ℕ → Held) (came : List Request) (went : List Answer) → RunBy (stacked jittery Everyone) jittery t y q came went
    → ((k : ℕ) → Spaced jittery k came) → AnsweredOf (bp (figure punctual 3)) 3 t y came went)
    → ⊥
not_with_the_count_without_J safe =
    let run = last_run 1000 500 in
    let answered = safe 1000 (toward 1 40) run.0 last_came last_went run.1 all_keep in
    let l : 1000 ≤ 0 + figure punctual 3 = answered.in_time (answer (request 3 0) 1000) (Memᴰ.head refl) refl in
    omega (arith, without_J_it_is_750)

-- ---- Nor is the spacing of the less urgent streams

pub not_without_the_spacing_ahead :
    ((t : ℕ) (y : Token) (q : ℕ → Held) (came : List Request) (went : List Answer) → RunBy (stacked punctual Everyone) punctual t y q came went
    → OthersSpaced punctual came → AnsweredOf (bp (figure punctual 3)) 3 t y came went)
    → ⊥
not_without_the_spacing_ahead safe =
    let run = last_run 1000 0 in
    let answered = safe 1000 (toward 1 40) run.0 last_came last_went run.1 others_keep in
    let l : 1000 ≤ 0 + figure punctual 3 = answered.in_time (answer (request 3 0) 1000) (Memᴰ.head refl) refl in
    omega (arith, without_J_it_is_750)
