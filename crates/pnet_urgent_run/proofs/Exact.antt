-- No figure of the sheet in Three is larger than it must be: for each of its streams some run, in which every stream keeps its spacing, takes exactly the figure (Laps). For
-- streams 1 and 2 a less urgent request is in the stack when they ask, and b counts it. That x is attained on every sheet is not true: requests of streams ahead that
-- come while the last message is under way are counted and delay nothing. Assumes nothing.
use Prim.Native.Nat.{ℕ, ◌+◌, ◌≤◌}
use mathlib.Core.Path.{◌≡◌, refl}
use mathlib.Core.Logic.{◌⊎◌, inr, ⊎_elim}
use mathlib.Core.List.Memᴰ
use mathlib.Core.List.{List, [], ◌∷◌, Memᴰ}
use native.Mathlib.Omega.{arith}
use Rattle.units.specs.Units.{bp}
use Rattle.pnet_rules.specs.Segment.{segment_of}
use Rattle.pnet_run.specs.Run.{request, toward}
use Rattle.pnet_run.specs.Promise.{Kept, quiet, other, asks, Spaced}
use Rattle.pnet_run.proofs.Few.{each}
use Rattle.pnet_urgent_run.specs.Promise.{ReachedFor}
use Rattle.pnet_urgent_run.proofs.Three.{three, stream_1, stream_2, stream_3}
use Rattle.pnet_urgent_run.proofs.Laps.{blocked_came, blocked_went, blocked_run, last_came, last_went, last_run, second_keeps, third_keeps}
use Rattle.pnet_urgent_run.proofs.Figures.{spaced_up_to}

-- ---- Every stream keeps its spacing

-- stream 1 asks at 0 and at 500; the requests before the first are of other streams, and ask once
far : (v : ℕ) → Memᴰ v (0 ∷ []) → (500 + 500 ≤ v) ⊎ (v + 500 ≤ 500)
far v j = ⊎_elim (λ (e : v ≡ 0). inr (omega arith)) (λ (c : Memᴰ v []). absurd (Memᴰ.not-nil c)) (Memᴰ.cases_cons j)

pub blocked_spaced : (k : ℕ) → Spaced three k blocked_came
unfolding segment_of
blocked_spaced k i b =
    each (λ n. (due : List ℕ) × Kept (three.stream n).spacing (three.stream n).jitter n blocked_came due) (500 ∷ 0 ∷ [], first) (0 ∷ [], second) (0 ∷ [], third) i
    b.from_one b.to_last
  where
    first : Kept 500 0 1 blocked_came (500 ∷ 0 ∷ [])
    first =
        asks {r = request 1 500} 500 refl (omega arith) (omega arith) far
        (other {r = request 2 0} (λ e. omega arith)
        (asks {r = request 1 0} 0 refl (omega arith) (omega arith) (λ v j. absurd (Memᴰ.not-nil j)) (other {r = request 3 0} (λ e. omega arith) quiet)))

    second : Kept 100000 0 2 blocked_came (0 ∷ [])
    second =
        other {r = request 1 500} (λ e. omega arith)
        (asks {r = request 2 0} 0 refl (omega arith) (omega arith) (λ v j. absurd (Memᴰ.not-nil j))
        (other {r = request 1 0} (λ e. omega arith) (other {r = request 3 0} (λ e. omega arith) quiet)))

    third : Kept 100000 0 3 blocked_came (0 ∷ [])
    third =
        other {r = request 1 500} (λ e. omega arith)
        (other {r = request 2 0} (λ e. omega arith)
        (other {r = request 1 0} (λ e. omega arith)
        (asks {r = request 3 0} 0 refl (omega arith) (omega arith) (λ v j. absurd (Memᴰ.not-nil j)) quiet)))

pub last_spaced : (k : ℕ) → Spaced three k last_came
unfolding segment_of
last_spaced k i b =
    each (λ n. (due : List ℕ) × Kept (three.stream n).spacing (three.stream n).jitter n last_came due) (500 ∷ 0 ∷ [], first) (0 ∷ [], second_keeps) (0 ∷ [], third_keeps) i
    b.from_one b.to_last
  where
    first : Kept 500 0 1 last_came (500 ∷ 0 ∷ [])
    first =
        asks {r = request 1 500} 500 refl (omega arith) (omega arith) far
        (other {r = request 3 0} (λ e. omega arith)
        (other {r = request 2 0} (λ e. omega arith)
        (asks {r = request 1 0} 0 refl (omega arith) (omega arith) (λ v j. absurd (Memᴰ.not-nil j)) quiet)))

-- ---- Each figure is taken

pub some_run_takes_x_of_stream_1 : ReachedFor (bp 500) three 1
some_run_takes_x_of_stream_1 = record {
  now = 1000;
  token = toward 1 40;
  kept = (blocked_run 500 0).0;
  came = blocked_came;
  went = blocked_went;
  run = (blocked_run 500 0).1;
  spaced = spaced_up_to three (stream_1 500 0) (blocked_spaced 1);
  slow = request 1 0;
  own = refl;
  arrived = Memᴰ.tail (Memᴰ.tail (Memᴰ.head refl));
  exact = Memᴰ.tail (Memᴰ.tail (Memᴰ.head refl));
}

pub some_run_takes_x_of_stream_2 : ReachedFor (bp 1000) three 2
some_run_takes_x_of_stream_2 = record {
  now = 1000;
  token = toward 1 40;
  kept = (blocked_run 500 0).0;
  came = blocked_came;
  went = blocked_went;
  run = (blocked_run 500 0).1;
  spaced = spaced_up_to three (stream_2 500 0) (blocked_spaced 1);
  slow = request 2 0;
  own = refl;
  arrived = Memᴰ.tail (Memᴰ.head refl);
  exact = Memᴰ.head refl;
}

pub some_run_takes_x_of_stream_3 : ReachedFor (bp 1000) three 3
some_run_takes_x_of_stream_3 = record {
  now = 1000;
  token = toward 1 40;
  kept = (last_run 500 0).0;
  came = last_came;
  went = last_went;
  run = (last_run 500 0).1;
  spaced = spaced_up_to three (stream_3 500 0) (last_spaced 1);
  slow = request 3 0;
  own = refl;
  arrived = Memᴰ.tail (Memᴰ.head refl);
  exact = Memᴰ.head refl;
}
