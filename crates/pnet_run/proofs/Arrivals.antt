-- What a kept spacing comes to in a run: arrivals T - J apart (Spacing.kept_apart), and T apart, no more and no less, where J is 0. Assumes nothing.
use Prim.Native.Nat.{ℕ, ◌-◌, ◌≤◌}
use mathlib.Core.Path.{subst}
use mathlib.Core.List.{List}
use native.Mathlib.Omega.{arith}
use Rattle.pnet_rules.specs.Segment.{Segment}
use Rattle.pnet_rules.specs.Limits.{Declared}
use Rattle.pnet_run.specs.Run.{Belongs, Request, Answer, Queues, Token, Run}
use Rattle.pnet_run.specs.Promise.{Kept, Spaced, Apart}
use Rattle.pnet_run.proofs.Spacing.{came_in_order, kept_apart, apart_kept}

-- with jitter the arrivals are T - J apart: so it is for each stream of a master that keeps its spacing
pub spaced_apart : {S : Segment} {k t : ℕ} {y : Token} {q : Queues} {came : List Request} {went : List Answer}
    → Declared S → Run S t y q came went → Spaced S k came → (i : ℕ) → Belongs S k i → Apart ((S.stream i).spacing - (S.stream i).jitter) i came
spaced_apart declared run spaced i b =
    kept_apart (declared.ranges i b.from_one b.to_last).jitter_to (came_in_order run) (spaced i b).1

-- without jitter, to keep the spacing T is to have the arrivals T apart
pub without_jitter_it_is_apart : {S : Segment} {T i t : ℕ} {y : Token} {q : Queues} {came : List Request} {went : List Answer}
    → Run S t y q came went → 1 ≤ T
    → ((due : List ℕ) × Kept T 0 i came due → Apart T i came) × (Apart T i came → (due : List ℕ) × Kept T 0 i came due)
without_jitter_it_is_apart {T = T} {i = i} {came = came} run some =
    (λ kept. subst (λ (d : ℕ). Apart d i came) (omega arith) (kept_apart (omega arith) (came_in_order run) kept.1), apart_kept 0)
