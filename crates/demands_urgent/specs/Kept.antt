-- Page 02, 'Ask 11', in runs: what a number that the planner writes for a stream promises. The bus, its masters' stacks and the spacing are those of
-- crates/pnet_run and crates/pnet_urgent_run. Assumes nothing.
use Rattle.std.specs.Prelude.{ℕ, ◌≤◌, List}
use Rattle.units.specs.Units.{bp}
use Rattle.pnet_rules.specs.Segment.{Segment}
use Rattle.pnet_run.specs.Run.{Request, Answer, Token, RunBy}
use Rattle.pnet_run.specs.Promise.{Kept}
use Rattle.pnet_urgent_run.specs.Stack.{Held, stacked}
use Rattle.pnet_urgent_run.specs.Promise.{UpTo, AnsweredOf}

-- every request of stream i is answered within x bp, in any run in which its master hands down the most urgent request first and in which stream i and each stream
-- ahead of it keep their T and J. Of the other streams and of the other masters nothing is asked
pub record Promised (S : Segment) (i x : ℕ) : Type 1 where
  pub ever : {Urgent : ℕ → Type 0} {t : ℕ} {y : Token} {q : ℕ → Held} {came : List Request} {went : List Answer}
      → Urgent (S.stream i).master → RunBy (stacked S Urgent) S t y q came went
      → ((j : ℕ) → UpTo S i j → 1 ≤ j → j ≤ S.number → (due : List ℕ) × Kept (S.stream j).spacing (S.stream j).jitter j came due)
      → AnsweredOf (bp x) i t y came went
