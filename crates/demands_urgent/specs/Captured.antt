-- Page 02, 'Ask 1' beside 'Ask 11': what a capture of a run shows, where its masters send urgent requests first. `above` and `largest` are the figures that are shown of
-- a capture, for any bound. Assumes nothing.
use Rattle.std.specs.Prelude.{ℕ, ◌≤◌, ◌≡◌, List}
use Rattle.pnet_rules.specs.Segment.{Segment}
use Rattle.pnet_run.specs.Run.{Request, Answer, Token, RunBy}
use Rattle.pnet_urgent_run.specs.Stack.{Held, stacked}
use Rattle.pnet_urgent_run.specs.Promise.{SpacedUpTo}
use Rattle.capture_log.specs.declared.Event.{Event}
use Rattle.capture_log.specs.Log.{fresh, largest, above}
use Rattle.demands.specs.Logged.{log_of}

-- of stream i these records show no answer above x, and none that took longer
pub record Within (x i : ℕ) (es : List Event) : Type 0 where
  pub none_above : above fresh x es i ≡ 0
  pub largest_within : largest fresh es i ≤ x

-- so it is in the log of any run in which the stream's master hands down the most urgent request first and in which the stream and those ahead of it keep their spacing. The
-- tester's counter was z at the run's start; it may run over to zero anywhere, and the run may be cut at any instant
pub record LoggedWithin (S : Segment) (i x : ℕ) : Type 1 where
  pub ever : {Urgent : ℕ → Type 0} {t : ℕ} {y : Token} {q : ℕ → Held} {came : List Request} {went : List Answer}
      → Urgent (S.stream i).master → (run : RunBy (stacked S Urgent) S t y q came went) → SpacedUpTo S i came → (z : ℕ) → Within x i (log_of z run)
