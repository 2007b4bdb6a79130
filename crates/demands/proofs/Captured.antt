-- Page 02, 'Ask 1': where a capture is the log of a fault-free run of the model on an accepted sheet whose masters keep their spacing, the
-- count of answers above the bound is 0. `log_of z run` is that log, the latest record first, where the tester's counter was z at the run's
-- start; z is any number, so the counter may run over to zero anywhere, and more than once. The run may be cut at any instant.
-- `largest` and `above` are the figures that the program shows, and `heard` is the refusal that it gives. Assumes nothing.
use Prim.Native.Nat.{ℕ, ◌*◌, ◌≤◌}
use mathlib.Core.Path.{◌≡◌}
use mathlib.Core.List.{List}
use lib.ListN.{length}
use Rattle.common.specs.Checks.Verdict.{Passed}
use Rattle.pnet_rules.specs.Segment.{Segment, bound}
use Rattle.pnet_run.specs.Run.{Belongs, Request, Answer, Queues, Token, Run}
use Rattle.pnet_run.specs.Promise.{Spaced, Accepted}
use Rattle.capture_log.specs.Log.{fresh, largest, above}
use Rattle.capture_log.specs.Records.{size, events_in, taken, heard}
use Rattle.demands.specs.Logged.{log_of}
use Rattle.demands.proofs.Matching.{above_none, largest_most, all_within}
use Rattle.demands.proofs.FirstCome.{first_come_counts, punctual, each_punctual}
use Rattle.demands.proofs.Passing.{all_pass, all_taken, none_refused}

-- a run of the accepted segment S, and the counter at its start
module _ (S : Segment) (accepted : Accepted S) {now : ℕ} {token : Token} {queues : Queues} {came : List Request} {went : List Answer}
    (run : Run S now token queues came went) (z : ℕ) where
  -- Master k keeps its spacing, and stream i is one of its own. Nothing is supposed of the other masters.
  module _ (k : ℕ) (spaced : Spaced S k came) (i : ℕ) (own : Belongs S k i) where
    -- the count of answers above the bound is 0
    pub no_answer_above_the_bound : above fresh (bound S k) (log_of z run) i ≡ 0
    no_answer_above_the_bound = above_none (all_within first_come_counts (punctual accepted own) z run spaced)

    -- each response is within the bound
    pub each_largest_within_the_bound : largest fresh (log_of z run) i ≤ bound S k
    each_largest_within_the_bound = largest_most (all_within first_come_counts (punctual accepted own) z run spaced)

  -- Every master keeps its spacing. The bytes c are a capture with n records, those of the log.
  module _ (spaced : (k : ℕ) → Spaced S k came) (c : List ℕ) (n : ℕ) (long : length c ≡ size * n) (logged : events_in c n ≡ log_of z run) where
    -- no record is refused
    pub the_capture_passes : heard c S.number fresh ≡ Passed
    the_capture_passes = none_refused c S.number n long (rw logged (all_pass first_come_counts (λ i. bound S (S.stream i).master) (each_punctual accepted) z run spaced))

    -- and all are taken
    pub the_capture_is_taken : taken c S.number fresh ≡ n
    the_capture_is_taken = all_taken c S.number n long (rw logged (all_pass first_come_counts (λ i. bound S (S.stream i).master) (each_punctual accepted) z run spaced))
