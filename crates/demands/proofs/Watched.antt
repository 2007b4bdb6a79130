-- Page 02, 'Ask 1', beside docs/DECISIONS.md, 'What a capture's bounds rest on': where a capture is the log of a fault-free run of the model in
-- which the spacing is kept, and its successive records are less than 2^31 bp apart, no request counts as too soon, and none as open beyond
-- its bound; and where none counts as too soon, the spacing is kept. `log_of z run` is that log, the latest record first, where the tester's counter was z at the run's start; z is any number, so
-- the counter may run over to zero anywhere, and more than once. The run may be cut at any instant. `broken`, `clock`, `soon`, `whose` and
-- `beyond` are what following the capture answers. Assumes nothing.
use Prim.Native.Nat.{ℕ, ◌+◌, ◌-◌}
use mathlib.Core.Path.{◌≡◌}
use mathlib.Core.Bool.{false}
use mathlib.Core.List.{List, ◌∷◌}
use native.Mathlib.Omega.{arith}
use Rattle.pnet_rules.specs.Segment.{Segment, bound}
use Rattle.pnet_rules.specs.Limits.{Declared}
use Rattle.pnet_run.specs.Run.{Belongs, Request, Answer, Queues, Token, Run}
use Rattle.pnet_run.specs.Promise.{Spaced, Accepted}
use Rattle.capture_ages.specs.Ages.{clock, broken, soon, whose, beyond}
use Rattle.capture_ages.proofs.True.{true_clock}
use Rattle.demands.specs.Logged.{log_of, instants_of, first, Close}
use Rattle.demands.proofs.FirstCome.{first_come_counts, punctual}
use Rattle.demands.proofs.Clocked.{recorded, timed, unbroken, Timely, timely, timely_kept, soon_none, whose_none, none_soon, open_within}

-- a run of any segment S, the counter at its start, and its records' instants
module _ (S : Segment) {now : ℕ} {token : Token} {queues : Queues} {came : List Request} {went : List Answer} (run : Run S now token queues came went) (z : ℕ)
    (close : Close (instants_of run)) where
  -- no two successive records show as out of order, or as 2^31 bp apart
  pub no_gap_counts : broken (log_of z run) ≡ false
  no_gap_counts = unbroken (recorded z run close)

  -- the clock is 1 and what has truly passed from the first record to the latest
  pub the_clock_is_true : (latest : ℕ) (before : List ℕ) → instants_of run ≡ latest ∷ before → clock (log_of z run) ≡ 1 + (latest - first (latest ∷ before))
  the_clock_is_true latest before made = true_clock (timed (rw made at (recorded z run close)))

  -- T and J of each stream
  abbrev pub spacings : ℕ → ℕ
  spacings i = (S.stream i).spacing

  abbrev pub jitters : ℕ → ℕ
  jitters i = (S.stream i).jitter

  -- Every master keeps its spacing, on a segment that a sheet can declare.
  module _ (declared : Declared S) (spaced : (k : ℕ) → Spaced S k came) where
    in_time : Timely spacings jitters (log_of z run)
    in_time = timely spacings jitters declared (λ m i own. omega arith) (λ m i own. omega arith) z run close spaced

    -- the count of requests that came too soon is 0, so no stream is named
    pub no_request_too_soon : soon spacings jitters (log_of z run) ≡ 0
    no_request_too_soon = soon_none in_time

    pub no_stream_too_soon : whose spacings jitters (log_of z run) ≡ 0
    no_stream_too_soon = whose_none in_time

  -- where that count is 0, every master keeps its spacing: nominal times can be found for all requests
  pub none_too_soon_is_spacing_kept : soon spacings jitters (log_of z run) ≡ 0 → (k : ℕ) → Spaced S k came
  none_too_soon_is_spacing_kept none k i own = timely_kept spacings jitters z run close (none_soon spacings jitters (log_of z run) none) i

  -- The segment is accepted, master k keeps its spacing, and stream i is one of its own. Nothing is supposed of the other masters.
  module _ (accepted : Accepted S) (k : ℕ) (spaced : Spaced S k came) (i : ℕ) (own : Belongs S k i) where
    -- at the latest record no request of the stream has been open for longer than the bound
    pub no_request_open_beyond_the_bound : beyond (bound S k) (log_of z run) i ≡ false
    no_request_open_beyond_the_bound = open_within first_come_counts (punctual accepted own) z run close spaced
