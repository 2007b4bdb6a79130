-- Page 02, Asks 2 and 7: no response passes the refined figure, in any run in which every master keeps its spacing; for any charge that
-- covers the longest visit to each master. From the window on, it is in Within. Assumes nothing.
--
-- The argument. Master k's s visits to another master y are charged in one of two ways: each with h(y), where y can be asked s
-- times or oftener; or each with 10 bp, as if unused, and h(y) - 10 more for each that is used. By Bound, a request of k that came at a is
-- answered by a, s turns of the charges, and what the visits that ended since a, or are under way, cost more. Each of these
-- visits served a request that came at a - R(y) or later, since none waits longer than R(y); and it came before a + W, as long as now is
-- before a + W. Nominal times up to J before such arrivals lie in a window of W + R(y) + J, and a stream that keeps its spacing has
-- (W + R(y) + J)/T of them there at most, rounded up. So what the visits cost more stays within what W has for them, and the request is
-- answered by a + W.
--
-- W need not be the least solution: it is enough that the right side at W is at most W. That a response is at most the right side at
-- the response itself would prove nothing of the least solution; so a + W is fixed at the arrival, and the counts are held to it
-- from then on. A visit that ended before a is not counted; its token pass, up to 40 bp, is in Bound's toll.
use Prim.Native.Nat.{ℕ, ◌-◌, ◌≤◌}
use mathlib.Core.Path.{◌≡◌}
use mathlib.Core.List.{List, Memᴰ}
use native.Mathlib.Omega.{arith}
use Rattle.pnet_rules.specs.Segment.{Segment, bound_by}
use Rattle.pnet_rules.specs.Limits.{Declared}
use Rattle.pnet_run.specs.Run.{Belongs, Request, Answer, Queues, Token, Run}
use Rattle.pnet_run.specs.Promise.{Spaced, Apart}
use Rattle.pnet_run.proofs.Charges.{Covers, free, in_ring}
use Rattle.pnet_run.proofs.Arrivals.{spaced_apart}
use Rattle.pnet_run.proofs.EveryRun.{answered_by}

module _ (S : Segment) (declared : Declared S) (h : ℕ → ℕ) (cover : Covers h free S)
    (fits : (m i : ℕ) → Belongs S m i → bound_by h S m ≤ (S.stream i).spacing - (S.stream i).jitter) where
  -- every master keeps its spacing
  abbrev AllSpaced : List Request → Type 0
  AllSpaced came = (m : ℕ) → Spaced S m came

  -- so its arrivals are at least this far apart
  abbrev least : ℕ → ℕ
  least i = (S.stream i).spacing - (S.stream i).jitter

  pub apart : {t : ℕ} {y : Token} {q : Queues} {came : List Request} {went : List Answer} → Run S t y q came went → AllSpaced came
      → (m i : ℕ) → Belongs S m i → Apart (least i) i came
  apart z s m = spaced_apart declared z (s m)

  -- ---- How many requests of a stream are answered in the window

  -- each of them came R(y) before the window at the earliest
  pub came_late : {t : ℕ} {y : Token} {q : Queues} {came : List Request} {went : List Answer} → Run S t y q came went → AllSpaced came → (m i a : ℕ)
      → Belongs S m i → (w : Answer) → Memᴰ w went → w.to.of ≡ i → a ≤ w.at → a - bound_by h S m ≤ w.to.since
  came_late z s m i a b w j e l =
      let ring = in_ring declared b in
      omega (arith, (answered_by S h m ring.0 ring.1 cover least (fits m) z (apart z s m)).in_time w j (rw e b))
