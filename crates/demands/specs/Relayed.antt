-- Page 02, 'Ask 4', beside page 01, 'How a P-NET run goes': a request that is relayed over a path, and its reply. Assumes nothing.
--
-- On each segment there is a run of the model. It counts its instants from its own beginning; `began` is when that was, on one clock for all
-- segments. Of the sender of a segment, after the first a gateway, this is assumed, and nothing else:
--
-- * On the segment where it sends, its requests keep the spacing that its streams declare there (`Spaced`).
-- * A request that was answered on one segment is in the gateway's queue on the next at most the gateway's forwarding time later.
-- * A reply that has come to a gateway is on its other side at most the forwarding time later. It waits for no token on its way back: 'the reply
--   costs the forwarding times once more', and no bound.
use Rattle.std.specs.Prelude.{ℕ, zero, suc, ◌+◌, ◌*◌, ◌≤◌}
use mathlib.Core.List.{List, Memᴰ}
use Rattle.sheet_record.specs.Kinds.{nothing}
use Rattle.sheet_rules.specs.Whole.{Outcome}
use Rattle.sheet_rules.specs.Whole.Outcome.{Read, Not}
use Rattle.pnet_rules.specs.Segment.{Segment, stream_of, segment_of}
use Rattle.pnet_run.specs.Run.{Belongs, Request, Answer, answer, Queues, Token, Run}
use Rattle.pnet_run.specs.Promise.{Spaced, Lasts}
use Rattle.pnet_path.specs.Path.{Path, gateways, sheet_at, bound_at, sender_at, forwarding_at}

-- segments S, their senders k, and the forwarding times F of the gateways behind them; a hop is a segment or a gateway
mutual
  -- with so many hops left, at segment i: the request entered its sender's queue at the instant a, and the reply was with that sender at b
  pub data Sent (S : ℕ → Segment) (k F : ℕ → ℕ) : ℕ → ℕ → ℕ → ℕ → Type 0 where
    sent : {left i b t u : ℕ} {y : Token} {q : Queues} {came : List Request} {went : List Answer} {r : Request} (began : ℕ)
        → Run (S i) t y q came went → Spaced (S i) (k i) came → Belongs (S i) (k i) r.of → Memᴰ (answer r u) went
        → Forwarded S k F left i (began + u) b → Sent S k F (suc left) i (began + r.since) b

  -- with so many hops left, behind segment i: the request was answered there at the instant a, and the reply was there at b
  pub data Forwarded (S : ℕ → Segment) (k F : ℕ → ℕ) : ℕ → ℕ → ℕ → ℕ → Type 0 where
    -- no hop is left: that answer is the reply
    arrived : {i a : ℕ} → Forwarded S k F zero i a a
    through : {left i a b c d : ℕ} → c ≤ a + F i → Sent S k F left (i + 1) c d → b ≤ d + F i → Forwarded S k F (suc left) i a b

-- The same while no answer is known yet, in runs that last: R is what is promised on each segment.
mutual
  -- with so many hops left, at segment i: the request entered its sender's queue at the instant a, and the run there lasts for R from then on;
  -- whenever it is answered, it is waited for behind the segment
  pub data Asked (S : ℕ → Segment) (k F R : ℕ → ℕ) : ℕ → ℕ → ℕ → Type 0 where
    asked : {left i t : ℕ} {y : Token} {q : Queues} {came : List Request} {went : List Answer} {r : Request} (began : ℕ)
        → Run (S i) t y q came went → Spaced (S i) (k i) came → Belongs (S i) (k i) r.of → Memᴰ r came → Lasts t y (r.since + R i)
        → ((u : ℕ) → Memᴰ (answer r u) went → Awaited S k F R left i (began + u)) → Asked S k F R (suc left) i (began + r.since)

  -- with so many hops left, behind segment i: the request was answered there at the instant a, and the gateway sends it on in time
  pub data Awaited (S : ℕ → Segment) (k F R : ℕ → ℕ) : ℕ → ℕ → ℕ → Type 0 where
    no_further : {i a : ℕ} → Awaited S k F R zero i a
    sent_on : {left i a c : ℕ} → c ≤ a + F i → Asked S k F R left (i + 1) c → Awaited S k F R (suc left) i a

-- ---- The segments of a path

-- what a sheet declares; one that is refused declares nothing
abbrev pub segment_from : Outcome → Segment
segment_from (Read H) = segment_of H
segment_from (Not n p) = record { edition = 1; masters = 0; number = 0; stream = λ i. stream_of nothing }

unfoldable pub segment_at : Path → ℕ → Segment
unfolding sheet_at segment_of
segment_at P i = segment_from (sheet_at P i)

-- over the whole of P: the request entered the queue of segment 1's sender at the instant a, and the reply was with that sender at b
abbrev pub Exchange : Path → ℕ → ℕ → Type 0
Exchange P a b = Sent (segment_at P) (sender_at P) (forwarding_at P) (2 * gateways P + 1) 1 a b

-- the request is on its way over the whole of P, and R is each segment's bound for its sender
abbrev pub OnItsWay : Path → ℕ → Type 0
OnItsWay P a = Asked (segment_at P) (sender_at P) (forwarding_at P) (bound_at P) (2 * gateways P + 1) 1 a
