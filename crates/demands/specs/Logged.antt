-- Page 02, 'Ask 1', beside page 01, 'How a P-NET run goes': the capture of a run, and when its records were made. The run may be by any discipline: what a master
-- does by itself, as handing a request down to its stack (Ask 11), is no record. Assumes nothing.
use Rattle.std.specs.Prelude.{ℕ, ◌+◌, ◌^◌, ◌<◌, List, [], ◌∷◌}
use Rattle.pnet_rules.specs.Segment.{Segment}
use Rattle.pnet_run.specs.Run.{Request, Answer, Token, Discipline, RunBy, start, complete, arrive, move, travel, work, serve, skip}
use Rattle.capture_log.specs.declared.Event.{Event}
use Rattle.capture_log.specs.Log.{stamp_at}

-- what the tester records of a run that found its counter at z, the latest first: at an arrival 'kind 16 is a request entering its queue',
-- at a completion 'kind 17 its completed answer', each with the stream and what the counter shows at that instant; nothing else
unfoldable pub log_of : {D : Discipline} {S : Segment} {t : ℕ} {y : Token} {q : ℕ → D.State} {came : List Request} {went : List Answer} → ℕ → RunBy D S t y q came went
    → List Event
unfolding stamp_at
log_of z (start a b c) = []
log_of z (complete {t = t} {r = r} run head) = record { kind = 17; stream = r.of; stamp = stamp_at z t } ∷ log_of z run
log_of z (arrive {t = t} {i = i} run settled own) = record { kind = 16; stream = i; stamp = stamp_at z t } ∷ log_of z run
log_of z (move run settled moves) = log_of z run
log_of z (travel e run) = log_of z run
log_of z (work e run) = log_of z run
log_of z (serve e reaction message run head a b c d f g) = log_of z run
log_of z (skip e run empty a b) = log_of z run

-- ---- When

-- the instants of these records, the latest first
unfoldable pub instants_of : {D : Discipline} {S : Segment} {t : ℕ} {y : Token} {q : ℕ → D.State} {came : List Request} {went : List Answer} → RunBy D S t y q came went
    → List ℕ
instants_of (start a b c) = []
instants_of (complete {t = t} run head) = t ∷ instants_of run
instants_of (arrive {t = t} run settled own) = t ∷ instants_of run
instants_of (move run settled moves) = instants_of run
instants_of (travel e run) = instants_of run
instants_of (work e run) = instants_of run
instants_of (serve e reaction message run head a b c d f g) = instants_of run
instants_of (skip e run empty a b) = instants_of run

-- that of the first record, 0 if there is none
unfoldable pub first : List ℕ → ℕ
first [] = 0
first (t ∷ []) = t
first (t ∷ s ∷ ts) = first (s ∷ ts)

-- each is less than 2^31 bp behind the one before it: true instants, since by their stamps two that are 2^32 + 5 bp apart are 5 bp apart
pub data Close : List ℕ → Type 0 where
  none : Close []
  one : {t : ℕ} → Close (t ∷ [])
  and : {s t : ℕ} {ts : List ℕ} → t < s + 2 ^ 31 → Close (s ∷ ts) → Close (t ∷ s ∷ ts)
