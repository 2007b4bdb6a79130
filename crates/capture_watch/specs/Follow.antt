-- What is kept of a capture that is followed piece by piece: the clock and what it showed, and for each stream the clock at its last
-- request and that request's lead, each in a run of 800 places, place i for stream i + 1. Assumes nothing.
use Rattle.std.specs.Prelude.{ℕ, zero, suc, ◌-◌, ◌*◌, Bool, cond, not, ◌&&◌, List, [], ◌∷◌, ltb, eqb, get_or, set}
use Rattle.common.specs.Runs.{tab}
use Rattle.common.specs.Sums.{when}
use Rattle.sheet_record.specs.Kinds.{within}
use Rattle.capture_log.specs.declared.Event.{Event}
use Rattle.capture_log.specs.Records.{size, met_at}
use Rattle.capture_ages.specs.Ages.{kept_lead}
use Rattle.capture_ages.specs.Clock.{ago, tick, lead_of, watch_with}
use Rattle.capture_ages.specs.declared.Watch.{Watch}

-- no sheet has more streams
abbrev pub most : ℕ
most = 800

-- ---- One record

-- a request of a stream that has a place
unfoldable pub request : Event → Bool
unfolding within
request e = eqb e.kind 16 && within 1 e.stream most

-- the place of a record's stream
abbrev pub spot : Event → ℕ
spot e = e.stream - 1

-- ---- Records one after the other

pub record Seen : Type 0 where
  pub watch : Watch
  pub asked : List ℕ
  pub lead : List ℕ

abbrev pub seen : Watch → List ℕ → List ℕ → Seen
seen w asked lead = record { watch = w; asked = asked; lead = lead }

-- T and J are the runs of spacings and of jitters
unfoldable pub seen_with : List ℕ → List ℕ → Seen → Event → Seen
unfolding request lead_of kept_lead watch_with tick
seen_with T J s e =
    let w = s.watch in
    let k = spot e in
    let new = lead_of w e (get_or T k 0) (get_or s.asked k 0) (get_or s.lead k 0) in
    record {
      watch = watch_with w e (request e && ltb (get_or J k 0) new);
      asked = cond (request e) (set s.asked k (tick w e.stamp)) s.asked;
      lead = cond (request e) (set s.lead k (kept_lead (get_or J k 0) new)) s.lead;
    }

unfoldable pub followed : List ℕ → List ℕ → Seen → List Event → Seen
unfolding seen_with
followed T J s [] = s
followed T J s (e ∷ es) = seen_with T J (followed T J s es) e

-- the first n records of a piece, the latest first
unfoldable pub met_in : List ℕ → ℕ → List Event
unfolding met_at
met_in p zero = []
met_in p (suc n) = met_at p (size * n) ∷ met_in p n

-- ---- At the end

-- 1 for each stream with a request open for longer than its bound, else 0
unfoldable pub overdue_at : ℕ → List ℕ → List ℕ → List ℕ → ℕ → ℕ
unfolding ago
overdue_at clock bound left asked i =
    when (not (eqb (get_or left i 0) 0) && ltb (get_or bound i 0) (ago clock (get_or asked i 0))) 1

unfoldable pub overdue_run : ℕ → List ℕ → List ℕ → List ℕ → List ℕ
unfolding tab overdue_at
overdue_run clock bound left asked = tab (overdue_at clock bound left asked) most
