-- Page 01, 'How a P-NET run goes': the virtual token bus as a definition. Assumes nothing.
--
-- What the definition chooses, and the sentence of the page that each choice renders:
--
-- * 'Time is in whole bp.' An instant is the number of bp since the run began.
-- * 'A run starts with empty queues and the token on its way to any one master, 0 to 40 bp left.' See `start`.
-- * 'At one instant, completions come first, then arrivals (several in any order), then the token's arrival.'
--   A request arrives only while no completion is due (`Settled`). Several of one instant are as many steps, in any order.
--   The token's arrival is no step of its own: `serve` and `skip` take the token up and let at least one bp pass. So nothing
--   can arrive behind the token at the same instant. (proofs/Literal tells an instant phase by phase; the runs are the same.)
-- * 'If the master's queue holds a request, its oldest is served: 2 to 7 bp reaction, a message of 1 to C bp of its stream,
--   completion, 40 bp to the next master.' See `serve` and `complete`. A queue's oldest is its first; it stays there until its
--   completion, and an arrival goes behind the last (`first_come`). The token counts the bp left to the completion, reaction and
--   message in one: a run shows no more of them than when they end.
-- * 'Else 10 bp to the next. After N comes 1.' See `skip` and `next`.
-- * 'Every request belongs to a declared stream of its master, so a silent master has none.' See `arrive`.
-- * 'A run may be cut at any instant.' What follows is built up step by step, each step may last any part of the time that it
--   has, and every stage is a run.
--
-- Left free: which master the token is first on its way to and how far it is, which stream asks when and how often, each
-- reaction, and the length of each message. A run knows no spacing and no bound: see Promise.
--
-- Left to a `Discipline`, since page 02's Ask 11 has another than page 01: how a master keeps what waits, what it may do with that by itself
-- (`move`, at an instant at which no completion is due), which request it sends, and when it has none to send. The page's runs are `Run`,
-- those by `first_come`, where no master does anything by itself; all else above holds of every discipline.
use Rattle.std.specs.Prelude.{ℕ, suc, ◌+◌, ◌≤◌, ◌≡◌, cond, List, [], ◌∷◌, ◌++◌, eqb}
use Rattle.pnet_rules.specs.Segment.{Segment}

-- ---- Requests and answers

-- stream i is a declared one, and master m's
pub record Belongs (S : Segment) (m i : ℕ) : Type 0 where
  pub from_one : 1 ≤ i
  pub to_last : i ≤ S.number
  pub own : (S.stream i).master ≡ m

-- a request: its stream, and the instant of its arrival
pub record Request : Type 0 where
  pub of : ℕ
  pub since : ℕ

abbrev pub request : ℕ → ℕ → Request
request i t = record { of = i; since = t }

-- an answered request, and the instant of its completion
pub record Answer : Type 0 where
  pub to : Request
  pub at : ℕ

abbrev pub answer : Request → ℕ → Answer
answer r t = record { to = r; at = t }

-- ---- Queues

-- each master's queue, oldest first
abbrev pub Queues : Type 0
Queues = ℕ → List Request

-- what master m keeps becomes l, the others' stays
unfoldable pub put : {A : Type 0} → (ℕ → A) → ℕ → A → ℕ → A
put q m l y = cond (eqb y m) l (q y)

-- ---- The token

-- on its way to a master, or with one that serves a request; and the bp left to the arrival, or to the completion
pub data Token : Type 0 where
  toward : ℕ → ℕ → Token
  serving : ℕ → ℕ → Token

-- no completion is due at this instant
pub data Settled : Token → Type 0 where
  on_way : {m d : ℕ} → Settled (toward m d)
  at_work : {m c : ℕ} → Settled (serving m (suc c))

-- the master behind m of n masters
unfoldable pub next : ℕ → ℕ → ℕ
next n m = cond (eqb m n) 1 (suc m)

-- ---- How a master picks what it sends

pub record Discipline : Type 1 where
  -- what a master keeps of what waits, at a run's start, and once a request has arrived
  pub State : Type 0
  pub empty : State
  pub joined : State → Request → State
  -- what master m may do with it by itself, as the token stands
  pub Moves : ℕ → Token → State → State → Type 0
  -- the request that is sent, and what is kept once it is answered
  pub Serves : State → Request → State → Type 0
  -- there is nothing to send
  pub Idle : State → Type 0

-- page 01's: the oldest is sent, and nothing is done to a queue between arrivals and completions
abbrev pub first_come : Discipline
first_come = record {
  State = List Request;
  empty = [];
  joined = λ l r. l ++ (r ∷ []);
  Moves = λ m y l left. ⊥;
  Serves = λ l r rest. l ≡ r ∷ rest;
  Idle = λ l. l ≡ [];
}

-- r goes behind the last in master m's queue
abbrev pub join : Queues → ℕ → Request → Queues
join q m r = put q m (first_come.joined (q m) r)

-- ---- Runs

-- a run of the segment S by the discipline D: the instant it has come to, the token then and what each master keeps, and what arrived and
-- what was answered so far, both latest first
pub data RunBy (D : Discipline) (S : Segment) : ℕ → Token → (ℕ → D.State) → List Request → List Answer → Type 0 where
  start : {m d : ℕ} → 1 ≤ m → m ≤ S.masters → d ≤ 40 → RunBy D S 0 (toward m d) (λ y. D.empty) [] []
  -- at one instant: a completion, an arrival, what a master does by itself
  complete : {t m : ℕ} {q : ℕ → D.State} {r : Request} {rest : D.State} {came : List Request} {went : List Answer}
      → RunBy D S t (serving m 0) q came went → D.Serves (q m) r rest
      → RunBy D S t (toward (next S.masters m) 40) (put q m rest) came (answer r t ∷ went)
  arrive : {t m i : ℕ} {y : Token} {q : ℕ → D.State} {came : List Request} {went : List Answer}
      → RunBy D S t y q came went → Settled y → Belongs S m i → RunBy D S t y (put q m (D.joined (q m) (request i t))) (request i t ∷ came) went
  move : {t m : ℕ} {y : Token} {q : ℕ → D.State} {left : D.State} {came : List Request} {went : List Answer}
      → RunBy D S t y q came went → Settled y → D.Moves m y (q m) left → RunBy D S t y (put q m left) came went
  -- e bp pass: the token goes on, or the service does
  travel : {t m d : ℕ} {q : ℕ → D.State} {came : List Request} {went : List Answer} (e : ℕ)
      → RunBy D S t (toward m (e + d)) q came went → RunBy D S (t + e) (toward m d) q came went
  work : {t m c : ℕ} {q : ℕ → D.State} {came : List Request} {went : List Answer} (e : ℕ)
      → RunBy D S t (serving m (e + c)) q came went → RunBy D S (t + e) (serving m c) q came went
  -- the token arrives, and the first e bp behind that pass: in the service of a request, or on the way to the next master
  serve : {t m c : ℕ} {q : ℕ → D.State} {r : Request} {rest : D.State} {came : List Request} {went : List Answer} (e reaction message : ℕ)
      → RunBy D S t (toward m 0) q came went → D.Serves (q m) r rest
      → 2 ≤ reaction → reaction ≤ 7 → 1 ≤ message → message ≤ (S.stream r.of).cycle → 1 ≤ e → e + c ≡ reaction + message
      → RunBy D S (t + e) (serving m c) q came went
  skip : {t m d : ℕ} {q : ℕ → D.State} {came : List Request} {went : List Answer} (e : ℕ)
      → RunBy D S t (toward m 0) q came went → D.Idle (q m) → 1 ≤ e → e + d ≡ 10 → RunBy D S (t + e) (toward (next S.masters m) d) q came went

-- page 01's runs, which serve the oldest first
abbrev pub Run : Segment → ℕ → Token → Queues → List Request → List Answer → Type 0
Run = RunBy first_come
