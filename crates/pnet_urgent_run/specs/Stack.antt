-- Page 02, 'Ask 11': 'source 003's priority queue above each master and one request in the stack', as a discipline of runs. Assumes nothing.
--
-- What source 003 has, in other words: a master's application keeps the requests in order of urgency; the stack below it, which serves the oldest
-- first, is cut down to one request; and as often as the stack has none, one may be handed down to it. What the definition chooses:
--
-- * 'Smaller D goes first in a master, equal D by sheet order.' Of what waits, a request is handed down only if no other is of a stream ahead of its own (`MostUrgent`).
--   What is in the stack stays there, however urgent a later request is.
-- * When the stack has none. The source does not say whether that is when the message of its request starts or when its answer is complete, and page 02 leaves it
--   open. With `stacked` it is when the answer is complete: the request counts as one in the stack until then. With `early` it is when the token has taken the
--   request up, so that a second one may be handed down while the first is under way. Ask 11's figure holds for `stacked` (proofs/Figures) and not for `early` (proofs/Early).
-- * 'May be transferred': at any instant, before, between or behind its arrivals, as long as no completion is due. So the most urgent of those that have come is
--   handed down, and one that comes later in the same instant finds the stack full.
-- * No visit is wasted: a visit goes unused only where nothing is in the stack and nothing waits. Where something waits and the stack is empty when the token
--   comes, something is handed down first.
-- * Not every master has to do so. `Urgent` says which ones do; each other master hands down any of those that wait, the oldest for instance (proofs/Oldest).
use Rattle.std.specs.Prelude.{ℕ, ◌<◌, ◌≡◌, false, cond, length, eqb}
use mathlib.Core.List.{List, [], ◌∷◌, ◌++◌, Memᴰ}
use Rattle.pnet_rules.specs.Segment.{Segment}
use Rattle.pnet_urgent_rules.specs.Urgent.{ahead}
use Rattle.pnet_run.specs.Run.{Request, Token, toward, serving, Discipline}

-- ---- What a master keeps

-- what is in its stack, the one under way first, and what waits above it, in the order of arrival
pub record Held : Type 0 where
  pub stack : List Request
  pub waiting : List Request

abbrev pub held : List Request → List Request → Held
held stack waiting = record { stack = stack; waiting = waiting }

-- r is taken out of l, and rest is left
pub data Taken (r : Request) : List Request → List Request → Type 0 where
  here : {l : List Request} → Taken r (r ∷ l) l
  further : {p : Request} {l rest : List Request} → Taken r l rest → Taken r (p ∷ l) (p ∷ rest)

-- none in l is of a stream ahead of r's
abbrev pub MostUrgent : Segment → Request → List Request → Type 0
MostUrgent S r l = (p : Request) → Memᴰ p l → ahead S r.of p.of ≡ false

-- one of those that wait is handed down to the stack: the most urgent, if that is asked
pub record HandsDown (S : Segment) (MostUrgentFirst : Type 0) (before after : Held) : Type 0 where
  pub handed : Request
  pub out : Taken handed before.waiting after.waiting
  pub into : after.stack ≡ before.stack ++ (handed ∷ [])
  pub picked : MostUrgentFirst → MostUrgent S handed before.waiting

-- the oldest in the stack is served, and is there until its answer is complete
pub record Sends (before : Held) (r : Request) (after : Held) : Type 0 where
  pub sent : before.stack ≡ r ∷ after.stack
  pub others : after.waiting ≡ before.waiting

pub record Nothing (now : Held) : Type 0 where
  pub no_stack : now.stack ≡ []
  pub none_waits : now.waiting ≡ []

-- ---- The disciplines

-- how many the stack of master m may hold, as the token stands: by the one reading it takes its next when one is under way
unfoldable pub besides : ℕ → Token → ℕ
besides m (toward o d) = 1
besides m (serving o c) = cond (eqb o m) 2 1

-- by the other, when the answer is complete
abbrev pub one : ℕ → Token → ℕ
one m y = 1

-- with a stack of that size; `Urgent` says which masters hand down the most urgent
abbrev pub stack_of : (ℕ → Token → ℕ) → Segment → (ℕ → Type 0) → Discipline
stack_of size S Urgent = record {
  State = Held;
  empty = held [] [];
  joined = λ now r. held now.stack (now.waiting ++ (r ∷ []));
  Moves = λ m y now after. (length now.stack < size m y) × HandsDown S (Urgent m) now after;
  Serves = Sends;
  Idle = Nothing;
}

abbrev pub stacked : Segment → (ℕ → Type 0) → Discipline
stacked = stack_of one

abbrev pub early : Segment → (ℕ → Type 0) → Discipline
early = stack_of besides

-- page 02: 'above each master'
abbrev pub Everyone : ℕ → Type 0
Everyone m = Unit {0}
