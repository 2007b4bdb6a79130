-- Page 02, 'Ask 11': what the figure of a stream promises of runs. Assumes nothing.
use Rattle.std.specs.Prelude.{ℕ, ◌+◌, ◌≤◌, ◌≡◌, true, ◌⊎◌}
use mathlib.Core.List.{List, Memᴰ}
use Rattle.units.specs.declared.BitPeriods.{BitPeriods}
use Rattle.pnet_rules.specs.Segment.{Segment}
use Rattle.pnet_urgent_rules.specs.Urgent.{ahead}
use Rattle.pnet_run.specs.Run.{Request, Answer, answer, Token, RunBy}
use Rattle.pnet_run.specs.Promise.{Kept, Lasts}
use Rattle.pnet_urgent_run.specs.Stack.{Held, Everyone, stacked}

-- stream j is stream i, or goes ahead of it
abbrev pub UpTo : Segment → ℕ → ℕ → Type 0
UpTo S i j = (j ≡ i) ⊎ (ahead S i j ≡ true)

-- stream i and the streams ahead of it keep their spacing (page 02, Ask 7). Of the less urgent streams nothing is asked, and nothing of other masters
abbrev pub SpacedUpTo : Segment → ℕ → List Request → Type 0
SpacedUpTo S i came =
    (j : ℕ) → UpTo S i j → 1 ≤ j → j ≤ S.number → (due : List ℕ) × Kept (S.stream j).spacing (S.stream j).jitter j came due

-- every request of stream i is answered within R, a count of bp, if the run lasts that long
pub record AnsweredOf (R : BitPeriods) (i t : ℕ) (y : Token) (came : List Request) (went : List Answer) : Type 0 where
  pub in_time : (a : Answer) → Memᴰ a went → a.to.of ≡ i → a.at ≤ a.to.since + R.0
  pub none_left : (r : Request) → Memᴰ r came → r.of ≡ i → Lasts t y (r.since + R.0) → (u : ℕ) × Memᴰ (answer r u) went

-- no request of stream i takes longer than R, in any run in which its master hands down the most urgent request first and stream i and the streams ahead of it keep
-- their spacing. `Urgent` says which masters hand down the most urgent first; the others do as they like
pub record SafeFor (R : BitPeriods) (S : Segment) (i : ℕ) : Type 1 where
  pub ever : {Urgent : ℕ → Type 0} {t : ℕ} {y : Token} {q : ℕ → Held} {came : List Request} {went : List Answer}
      → Urgent (S.stream i).master → RunBy (stacked S Urgent) S t y q came went → SpacedUpTo S i came → AnsweredOf R i t y came went

-- some such run, in which every master hands down the most urgent first, answers a request of stream i at its arrival plus R
pub record ReachedFor (R : BitPeriods) (S : Segment) (i : ℕ) : Type 0 where
  pub now : ℕ
  pub token : Token
  pub kept : ℕ → Held
  pub came : List Request
  pub went : List Answer
  pub run : RunBy (stacked S Everyone) S now token kept came went
  pub spaced : SpacedUpTo S i came
  pub slow : Request
  pub own : slow.of ≡ i
  pub arrived : Memᴰ slow came
  pub exact : Memᴰ (answer slow (slow.since + R.0)) went
