-- Page 02, 'Ask 11', in runs: every request is answered within its stream's figure, and so by its deadline. Assumes nothing.
--
-- This holds of a stack that takes its next request when the answer to the one before is complete. Of one that takes it earlier it is not true: see Early.
use Prim.Native.Nat.{ℕ, ◌+◌, ◌*◌, ◌≤◌}
use mathlib.Core.Path.{◌≡◌, refl, ap, ◌∙◌}
use mathlib.Core.Bool.{true, false}
use mathlib.Core.Logic.{⊎_elim}
use mathlib.Core.List.{List, ◌∷◌}
use native.Mathlib.Decide.{ℕ_discrete}
use native.Mathlib.Omega.{arith}
use Rattle.sheet_rules.specs.Sheets.{Sheet}
use Rattle.sheet_rules.specs.Whole.Outcome.{Read}
use Rattle.units.specs.Units.{bp}
use Rattle.pnet_rules.specs.Segment.{Segment, segment_of, charged, turn_by, turn}
use Rattle.pnet_rules.specs.Limits.{Declared}
use Rattle.pnet_urgent_rules.specs.Urgent.{ahead, blocked, ahead_in, figure, unmet}
use Rattle.pnet_urgent_rules.specs.Planned.{urgently}
use Rattle.pnet_urgent_rules.specs.Refusals.{Met}
use Rattle.pnet_urgent_rules.proofs.Order.{ahead_then}
use Rattle.pnet_urgent_rules.proofs.Figures.{declared_met, met_is_figure}
use Rattle.pnet_urgent_rules.proofs.Right.{turn_some}
use Rattle.pnet_urgent_rules.proofs.Cases.{urgently_declared}
use Rattle.pnet_urgent_rules.proofs.Refusals.{accepted_exactly}
use Rattle.pnet_run.specs.Run.{Belongs, Request, Answer, Token, RunBy}
use Rattle.pnet_run.specs.Promise.{Spaced, Lasts, past, at_it}
use Rattle.pnet_run.proofs.Charges.{Covers, free}
use Rattle.pnet_run.proofs.Charged.{charged_covers_visits}
use Rattle.pnet_run.proofs.Answering.{NotLate, answers_in_time, none_is_left}
use Rattle.pnet_urgent_run.specs.Stack.{Held, stacked}
use Rattle.pnet_urgent_run.specs.Promise.{SpacedUpTo, AnsweredOf, SafeFor}
use Rattle.pnet_urgent_run.proofs.Kept.{InHeld, stacked_keeps}
use Rattle.pnet_urgent_run.proofs.Heeded.{heeded_itself}
use Rattle.pnet_urgent_run.proofs.Busy.{spaced_before}
use Rattle.pnet_urgent_run.proofs.BusyRuns.{waits_in_time}

-- ---- Any x that covers its right side

-- V by any charge that covers the longest visit to each master. Only stream i's own D is used, and of the streams behind i nothing is

module _ (S : Segment) (declared : Declared S) (h : ℕ → ℕ) (cover : Covers h free S) (i x : ℕ) (from : 1 ≤ i) (to : i ≤ S.number)
    (enough : turn_by h S * (1 + blocked S i + ahead_in S i x) ≤ x) (met_in_time : x ≤ (S.stream i).deadline) where
  abbrev own_master : ℕ
  own_master = (S.stream i).master

  mine : Belongs S own_master i
  mine = record { from_one = from; to_last = to; own = refl }

  its : (j : ℕ) → j ≡ i → Belongs S own_master j
  its j e = rw e mine

  waits : (U : ℕ → Type 0) → U own_master → (t : ℕ) (y : Token) (q : ℕ → Held) (came : List Request) (went : List Answer) → RunBy (stacked S U) S t y q came went
      → SpacedUpTo S i came → (r : Request) → InHeld (q own_master) r → r.of ≡ i → NotLate x r.since t y
  waits U urgent t y q came went z s r j e =
      waits_in_time S declared h cover U own_master i x urgent mine enough met_in_time z s r j (rw e (heeded_itself S i))

  earlier : (r : Request) (came : List Request) → SpacedUpTo S i (r ∷ came) → SpacedUpTo S i came
  earlier r came s = spaced_before S i s

  pub answered_within_x : SafeFor (bp x) S i
  answered_within_x = record {
    ever = λ {Urgent = U} urgent run spaced.
        record {
          in_time = answers_in_time (stacked_keeps S U) S own_master x (λ j. j ≡ i) its (SpacedUpTo S i) earlier (waits U urgent) run spaced;
          none_left = none_is_left (stacked_keeps S U) S own_master x (λ j. j ≡ i) its (SpacedUpTo S i) earlier (waits U urgent) run spaced;
        };
  }

-- ---- 'A stream is accepted exactly if the least solution exists and is at most D'

-- The figure of an accepted stream is the least solution under the edition's V, so it is such an x

pub each_request_is_answered_within_its_figure : (sheet : Sheet) → Declared (segment_of sheet) → (i : ℕ) → 1 ≤ i → i ≤ (segment_of sheet).number
    → unmet (segment_of sheet) i ≡ false → SafeFor (bp (figure (segment_of sheet) i)) (segment_of sheet) i
unfolding turn
each_request_is_answered_within_its_figure sheet declared i from to accepted =
    let S = segment_of sheet in
    let met = (declared_met S declared i).0 accepted in
    let is = met_is_figure S i (turn_some S declared) met in
    rw (← is) (answered_within_x S declared (charged S) (charged_covers_visits declared) i met.x from to (omega (arith, met.solves.equal)) met.in_time)

-- ---- A whole sheet

-- a master that keeps its spacing keeps it up to each of its streams
pub spaced_up_to : (S : Segment) {k i : ℕ} {came : List Request} → Belongs S k i → Spaced S k came → SpacedUpTo S i came
spaced_up_to S {i = i} own spaced j u a b =
    spaced j
    (record {
      from_one = a;
      to_last = b;
      own = ⊎_elim (λ (e : j ≡ i). ap (λ (n : ℕ). (S.stream n).master) e ∙ own.own) (λ (e : ahead S i j ≡ true). (ahead_then S i j e).one_master ∙ own.own) u;
    })

-- Where every stream of the sheet is accepted and master k, which hands down the most urgent first, keeps its spacing, each of its requests is answered within its
-- stream's figure, whatever the other masters do

pub all_requests_are_answered_within_their_figures : (sheet : Sheet) → Declared (segment_of sheet)
    → ((i : ℕ) → 1 ≤ i → i ≤ (segment_of sheet).number → unmet (segment_of sheet) i ≡ false)
    → (Urgent : ℕ → Type 0) (k : ℕ) → Urgent k → {t : ℕ} {y : Token} {q : ℕ → Held} {came : List Request} {went : List Answer}
    → RunBy (stacked (segment_of sheet) Urgent) (segment_of sheet) t y q came went → Spaced (segment_of sheet) k came
    → (i : ℕ) → Belongs (segment_of sheet) k i → AnsweredOf (bp (figure (segment_of sheet) i)) i t y came went
all_requests_are_answered_within_their_figures sheet declared accepted Urgent k urgent run spaced i own =
    (each_request_is_answered_within_its_figure sheet declared i own.from_one own.to_last (accepted i own.from_one own.to_last)).ever (rw own.own urgent)
    run (spaced_up_to (segment_of sheet) own spaced)

-- ---- And so by its deadline

-- what is answered within R is answered within more
pub within_more : {i t R Q : ℕ} {y : Token} {came : List Request} {went : List Answer} → R ≤ Q → AnsweredOf (bp R) i t y came went → AnsweredOf (bp Q) i t y came went
within_more {t = t} {R = R} {Q = Q} {y = y} l a = record {
  in_time = λ w j own. omega (arith, a.in_time w j own);
  none_left = λ r j own lasts. a.none_left r j own (sooner r.since lasts);
}
  where
    sooner : (u : ℕ) → Lasts t y (u + Q) → Lasts t y (u + R)
    sooner u (past b) = past (omega arith)
    sooner u (at_it e s) = go (ℕ_discrete R Q)
      where
        go : Dec (R ≡ Q) → Lasts t y (u + R)
        go (yes z) = at_it (omega arith) s
        go (no z) = past (omega (arith, z))

pub safe_within_more : {S : Segment} {i : ℕ} (R Q : ℕ) → R ≤ Q → SafeFor (bp R) S i → SafeFor (bp Q) S i
safe_within_more R Q l safe = record { ever = λ urgent run spaced. within_more l (safe.ever urgent run spaced) }

-- ---- What the planner accepts

-- Of every sheet that is not refused, each stream's figure is kept to, and so is its deadline

module _ (s : List ℕ) (room : ℕ) (sheet : Sheet) (accepted : urgently s room ≡ Read sheet) (i : ℕ) (from : 1 ≤ i) (to : i ≤ (segment_of sheet).number) where
  own_declared : Declared (segment_of sheet)
  own_declared = urgently_declared s room sheet accepted

  own_met : Met (segment_of sheet) i
  own_met = ((accepted_exactly s room sheet).0 accepted).met i from to

  pub an_accepted_sheet_keeps_its_figures : SafeFor (bp (figure (segment_of sheet) i)) (segment_of sheet) i
  an_accepted_sheet_keeps_its_figures =
      each_request_is_answered_within_its_figure sheet own_declared i from to ((declared_met (segment_of sheet) own_declared i).1 own_met)

  pub an_accepted_sheet_keeps_its_deadlines : SafeFor (bp ((segment_of sheet).stream i).deadline) (segment_of sheet) i
  an_accepted_sheet_keeps_its_deadlines =
      safe_within_more (figure (segment_of sheet) i) ((segment_of sheet).stream i).deadline
      (omega (arith, met_is_figure (segment_of sheet) i (turn_some (segment_of sheet) own_declared) own_met, own_met.in_time)) an_accepted_sheet_keeps_its_figures
