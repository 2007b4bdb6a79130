-- Page 02, 'Ask 1' beside 'Ask 11': in the log of a run in which a stream's master sends urgent requests first and in which the stream and those ahead of it keep their spacing, no answer
-- of the stream is above its x; where all do, the capture passes. From segments, and from the bytes of a sheet and of a capture. The argument is that of
-- crates/demands: x is at most D, and so a request is answered before the next one of its stream comes. Assumes nothing.
use Prim.Native.Nat.{ℕ, ◌+◌, ◌*◌, ◌≤◌, ◌<◌}
use mathlib.Core.Path.{◌≡◌, refl, ap, ◌∙◌}
use mathlib.Core.Bool.{false}
use mathlib.Core.Logic.{inl, inr, ⊎_elim}
use mathlib.Core.List.{List, Memᴰ}
use native.Mathlib.Decide.{dec_lt}
use native.Mathlib.Omega.{arith}
use lib.Dec.{eqb}
use lib.ListN.{length}
use Rattle.common.specs.Checks.Verdict.{Passed}
use Rattle.common.specs.Sums.{when, up}
use Rattle.sheet_rules.specs.Sheets.{Sheet}
use Rattle.sheet_rules.specs.Whole.Outcome.{Read}
use Rattle.pnet_rules.specs.Segment.{Segment, segment_of, charged, turn_by, turn}
use Rattle.pnet_rules.specs.Limits.{Declared}
use Rattle.pnet_urgent_rules.specs.Urgent.{blocked, ahead_in, right_by, right, figure, unmet}
use Rattle.pnet_urgent_rules.specs.Planned.{urgently}
use Rattle.pnet_urgent_rules.proofs.Right.{turn_some}
use Rattle.pnet_urgent_rules.proofs.Figures.{figure_in_time, figure_solves}
use Rattle.pnet_run.specs.Run.{Belongs, Request, Answer, Token, RunBy}
use Rattle.pnet_run.proofs.Charged.{charged_covers_visits}
use Rattle.pnet_run.proofs.Spacing.{spaced_before as spaced-earlier}
use Rattle.pnet_urgent_run.specs.Stack.{Held, Taken, here, further, HandsDown, Sends, Everyone, stacked}
use Rattle.pnet_urgent_run.specs.Promise.{SpacedUpTo}
use Rattle.pnet_urgent_run.proofs.Kept.{InHeld, stacked_keeps}
use Rattle.pnet_urgent_run.proofs.Heeded.{heeded_itself}
use Rattle.pnet_urgent_run.proofs.Busy.{spaced_before}
use Rattle.pnet_urgent_run.proofs.BusyRuns.{waits_in_time}
use Rattle.capture_log.specs.Log.{fresh}
use Rattle.capture_log.specs.Records.{size, events_in, records, events, taken, heard}
use Rattle.capture_ages.specs.Ages.{beyond}
use Rattle.demands.specs.Logged.{log_of, instants_of, Close}
use Rattle.demands.proofs.Matching.{Counts, Punctual, punctual_if, AllSpaced, all_within, above_none, largest_most}
use Rattle.demands.proofs.FirstCome.{many_of, many_of_none, many_of_behind, many_of_first, many_of_in, many_of_some}
use Rattle.demands.proofs.Clocked.{open_within}
use Rattle.demands.proofs.Passing.{all_pass, none_refused, all_taken}
use Rattle.demands_urgent.specs.Written.{room_in}
use Rattle.demands_urgent.specs.Captured.{Within, LoggedWithin}
use Rattle.demands_urgent.proofs.Written.{in_range_law, all_met}
use Rattle.demands_urgent.proofs.Kept.{as_accepted, written_x, written_x_is_the_figure}

-- ---- How many requests of stream i a master keeps

many_of_taken : (i : ℕ) {r : Request} {l rest : List Request} → Taken r l rest → many_of i l ≡ when (eqb r.of i) 1 + many_of i rest
unfolding many_of
many_of_taken i here = refl
many_of_taken i (further out) = omega (arith, many_of_taken i out)

-- in its stack and above it
abbrev pub held_of : Held → ℕ → ℕ
held_of now i = many_of i now.stack + many_of i now.waiting

module _ (i : ℕ) where
  pub down_same : {S : Segment} {U : Type 0} (now after : Held) → HandsDown S U now after → held_of after i ≡ held_of now i
  down_same now after d = omega (arith, ap (many_of i) d.into, many_of_behind i now.stack d.handed, many_of_taken i d.out)

  pub sent_one : (now after : Held) (r : Request) → Sends now r after → held_of now i ≡ when (eqb r.of i) 1 + held_of after i
  sent_one now after r s = omega (arith, many_of_first i now.stack r after.stack s.sent, ap (many_of i) s.others)

  pub held_some : (now : Held) → 1 ≤ held_of now i → (p : Request) × InHeld now p × (i ≡ p.of)
  held_some now l = by (dec_lt 0 (many_of i now.stack))
    where
      by : Dec (0 < many_of i now.stack) → (p : Request) × InHeld now p × (i ≡ p.of)
      by (yes s) = let p = many_of_some i now.stack s in (p.0, inl p.1, p.2)
      by (no n) = let p = many_of_some i now.waiting (omega (arith, n)) in (p.0, inr p.1, p.2)

pub held_in : (now : Held) (p : Request) → InHeld now p → 1 ≤ held_of now p.of
held_in now p =
    ⊎_elim (λ (j : Memᴰ p now.stack). omega (arith, many_of_in now.stack p j)) (λ (j : Memᴰ p now.waiting). omega (arith, many_of_in now.waiting p j))

abbrev pub stacked_counts : (S : Segment) (U : ℕ → Type 0) → Counts (stacked S U) (stacked_keeps S U)
stacked_counts S U = record {
  many = held_of;
  none = λ i. omega (arith, many_of_none i);
  joins = λ now r i. omega (arith, many_of_behind i now.waiting r);
  moves = λ m y now after d i. down_same i now after d.1;
  serves = λ now after r s i. sent_one i now after r s;
  counted = held_in;
  some = λ now i. held_some i now;
}

-- ---- No request takes longer than its stream's x

module _ (S : Segment) (declared : Declared S) (U : ℕ → Type 0) {k i : ℕ} (urgent : U k) (own : Belongs S k i) (met : unmet S i ≡ false) where
  x_in_time : figure S i ≤ (S.stream i).deadline
  x_in_time = figure_in_time S i (turn_some S declared) met

  x_covers : turn_by (charged S) S * (1 + blocked S i + ahead_in S i (figure S i)) ≤ figure S i
  unfolding right right_by turn
  x_covers = omega (arith, figure_solves S i (turn_some S declared) met)

  pub punctual : Punctual (stacked S U) (stacked_keeps S U) S k i (figure S i) (SpacedUpTo S i)
  punctual =
      let range = declared.ranges i own.from_one own.to_last in
      record {
        own = own;
        short = range.jitter_to;
        fits = omega (arith, x_in_time, range.deadline_to);
        small = omega (arith, x_in_time, range.deadline_to, range.spacing_to);
        keeps = λ came spaced. spaced i (inl refl) own.from_one own.to_last;
        earlier = λ r came spaced. spaced_before S i spaced;
        waits = λ t y q came went run spaced r j e.
            waits_in_time S declared (charged S) (charged_covers_visits declared) U k i (figure S i) urgent own x_covers x_in_time run spaced r j (rw e (heeded_itself S i));
      }

-- where every master keeps its spacing, so do stream i and those ahead of it
all_spaced_up_to : (S : Segment) (i : ℕ) (came : List Request) → AllSpaced S came → SpacedUpTo S i came
all_spaced_up_to S i came spaced j up from to = spaced (S.stream j).master j (record { from_one = from; to_last = to; own = refl })

-- ---- The log of a run

module _ (S : Segment) (declared : Declared S) where
  -- stream i is accepted. Nothing is supposed of those behind it, and nothing of the other masters
  module _ (i : ℕ) (from : 1 ≤ i) (to : i ≤ S.number) (met : unmet S i ≡ false) where
    its_own : Belongs S (S.stream i).master i
    its_own = record { from_one = from; to_last = to; own = refl }

    -- 'the count of answers above the bound is 0', for x in place of R
    pub no_answer_above_x : LoggedWithin S i (figure S i)
    no_answer_above_x = record {
      ever = λ {Urgent = U} urgent run spaced z.
          let within = all_within (stacked_counts S U) (punctual S declared U urgent its_own met) z run spaced in
          record { none_above = above_none within; largest_within = largest_most within };
    }

    -- nor is a request open for longer, where successive records are less than 2^31 bp apart
    pub no_request_open_beyond_x : {U : ℕ → Type 0} {t : ℕ} {y : Token} {q : ℕ → Held} {came : List Request} {went : List Answer}
        → U (S.stream i).master → (run : RunBy (stacked S U) S t y q came went) → Close (instants_of run) → SpacedUpTo S i came → (z : ℕ)
        → beyond (figure S i) (log_of z run) i ≡ false
    no_request_open_beyond_x {U} urgent run close spaced z = open_within (stacked_counts S U) (punctual S declared U urgent its_own met) z run close spaced

  -- every stream is accepted, and every master hands down the most urgent request first
  module _ (met : (i : ℕ) → 1 ≤ i → i ≤ S.number → unmet S i ≡ false) (U : ℕ → Type 0) (urgent : (m : ℕ) → U m) where
    pub each_punctual : (m i : ℕ) → Belongs S m i → Punctual (stacked S U) (stacked_keeps S U) S m i (figure S i) (AllSpaced S)
    each_punctual m i own =
        punctual_if (all_spaced_up_to S i) (λ r l s k. spaced-earlier (s k)) (punctual S declared U (urgent m) own (met i own.from_one own.to_last))

    -- a run in which all keep their spacing; the bytes c are a capture with n records, those of the log
    module _ {t : ℕ} {y : Token} {q : ℕ → Held} {came : List Request} {went : List Answer} (run : RunBy (stacked S U) S t y q came went) (spaced : AllSpaced S came) (z : ℕ)
        (c : List ℕ) (n : ℕ) (long : length c ≡ size * n) (logged : events_in c n ≡ log_of z run) where
      -- no record is refused
      pub the_capture_passes : heard c S.number fresh ≡ Passed
      the_capture_passes = none_refused c S.number n long (rw logged (all_pass (stacked_counts S U) (figure S) each_punctual z run spaced))

      -- and all are taken
      pub the_capture_is_taken : taken c S.number fresh ≡ n
      the_capture_is_taken = all_taken c S.number n long (rw logged (all_pass (stacked_counts S U) (figure S) each_punctual z run spaced))

-- ---- From the bytes of a sheet and of a capture

-- the bytes s, and the three lent runs before the call; the planner accepts the sheet H that the bytes say
module _ (s lent-places lent-x lent-rounds : List ℕ) (H : Sheet) (accepts : urgently s (room_in lent-places lent-x lent-rounds) ≡ Read H)
    -- a run of its bus, in which each master hands down the most urgent request first and keeps its spacing
    {now : ℕ} {token : Token} {kept : ℕ → Held} {came : List Request} {went : List Answer} (run : RunBy (stacked (segment_of H) Everyone) (segment_of H) now token kept came went)
    (spaced : AllSpaced (segment_of H) came)
    -- the bytes c have n records, those of the run's log, where the tester's counter was z at its start
    (z : ℕ) (c : List ℕ) (n : ℕ) (long : length c ≡ size * n) (logged : events_in c n ≡ log_of z run) where
  -- the capture passes beside the sheet
  pub the_capture_of_the_bytes_passes : heard c (length H.streams) fresh ≡ Passed
  unfolding segment_of
  the_capture_of_the_bytes_passes =
      let a = as_accepted s lent-places lent-x lent-rounds H accepts in
      the_capture_passes (segment_of H) (in_range_law s _ H a) (all_met s _ H a) Everyone (λ m. tt) run spaced z c n long logged

  all_events : events c ≡ log_of z run
  unfolding events records up
  all_events = let e : records c ≡ n = omega arith in ap (events_in c) e ∙ logged

  -- and shows no answer of stream i above the number that the planner wrote for it
  pub no_answer_above_the_written_x : (i : ℕ) (from : 1 ≤ i) (to : i ≤ length H.streams)
      → Within (written_x s lent-places lent-x lent-rounds H accepts i from to) i (events c)
  unfolding segment_of
  no_answer_above_the_written_x i from to =
      let a = as_accepted s lent-places lent-x lent-rounds H accepts in
      let within = (no_answer_above_x (segment_of H) (in_range_law s _ H a) i from to (all_met s _ H a i from to)).ever {Urgent = Everyone} tt run (all_spaced_up_to (segment_of H) i came spaced) z in
      rw (all_events, written_x_is_the_figure s lent-places lent-x lent-rounds H accepts i from to) within
