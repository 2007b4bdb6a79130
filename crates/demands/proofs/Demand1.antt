-- Demand 1. The functions of this project have no `requires`: each answers for every byte sequence and every lent memory, and what it
-- answers is a definition's value. Here stand the sentences of the demand over those definitions. Assumes nothing.
use Prim.Native.Nat.{ℕ}
use mathlib.Core.Path.{◌≡◌, refl}
use mathlib.Core.List.{List}
use mathlib.Core.Logic.{◌⊎◌, inl, inr, ◌↔◌}
use native.Mathlib.Omega.{arith}
use lib.ListN.{length, take}
use Rattle.common.specs.Checks.{Verdict, verdict}
use Rattle.common.specs.Checks.Verdict.{Passed, Refused}
use Rattle.sheet_record.specs.declared.Record.{Record}
use Rattle.sheet_write.specs.Writing.{put_answer, put_bytes}
use Rattle.sheet_write.proofs.Writing.{refused_keeps}
use Rattle.sheet_rules.specs.Sheets.{Sheet}
use Rattle.sheet_rules.specs.Whole.{Outcome, reading}
use Rattle.sheet_read.specs.Told.{counts_told}
use Rattle.sheet_rules.specs.Whole.Outcome.{Read, Not}
use Rattle.sheet_rules.specs.Refusals.{Given}
use Rattle.sheet_rules.specs.Lengths.{enough}
use Rattle.sheet_rules.proofs.Refusals.{refused_exactly}
use Rattle.sheet_rules.proofs.Lengths.{reading_prefix}
use Rattle.pnet_rules.specs.Segment.{Segment}
use Rattle.pnet_plan.specs.Planned.{planned, run_of}
use Rattle.worldfip_figures.specs.Declares.{traffic_of}
use Rattle.worldfip_plan.specs.Answer as fip
use Rattle.capture_log.specs.Log.{Before}
use Rattle.capture_tally.specs.Pieces.{answer_to, run_by}
use Rattle.capture_compare.specs.Compared.{compared}
use Rattle.pnet_bounds.specs.Bounded.{stream_run}
use Rattle.std.specs.declared.result.Result.TheVariants.{Err}
use Rattle.common.specs.Checks.{refusal}

-- ---- 'Every byte sequence offered as a sheet gets an answer.'

pub every_sequence_is_read_or_refused : (s : List ℕ) → ((S : Sheet) × (reading s ≡ Read S)) ⊎ ((n : ℕ) × (p : ℕ) × (reading s ≡ Not n p))
every_sequence_is_read_or_refused s = split (reading s) refl
  where
    split : (o : Outcome) → reading s ≡ o → ((S : Sheet) × (reading s ≡ Read S)) ⊎ ((n : ℕ) × (p : ℕ) × (reading s ≡ Not n p))
    split (Read S) e = inl (S, e)
    split (Not n p) e = inr (n, p, e)

-- however long it is, its first 12,820 bytes settle the answer
pub a_prefix_settles_the_answer : (s : List ℕ) → reading s ≡ reading (take enough s)
a_prefix_settles_the_answer = reading_prefix

-- ---- 'A bad sheet is refused by number, with the place that the refusal list fixes.'

-- `Given` is the list, line by line, with the order of the page
pub refused_as_listed : (s : List ℕ) (n p : ℕ) → (reading s ≡ Not n p) ↔ Given s n p
refused_as_listed = refused_exactly

-- ---- 'A refused call changes no byte of memory lent for results.'

-- the P-NET planner's three runs, whatever figure each is for
pub pnet_refusal_keeps_every_run : (s : List ℕ) (la lb lc n p : ℕ) → planned s la lb lc ≡ Not n p → (figure : Segment → ℕ → ℕ) (old : List ℕ)
    → run_of (planned s la lb lc) figure old ≡ old
pnet_refusal_keeps_every_run s la lb lc n p e figure old = rw e

-- the WorldFIP planner's rows, also where the table is only known to fail at its end
pub worldfip_refusal_keeps_the_rows : (s old : List ℕ) (n p : ℕ) → fip.plan_of (reading s) (length old) ≡ Err (refusal n p) → fip.run_of (reading s) old ≡ old
unfolding fip.plan_of fip.run_of
worldfip_refusal_keeps_the_rows s old n p e = split (reading s) e
  where
    by : (S : Sheet) (v : Verdict) → fip.plan_by v (traffic_of S) ≡ Err (refusal n p) → fip.run_by v (traffic_of S) old ≡ old
    by S Passed q = let z : ◌≡◌ {A = ℕ} 0 1 = cc in absurd (omega arith)
    by S (Refused m k) q = refl

    split : (o : Outcome) → fip.plan_of o (length old) ≡ Err (refusal n p) → fip.run_of o old ≡ old
    split (Read S) q = by S (verdict (fip.plan_checks S (length old))) q
    split (Not m k) q = refl

-- the counts that reading hands over
pub reading_refusal_keeps_the_counts : (s old : List ℕ) (n p : ℕ) → reading s ≡ Not n p → counts_told (reading s) old ≡ old
unfolding counts_told
reading_refusal_keeps_the_counts s old n p e = rw e

-- the writer's buffer
pub writing_refusal_keeps_the_buffer : (b : List ℕ) (at : ℕ) (r : Record) (n p : ℕ) → put_answer (length b) at r ≡ Err (refusal n p) → put_bytes b at r ≡ b
writing_refusal_keeps_the_buffer = refused_keeps

-- the five runs that are kept of a capture, whatever each was to hold behind a piece that is refused, also at its last record
pub piece_refusal_keeps_every_run : (p : List ℕ) (n : ℕ) (b : Before) (r q : ℕ) → answer_to p n b ≡ Err (refusal r q) → (new old : List ℕ)
    → run_by (answer_to p n b) new old ≡ old
piece_refusal_keeps_every_run p n b r q e new old = rw e

-- and the four of one that stands in memory as a whole
pub capture_refusal_keeps_every_run : (s c : List ℕ) (la lb lc ld n p : ℕ) → compared s c la lb lc ld ≡ Not n p → (figure : Segment → ℕ → ℕ) (old : List ℕ)
    → stream_run (compared s c la lb lc ld) figure old ≡ old
capture_refusal_keeps_every_run s c la lb lc ld n p e figure old = rw e
