-- Demand 2. The accepted numbers are those of the published rules, a timing refusal is given exactly if the published condition is
-- broken, and sheets read and written come back equal. Assumes nothing.
use Prim.Native.Nat.{ℕ, suc, ◌+◌, ◌-◌, ◌*◌, ◌≤◌, ◌<◌}
use mathlib.Core.Path.{◌≡◌, refl}
use mathlib.Core.List.{List}
use mathlib.Core.Logic.{◌↔◌}
use lib.ListN.{length, get_or}
use lib.Seq.{slice}
use Rattle.sheet_record.specs.declared.Record.{Record}
use Rattle.sheet_record.specs.Numbers.{pasted}
use Rattle.sheet_record.specs.Kinds.{nothing}
use Rattle.sheet_write.specs.Writing.{put_answer}
use Rattle.sheet_rules.specs.Sheets.{Sheet, sheet_of}
use Rattle.sheet_rules.specs.Whole.{reading}
use Rattle.sheet_rules.specs.Whole.Outcome.{Read, Not}
use Rattle.sheet_rules.specs.Records.{records_in, bytes_of, Right, Writes}
use Rattle.sheet_rules.proofs.Known.{reading_read}
use Rattle.sheet_rules.proofs.Trips.{same_records_same_bytes}
use Rattle.sheet_rules.proofs.Writes.{right_writes, old_ring_refused, writes_read, read_writes, read_writes_alone}
use Rattle.pnet_rules.specs.Segment.{Segment, count, turn, bound}
use Rattle.pnet_rules.specs.Search.{value_from}
use Rattle.pnet_rules.specs.Refined.{right, rounds, refined}
use Rattle.pnet_rules.proofs.Figures as figures
use Rattle.pnet_plan.specs.Planned.{planned}
use Rattle.pnet_plan.specs.Refusals as late
use Rattle.pnet_plan.proofs.Refusals as pnet
use Rattle.profibus_rules.specs.Ring.{Ring}
use Rattle.profibus_rules.specs.Target.{AllPass, Limited}
use Rattle.profibus_rules.proofs.Answer as ring
use Rattle.profibus_plan.specs.Planned.{plan_of, Answers}
use Rattle.profibus_plan.specs.declared.answer.Plan.{Plan}
use Rattle.profibus_plan.proofs.Answers as profibus
use Rattle.worldfip_rules.specs.Table.{Table}
use Rattle.worldfip_rules.specs.Traffic.{Traffic, Declared, rows, asked_of, row_of, miss_of}
use Rattle.worldfip_rules.proofs.Promises as promises
use Rattle.worldfip_plan.specs.Answer as table
use Rattle.worldfip_plan.specs.Refusals as fip
use Rattle.worldfip_plan.specs.declared.answer.Plan as tablePlan
use Rattle.worldfip_plan.proofs.Refusals as worldfip
use Rattle.std.specs.declared.result.Result.TheVariants.{Err}
use Rattle.common.specs.Checks.{refusal}
use Rattle.std.specs.declared.result.Result.{Result}
use Rattle.common.specs.declared.Refusal.{Refusal}

-- ---- 'P-NET bounds and the least refined solution'

-- from the bytes and the three lent runs: Demand2Pnet.antt
pub bound_is_s_times_V : (S : Segment) (k : ℕ) → bound S k ≡ count S k * turn S
unfolding bound turn
bound_is_s_times_V S k = refl

module _ (S : Segment) (k : ℕ) (from : 1 ≤ k) (to : k ≤ S.masters) where
  pub refined_solves : refined S k ≡ right S k (refined S k)
  refined_solves = figures.refined_solves S k from to

  pub no_smaller_number_solves : (w : ℕ) → w ≡ right S k w → refined S k ≤ w
  no_smaller_number_solves = figures.refined_least S k from to

  pub refined_at_most_bound : refined S k ≤ bound S k
  refined_at_most_bound = figures.refined_at_most_bound S k from to

  pub rounds_first_to_stand : (value_from 0 (right S k) (rounds S k) ≡ value_from 0 (right S k) (suc (rounds S k)))
      × ((j : ℕ) → j < rounds S k → value_from 0 (right S k) j ≡ value_from 0 (right S k) (suc j) → ⊥)
  rounds_first_to_stand = ((figures.rounds_first S k from to).still, (figures.rounds_first S k from to).first)

  pub rounds_at_most : rounds S k ≤ 1 + (S.masters - 1) * count S k
  rounds_at_most = figures.rounds_at_most S k from to

-- ---- 'the largest PROFIBUS target rotation time'

-- `Answers` is the page's sentence: all streams pass at TTR, and the named stream is the first that fails at TTR + 1; or 9 for the first
-- that fails at L. The planner answers so, and nobody can answer otherwise.
module _ (s : List ℕ) (S : Sheet) (reads : reading s ≡ Read S) where
  pub profibus_answers_as_published : Answers S (plan_of (reading s))
  profibus_answers_as_published = rw reads (profibus.plan_answers s S (reading_read s S reads))

  pub no_other_answer : {p : Result Plan Refusal} → Answers S p → p ≡ plan_of (reading s)
  no_other_answer a = rw reads (profibus.answers_plan s S (reading_read s S reads) a)

pub no_larger_target_passes : (R : Ring) (ttr i : ℕ) → Limited R ttr i → (u : ℕ) → AllPass R u → u ≤ ttr
no_larger_target_passes = ring.largest

-- ---- 'the WorldFIP table row by row'

-- the planner's contract fixes every row as `row_of`; where nobody misses, those rows are a table: at most the slots in a row, and each
-- variable in one row of each of its periods
pub rows_are_a_table : (T : Traffic) → Declared T → rows T < miss_of T → Table (asked_of T) (row_of T)
rows_are_a_table T declared = promises.table_built T declared

-- `fip.Answers` is the page's list, 3, 10, 11, 13, 12 in this order, each with its condition and place, or the table
module _ (s : List ℕ) (S : Sheet) (reads : reading s ≡ Read S) (room : ℕ) where
  pub worldfip_answers_as_published : fip.Answers S room (table.plan_of (reading s) room)
  worldfip_answers_as_published = rw reads (worldfip.plan_answers s S (reading_read s S reads) room)

  pub no_other_table : (p : Result tablePlan.Plan Refusal) → fip.Answers S room p → p ≡ table.plan_of (reading s) room
  no_other_table p a = rw reads (worldfip.answers_only s S (reading_read s S reads) room p a)

-- ---- 'A timing refusal is given exactly if the published condition is broken and no refusal earlier in that page's order applies.'

pub pnet_refused_exactly : (s : List ℕ) (la lb lc n p : ℕ) → (planned s la lb lc ≡ Not n p) ↔ late.Given s la lb lc n p
pnet_refused_exactly = pnet.refused_exactly

-- ---- 'Sheets read and written come back equal.' A sheet of kind 3 is read and no longer written (page 02, Ask 8); what it comes back as: Rewritten.antt

-- records that make a right sheet, the first not of kind 3, can be written one after the other, from any place of any buffer that has room for them from there
pub a_right_sheet_is_written : (rs : List Record) → Right rs → ((get_or rs 0 nothing).kind ≡ 3 → ⊥) → (b : List ℕ) (at : ℕ) → at + length (bytes_of rs) ≤ length b
    → (b' : List ℕ) × (end : ℕ) × Writes b at rs b' end
a_right_sheet_is_written = right_writes

-- however they were written, the bytes from that place up to the one that the last record answered read back as the same records
pub written_comes_back : {b b' : List ℕ} {at end : ℕ} {rs : List Record} → Right rs → Writes b at rs b' end → reading (slice at end b') ≡ Read (sheet_of rs)
written_comes_back = writes_read

-- a record of kind 3 is refused with 2 wherever it is put, so no sheet that begins with one is written
pub a_ring_of_kind_3_is_refused : (n at : ℕ) (r : Record) → r.kind ≡ 3 → put_answer n at r ≡ Err (refusal 2 at)
a_ring_of_kind_3_is_refused = old_ring_refused

-- the records of any other accepted sheet, written in order into a buffer of its length, give its bytes
pub read_comes_back : (s : List ℕ) (S : Sheet) → ((i : ℕ) → get_or s i 0 < 256) → reading s ≡ Read S → (S.head.kind ≡ 3 → ⊥) → (b : List ℕ) → length b ≡ length s
    → Writes b 0 (records_in S) s (length s)
read_comes_back = read_writes_alone

-- written from any place of any buffer that has room for them from there, they give its bytes there, and no other byte of the buffer changes
pub read_comes_back_anywhere : (s : List ℕ) (S : Sheet) → ((i : ℕ) → get_or s i 0 < 256) → reading s ≡ Read S → (S.head.kind ≡ 3 → ⊥) → (b : List ℕ) (at : ℕ) → at + length s ≤ length b
    → Writes b at (records_in S) (pasted b at s) (at + length s)
read_comes_back_anywhere = read_writes

-- so two accepted sheets with the same records are the same bytes
pub the_same_records_are_the_same_bytes : (s t : List ℕ) (S : Sheet) → ((i : ℕ) → get_or s i 0 < 256) → ((i : ℕ) → get_or t i 0 < 256)
    → reading s ≡ Read S → reading t ≡ Read S → s ≡ t
the_same_records_are_the_same_bytes = same_records_same_bytes
