-- Demand 3, sentence by sentence, and what page 02's Asks 2, 7 and 10 add to it. The bus and its runs are in specs/Run, the words of the promise in
-- specs/Promise, and the bound R and the refined figure W are the planner's, of crates/pnet_rules, by the charge of the sheet's edition. Assumes nothing.
use Prim.Native.Nat.{ℕ, ◌-◌, ◌≤◌}
use mathlib.Core.Path.{◌≡◌}
use mathlib.Core.Bool.{false}
use mathlib.Core.List.{List}
use native.Mathlib.Nat.{le_refl}
use native.Mathlib.Omega.{arith}
use borrow.Author.Tests.{ltb-false}
use Rattle.sheet_rules.specs.Sheets.{Sheet}
use Rattle.units.specs.Units.{bp}
use Rattle.units.specs.declared.BitPeriods.{BitPeriods}
use Rattle.pnet_rules.specs.Segment.{Segment, segment_of, count, hold, charged, bound_by, bound, late}
use Rattle.pnet_rules.specs.Limits.{Declared}
use Rattle.pnet_rules.specs.Refined.{right, refined}
use Rattle.pnet_rules.proofs.Figures.{refined_solves}
use Rattle.pnet_rules.proofs.Holds.{charged_covers}
use Rattle.pnet_rules.proofs.Editions.{bound_no_less_by}
use Rattle.pnet_run.specs.Run.{Belongs, Request, Answer, answer, Queues, Token, Run}
use Rattle.pnet_run.specs.Promise.{Spaced, Answered, Safe, Reached, Accepted, Even}
use Rattle.pnet_run.proofs.Charges.{belongs_count, count_belongs, in_ring, covers_if, some_cycle}
use Rattle.pnet_run.proofs.Charged.{charged_covers_visits}
use Rattle.pnet_run.proofs.Answering.{answered_if_it_asks}
use Rattle.pnet_run.proofs.Arrivals.{spaced_apart}
use Rattle.pnet_run.proofs.EveryRun.{answered_by}
use Rattle.pnet_run.proofs.Within.{answered_within}
use Rattle.pnet_run.proofs.Exact.{exact}
use Rattle.pnet_run.proofs.Progress.{Later, goes_on}

-- ---- 'Take an accepted P-NET sheet'

-- A sheet is accepted if reading found its fields in range and refusal 8, 'P-NET bound above a deadline', is given for no stream.

pub accepted_if_none_is_late : (S : Segment) → Declared S → ((i : ℕ) → 1 ≤ i → i ≤ S.number → late S i ≡ false) → Accepted S
unfolding late
accepted_if_none_is_late S declared passes = record {
  declared = declared;
  passes = λ m i d. omega (arith, rw d.own at (ltb-false (S.stream i).deadline (bound S (S.stream i).master) (passes i d.from_one d.to_last)));
}

-- So its bound fits between two requests of each of its streams, which come at least T - J apart.
fits_spacing : {S : Segment} → Accepted S → (m i : ℕ) → Belongs S m i → bound S m ≤ (S.stream i).spacing - (S.stream i).jitter
fits_spacing accepted m i d = omega (arith, (accepted.declared.ranges i d.from_one d.to_last).deadline_to, accepted.passes m i d)

-- ---- Whatever is charged

-- A run knows no charge: the bus is the same under both editions. So its requests are answered within the bound by any charge that is, at each
-- master, at least H, which covers every visit, and at most what the edition charges, so that its bound fits between two requests.

module _ (S : Segment) (accepted : Accepted S) (h : ℕ → ℕ) (covers : (y : ℕ) → 1 ≤ y → y ≤ S.masters → hold S y ≤ h y)
    (most : (y : ℕ) → 1 ≤ y → y ≤ S.masters → h y ≤ charged S y) where
  fits : (k i : ℕ) → Belongs S k i → bound_by h S k ≤ (S.stream i).spacing - (S.stream i).jitter
  unfolding bound
  fits k i d = omega (arith, bound_no_less_by h (charged S) S most k, fits_spacing accepted k i d)

  answered_within_the_bound_by : (k : ℕ) → {now : ℕ} {token : Token} {queues : Queues} {came : List Request} {went : List Answer}
      → Run S now token queues came went → Spaced S k came → Answered (bp (bound_by h S k)) S k now token came went
  answered_within_the_bound_by k run spaced =
      answered_if_it_asks
      (λ i d.
      let own = in_ring accepted.declared d in
      answered_by S h k own.0 own.1 (covers_if accepted.declared covers) (λ j. (S.stream j).spacing - (S.stream j).jitter) (fits k) run
      (spaced_apart accepted.declared run spaced))

-- ---- 'any fault-free run of the virtual token bus from empty queues, with one message a visit and first-come queues. If a master's
-- requests keep their declared spacing and no message is longer than declared, each of that master's requests is answered within
-- its bound, however often the other masters ask.'

-- Every `Run` is such a run, cut at any instant: empty queues, one message a visit, first-come queues and messages of 1 to C bp
-- are how `Run` is defined. What the sentence supposes of the master's requests is `Spaced`, of that master alone; nothing is supposed of the
-- others. What it is to keep the spacing, page 02's Ask 7 says: 'each arrival is 0 to J after a nominal time of its own, and a stream's
-- nominal times are at least T apart'. Where J is 0, as in every kind 2 record, that is arrivals T apart (Spacing). `Answered` says that no
-- request of the master was completed later than its arrival plus the bound, and that each was completed by then if the run lasts that long.

pub each_request_is_answered_within_the_bound : (sheet : Sheet) → Accepted (segment_of sheet) → (k : ℕ)
    → {now : ℕ} {token : Token} {queues : Queues} {came : List Request} {went : List Answer}
    → Run (segment_of sheet) now token queues came went → Spaced (segment_of sheet) k came
    → Answered (bp (bound (segment_of sheet) k)) (segment_of sheet) k now token came went
unfolding bound
each_request_is_answered_within_the_bound sheet accepted =
    let S = segment_of sheet in
    answered_within_the_bound_by S accepted (charged S) (charged_covers S) (λ y lo hi. le_refl _)

-- ---- 'For a master with streams, where each master's own streams are equally long and every other master is silent or has at least
-- as many streams, some such run takes exactly the bound'

-- The supposition is `Even`; it asks for edition 1 (page 02, Ask 10), and under edition 2 the sentence is not true (Editions). In the run that is found every master keeps its spacing, not only master k: each stream asks once.
-- The sheet need not even be accepted for this; its fields are in range.

pub some_run_takes_exactly_the_bound : (sheet : Sheet) → Declared (segment_of sheet) → (k : ℕ) → 1 ≤ count (segment_of sheet) k
    → Even (segment_of sheet) k → Reached (bp (bound (segment_of sheet) k)) (segment_of sheet) k
some_run_takes_exactly_the_bound sheet declared k some even =
    let own = in_ring declared (belongs_count (segment_of sheet) k some).1 in
    exact (segment_of sheet) k own.0 own.1 declared even some

-- ---- 'no lower figure would be true'

-- A figure within which the master's requests are answered in every run is at least the bound.

pub no_lower_figure_would_be_true : (sheet : Sheet) → Declared (segment_of sheet) → (k : ℕ) → 1 ≤ count (segment_of sheet) k
    → Even (segment_of sheet) k → (figure : BitPeriods) → Safe figure (segment_of sheet) k → bound (segment_of sheet) k ≤ figure.0
no_lower_figure_would_be_true sheet declared k some even figure safe =
    let x = some_run_takes_exactly_the_bound sheet declared k some even in
    omega (arith, (safe.ever x.run (x.spaced k)).in_time (answer x.slow _) x.exact x.own)

-- ---- What keeps the demand from being empty

-- A run never gets stuck: from every stage it goes on to a later instant, with no further arrival. So the runs of the demand last as
-- long as one likes.

pub no_run_is_stuck : (sheet : Sheet) → Declared (segment_of sheet)
    → {now : ℕ} {token : Token} {queues : Queues} {came : List Request} {went : List Answer}
    → Run (segment_of sheet) now token queues came went → Later (segment_of sheet) now came
no_run_is_stuck sheet declared {token = token} run = goes_on (segment_of sheet) (λ m i b. some_cycle declared b) token run

-- ---- Page 02, Ask 2: 'Then show, for every accepted sheet whose masters all keep their spacing, that every response is within the corrected
-- figure.'

-- The figure is W of crates/pnet_rules, the one that the planner writes. Here every master keeps its spacing: where another asks oftener
-- than declared, W is not promised (TwoMasters has such a run), and R still is. Ask 7 adds J to the count; with less W would be false (Jitter).

pub each_request_is_answered_within_the_refined_figure : (sheet : Sheet) → Accepted (segment_of sheet) → (k : ℕ)
    → {now : ℕ} {token : Token} {queues : Queues} {came : List Request} {went : List Answer}
    → Run (segment_of sheet) now token queues came went → ((y : ℕ) → Spaced (segment_of sheet) y came)
    → Answered (bp (refined (segment_of sheet) k)) (segment_of sheet) k now token came went
unfolding bound right
each_request_is_answered_within_the_refined_figure sheet accepted k run spaced =
    let S = segment_of sheet in
    answered_if_it_asks
    (λ i d.
    let own = in_ring accepted.declared d in
    let cover = charged_covers_visits accepted.declared in
    answered_within S accepted.declared (charged S) cover (fits_spacing accepted) (refined S k) k own.0 own.1
    (omega (arith, cover.used k i d)) (count_belongs d) (omega (arith, refined_solves S k own.0 own.1)) run spaced)

-- ---- Page 02, Ask 10: 'Under edition 2, every response is still within the bound; the exactness part of demand 3 is asked only for edition 1.'

-- The bound and the refined figure above are those of the sheet's edition, whichever it is. And since the bus is the same, the bound of edition 1,
-- s times the sum of H, holds of every run of a sheet of any edition: the larger charge of edition 2 makes a larger promise, and no other bus.

pub each_request_is_answered_within_the_bound_of_edition_1 : (sheet : Sheet) → Accepted (segment_of sheet) → (k : ℕ)
    → {now : ℕ} {token : Token} {queues : Queues} {came : List Request} {went : List Answer}
    → Run (segment_of sheet) now token queues came went → Spaced (segment_of sheet) k came
    → Answered (bp (bound_by (hold (segment_of sheet)) (segment_of sheet) k)) (segment_of sheet) k now token came went
each_request_is_answered_within_the_bound_of_edition_1 sheet accepted =
    let S = segment_of sheet in
    answered_within_the_bound_by S accepted (hold S) (λ y lo hi. le_refl _) (charged_covers S)
