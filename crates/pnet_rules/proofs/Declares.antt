-- Page 01, 'Sheet records', and page 02, Ask 7: a P-NET sheet that reads without refusal declares a segment within the ranges and limits. Assumes nothing.
use mathlib.Core.Path.{◌≡◌}
use mathlib.Core.Bool.{true}
use mathlib.Core.List.{List, []}
use Prim.Native.Nat.{ℕ, ◌-◌}
use native.Mathlib.Omega.{arith}
use lib.ListN.{get_or}
use Rattle.sheet_record.specs.declared.Given.{Given}
use Rattle.sheet_record.specs.declared.Record.{Record}
use Rattle.sheet_record.specs.Kinds.{pnet, is_stream_of, nothing, in_range}
use Rattle.sheet_record.proofs.Parts.{pnet_first}
use Rattle.sheet_ranges.proofs.Ranges.{segment_ranges, pnet_ranges}
use Rattle.sheet_rules.specs.Sheets.{Sheet, sheet_of, bus_in, given, count_of, longest_of}
use Rattle.sheet_rules.proofs.Counts.{counted_by_number, longest_by_number}
use Rattle.sheet_rules.proofs.Known.{Known}
use Rattle.pnet_rules.specs.Segment.{stream_of, stream_at, segment_of, owns, count, longest}
use Rattle.pnet_rules.specs.Limits.{Ranged, Declared}

-- a P-NET stream's ranges are those of its record; one without jitter has J = 0
pub stream_ranged : (g : Given) (r : Record) → is_stream_of pnet r.kind ≡ true → in_range g r ≡ true → Ranged g.masters (stream_of r)
stream_ranged g r its e =
    let w = pnet_ranges g r e its in
    record {
      master_from = w.master.least;
      master_to = w.master.most;
      cycle_from = w.cycle.least;
      cycle_to = w.cycle.most;
      spacing_from = w.spacing.least;
      spacing_to = w.spacing.most;
      deadline_from = w.deadline.least;
      deadline_to = w.deadline.most;
      jitter_to = omega (arith, w.spacing.least, w.jitter.most);
    }

-- s is what reading counted
pub count_of_law : (H : Sheet) (k : ℕ) → count (segment_of H) k ≡ count_of k H.streams
unfolding count owns segment_of stream_at
count_of_law H k = counted_by_number k H.streams

-- and the longest C what it gathered
pub longest_of_law : (H : Sheet) (k : ℕ) → longest (segment_of H) k ≡ longest_of k H.streams
unfolding longest owns segment_of stream_at
longest_of_law H k = longest_by_number k H.streams

pub declared : (s : List ℕ) (H : Sheet) → Known s H → bus_in H ≡ pnet → Declared (segment_of H)
unfolding segment_of stream_at
declared s H known k =
    let m = (segment_ranges (given (sheet_of []) H.head.a) H.head known.head_ranged (pnet_first H.head.kind known.head_first k)).masters in
    record {
      masters_from = m.least;
      masters_to = m.most;
      number_from = known.some;
      number_to = known.few;
      ranges = λ i lo hi. let r = get_or H.streams (i - 1) nothing in stream_ranged (given H r.a) r (rw k at (known.kinds (i - 1) (omega arith))) (known.ranged (i - 1) (omega arith));
      counts = λ y. rw (count_of_law H y) (known.per_master y (λ five. omega (arith, k, five)));
    }
