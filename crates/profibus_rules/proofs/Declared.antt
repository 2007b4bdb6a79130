-- A PROFIBUS sheet that reads without refusal, of kind 3 or of kinds 9 and 10, declares a ring: every figure is within the pages' limits. Assumes nothing.
use mathlib.Core.Path.{◌≡◌, sym, ◌∙◌}
use mathlib.Core.Bool.{true}
use mathlib.Core.List.{List, []}
use mathlib.Core.Logic.{◌⊎◌, inl, inr}
use Prim.Native.Nat.{ℕ, ◌-◌, ◌≤◌, ◌<◌}
use native.Mathlib.Omega.{arith}
use borrow.Author.Tests.{eqb-true}
use lib.ListN.{length, get_or}
use Rattle.sheet_record.specs.Kinds.{nothing, profibus, is_stream_of, in_range}
use Rattle.sheet_record.proofs.Parts.{ring_first, ring_streams}
use Rattle.sheet_ranges.specs.Ranges.{Range, RingStreamRanges}
use Rattle.sheet_ranges.proofs.Ranges.{ring_ranges, open_ring_ranges, ring_stream_ranges}
use Rattle.sheet_rules.specs.Sheets.{Sheet, bus_in, given, sheet_of, count_of}
use Rattle.sheet_rules.proofs.Counts.{counted_by_number}
use Rattle.sheet_rules.proofs.Known.{Known}
use Rattle.profibus_rules.specs.Ring.{stream_at, ring_of, owns, count, Declared}

-- h is what reading counted
pub count_is : (S : Sheet) (k : ℕ) → count (ring_of S) k ≡ count_of k S.streams
unfolding ring_of count owns stream_at
count_is S k = counted_by_number k S.streams

both : {lo x hi : ℕ} → Range lo x hi → (lo ≤ x) × (x ≤ hi)
both r = (r.least, r.most)

-- the first record of either kind has n and L
head_in : (S : Sheet) → in_range (given (sheet_of []) S.head.a) S.head ≡ true → S.head.kind ≡ 3 ⊎ S.head.kind ≡ 9
    → ((1 ≤ S.head.a) × (S.head.a ≤ 32)) × ((1 ≤ S.head.b) × (S.head.b ≤ 100000))
head_in S ranged (inl k) = let r = ring_ranges (given (sheet_of []) S.head.a) S.head ranged k in (both r.masters, both r.latency)
head_in S ranged (inr k) = let r = open_ring_ranges (given (sheet_of []) S.head.a) S.head ranged k in (both r.masters, both r.latency)

pub declared : (s : List ℕ) (S : Sheet) → Known s S → bus_in S ≡ profibus → Declared (ring_of S)
unfolding ring_of stream_at
declared s S known k =
    record {
      masters_in = head.0;
      latency_in = head.1;
      longest_in = known.messages k;
      number_in = (known.some, known.few);
      count_in = λ y. rw (count_is S y) (known.per_master y (λ five. omega (arith, k, five)));
      master_in = λ i on. both (stream i on).master;
      cycle_in = λ i on. both (stream i on).cycle;
      deadline_in = λ i on. both (stream i on).deadline;
    }
  where
    head : ((1 ≤ S.head.a) × (S.head.a ≤ 32)) × ((1 ≤ S.head.b) × (S.head.b ≤ 100000))
    head = head_in S known.head_ranged (ring_first S.head.kind known.head_first k)

    stream : (i : ℕ) → (1 ≤ i) × (i ≤ length S.streams) → RingStreamRanges (given S (get_or S.streams (i - 1) nothing).a) (get_or S.streams (i - 1) nothing)
    stream i on =
        let l : i - 1 < length S.streams = omega arith in
        let r = get_or S.streams (i - 1) nothing in
        let its : is_stream_of profibus r.kind ≡ true = rw k at (known.kinds (i - 1) l) in
        ring_stream_ranges (given S r.a) r (known.ranged (i - 1) l) (eqb-true r.kind 4 (sym (ring_streams r.kind) ∙ its))
