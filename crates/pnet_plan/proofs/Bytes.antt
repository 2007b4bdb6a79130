-- What the bytes of a P-NET sheet say of its segment: it is within the limits, and record after record is a stream of it, which is placed.
-- Assumes nothing.
use mathlib.Core.Path.{◌≡◌, sym, ap, ◌∙◌}
use mathlib.Core.Bool.{true, false}
use mathlib.Core.List.{List}
use Prim.Native.Nat.{ℕ, ◌+◌, ◌-◌, ◌*◌, ◌≤◌, ◌<◌, min}
use native.Mathlib.Omega.{arith}
use borrow.Author.Tests.{lt-ltb, le-ltb}
use lib.ListN.{length, set}
use Rattle.common.specs.Runs.{tab}
use Rattle.common.proofs.Runs.{tab_same}
use Rattle.sheet_record.specs.declared.Met.{Met}
use Rattle.sheet_record.specs.declared.Record.{Record}
use Rattle.sheet_record.specs.Kinds.{pnet, bus_of, stream_met}
use Rattle.sheet_rules.specs.Sheets.{Sheet, bus_in}
use Rattle.sheet_rules.specs.Whole.{Outcome, reading}
use Rattle.sheet_read.specs.Told.{by_master, streams_of_master, longest_of_master, counts_told, longests_told}
use Rattle.sheet_rules.specs.Ready.{sheet_in, stream_place, Ready}
use Rattle.sheet_read.proofs.Taken.{Taken, taken_ready, ready_known, stream_met_law}
use Rattle.pnet_rules.specs.Segment.{Stream, stream_of, stream_at, segment_of, count, longest, bound_by, turn, bound, late}
use Rattle.pnet_rules.specs.Limits.{Declared}
use Rattle.pnet_rules.proofs.Declares.{count_of_law, longest_of_law, declared}
use Rattle.pnet_turn.specs.Turn.{at}
use Rattle.pnet_plan.specs.Arrays.{segment_in, Sheeted, Grouped}
use Rattle.pnet_plan.proofs.Gathering.{master_inside, place_inside, grouped_more}

-- the record r is stream i + 1 of the segment, and the next one stands behind it
pub record Here (s : List ℕ) (i : ℕ) (r : Met) : Type 0 where
  pub stream : stream_of r.found ≡ (segment_in s).stream (i + 1)
  pub next : r.next ≡ stream_place s (i + 1)

-- what the reader answers and hands over of a P-NET sheet
module _ {s : List ℕ} {head : Record} {n first : ℕ} (took : Taken s head n first) (bus : bus_of head.kind ≡ pnet) where
  handed : (figure : Sheet → ℕ → ℕ) (old : List ℕ) → by_master figure (reading s) old ≡ tab (figure (sheet_in s)) 33
  handed figure old =
      let k : bus_in (sheet_in s) ≡ pnet = (taken_ready took bus).on_bus in
      ap (λ (o : Outcome). by_master figure o old) took.reads ∙ rw k

  pub sheeted : (old older : List ℕ) {counts longests : List ℕ} → counts ≡ counts_told (reading s) old → longests ≡ longests_told (reading s) older
      → Sheeted s head.a n first counts longests
  unfolding counts_told longests_told streams_of_master longest_of_master segment_of
  sheeted old older ec el =
      record {
        ready = taken_ready took bus;
        masters_are = ap (λ (r : Record). r.a) took.begins;
        counts_are = ec ∙ (handed streams_of_master old ∙ tab_same (streams_of_master (sheet_in s)) (count (segment_in s)) 33 (λ k l. sym (count_of_law (sheet_in s) k)));
        longests_are = el ∙ (handed longest_of_master older ∙ tab_same (longest_of_master (sheet_in s)) (longest (segment_in s)) 33 (λ k l. sym (longest_of_law (sheet_in s) k)));
      }

-- what keeps a stream's store inside the arrays
pub record Small (m place room : ℕ) : Type 0 where
  pub master : m ≤ 32
  pub early : place < 800
  pub inside : 2 * place + 1 < room

module _ {s : List ℕ} {first n : ℕ} (ready : Ready s pnet first n) where
  pub declares : Declared (segment_in s)
  declares = declared s (sheet_in s) (ready_known ready) ready.on_bus

  pub number_is : n ≡ (segment_in s).number
  unfolding segment_of
  number_is = sym ready.number

  -- there are few
  pub streams_few : n ≤ 800
  streams_few = omega (arith, number_is, declares.number_to)

  pub here : (i at : ℕ) (r : Met) → i < n → at ≡ stream_place s i → r ≡ stream_met s at pnet → Here s i r
  unfolding segment_of stream_at
  here i at r l e q =
      let met = stream_met_law ready i at r l e q in
      let b : i + 1 - 1 ≡ i = omega arith in
      record { stream = rw b (ap stream_of met.is); next = met.next }

  module _ {i : ℕ} (l : i < n) (r : Met) (h : Here s i r) where
    below : i < (segment_in s).number
    below = omega (arith, number_is)

    of_master : r.found.a ≡ ((segment_in s).stream (i + 1)).master
    of_master = ap (λ (x : Stream). x.master) h.stream

    pub its_master : r.found.a ≤ 32
    its_master = master_inside (segment_in s) declares i below r.found.a of_master

    of_spacing : r.found.c ≡ ((segment_in s).stream (i + 1)).spacing
    of_spacing = ap (λ (x : Stream). x.spacing) h.stream

    of_jitter : r.found.e ≡ ((segment_in s).stream (i + 1)).jitter
    of_jitter = ap (λ (x : Stream). x.jitter) h.stream

    -- its J is below its T
    pub its_jitter : r.found.e < r.found.c
    its_jitter = omega (arith, of_spacing, of_jitter, (declares.ranges (i + 1) (omega arith) (omega (arith, below))).jitter_to)

    -- its bound, as the code has it, above its deadline or not
    module _ (counts : List ℕ) (v : ℕ) (counts-are : (y : ℕ) → y ≤ 32 → at counts y ≡ count (segment_in s) y) (ev : v ≡ turn (segment_in s)) where
      pub its_bound : at counts r.found.a * v ≡ bound (segment_in s) ((segment_in s).stream (i + 1)).master
      unfolding bound bound_by turn
      its_bound = rw (counts-are r.found.a its_master, ev, of_master)

      of_deadline : r.found.d ≡ ((segment_in s).stream (i + 1)).deadline
      of_deadline = ap (λ (x : Stream). x.deadline) h.stream

      pub its_late : r.found.d < at counts r.found.a * v → late (segment_in s) (i + 1) ≡ true
      unfolding late
      its_late d =
          let S = segment_in s in
          lt-ltb (S.stream (i + 1)).deadline (bound S (S.stream (i + 1)).master) (omega (arith, its_bound, of_deadline))

      pub its_not_late : at counts r.found.a * v ≤ r.found.d → late (segment_in s) (i + 1) ≡ false
      unfolding late
      its_not_late d =
          let S = segment_in s in
          le-ltb (S.stream (i + 1)).deadline (bound S (S.stream (i + 1)).master) (omega (arith, its_bound, of_deadline))

    module _ {ends slacks pairs : List ℕ} (g : Grouped (segment_in s) i ends slacks pairs) where
      pub small : Small r.found.a (at ends r.found.a) (length pairs)
      small =
          let p = place_inside (segment_in s) declares i below r.found.a of_master g in
          record { master = its_master; early = omega (arith, p, declares.number_to); inside = omega (arith, p, g.room) }

      pub grouped_next : (least : ℕ) → least ≡ min (at slacks r.found.a) (r.found.c - r.found.e)
          → Grouped (segment_in s) (i + 1) (set ends r.found.a (at ends r.found.a + 1)) (set slacks r.found.a least)
          (set (set pairs (2 * at ends r.found.a) r.found.c) (2 * at ends r.found.a + 1) r.found.e)
      grouped_next least e = grouped_more (segment_in s) declares i below r.found.a of_master g r.found.c r.found.e of_spacing of_jitter least e
