-- Page 01, 'Sheet records', and page 02, Asks 7, 8 and 10: a record of a known kind is in range exactly if each of its fields is in the page's range, and 0 where the
-- kind has no field, as it always is in a record that is read. Assumes nothing.
use mathlib.Core.Path.{◌≡◌, refl}
use mathlib.Core.Bool.{Bool, true, false, ◌&&◌}
use mathlib.Core.Logic.{◌↔◌}
use mathlib.Core.List.{List, [], ◌∷◌}
use Prim.Native.Nat.{ℕ, zero, suc, ◌+◌, ◌-◌, ◌≤◌}
use native.Mathlib.Omega.{arith}
use borrow.Author.Tests.{eq-eqb}
use lib.Dec.{eqb}
use lib.ListN.{length, get_or}
use Rattle.sheet_record.specs.declared.Given.{Given}
use Rattle.sheet_record.specs.declared.Record.{Record}
use Rattle.sheet_record.specs.Kinds.{Field, kinds, line_of, fields_of, known, field_at, decode, numbers, limit, ranged, in_range}
use Rattle.sheet_ranges.specs.Ranges.{Range, OneField, SegmentRanges, PnetStreamRanges, RingRanges, RingStreamRanges, ExchangeRanges, VariableRanges, JitterStreamRanges, EditionRanges, OpenRingRanges, MessageRanges, InPage}
use Rattle.sheet_ranges.specs.Ranges.InPage.{segment, pnet_stream, ring, ring_stream, exchange, variable, jitter_stream, edition, open_ring, master_message}
use Rattle.sheet_record.proofs.Parts.{by_kind}
use Rattle.sheet_ranges.proofs.Ranges.{range_within, segment_ranges, pnet_stream_ranges, ring_ranges, ring_stream_ranges, exchange_ranges, variable_ranges, jitter_stream_ranges, edition_ranges, open_ring_ranges, message_ranges}

-- ---- Kind by kind

-- the tests of the five fields
together : {p q s t u : Bool} → p ≡ true → q ≡ true → s ≡ true → t ≡ true → u ≡ true → p && (q && (s && (t && (u && true)))) ≡ true
together a b c d e = rw (a, b, c, d, e)

-- a record whose fields are in the page's ranges, and 0 where its kind has no field, is in range
module _ (g : Given) (r : Record) where
  alone : {p : Bool} → p ≡ true → OneField r → p && (eqb r.b 0 && (eqb r.c 0 && (eqb r.d 0 && (eqb r.e 0 && true)))) ≡ true
  alone a w = together a (eq-eqb r.b 0 w.no_b) (eq-eqb r.c 0 w.no_c) (eq-eqb r.d 0 w.no_d) (eq-eqb r.e 0 w.no_e)

  pub segment_in_range : r.kind ≡ 1 → SegmentRanges r → in_range g r ≡ true
  unfolding in_range ranged limit fields_of line_of kinds
  segment_in_range k w =
      rw k (alone (range_within 1 r.a 32 w.masters) w.one_field)

  pub pnet_stream_in_range : r.kind ≡ 2 → PnetStreamRanges g r → in_range g r ≡ true
  unfolding in_range ranged limit fields_of line_of kinds
  pnet_stream_in_range k w =
      rw k (together (range_within 1 r.a g.masters w.master) (range_within 1 r.b 1548 w.cycle) (range_within 1 r.c 1000000000 w.spacing)
      (range_within 1 r.d r.c w.deadline) (eq-eqb r.e 0 w.no_e))

  pub ring_in_range : r.kind ≡ 3 → RingRanges r → in_range g r ≡ true
  unfolding in_range ranged limit fields_of line_of kinds
  ring_in_range k w =
      rw k (together (range_within 1 r.a 32 w.masters) (range_within 1 r.b 100000 w.latency) (range_within 1 r.c 100000 w.message)
      (eq-eqb r.d 0 w.no_d) (eq-eqb r.e 0 w.no_e))

  pub ring_stream_in_range : r.kind ≡ 4 → RingStreamRanges g r → in_range g r ≡ true
  unfolding in_range ranged limit fields_of line_of kinds
  ring_stream_in_range k w =
      rw k (together (range_within 1 r.a g.masters w.master) (range_within 1 r.b g.message w.cycle) (range_within 1 r.c 1000000000 w.deadline)
      (eq-eqb r.d 0 w.no_d) (eq-eqb r.e 0 w.no_e))

  pub exchange_in_range : r.kind ≡ 5 → ExchangeRanges r → in_range g r ≡ true
  unfolding in_range ranged limit fields_of line_of kinds
  exchange_in_range k w =
      rw k (alone (range_within 1 r.a 1000000 w.exchange) w.one_field)

  pub variable_in_range : r.kind ≡ 6 → VariableRanges r → in_range g r ≡ true
  unfolding in_range ranged limit fields_of line_of kinds
  variable_in_range k w =
      rw k (together (range_within 0 r.a 65535 w.identifier) (range_within 1 r.b 1000000000 w.period) (eq-eqb r.c 0 w.no_c)
      (eq-eqb r.d 0 w.no_d) (eq-eqb r.e 0 w.no_e))

  pub jitter_stream_in_range : r.kind ≡ 7 → JitterStreamRanges g r → in_range g r ≡ true
  unfolding in_range ranged limit fields_of line_of kinds
  jitter_stream_in_range k w =
      let d : Range 1 r.d (r.c - r.e) = record { least = w.deadline.least; most = omega (arith, w.deadline.most) } in
      rw k (together (range_within 1 r.a g.masters w.master) (range_within 1 r.b 1548 w.cycle) (range_within 1 r.c 1000000000 w.spacing)
      (range_within 1 r.d (r.c - r.e) d) (range_within 0 r.e (r.c - 1) w.jitter))

  pub edition_in_range : r.kind ≡ 8 → EditionRanges r → in_range g r ≡ true
  unfolding in_range ranged limit fields_of line_of kinds
  edition_in_range k w =
      rw k (alone (range_within 1 r.a 2 w.edition) w.one_field)

  pub open_ring_in_range : r.kind ≡ 9 → OpenRingRanges r → in_range g r ≡ true
  unfolding in_range ranged limit fields_of line_of kinds
  open_ring_in_range k w =
      rw k (together (range_within 1 r.a 32 w.masters) (range_within 1 r.b 100000 w.latency) (eq-eqb r.c 0 w.no_c)
      (eq-eqb r.d 0 w.no_d) (eq-eqb r.e 0 w.no_e))

  pub message_in_range : r.kind ≡ 10 → MessageRanges g r → in_range g r ≡ true
  unfolding in_range ranged limit fields_of line_of kinds
  message_in_range k w =
      rw k (together (range_within 1 r.a g.masters w.master) (range_within 1 r.b 100000 w.message) (eq-eqb r.c 0 w.no_c)
      (eq-eqb r.d 0 w.no_d) (eq-eqb r.e 0 w.no_e))

-- ---- All kinds

-- in the page's ranges, and so in range
pub in_page_in_range : (g : Given) (r : Record) → InPage g r → in_range g r ≡ true
in_page_in_range g r (segment k w) = segment_in_range g r k w
in_page_in_range g r (pnet_stream k w) = pnet_stream_in_range g r k w
in_page_in_range g r (ring k w) = ring_in_range g r k w
in_page_in_range g r (ring_stream k w) = ring_stream_in_range g r k w
in_page_in_range g r (exchange k w) = exchange_in_range g r k w
in_page_in_range g r (variable k w) = variable_in_range g r k w
in_page_in_range g r (jitter_stream k w) = jitter_stream_in_range g r k w
in_page_in_range g r (edition k w) = edition_in_range g r k w
in_page_in_range g r (open_ring k w) = open_ring_in_range g r k w
in_page_in_range g r (master_message k w) = message_in_range g r k w

-- a record of a known kind is in range exactly if each of its fields is in the page's range
pub in_range_exactly : (g : Given) (r : Record) → known r.kind ≡ true → (in_range g r ≡ true) ↔ InPage g r
unfolding known fields_of line_of kinds
in_range_exactly g r is_Known = (λ e. of_page e r.kind is_Known refl, in_page_in_range g r)
  where
    no : {A : Type 0} → false ≡ true → A
    no e = let z : ◌≡◌ {A = ℕ} 0 1 = cc in absurd (omega arith)

    of_page : in_range g r ≡ true → (k : ℕ) → known k ≡ true → r.kind ≡ k → InPage g r
    of_page e =
        by_kind (λ k. known k ≡ true → r.kind ≡ k → InPage g r)
        no
        (λ o k. segment k (segment_ranges g r e k))
        (λ o k. pnet_stream k (pnet_stream_ranges g r e k))
        (λ o k. ring k (ring_ranges g r e k))
        (λ o k. ring_stream k (ring_stream_ranges g r e k))
        (λ o k. exchange k (exchange_ranges g r e k))
        (λ o k. variable k (variable_ranges g r e k))
        (λ o k. jitter_stream k (jitter_stream_ranges g r e k))
        (λ o k. edition k (edition_ranges g r e k))
        (λ o k. open_ring k (open_ring_ranges g r e k))
        (λ o k. master_message k (message_ranges g r e k))
        (λ n. no)

-- ---- Fields that a kind does not have

past_the_last : (s : List ℕ) (at : ℕ) (fs : List Field) (j : ℕ) → length fs ≤ j → field_at s at fs j ≡ 0
unfolding field_at
past_the_last s at [] j l = refl
past_the_last s at (f ∷ fs) zero l = absurd (omega arith)
past_the_last s at (f ∷ fs) (suc j) l = past_the_last s (at + f.width) fs j (omega arith)

-- they read as 0, so none of them is ever out of range in a record that is read
pub read_as_0 : (s : List ℕ) (at j : ℕ) → length (fields_of (get_or s at 0)) ≤ j → get_or (numbers (decode s at)) j 0 ≡ 0
unfolding decode
read_as_0 s at zero l = past_the_last s (at + 1) (fields_of (get_or s at 0)) 0 l
read_as_0 s at (suc zero) l = past_the_last s (at + 1) (fields_of (get_or s at 0)) 1 l
read_as_0 s at (suc (suc zero)) l = past_the_last s (at + 1) (fields_of (get_or s at 0)) 2 l
read_as_0 s at (suc (suc (suc zero))) l = past_the_last s (at + 1) (fields_of (get_or s at 0)) 3 l
read_as_0 s at (suc (suc (suc (suc zero)))) l = past_the_last s (at + 1) (fields_of (get_or s at 0)) 4 l
read_as_0 s at (suc (suc (suc (suc (suc j))))) l = refl
