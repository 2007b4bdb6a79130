-- Page 01, 'Sheet records', and page 02, Asks 7, 8 and 10: a record in range has its fields in the page's ranges, kind by kind. Assumes nothing.
use mathlib.Core.Path.{◌≡◌, refl, ap}
use mathlib.Core.Bool.{Bool, true, false, ◌&&◌}
use mathlib.Core.List.{List, [], ◌∷◌}
use mathlib.Core.Logic.{◌⊎◌, inl, inr}
use Prim.Native.Nat.{ℕ, ◌-◌, ◌≤◌}
use native.Mathlib.Nat.{le_refl, le_trans}
use native.Mathlib.Omega.{arith}
use borrow.Author.Tests.{le-leb, leb-true, eqb-true, eq-eqb}
use lib.Dec.{leb, eqb}
use Rattle.sheet_record.specs.declared.Given.{Given}
use Rattle.sheet_record.specs.declared.Record.{Record}
use Rattle.sheet_record.specs.Kinds.{Field, Limit, kinds, line_of, fields_of, is_stream_of, limit, within, ranged, in_range, numbers}
use Rattle.sheet_record.specs.Kinds.Limit.{is, masters, message, own, under, less}
use Rattle.sheet_ranges.specs.Ranges.{Range, OneField, SegmentRanges, PnetStreamRanges, RingRanges, RingStreamRanges, ExchangeRanges, VariableRanges, JitterStreamRanges, EditionRanges, OpenRingRanges, MessageRanges}
use Rattle.sheet_record.proofs.Tables.{both_true}
use Rattle.sheet_record.proofs.Parts.{pnet_stream_kinds}

-- ---- One field

pub within_range : (lo x hi : ℕ) → within lo x hi ≡ true → Range lo x hi
unfolding within
within_range lo x hi e =
    let b = both_true (leb lo x) (leb x hi) e in
    record { least = leb-true lo x b.0; most = leb-true x hi b.1 }

pub range_within : (lo x hi : ℕ) → Range lo x hi → within lo x hi ≡ true
unfolding within
range_within lo x hi w = simp (le-leb lo x w.least, le-leb x hi w.most)

-- ---- A record of one kind alone

-- of the kind asked for, the other test is left
pub of_kind : (k kind : ℕ) (ok : Bool) → k ≡ kind → (eqb k kind && ok) ≡ ok
of_kind k kind ok e = ap (λ (b : Bool). b && ok) (eq-eqb k kind e)

-- ---- Larger limits allow what smaller ones do

-- no less is given
pub record AtMost (g g' : Given) : Type 0 where
  pub masters : g.masters ≤ g'.masters
  pub message : g.message ≤ g'.message

module _ (g g' : Given) (r : Record) (m : AtMost g g') where
  pub limit_mono : (l : Limit) → limit g r l ≤ limit g' r l
  unfolding limit
  limit_mono (is n) = le_refl n
  limit_mono masters = m.masters
  limit_mono message = m.message
  limit_mono (own i) = le_refl (limit g r (own i))
  limit_mono (under i) = le_refl (limit g r (under i))
  limit_mono (less i j) = le_refl (limit g r (less i j))

  ranged_mono : (fs : List Field) (xs : List ℕ) → ranged g r fs xs ≡ true → ranged g' r fs xs ≡ true
  unfolding ranged
  ranged_mono fs [] e = refl
  ranged_mono [] (x ∷ xs) e =
      let b = both_true (eqb x 0) (ranged g r [] xs) e in
      simp (b.0, ranged_mono [] xs b.1)
  ranged_mono (f ∷ fs) (x ∷ xs) e =
      let b = both_true (within f.least x (limit g r f.most)) (ranged g r fs xs) e in
      let w = within_range f.least x (limit g r f.most) b.0 in
      let h = le_trans w.most (limit_mono f.most) in
      simp (range_within f.least x (limit g' r f.most) (record { least = w.least; most = h }), ranged_mono fs xs b.1)

  pub in_range_mono : in_range g r ≡ true → in_range g' r ≡ true
  unfolding in_range
  in_range_mono e = ranged_mono (fields_of r.kind) (numbers r) e

-- ---- Kind by kind

-- the tests of the five fields, one by one
record Tests (p q s t u : Bool) : Type 0 where
  for_a : p ≡ true
  for_b : q ≡ true
  for_c : s ≡ true
  for_d : t ≡ true
  for_e : u ≡ true

tests : (p q s t u : Bool) → p && (q && (s && (t && (u && true)))) ≡ true → Tests p q s t u
tests true true true true true e = record { for_a = refl; for_b = refl; for_c = refl; for_d = refl; for_e = refl }
tests true true true true false e = record { for_a = refl; for_b = refl; for_c = refl; for_d = refl; for_e = e }
tests true true true false u e = record { for_a = refl; for_b = refl; for_c = refl; for_d = e; for_e = cc }
tests true true false t u e = record { for_a = refl; for_b = refl; for_c = e; for_d = cc; for_e = cc }
tests true false s t u e = record { for_a = refl; for_b = e; for_c = cc; for_d = cc; for_e = cc }
tests false q s t u e = record { for_a = e; for_b = cc; for_c = cc; for_d = cc; for_e = cc }

-- what is in range has its fields in the page's ranges
module _ (g : Given) (r : Record) (e : in_range g r ≡ true) where
  none_behind : eqb r.b 0 ≡ true → eqb r.c 0 ≡ true → eqb r.d 0 ≡ true → eqb r.e 0 ≡ true → OneField r
  none_behind b c d e' =
      record { no_b = eqb-true r.b 0 b; no_c = eqb-true r.c 0 c; no_d = eqb-true r.d 0 d; no_e = eqb-true r.e 0 e' }

  pub segment_ranges : r.kind ≡ 1 → SegmentRanges r
  unfolding in_range ranged limit fields_of line_of kinds
  segment_ranges k =
      let t = tests _ _ _ _ _ (rw k at e) in
      record {
        masters = within_range 1 r.a 32 t.for_a;
        one_field = none_behind t.for_b t.for_c t.for_d t.for_e;
      }

  pub pnet_stream_ranges : r.kind ≡ 2 → PnetStreamRanges g r
  unfolding in_range ranged limit fields_of line_of kinds
  pnet_stream_ranges k =
      let t = tests _ _ _ _ _ (rw k at e) in
      record {
        master = within_range 1 r.a g.masters t.for_a;
        cycle = within_range 1 r.b 1548 t.for_b;
        spacing = within_range 1 r.c 1000000000 t.for_c;
        deadline = within_range 1 r.d r.c t.for_d;
        no_e = eqb-true r.e 0 t.for_e;
      }

  pub ring_ranges : r.kind ≡ 3 → RingRanges r
  unfolding in_range ranged limit fields_of line_of kinds
  ring_ranges k =
      let t = tests _ _ _ _ _ (rw k at e) in
      record {
        masters = within_range 1 r.a 32 t.for_a;
        latency = within_range 1 r.b 100000 t.for_b;
        message = within_range 1 r.c 100000 t.for_c;
        no_d = eqb-true r.d 0 t.for_d;
        no_e = eqb-true r.e 0 t.for_e;
      }

  pub ring_stream_ranges : r.kind ≡ 4 → RingStreamRanges g r
  unfolding in_range ranged limit fields_of line_of kinds
  ring_stream_ranges k =
      let t = tests _ _ _ _ _ (rw k at e) in
      record {
        master = within_range 1 r.a g.masters t.for_a;
        cycle = within_range 1 r.b g.message t.for_b;
        deadline = within_range 1 r.c 1000000000 t.for_c;
        no_d = eqb-true r.d 0 t.for_d;
        no_e = eqb-true r.e 0 t.for_e;
      }

  pub exchange_ranges : r.kind ≡ 5 → ExchangeRanges r
  unfolding in_range ranged limit fields_of line_of kinds
  exchange_ranges k =
      let t = tests _ _ _ _ _ (rw k at e) in
      record {
        exchange = within_range 1 r.a 1000000 t.for_a;
        one_field = none_behind t.for_b t.for_c t.for_d t.for_e;
      }

  pub variable_ranges : r.kind ≡ 6 → VariableRanges r
  unfolding in_range ranged limit fields_of line_of kinds
  variable_ranges k =
      let t = tests _ _ _ _ _ (rw k at e) in
      record {
        identifier = within_range 0 r.a 65535 t.for_a;
        period = within_range 1 r.b 1000000000 t.for_b;
        no_c = eqb-true r.c 0 t.for_c;
        no_d = eqb-true r.d 0 t.for_d;
        no_e = eqb-true r.e 0 t.for_e;
      }

  pub jitter_stream_ranges : r.kind ≡ 7 → JitterStreamRanges g r
  unfolding in_range ranged limit fields_of line_of kinds
  jitter_stream_ranges k =
      let t = tests (within 1 r.a g.masters) (within 1 r.b 1548) (within 1 r.c 1000000000) (within 1 r.d (r.c - r.e)) (within 0 r.e (r.c - 1)) (rw k at e) in
      let d = within_range 1 r.d (r.c - r.e) t.for_d in
      record {
        master = within_range 1 r.a g.masters t.for_a;
        cycle = within_range 1 r.b 1548 t.for_b;
        spacing = within_range 1 r.c 1000000000 t.for_c;
        deadline = record { least = d.least; most = omega (arith, d.most) };
        jitter = within_range 0 r.e (r.c - 1) t.for_e;
      }

  pub edition_ranges : r.kind ≡ 8 → EditionRanges r
  unfolding in_range ranged limit fields_of line_of kinds
  edition_ranges k =
      let t = tests _ _ _ _ _ (rw k at e) in
      record {
        edition = within_range 1 r.a 2 t.for_a;
        one_field = none_behind t.for_b t.for_c t.for_d t.for_e;
      }

  pub open_ring_ranges : r.kind ≡ 9 → OpenRingRanges r
  unfolding in_range ranged limit fields_of line_of kinds
  open_ring_ranges k =
      let t = tests _ _ _ _ _ (rw k at e) in
      record {
        masters = within_range 1 r.a 32 t.for_a;
        latency = within_range 1 r.b 100000 t.for_b;
        no_c = eqb-true r.c 0 t.for_c;
        no_d = eqb-true r.d 0 t.for_d;
        no_e = eqb-true r.e 0 t.for_e;
      }

  pub message_ranges : r.kind ≡ 10 → MessageRanges g r
  unfolding in_range ranged limit fields_of line_of kinds
  message_ranges k =
      let t = tests _ _ _ _ _ (rw k at e) in
      record {
        master = within_range 1 r.a g.masters t.for_a;
        message = within_range 1 r.b 100000 t.for_b;
        no_c = eqb-true r.c 0 t.for_c;
        no_d = eqb-true r.d 0 t.for_d;
        no_e = eqb-true r.e 0 t.for_e;
      }

  -- a P-NET stream of either kind has the ranges of one with jitter: without it J is 0
  pub pnet_ranges : is_stream_of 1 r.kind ≡ true → JitterStreamRanges g r
  pnet_ranges its = by (pnet_stream_kinds r.kind its)
    where
      by : r.kind ≡ 2 ⊎ r.kind ≡ 7 → JitterStreamRanges g r
      by (inl k) =
          let w = pnet_stream_ranges k in
          record {
            master = w.master;
            cycle = w.cycle;
            spacing = w.spacing;
            deadline = record { least = w.deadline.least; most = omega (arith, w.deadline.most, w.no_e) };
            jitter = record { least = omega arith; most = omega (arith, w.no_e) };
          }
      by (inr k) = jitter_stream_ranges k
