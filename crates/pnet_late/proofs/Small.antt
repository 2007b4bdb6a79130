-- What the code multiplies for a stream's bound stays small: its master's count and V are those of the segment. Assumes nothing.
use mathlib.Core.Path.{◌≡◌}
use mathlib.Core.List.{List}
use Prim.Native.Nat.{ℕ, ◌+◌, ◌*◌, ◌≤◌, ◌<◌}
use native.Mathlib.Omega.{arith}
use Rattle.sheet_record.specs.declared.Met.{Met}
use Rattle.sheet_record.specs.declared.Record.{Record}
use Rattle.sheet_record.specs.Kinds.{pnet}
use Rattle.sheet_rules.specs.Ready.{Ready}
use Rattle.pnet_rules.specs.Segment.{count, turn}
use Rattle.pnet_rules.proofs.Holds.{turn_at_most, bound_at_most}
use Rattle.pnet_turn.specs.Turn.{at}
use Rattle.pnet_plan.specs.Arrays.{segment_in}
use Rattle.pnet_plan.proofs.Bytes.{Here, declares, streams_few, its_master, its_bound}

-- the record r is stream i + 1, and its master one of those that are counted
pub record Small (i : ℕ) (counts : List ℕ) (v : ℕ) (r : Record) : Type 0 where
  pub inside : i < 800
  pub to : r.a ≤ 32
  pub count_to : at counts r.a ≤ 80
  pub v_to : v ≤ 51040
  pub small : at counts r.a * v ≤ 4083200

module _ {s : List ℕ} {first n : ℕ} (ready : Ready s pnet first n) (counts : List ℕ) (v : ℕ)
    (ev : v ≡ turn (segment_in s)) (counts-are : (y : ℕ) → y ≤ 32 → at counts y ≡ count (segment_in s) y) where
  pub stays_small : (i : ℕ) (r : Met) → i < n → Here s i r → Small i counts v r.found
  stays_small i r l h =
      let S = segment_in s in
      let d = declares ready in
      let m = its_master ready l r h in
      record {
        inside = omega (arith, streams_few ready);
        to = m;
        count_to = omega (arith, counts-are r.found.a m, d.counts r.found.a);
        v_to = omega (arith, ev, turn_at_most S d);
        small = omega (arith, its_bound ready l r h counts v counts-are ev, bound_at_most S d (S.stream (i + 1)).master);
      }
