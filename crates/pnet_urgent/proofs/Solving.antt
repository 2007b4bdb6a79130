-- The planner's way from master to master, over the keys that the sheet's streams were put in order by. Assumes nothing.
use mathlib.Core.Path.{◌≡◌, ap, ◌∙◌, subst}
use mathlib.Core.List.{List}
use Prim.Native.Nat.{ℕ, suc, ◌+◌, ◌-◌, ◌≤◌, ◌<◌}
use native.Mathlib.Numerals.{add-one}
use native.Mathlib.Omega.{arith}
use Rattle.common.specs.Runs.{filled}
use Rattle.common.proofs.Runs.{filled_at}
use Rattle.sheet_record.specs.Kinds.{pnet}
use Rattle.sheet_rules.specs.Ready.{Ready}
use Rattle.pnet_rules.specs.Segment.{Segment, count, turn}
use Rattle.pnet_rules.specs.Limits.{Declared}
use Rattle.pnet_turn.specs.Turn.{at}
use Rattle.pnet_plan.specs.Arrays.{segment_in}
use Rattle.pnet_plan.specs.Planned.{at_place}
use Rattle.pnet_plan.proofs.Gathering.{start_inside}
use Rattle.pnet_plan.proofs.Bytes.{declares, number_is}
use Rattle.pnet_bounds.specs.Bounded.{spacing_of, jitter_of}
use Rattle.pnet_urgent_order.specs.Order.{start_of, Ordered}
use Rattle.pnet_urgent.specs.Masters.{Keyed, Ranged, Served, Solved}
use Rattle.pnet_urgent.proofs.Tied.{Listed, keyed, ranged, solved_more}

-- before the first master
pub solved_none : (S : Segment) → Declared S → (places figures rounds : List ℕ) → Solved S 0 places figures rounds
solved_none S d places figures rounds =
    record {
      placed = λ i from to l. absurd (omega (arith, (d.ranges i from to).master_from));
      sought = λ i from to l. absurd (omega (arith, (d.ranges i from to).master_from));
    }

-- a run filled stream by stream
filled_stream : (f : ℕ → ℕ) (n : ℕ) (old run : List ℕ) → run ≡ filled (at_place f) n old → (i : ℕ) → i < n → at run i ≡ f (suc i)
filled_stream f n old run e i l = ap (λ (t : List ℕ). at t i) e ∙ (filled_at (at_place f) n i old l ∙ ap f (add-one i))

-- what putting the streams of a segment in order leaves, beside the counts of its masters
pub record Lined (S : Segment) (ends keys spacings jitters counts : List ℕ) : Type 0 where
  pub declared : Declared S
  pub in_order : Ordered S S.number ends keys
  pub listed : Listed S spacings jitters
  pub counts_are : (y : ℕ) → y ≤ 32 → at counts y ≡ count S y

pub lined : {s : List ℕ} {first n : ℕ} (ready : Ready s pnet first n) {ends keys spacings jitters : List ℕ} (old older : List ℕ) → Ordered (segment_in s) n ends keys
    → spacings ≡ filled (at_place (spacing_of (segment_in s))) n old → jitters ≡ filled (at_place (jitter_of (segment_in s))) n older
    → {counts : List ℕ} → ((y : ℕ) → y ≤ 32 → at counts y ≡ count (segment_in s) y) → Lined (segment_in s) ends keys spacings jitters counts
lined {s} {first} {n} ready {ends} {keys} {spacings} {jitters} old older o es ej counts_are =
    let S = segment_in s in
    record {
      declared = declares ready;
      in_order = subst (λ (k : ℕ). Ordered S k ends keys) (number_is ready) o;
      listed =
          record {
            spacings_are = λ i h. filled_stream (spacing_of S) n old spacings es i (omega (arith, number_is ready));
            jitters_are = λ i h. filled_stream (jitter_of S) n older jitters ej i (omega (arith, number_is ready));
          };
      counts_are = counts_are;
    }

-- what keeps a master's numbers inside the arrays
pub record Next (own end y : ℕ) : Type 0 where
  pub inside : y ≤ 32
  pub few : own ≤ 80
  pub early : end ≤ 800
  pub fits : own ≤ end

-- master y, as the code has it
module _ {S : Segment} {ends keys spacings jitters counts : List ℕ} (h : Lined S ends keys spacings jitters counts) (y : ℕ) (one : 1 ≤ y) (l : y ≤ S.masters) where
  own_is : at counts y ≡ count S y
  own_is = h.counts_are y (omega (arith, h.declared.masters_to))

  end_is : at ends y ≡ start_of S y + count S y
  end_is = h.in_order.ends_are y one l

  pub next : Next (at counts y) (at ends y) y
  next =
      record {
        inside = omega (arith, h.declared.masters_to);
        few = omega (arith, own_is, h.declared.counts y);
        early = omega (arith, end_is, start_inside S h.declared y one l, h.declared.number_to);
        fits = omega (arith, own_is, end_is);
      }

  start_is : at ends y - at counts y ≡ start_of S y
  start_is = omega (arith, own_is, end_is)

  pub serve_keyed : (room : ℕ) → S.number ≤ room → Keyed keys (at ends y - at counts y) (at counts y) room
  serve_keyed room fits = rw (start_is, own_is) (keyed h.declared h.in_order h.listed y one l room fits)

  module _ (V' : ℕ) (v : V' ≡ turn S) where
    pub serve_ranged : Ranged keys spacings jitters (at ends y - at counts y) (at counts y) V'
    serve_ranged = rw (start_is, own_is) (ranged h.declared h.in_order h.listed y one l V' v)

    pub serve_solved : {places figures rounds newPlaces newFigures newRounds : List ℕ}
        → Served keys spacings jitters (at ends y - at counts y) (at counts y) V' places figures rounds newPlaces newFigures newRounds
        → Solved S (y - 1) places figures rounds → Solved S y newPlaces newFigures newRounds
    serve_solved e g = solved_more h.declared h.in_order h.listed y one l (rw (start_is, own_is, v) at e) g
