-- The sheet that a capture is laid beside: the refusals case by case, and the streams one by one. Assumes nothing.
use mathlib.Core.Path.{◌≡◌, refl, sym, ap, ◌∙◌}
use mathlib.Core.Bool.{true}
use mathlib.Core.List.{List}
use Prim.Native.Nat.{ℕ, ◌+◌, ◌*◌, ◌≤◌, ◌<◌}
use native.Mathlib.Omega.{arith}
use borrow.Author.Tests.{lt-ltb, le-ltb, le-leb, lt-leb, eq-eqb, ne_eqb, ltb-false, eqb-true, not-false}
use lib.ListN.{length}
use lib.Dec.{ltb}
use Rattle.common.specs.Checks.{Check, Verdict, verdict}
use Rattle.common.specs.Checks.Verdict.{Passed, Refused}
use Rattle.common.specs.Runs.{filled}
use Rattle.common.proofs.Checks.{Applies, Clear, refused_if, passed_if, passed_then}
use Rattle.common.proofs.Checks.Applies.{here, later}
use Rattle.common.proofs.Checks.Clear.{none, and}
use Rattle.sheet_record.specs.declared.Met.{Met}
use Rattle.sheet_record.specs.declared.Record.{Record}
use Rattle.sheet_record.specs.Kinds.{pnet, bus_of}
use Rattle.sheet_rules.specs.Sheets.{Sheet, bus_in, masters_of}
use Rattle.sheet_rules.specs.Whole.{Outcome, or_else, reading}
use Rattle.sheet_read.specs.Told.{told, accepted}
use Rattle.sheet_rules.specs.Whole.Outcome.{Read, Not}
use Rattle.sheet_rules.specs.Ready.{sheet_in, Ready}
use Rattle.sheet_rules.proofs.Known.{reading_read}
use Rattle.sheet_read.proofs.Taken.{Taken, taken, not_taken, taken_ready}
use Rattle.pnet_rules.specs.Segment.{Stream, Segment, segment_of, count, turn}
use Rattle.pnet_rules.specs.Limits.{Declared}
use Rattle.pnet_rules.proofs.Declares.{declared}
use Rattle.pnet_turn.specs.Turn.{at}
use Rattle.pnet_plan.specs.Planned.{first_late, segment_checks, plan_of, at_place}
use Rattle.pnet_plan.specs.declared.answer.Plan.{Plan}
use Rattle.pnet_plan.specs.Arrays.{segment_in, Sheeted}
use Rattle.pnet_plan.proofs.Bytes.{Here, its_bound}
use Rattle.pnet_bounds.specs.Bounded.{bounded_by, bounded, bound_of, master_of, spacing_of, jitter_of, stream_run}
use Rattle.std.specs.declared.result.Result.TheVariants.{Ok, Err}
use Rattle.common.specs.Checks.{refusal}
use Rattle.std.specs.declared.result.Result.{Result}
use Rattle.common.specs.declared.Refusal.{Refusal}
use Rattle.sheet_read.specs.declared.Accepted.{Accepted}

-- ---- What is refused

module _ (s : List ℕ) (room : ℕ) where
  pub bounded_unread : (n p : ℕ) → reading s ≡ Not n p → bounded s room ≡ Not n p
  unfolding bounded
  bounded_unread n p e = ap (λ (o : Outcome). bounded_by o room) e

  module _ (H : Sheet) (e : reading s ≡ Read H) where
    abbrev checks : List Check
    checks = segment_checks H (ltb room (length H.streams)) (length H.streams)

    checked : bounded s room ≡ or_else (verdict checks) (Read H)
    unfolding bounded
    checked = ap (λ (o : Outcome). bounded_by o room) e

    refused : (n p : ℕ) → Applies checks n p → bounded s room ≡ Not n p
    refused n p a = checked ∙ rw (refused_if a)

    pub bounded_other : (bus_in H ≡ pnet → ⊥) → bounded s room ≡ Not 3 0
    bounded_other k = refused 3 0 (here (rw (ne_eqb (bus_in H) pnet k)))

    pub bounded_short : bus_in H ≡ pnet → (n : ℕ) → length H.streams ≡ n → room < n → bounded s room ≡ Not 13 n
    bounded_short k n q l =
        let short : ltb room (length H.streams) ≡ true = lt-ltb room (length H.streams) (omega (arith, q)) in
        rw (← q) (refused 13 (length H.streams) (later (rw (eq-eqb (bus_in H) pnet k)) (here short)))

    module _ (k : bus_in H ≡ pnet) (l : length H.streams ≤ room) where
      pub bounded_late : (i : ℕ) → i ≡ first_late (segment_of H) → i ≤ length H.streams → bounded s room ≡ Not 8 i
      bounded_late i q h =
          let a = refused 8 (first_late (segment_of H)) (later (rw (eq-eqb (bus_in H) pnet k)) (later (le-ltb room _ l) (here (le-leb _ _ (rw q at h))))) in
          rw q a

      pub bounded_read : length H.streams < first_late (segment_of H) → bounded s room ≡ Read H
      bounded_read h =
          let v : verdict checks ≡ Passed = passed_if (and (rw (eq-eqb (bus_in H) pnet k)) (and (le-ltb room _ l) (and (lt-leb _ _ h) none))) in
          checked ∙ rw v

-- ---- What a sheet is that is not refused

module _ (s : List ℕ) (room : ℕ) (H : Sheet) (e : bounded s room ≡ Read H) where
  -- it was read, and passes
  pub bounded_passes : (reading s ≡ Read H) × Clear (segment_checks H (ltb room (length H.streams)) (length H.streams))
  unfolding bounded
  bounded_passes = by (reading s) refl e
    where
      by : (o : Outcome) → reading s ≡ o → bounded_by o room ≡ Read H
          → (reading s ≡ Read H) × Clear (segment_checks H (ltb room (length H.streams)) (length H.streams))
      by (Not n p) q r = let z : ◌≡◌ {A = ℕ} 0 1 = cc in absurd (omega arith)
      by (Read G) q r = on (verdict (segment_checks G (ltb room (length G.streams)) (length G.streams))) refl r
        where
          on : (v : Verdict) → verdict (segment_checks G (ltb room (length G.streams)) (length G.streams)) ≡ v → or_else v (Read G) ≡ Read H
              → (reading s ≡ Read H) × Clear (segment_checks H (ltb room (length H.streams)) (length H.streams))
          on (Refused n p) v r' = let z : ◌≡◌ {A = ℕ} 0 1 = cc in absurd (omega arith)
          on Passed v r' = let g : G ≡ H = cc in rw (← g) (q, passed_then _ v)

  clear_room : Clear (segment_checks H (ltb room (length H.streams)) (length H.streams)) → (bus_in H ≡ pnet) × (length H.streams ≤ room)
  clear_room (and k (and r (and l none))) = (eqb-true _ _ (not-false _ k), ltb-false _ _ r)

  pub bounded_fits : length H.streams ≤ room
  bounded_fits = (clear_room bounded_passes.1).1

  pub bounded_declared : Declared (segment_of H)
  bounded_declared = declared s H (reading_read s H bounded_passes.0) (clear_room bounded_passes.1).0

-- ---- From the reader's answer, as the code takes it apart

module _ (s : List ℕ) {answered : Result Accepted Refusal} (e : answered ≡ told s (reading s)) where
  pub answer_taken : {head : Record} {n first : ℕ} → answered ≡ Ok (accepted head n first) → Taken s head n first
  answer_taken {head} {n} {first} q = taken s head n first (sym e ∙ q)

  pub answer_refused : {n p : ℕ} → answered ≡ Err (refusal n p) → (room : ℕ) → bounded s room ≡ Not n p
  answer_refused {n} {p} q room = bounded_unread s room n p (not_taken s n p (sym e ∙ q))

module _ {s : List ℕ} {head : Record} {n first : ℕ} (took : Taken s head n first) (room : ℕ) where
  pub taken_other : (bus_of head.kind ≡ pnet → ⊥) → bounded s room ≡ Not 3 0
  taken_other k = bounded_other s room (sheet_in s) took.reads (λ e. k (ap (λ (r : Record). bus_of r.kind) took.begins ∙ e))

  pub taken_short : bus_of head.kind ≡ pnet → room < n → bounded s room ≡ Not 13 n
  taken_short k = bounded_short s room (sheet_in s) took.reads (taken_ready took k).on_bus n took.number

-- ---- The answer and the four runs together, as the code returns them

-- the answer r, and the runs a, b, c and d where x, y, z and u were lent
abbrev pub Returned : List ℕ → ℕ → List ℕ → List ℕ → List ℕ → List ℕ → Result Plan Refusal → List ℕ → List ℕ → List ℕ → List ℕ → Type 0
Returned s room x y z u r a b c d =
    (r ≡ plan_of (bounded s room))
    × ((a ≡ stream_run (bounded s room) master_of x)
    × ((b ≡ stream_run (bounded s room) bound_of y)
    × ((c ≡ stream_run (bounded s room) spacing_of z) × (d ≡ stream_run (bounded s room) jitter_of u))))

pub returned_refused : (s : List ℕ) (room : ℕ) (x y z u : List ℕ) (n p : ℕ) → bounded s room ≡ Not n p
    → Returned s room x y z u (Err (refusal n p)) x y z u
returned_refused s room x y z u n p e = (ap plan_of (sym e), (run_kept master_of x, (run_kept bound_of y, (run_kept spacing_of z, run_kept jitter_of u))))
  where
    run_kept : (figure : Segment → ℕ → ℕ) (old : List ℕ) → old ≡ stream_run (bounded s room) figure old
    run_kept figure old = ap (λ (o : Outcome). stream_run o figure old) (sym e)

-- ---- A sheet with room for its streams

module _ {s : List ℕ} {N n first : ℕ} {counts longests : List ℕ} (h : Sheeted s N n first counts longests) (room : ℕ) (fits : n ≤ room) (late : ℕ)
    (first-late : late ≡ first_late (segment_in s)) where
  few : length (sheet_in s).streams ≤ room
  few = omega (arith, h.ready.number)

  pub sheeted_late : late ≤ n → bounded s room ≡ Not 8 late
  sheeted_late l = bounded_late s room (sheet_in s) h.ready.reads h.ready.on_bus few late first-late (omega (arith, h.ready.number))

  pub returned_late : late ≤ n → (x y z u : List ℕ) → Returned s room x y z u (Err (refusal 8 late)) x y z u
  returned_late l x y z u = returned_refused s room x y z u 8 late (sheeted_late l)

  module _ (l : n < late) where
    pub sheeted_read : bounded s room ≡ Read (sheet_in s)
    sheeted_read = bounded_read s room (sheet_in s) h.ready.reads h.ready.on_bus few (omega (arith, h.ready.number, first-late))

    run_read : (figure : Segment → ℕ → ℕ) (old run : List ℕ) → run ≡ filled (at_place (figure (segment_in s))) n old
        → run ≡ stream_run (bounded s room) figure old
    run_read figure old run q =
        (q ∙ ap (λ (x : ℕ). filled (at_place (figure (segment_in s))) x old) (sym h.ready.number))
        ∙ ap (λ (o : Outcome). stream_run o figure old) (sym sheeted_read)

    pub returned_accepted : (x y z u a b c d : List ℕ) → a ≡ filled (at_place (master_of (segment_in s))) n x
        → b ≡ filled (at_place (bound_of (segment_in s))) n y → c ≡ filled (at_place (spacing_of (segment_in s))) n z
        → d ≡ filled (at_place (jitter_of (segment_in s))) n u → Returned s room x y z u (Ok (record { masters = N; streams = n })) a b c d
    unfolding segment_of
    returned_accepted x y z u a b c d p q t v =
        let r : Ok (record { masters = N; streams = n }) ≡ plan_of (Read (sheet_in s)) = ap (λ (k : ℕ). Ok (record { masters = k; streams = n })) h.masters_are ∙ ap (λ k. Ok (record { masters = masters_of (sheet_in s); streams = k })) (sym h.ready.number) in
        (r ∙ ap plan_of (sym sheeted_read), (run_read master_of x a p, (run_read bound_of y b q, (run_read spacing_of z c t, run_read jitter_of u d v))))

-- ---- Stream by stream

-- the record r is stream i + 1: its master, what the code multiplies for its bound, its spacing and its jitter
pub record Placed (s : List ℕ) (i : ℕ) (counts : List ℕ) (v : ℕ) (r : Record) : Type 0 where
  pub master : r.a ≡ at_place (master_of (segment_in s)) i
  pub bounds : at counts r.a * v ≡ at_place (bound_of (segment_in s)) i
  pub spaced : r.c ≡ at_place (spacing_of (segment_in s)) i
  pub jittered : r.e ≡ at_place (jitter_of (segment_in s)) i

module _ {s : List ℕ} {first n : ℕ} (ready : Ready s pnet first n) (counts : List ℕ) (v : ℕ)
    (ev : v ≡ turn (segment_in s)) (counts-are : (y : ℕ) → y ≤ 32 → at counts y ≡ count (segment_in s) y) where
  pub placed : (i : ℕ) (r : Met) → i < n → Here s i r → Placed s i counts v r.found
  unfolding bound_of
  placed i r l h =
      record {
        master = ap (λ (x : Stream). x.master) h.stream;
        bounds = its_bound ready l r h counts v counts-are ev;
        spaced = ap (λ (x : Stream). x.spacing) h.stream;
        jittered = ap (λ (x : Stream). x.jitter) h.stream;
      }
