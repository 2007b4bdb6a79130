-- A capture laid beside a sheet: the answer and the runs, from what the sheet and the capture give. Assumes nothing.
use Prim.Native.Nat.{ℕ, ◌+◌, ◌≤◌, ◌<◌, min}
use mathlib.Core.Path.{◌≡◌, refl, sym, ap, ◌∙◌}
use mathlib.Core.List.{List}
use native.Mathlib.Omega.{arith}
use lib.ListN.{length, get_or}
use Rattle.common.specs.Checks.{Verdict}
use Rattle.common.specs.Checks.Verdict.{Passed, Refused}
use Rattle.common.specs.Runs.{filled}
use Rattle.common.proofs.Runs.{filled_same, filled_at}
use Rattle.sheet_rules.specs.Sheets.{Sheet, masters_of}
use Rattle.sheet_rules.specs.Whole.{Outcome, or_else}
use Rattle.sheet_rules.specs.Whole.Outcome.{Read, Not}
use Rattle.pnet_rules.specs.Segment.{Segment, segment_of}
use Rattle.pnet_plan.specs.Planned.{plan_of, at_place}
use Rattle.capture_log.specs.Log.{fresh}
use Rattle.capture_log.specs.Records.{heard}
use Rattle.pnet_bounds.specs.Bounded.{bounded, stream_run}
use Rattle.pnet_bounds.proofs.Bounded.{bounded_fits, bounded_declared}
use Rattle.capture_compare.specs.Compared.{compared_by, compared}
use Rattle.capture_tally.specs.Pieces.{most}
use Rattle.capture_compare.specs.Steps.{plan_by, run_by}
use Rattle.std.specs.declared.result.Result.TheVariants.{Ok, Err}
use Rattle.common.specs.Checks.{refusal}
use Rattle.common.proofs.Answered.{accepts_alike, same_refusal}
use Rattle.pnet_plan.specs.declared.answer.Plan.{Plan}

-- ---- A sheet that is accepted with room for its streams

pub record Accepts (s : List ℕ) (room m k : ℕ) : Type 0 where
  pub sheet : Sheet
  pub is : bounded s room ≡ Read sheet
  pub masters : masters_of sheet ≡ m
  pub number : length sheet.streams ≡ k
  pub fits : k ≤ room
  pub few : k ≤ most

-- what an outcome that is told as accepted is
told_accepted : (o : Outcome) (m k : ℕ) → plan_of o ≡ Ok (record { masters = m; streams = k }) → (H : Sheet) × ((o ≡ Read H) × ((masters_of H ≡ m) × (length H.streams ≡ k)))
told_accepted (Read H) m k e = let p = accepts_alike e in (H, (refl, (ap (λ (x : Plan). x.masters) p, ap (λ (x : Plan). x.streams) p)))
told_accepted (Not n p) m k e = let z : ◌≡◌ {A = ℕ} 0 1 = cc in absurd (omega arith)

pub told_refused : (o : Outcome) (n p : ℕ) → plan_of o ≡ Err (refusal n p) → o ≡ Not n p
told_refused (Read H) n p e = let z : ◌≡◌ {A = ℕ} 0 1 = cc in absurd (omega arith)
told_refused (Not a b) n p e = let q = same_refusal e in rw (q.0, q.1)

pub accepts : (s : List ℕ) (room m k : ℕ) → plan_of (bounded s room) ≡ Ok (record { masters = m; streams = k }) → Accepts s room m k
unfolding segment_of
accepts s room m k e =
    let t = told_accepted (bounded s room) m k e in
    let H = t.0 in
    let d = bounded_declared s room H t.1.0 in
    record { sheet = H; is = t.1.0; masters = t.1.1.0; number = t.1.1.1; fits = omega (arith, bounded_fits s room H t.1.0, t.1.1.1); few = omega (arith, d.number_to, t.1.1.1) }

-- ---- The capture

module _ {s : List ℕ} {room m k : ℕ} (a : Accepts s room m k) (c : List ℕ) where
  -- what the sheet and the capture give together
  given : compared_by (bounded s room) c ≡ or_else (heard c k fresh) (Read a.sheet)
  given = ap (λ (o : Outcome). compared_by o c) a.is ∙ ap (λ (n : ℕ). or_else (heard c n fresh) (Read a.sheet)) a.number

  plan_given : plan_by (heard c k fresh) m k ≡ plan_of (compared_by (bounded s room) c)
  plan_given = by (heard c k fresh) ∙ ap plan_of (sym given)
    where
      by : (v : Verdict) → plan_by v m k ≡ plan_of (or_else v (Read a.sheet))
      by Passed = rw (← a.masters, ← a.number) refl
      by (Refused n p) = refl

  -- a figure of each stream, as the code has it at its places
  run_given : (F : Segment → ℕ → ℕ) (f : ℕ → ℕ) (old : List ℕ) → ((i : ℕ) → i < k → f i ≡ F (segment_of a.sheet) (i + 1))
      → run_by (heard c k fresh) f k old ≡ stream_run (compared_by (bounded s room) c) F old
  run_given F f old e = by (heard c k fresh) ∙ ap (λ (o : Outcome). stream_run o F old) (sym given)
    where
      by : (v : Verdict) → run_by v f k old ≡ stream_run (or_else v (Read a.sheet)) F old
      by Passed = filled_same f (at_place (F (segment_of a.sheet))) k old e ∙ ap (λ (n : ℕ). filled (at_place (F (segment_of a.sheet))) n old) (sym a.number)
      by (Refused n p) = refl

  -- the run of a figure that the sheet gives has it at each place
  pub sheet_run : (F : Segment → ℕ → ℕ) (run old : List ℕ) → run ≡ stream_run (bounded s room) F old → (i : ℕ) → i < k → get_or run i 0 ≡ F (segment_of a.sheet) (i + 1)
  sheet_run F run old e i l =
      let f : run ≡ filled (at_place (F (segment_of a.sheet))) k old =
      e ∙ (ap (λ (o : Outcome). stream_run o F old) a.is ∙ ap (λ (n : ℕ). filled (at_place (F (segment_of a.sheet))) n old) a.number) in
      rw f (filled_at (at_place (F (segment_of a.sheet))) k i old l)

-- ---- For four runs of these lengths

module _ (s c : List ℕ) (room la lb lc ld : ℕ) (shortest : room ≡ min la (min lb (min lc ld))) where
  compared_is : compared_by (bounded s room) c ≡ compared s c la lb lc ld
  unfolding compared
  compared_is = ap (λ (r : ℕ). compared_by (bounded s r) c) shortest

  pub compared_refused : (n p : ℕ) → bounded s room ≡ Not n p → compared s c la lb lc ld ≡ Not n p
  compared_refused n p e = sym compared_is ∙ ap (λ (o : Outcome). compared_by o c) e

  module _ {m k : ℕ} (a : Accepts s room m k) where
    pub plan_compared : plan_by (heard c k fresh) m k ≡ plan_of (compared s c la lb lc ld)
    plan_compared = plan_given a c ∙ ap plan_of compared_is

    pub run_compared : (F : Segment → ℕ → ℕ) (f : ℕ → ℕ) (old : List ℕ) → ((i : ℕ) → i < k → f i ≡ F (segment_of a.sheet) (i + 1))
        → run_by (heard c k fresh) f k old ≡ stream_run (compared s c la lb lc ld) F old
    run_compared F f old e = run_given a c F f old e ∙ ap (λ (o : Outcome). stream_run o F old) compared_is
