-- The report is made of what is listed of a sheet: each stream's run, and the first that first-come queues refuse with its R. Assumes nothing.
use Prim.Native.Nat.{ℕ, ◌-◌, ◌≤◌, min}
use mathlib.Core.Path.{◌≡◌, refl, sym, ap, ◌∙◌}
use mathlib.Core.List.{List, [], ◌++◌}
use mathlib.Core.Bool.{Bool, true, false, cond}
use native.Mathlib.Omega.{arith}
use lib.Dec.{leb}
use lib.ListN.{length}
use Rattle.common.specs.Sums.{when}
use Rattle.common.proofs.Firsts.{first_is}
use Rattle.common.proofs.Runs.{filled_at}
use Rattle.text.specs.Text.{word, item, texts}
use Rattle.units.specs.Units.{bp}
use Rattle.units.specs.declared.BitPeriods.{BitPeriods}
use Rattle.sheet_rules.specs.Sheets.{Sheet}
use Rattle.sheet_rules.specs.Whole.{Outcome}
use Rattle.sheet_rules.specs.Whole.Outcome.{Read, Not}
use Rattle.pnet_rules.specs.Segment.{Segment, segment_of, late}
use Rattle.pnet_plan.specs.Planned.{first_late, at_place}
use Rattle.pnet_bounds.specs.Bounded.{bound_of, master_of, stream_run}
use Rattle.pnet_urgent_rules.specs.Urgent.{place, figure, rounds}
use Rattle.pnet_urgent_rules.specs.Planned.{urgently}
use Rattle.pnet_urgent_rules.proofs.Cases.{urgently_declared}
use Rattle.pnet_urgent_streams.specs.Listed.{deadline_of, late_bound, listed_of}
use Rattle.report_phrases.specs.Phrases.{refusal_text}
use Rattle.report_faults.proofs.Same.{Agree}
use Rattle.report_urgent_lines.specs.Lines.{late_line, late_text, stream_at, urgent_text}
use Rattle.report_urgent_lines.proofs.Same.{urgent_same}
use Rattle.report_urgent.specs.Whole.{streams_text, urgent_report, urgent_accepts, answer_text, is_read}
use Rattle.std.specs.declared.result.Result.TheVariants.{Ok, Err}
use Rattle.common.specs.Checks.{refusal}
use Rattle.common.proofs.Answered.{accepts_alike, same_refusal}
use Rattle.pnet_urgent_streams.specs.declared.answer.Listed.{Listed}

-- numbers of streams begin with 1
late_from : (S : Segment) → 1 ≤ first_late S
unfolding first_late
late_from S = (first_is (late S) S.number 1).from

-- a bound that is 0 where it is not shown says the same
module _ (masters places figures rounds' deadlines : ℕ → ℕ) (late' R n : ℕ) where
  abbrev text : BitPeriods → List ℕ
  text bound = urgent_text masters places figures rounds' deadlines late' bound n

  pub shown_bound : text (bp (when (leb late' n) R)) ≡ text (bp R)
  unfolding urgent_text late_text
  shown_bound = by (leb late' n)
    where
      by : (b : Bool)
          → word "P-NET urgent first\n" ++ (texts (stream_at masters places figures rounds' deadlines) n ++ cond b (late_line late' (bp (when b R)) (bp (figures (late' - 1))) (bp (deadlines (late' - 1)))) [])
          ≡ word "P-NET urgent first\n" ++ (texts (stream_at masters places figures rounds' deadlines) n ++ cond b (late_line late' (bp R) (bp (figures (late' - 1))) (bp (deadlines (late' - 1)))) [])
      by true = refl
      by false = refl

-- a sheet that is accepted, and the runs of its streams
module _ (s : List ℕ) (H : Sheet) (e : urgently s 800 ≡ Read H) where
  abbrev S : Segment
  S = segment_of H

  abbrev n : ℕ
  n = length H.streams

  all_shown : min n 800 ≡ n
  unfolding segment_of
  all_shown = omega (arith, (urgently_declared s 800 H e).number_to)

  module _ (masters places figures rounds' deadlines old : List ℕ) (m : masters ≡ stream_run (Read H) master_of old) (p : places ≡ stream_run (Read H) place old)
      (x : figures ≡ stream_run (Read H) figure old) (r : rounds' ≡ stream_run (Read H) rounds old) (d : deadlines ≡ stream_run (Read H) deadline_of old) where
    at : (F : Segment → ℕ → ℕ) (run : List ℕ) → run ≡ stream_run (Read H) F old → Agree n (item run) (at_place (F S))
    at F run q i l = ap (λ (t : List ℕ). item t i) q ∙ filled_at (at_place (F S)) n i old l

    accepted_text : urgent_text (item masters) (item places) (item figures) (item rounds') (item deadlines) (first_late S) (bp (late_bound S)) (min n 800) ≡ urgent_report s
    unfolding urgent_report streams_text segment_of late_bound
    accepted_text =
        rw all_shown
        (shown_bound (item masters) (item places) (item figures) (item rounds') (item deadlines) (first_late S) (bound_of S (first_late S)) n
        ∙ (urgent_same n (item figures) (at_place (figure S)) (item deadlines) (at_place (deadline_of S)) (at figure figures x) (at deadline_of deadlines d) (first_late S)
        (late_from S) (bp (bound_of S (first_late S))) (item masters) (at_place (master_of S)) (item places) (at_place (place S)) (item rounds') (at_place (rounds S))
        (at master_of masters m) (at place places p) (at rounds rounds' r)
        ∙ ap answer_text (sym e)))

-- ---- From what is listed

module _ (s masters places figures rounds' deadlines old : List ℕ) where
  -- the text that is made of it, and the verdict
  abbrev Said : Outcome → Type 0
  Said o = (number late' : ℕ) (bound : BitPeriods) → listed_of o ≡ Ok (record { streams = number; late = late'; bound = bound }) → masters ≡ stream_run o master_of old
      → places ≡ stream_run o place old → figures ≡ stream_run o figure old → rounds' ≡ stream_run o rounds old → deadlines ≡ stream_run o deadline_of old
      → (urgent_text (item masters) (item places) (item figures) (item rounds') (item deadlines) late' bound (min number 800) ≡ urgent_report s) × (urgent_accepts s ≡ true)

  pub accepted_told : Said (urgently s 800)
  unfolding urgent_accepts
  accepted_told = by (urgently s 800) refl
    where
      by : (o : Outcome) → urgently s 800 ≡ o → Said o
      by (Not k q) e number late' bound l m p x r d = let z : ◌≡◌ {A = ℕ} 0 1 = cc in absurd (omega arith)
      by (Read H) e number late' bound l m p x r d =
          let same = accepts_alike l in
          let count = sym (ap (λ (y : Listed). y.streams) same) in
          let first = sym (ap (λ (y : Listed). y.late) same) in
          let there = sym (ap (λ (y : Listed). y.bound) same) in
          (rw (count, first, there) (accepted_text s H e masters places figures rounds' deadlines old m p x r d), ap is_read e)

pub refused_told : (s : List ℕ) (k q : ℕ) → listed_of (urgently s 800) ≡ Err (refusal k q) → (urgent_report s ≡ refusal_text k q) × (urgent_accepts s ≡ false)
unfolding urgent_report urgent_accepts
refused_told s k q l =
    let e = by (urgently s 800) l in
    (ap answer_text e, ap is_read e)
  where
    by : (o : Outcome) → listed_of o ≡ Err (refusal k q) → o ≡ Not k q
    by (Read H) f = let z : ◌≡◌ {A = ℕ} 0 1 = cc in absurd (omega arith)
    by (Not a b) f = let e = same_refusal f in rw (e.0, e.1)
