-- Page 02, 'Ask 4': what `report` writes of a path that is handed over segment by segment is the page's report of the whole path, and what it
-- answers is whether the page accepts it. Assumes nothing.
use mathlib.Core.Path.{◌≡◌, refl, sym, ap, ◌∙◌}
use mathlib.Core.List.{List, ◌++◌}
use Prim.Native.Nat.{ℕ, ◌+◌, ◌-◌, ◌^◌, ◌≤◌, ◌<◌}
use native.Mathlib.Omega.{arith}
use borrow.Author.Tests.{le-ltb}
use lib.ListN.{length, drop}
use Rattle.units.specs.Units.{bp}
use Rattle.units.specs.declared.BitPeriods.{BitPeriods}
use Rattle.pnet_path.specs.declared.Way.{Way}
use Rattle.pnet_path.specs.Path.{Path, gateways, bound_at, sender_at, forwarding_at, crossed}
use Rattle.pnet_path.specs.Ways.{way_over, HandedOver}
use Rattle.pnet_path.proofs.Refusals.{accepted_exactly, Looked, looked}
use Rattle.pnet_path.proofs.Refusals.Looked.{all, up_to}
use Rattle.pnet_path.proofs.Whole.{Kept, kept_all, ended, handed_over_alike, path_handed_over}
use Rattle.text.specs.Text.{item}
use Rattle.text.proofs.Writing.{texts_same}
use Rattle.report_path.specs.Told.{most_path, hop_lines, path_text}
use Rattle.report_path.specs.Report.{path_lines, answer_text, path_report, is_within, path_accepts}
use Rattle.report_phrases.specs.Reports.{told}
use Rattle.std.specs.declared.option.Option.TheVariants.{Some}
use Rattle.report_path.specs.Kept.{count_at, lines_of, answer_text_of, report_of, accepts_of, told_in, run_with}
use Rattle.report_path.proofs.Kept.{refused_report, answered_report}
use Rattle.report_path.proofs.Says.{says_the_first_refused_sheet, says_the_answer}
use Rattle.std.specs.declared.result.Result.TheVariants.{Ok, Err}
use Rattle.std.specs.declared.result.Result.{Result}
use Rattle.common.specs.declared.Refusal.{Refusal}

module _ (P : Path) where
  abbrev D : BitPeriods
  D = bp P.deadline

  -- the lines of a path whose segments are all kept
  lines_kept : (w : Way) (total : BitPeriods) → Kept P P.segments w → (1 ≤ gateways P) × (gateways P ≤ 10)
      → lines_of w total D ≡ path_lines P total
  unfolding lines_of path_lines path_text hop_lines
  lines_kept w total k few =
      let g : w.segments - 1 ≡ gateways P = omega (arith, k.segments) in
      let hops =
      texts_same (hop_lines (item w.masters) (count_at w.bounds) (count_at w.times))
      (hop_lines (sender_at P) (λ i. bp (bound_at P i)) (λ i. bp (forwarding_at P i))) (gateways P)
      (λ i h. rw (
        k.masters.places (i + 2) (omega arith) (omega (arith, few.0)) (omega (arith, few.1)),
        k.bounds.places (i + 2) (omega arith) (omega (arith, few.0)) (omega (arith, few.1)),
        k.times.places (i + 1) (omega arith) (omega (arith, few.0)) (omega (arith, few.1)),
      )) in
      rw (
        g,
        k.masters.places 1 (omega arith) (omega (arith, few.0)) (omega arith),
        k.bounds.places 1 (omega arith) (omega (arith, few.0)) (omega arith),
        hops,
      )

  answer_kept : (w : Way) → Kept P P.segments w → (c : Result BitPeriods Refusal) → crossed P ≡ c → answer_text_of w D c ≡ answer_text P c
  answer_kept w k (Ok total) e =
      let few = ((accepted_exactly P total.0).0 e).few in
      lines_kept w total k (few.least, few.most)
  answer_kept w k (Err r) e = refl

  module _ (few : P.segments < 2 ^ 64) where
    whole_report : report_of (way_over P P.segments) D ≡ path_report P
    whole_report = split (looked P P.segments)
      where
        w : Way
        w = way_over P P.segments

        split : Looked P P.segments → report_of w D ≡ path_report P
        split (all t) =
            let k = kept_all P P.segments few t in
            sym (answered_report w D k.none_refused (crossed P) (sym (path_handed_over P few))).1 ∙ (answer_kept w k (crossed P) refl ∙ sym (says_the_answer P t))
        split (up_to b) =
            let e = ended P few b in
            sym (refused_report w D _ e.refused).1 ∙ (rw e.segments refl ∙ sym (says_the_first_refused_sheet P b))

    -- ---- The theorem

    -- A path of fewer than 2^64 segments is handed over, whole or up to a sheet that is refused. What is kept of it has the path's report,
    module _ {n : ℕ} (handed : HandedOver P n) where
      pub report_is_the_paths : report_of (way_over P n) D ≡ path_report P
      report_is_the_paths = ap (λ (w : Way). report_of w D) (handed_over_alike P handed) ∙ whole_report

      -- and its verdict,
      pub verdict_is_the_paths : accepts_of (way_over P n) D ≡ path_accepts P
      unfolding accepts_of path_accepts
      verdict_is_the_paths = ap (λ (w : Way). accepts_of w D) (handed_over_alike P handed) ∙ ap is_within (path_handed_over P few)

      -- so by its contract `report` leaves the path's report at the start of a run that has room for every report, with behind it what stood there,
      -- and answers whether the path is accepted and how many bytes that report has
      pub written_is_the_paths : (old : List ℕ) → most_path ≤ length old
          → (run_with old (report_of (way_over P n) D) ≡ path_report P ++ drop (length (path_report P)) old)
          × (told_in (length old) (accepts_of (way_over P n) D) (report_of (way_over P n) D) ≡ Some (told (path_accepts P) (length (path_report P))))
      unfolding run_with told_in
      written_is_the_paths old room =
          let fits = le-ltb (length old) most_path room in
          (rw (report_is_the_paths, fits), rw (report_is_the_paths, verdict_is_the_paths, fits))
