-- The report says what the capture's records say, wherever 64 bits hold its bytes and its clock: below 2^64 bytes and 2^64 bp, which are 7 million
-- years. So whoever reads a report reads page 02's four figures and docs/DECISIONS.md 57 to 64 of the whole capture. Assumes nothing.
use Prim.Native.Nat.{ℕ, zero, suc, ◌+◌, ◌-◌, ◌/◌, ◌^◌, ◌≤◌, ◌<◌, min}
use mathlib.Core.Path.{◌≡◌, refl, sym, ap, subst, fun_ext, ◌∙◌}
use mathlib.Core.List.{List}
use mathlib.Core.Bool.{Bool}
use native.Mathlib.Decide.{dec_lt}
use native.Mathlib.Omega.{arith}
use lib.ListN.{length, get_or, drop, replicate, length-replicate, get_or-eq_default}
use lib.Seq.{get_or-append-add}
use Rattle.common.specs.Checks.{Verdict}
use Rattle.common.specs.Checks.Verdict.{Passed, Refused}
use Rattle.common.specs.Runs.{tab, filled}
use Rattle.common.specs.Sums.{when}
use Rattle.common.proofs.Runs.{length_tab, filled_at, zero_at}
use Rattle.text.specs.Text.{item}
use Rattle.sheet_record.specs.declared.Record.{Record}
use Rattle.sheet_record.specs.Kinds.{nothing}
use Rattle.sheet_rules.specs.Sheets.{Sheet}
use Rattle.sheet_rules.specs.Whole.{Outcome}
use Rattle.sheet_rules.specs.Whole.Outcome.{Read, Not}
use Rattle.pnet_rules.specs.Segment.{Segment, segment_of, stream_at}
use Rattle.pnet_plan.specs.Planned.{at_place}
use Rattle.pnet_bounds.specs.Bounded.{master_of, spacing_of, jitter_of}
use Rattle.capture_log.specs.declared.Event.{Event}
use Rattle.capture_log.specs.Log.{fresh, left, answered, largest, above}
use Rattle.capture_log.specs.Records.{events, size, events_in, heard}
use Rattle.capture_tally.specs.Pieces.{most}
use Rattle.capture_compare.proofs.Told.{left_whole, answers_whole, largest_whole, above_whole}
use Rattle.capture_ages.specs.Ages.{clock, broken, soon, whose, beyond}
use Rattle.capture_ages.specs.Clock.{began}
use Rattle.capture_watch.specs.Follow.{Seen}
use Rattle.capture_watch.proofs.Means.{of_stream, Keeps, overdue_means}
use Rattle.capture_watch.proofs.Passed.{passed_count, passed_means}
use Rattle.report_faults.proofs.Same.{Agree, clean_same}
use Rattle.report_capture.proofs.Same.{capture_same}
use Rattle.report_beside.specs.Whole.{none, seen_after, late_of, text_of, clean_of, laid, limit_of, figures, tally_of, watch_of, heard_report, heard_clean, laid_report, laid_clean, beside_report, beside_clean}
use Rattle.report_beside.specs.Recorded.{above_at, late_at, recorded_text, recorded_clean, shown_report, shown_clean, sheet_report, sheet_clean, recorded_report, recorded_accepted}
use Rattle.report_beside.proofs.Kept.{streams_few}

-- ---- The sheet's runs

zero_drop : (m n i : ℕ) → ◌≡◌ {A = ℕ} (get_or (drop n (replicate m 0)) i 0) 0
zero_drop m zero i = zero_at m i
zero_drop zero (suc n) i = refl
zero_drop (suc m) (suc n) i = zero_drop m n i

-- behind the last stream a run has zeros
zero_behind : (f : ℕ → ℕ) (n j : ℕ) → n ≤ j → get_or (filled f n none) j 0 ≡ 0
unfolding filled none
zero_behind f n j h =
    let e : j ≡ length (tab f n) + (j - n) = omega (arith, length_tab f n) in
    ap (λ (k : ℕ). get_or (filled f n none) k 0) e ∙ (get_or-append-add (tab f n) (drop n none) (j - n) 0 ∙ zero_drop most n (j - n))

module _ (H : Sheet) where
  abbrev S : Segment
  S = segment_of H

  abbrev n : ℕ
  n = length H.streams

  figure_at : (figure : Segment → ℕ → ℕ) → Agree n (item (figures H figure)) (at_place (figure S))
  figure_at figure i l = filled_at (at_place (figure S)) n i none l

  -- a field of every stream, on the sheet or not
  module _ (figure : Segment → ℕ → ℕ) (field : Record → ℕ) (is : (i : ℕ) → figure S i ≡ field (get_or H.streams (i - 1) nothing)) (none-there : field nothing ≡ 0) where
    field_of : (i : ℕ) → of_stream (figures H figure) i ≡ figure S i
    field_of i = split (dec_lt (i - 1) n)
      where
        split : Dec (i - 1 < n) → of_stream (figures H figure) i ≡ figure S i
        split (yes l) =
            let e : i - 1 + 1 - 1 ≡ i - 1 = omega arith in
            figure_at figure (i - 1) l ∙ (is (i - 1 + 1) ∙ (ap (λ (k : ℕ). field (get_or H.streams k nothing)) e ∙ sym (is i)))
        split (no l) =
            zero_behind (at_place (figure S)) n (i - 1) (omega (arith, l))
            ∙ (sym none-there ∙ (sym (ap field (get_or-eq_default H.streams nothing {n = i - 1} (omega (arith, l)))) ∙ sym (is i)))

  spacing_same : ◌≡◌ {A = ℕ → ℕ} (of_stream (figures H spacing_of)) (spacing_of S)
  unfolding segment_of stream_at
  spacing_same = fun_ext (field_of spacing_of (λ r. r.c) (λ i. refl) refl)

  jitter_same : ◌≡◌ {A = ℕ → ℕ} (of_stream (figures H jitter_of)) (jitter_of S)
  unfolding segment_of stream_at
  jitter_same = fun_ext (field_of jitter_of (λ r. r.e) (λ i. refl) refl)

-- ---- A capture that passes

module _ (urgent : Bool) (s c : List ℕ) (H : Sheet) (is-laid : laid urgent s ≡ Read H) (passes : heard c (length H.streams) fresh ≡ Passed) (small : length c < 2 ^ 64)
    (short : clock (events c) < 2 ^ 64) where
  few : n H ≤ most
  few = streams_few urgent s H is-laid

  abbrev T : List ℕ
  T = figures H spacing_of

  abbrev J : List ℕ
  J = figures H jitter_of

  abbrev kept : Seen
  kept = seen_after c T J began none none

  events_are : events_in c (length c / size) ≡ events c
  unfolding events
  events_are = ap (events_in c) (sym (passed_count c (n H) passes))

  keeps : Keeps T J (events c) kept
  unfolding none
  keeps =
      subst (λ (es : List Event). Keeps T J es kept) events_are
      (passed_means c (n H) passes few T J none (length-replicate {A = ℕ} most 0) (λ i l. zero_at most i) small (subst (λ (es : List Event). clock es < 2 ^ 64) (sym events_are) short))

  left_at : (i : ℕ) → i < most → get_or (tally_of urgent H c).left i 0 ≡ left fresh (events c) (i + 1)
  unfolding tally_of none
  left_at i l = left_whole c i l

  answers_at : Agree (n H) (item (tally_of urgent H c).answers) (at_place (answered (events c)))
  unfolding tally_of none
  answers_at i l = answers_whole c i (omega (arith, few)) small

  largest_at : Agree (n H) (item (tally_of urgent H c).largest) (at_place (largest fresh (events c)))
  unfolding tally_of none
  largest_at i l = largest_whole c i (omega (arith, few))

  above_at_law : Agree (n H) (item (tally_of urgent H c).above) (above_at urgent H (events c))
  unfolding tally_of none above_at
  above_at_law i l =
      above_whole c i (omega (arith, few)) small (figures H (limit_of urgent))
      ∙ ap (λ (R : ℕ). above fresh R (events c) (i + 1)) (figure_at H (limit_of urgent) i l)

  late_at_law : Agree (n H) (item (late_of (figures H (limit_of urgent)) (watch_of H c) (tally_of urgent H c))) (late_at urgent H (events c))
  unfolding tally_of watch_of late_at
  late_at_law i l =
      overdue_means keeps short (figures H (limit_of urgent)) (tally_of urgent H c).left left_at i (omega (arith, few))
      ∙ ap (λ (R : ℕ). when (beyond R (events c) (i + 1)) 1) (figure_at H (limit_of urgent) i l)

  soon_is : (watch_of H c).soon ≡ soon (spacing_of (segment_of H)) (jitter_of (segment_of H)) (events c)
  unfolding watch_of
  soon_is = keeps.soon_is ∙ (ap (λ (f : ℕ → ℕ). soon f (of_stream J) (events c)) (spacing_same H) ∙ ap (λ (f : ℕ → ℕ). soon (spacing_of (segment_of H)) f (events c)) (jitter_same H))

  whose_is : (watch_of H c).whose ≡ whose (spacing_of (segment_of H)) (jitter_of (segment_of H)) (events c)
  unfolding watch_of
  whose_is = keeps.whose_is ∙ (ap (λ (f : ℕ → ℕ). whose f (of_stream J) (events c)) (spacing_same H) ∙ ap (λ (f : ℕ → ℕ). whose (spacing_of (segment_of H)) f (events c)) (jitter_same H))

  broken_is : (watch_of H c).broken ≡ broken (events c)
  unfolding watch_of
  broken_is = keeps.broken_is

  all_shown : min (n H) most ≡ n H
  all_shown = omega (arith, few)

  text_recorded : text_of urgent (n H) (figures H master_of) (figures H (limit_of urgent)) (watch_of H c) (tally_of urgent H c) ≡ recorded_text urgent H (events c)
  unfolding text_of recorded_text
  text_recorded =
      rw (all_shown, soon_is, whose_is, broken_is)
      (capture_same (n H) _ (above_at urgent H (events c)) _ (late_at urgent H (events c)) _ (at_place (answered (events c))) above_at_law late_at_law answers_at _ _ _ urgent _
      (at_place (master_of (segment_of H))) _ (at_place (limit_of urgent (segment_of H))) _ (at_place (largest fresh (events c))) _ (at_place (left fresh (events c)))
      (figure_at H master_of) (figure_at H (limit_of urgent)) largest_at (λ i l. left_at i (omega (arith, few))))

  clean_recorded : clean_of (n H) (figures H (limit_of urgent)) (watch_of H c) (tally_of urgent H c) ≡ recorded_clean urgent H (events c)
  unfolding clean_of recorded_clean
  clean_recorded =
      rw (all_shown, soon_is, broken_is)
      (clean_same (n H) _ (above_at urgent H (events c)) _ (late_at urgent H (events c)) _ (at_place (answered (events c))) above_at_law late_at_law answers_at _ 0 _)

-- ---- Any sheet and capture

module _ (urgent : Bool) (s c : List ℕ) (small : length c < 2 ^ 64) (short : clock (events c) < 2 ^ 64) where
  as_recorded : (beside_report urgent s c ≡ recorded_report urgent s c) × (beside_clean urgent s c ≡ recorded_accepted urgent s c)
  unfolding beside_report recorded_report beside_clean recorded_accepted
  as_recorded = by (laid urgent s) refl
    where
      by : (o : Outcome) → laid urgent s ≡ o → (laid_report urgent o c ≡ sheet_report urgent o c) × (laid_clean urgent o c ≡ sheet_clean urgent o c)
      by (Not m p) e = (refl, refl)
      by (Read H) e = on (heard c (length H.streams) fresh) refl
        where
          on : (v : Verdict) → heard c (length H.streams) fresh ≡ v
              → (heard_report urgent v H c ≡ shown_report urgent v H (events c)) × (heard_clean urgent v H c ≡ shown_clean urgent v H (events c))
          on (Refused m p) q = (refl, refl)
          on Passed q = (text_recorded urgent s c H e q small short, clean_recorded urgent s c H e q small short)

  pub report_as_recorded : beside_report urgent s c ≡ recorded_report urgent s c
  report_as_recorded = as_recorded.0

  pub clean_as_recorded : beside_clean urgent s c ≡ recorded_accepted urgent s c
  clean_as_recorded = as_recorded.1
