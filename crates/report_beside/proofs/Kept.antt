-- The runs hold what sheet and capture leave: from the beginning, over each piece, to the report. `Begins`, `Hears` and `Reports` say it of
-- what the three steps answer. Assumes nothing.
use Prim.Native.Nat.{ℕ, ◌+◌, ◌≤◌, ◌<◌}
use mathlib.Core.Path.{◌≡◌, refl, sym, ap, subst, ◌∙◌}
use mathlib.Core.List.{List, [], ◌++◌, append-nil}
use mathlib.Core.Bool.{Bool, true, false}
use native.Mathlib.Omega.{arith}
use borrow.Author.Tests.{ltb-true, ltb-false}
use lib.Dec.{ltb}
use lib.ListN.{length, take, drop, length-append}
use lib.Seq.{take-append_seam}
use Rattle.common.specs.Checks.{Verdict}
use Rattle.common.specs.Checks.Verdict.{Passed, Refused}
use Rattle.sheet_rules.specs.Sheets.{Sheet}
use Rattle.sheet_rules.specs.Whole.{Outcome}
use Rattle.sheet_rules.specs.Whole.Outcome.{Read, Not}
use Rattle.pnet_rules.specs.Segment.{segment_of}
use Rattle.pnet_bounds.specs.Bounded.{master_of, spacing_of, jitter_of, stream_run}
use Rattle.pnet_bounds.proofs.Bounded.{bounded_declared}
use Rattle.pnet_urgent_rules.proofs.Cases.{urgently_declared}
use Rattle.capture_log.specs.Log.{fresh}
use Rattle.capture_log.specs.Records.{heard}
use Rattle.capture_log.proofs.Refusals.{passed_exactly}
use Rattle.capture_tally.specs.Pieces.{most, answer_to}
use Rattle.capture_ages.specs.declared.Watch.{Watch}
use Rattle.capture_ages.specs.Clock.{began}
use Rattle.capture_watch.specs.Follow.{Seen}
use Rattle.report_phrases.specs.Phrases.{refusal_text}
use Rattle.report_capture.specs.Shown.{capture_refusal}
use Rattle.report_beside.specs.declared.Hearing.{Hearing}
use Rattle.report_beside.specs.declared.Begun.{Begun}
use Rattle.report_beside.specs.declared.Begun.TheVariants as begun
use Rattle.report_beside.specs.declared.Heard.{Heard}
use Rattle.report_beside.specs.declared.Heard.TheVariants as told
use Rattle.report_beside.specs.declared.Reported.{Reported}
use Rattle.report_beside.specs.declared.Reported.TheVariants as reported
use Rattle.report_beside.specs.Whole.{Tally, none, unheard, seen_after, waiting, after, text_of, clean_of, laid, limit_of, figures, tally_of, watch_of, heard_report, heard_clean, laid_report, laid_clean, beside_report, beside_clean}
use Rattle.text.specs.Text.{over}
use Rattle.report_beside.specs.Steps.{last, begun_as, begun_text, heard_as, heard_text, heard_tally, reported_as}
use Rattle.report_beside.specs.Kept.{Kept, Refuses, Ends, Begins, Hears, Reports, Holds, Tells}
use Rattle.report_beside.specs.Kept.Ends.{whole, at_last}
use Rattle.report_beside.proofs.Pieces.{seen_none, after_none, joined_passes, joined_refused, refused_behind, seen_joined, after_joined}
use Rattle.std.specs.declared.result.Result.TheVariants.{Ok, Err}
use Rattle.common.specs.Checks.{refusal}
use Rattle.std.specs.declared.result.Result.{Result}
use Rattle.common.specs.declared.Refusal.{Refusal}
use Rattle.std.specs.Bool.{⊤}

-- ---- The report, case by case

module _ (urgent : Bool) (s : List ℕ) where
  -- the sheet is refused, whatever the capture is
  pub sheet_refused : (n p : ℕ) → laid urgent s ≡ Not n p → (c : List ℕ) → (beside_report urgent s c ≡ refusal_text n p) × (beside_clean urgent s c ≡ false)
  unfolding beside_report beside_clean
  sheet_refused n p e c = (ap (λ (o : Outcome). laid_report urgent o c) e, ap (λ (o : Outcome). laid_clean urgent o c) e)

  module _ (H : Sheet) (e : laid urgent s ≡ Read H) (c : List ℕ) where
    pub capture_refused : (n p : ℕ) → heard c (length H.streams) fresh ≡ Refused n p → (beside_report urgent s c ≡ capture_refusal n p) × (beside_clean urgent s c ≡ false)
    unfolding beside_report beside_clean
    capture_refused n p f = (
      ap (λ (o : Outcome). laid_report urgent o c) e ∙ ap (λ (v : Verdict). heard_report urgent v H c) f,
      ap (λ (o : Outcome). laid_clean urgent o c) e ∙ ap (λ (v : Verdict). heard_clean urgent v H c) f,
    )

    pub capture_passed : heard c (length H.streams) fresh ≡ Passed
        → (beside_report urgent s c ≡ text_of urgent (length H.streams) (figures H master_of) (figures H (limit_of urgent)) (watch_of H c) (tally_of urgent H c))
        × (beside_clean urgent s c ≡ clean_of (length H.streams) (figures H (limit_of urgent)) (watch_of H c) (tally_of urgent H c))
    unfolding beside_report beside_clean
    capture_passed f = (
      ap (λ (o : Outcome). laid_report urgent o c) e ∙ ap (λ (v : Verdict). heard_report urgent v H c) f,
      ap (λ (o : Outcome). laid_clean urgent o c) e ∙ ap (λ (v : Verdict). heard_clean urgent v H c) f,
    )

-- a sheet has 800 streams at most
pub streams_few : (urgent : Bool) (s : List ℕ) (H : Sheet) → laid urgent s ≡ Read H → length H.streams ≤ most
unfolding segment_of
streams_few true s H e = (urgently_declared s most H e).number_to
streams_few false s H e = (bounded_declared s most H e).number_to

-- the text of a refusal is stored, and it is the report
refuses : {urgent : Bool} {s c t old new : List ℕ} {n : ℕ} → (beside_report urgent s c ≡ t) × (beside_clean urgent s c ≡ false) → n ≡ length t → new ≡ over t old → Refuses urgent s c old new n
refuses {urgent} {s} {c} {t} {old} {new} {n} e l w = record {
  is_refused = e.1;
  length_is = l ∙ ap length (sym e.0);
  text_is = w ∙ ap (λ (x : List ℕ). over x old) (sym e.0);
}

-- ---- Beginning

-- the lent runs behind it, and the text
module _ (urgent : Bool) (s : List ℕ) (r : Begun) (old new masters R T J : List ℕ) (k : Tally) where
  pub begins : r ≡ begun_as urgent (laid urgent s) → new ≡ begun_text (laid urgent s) old → masters ≡ stream_run (laid urgent s) master_of none → R ≡ stream_run (laid urgent s) (limit_of urgent) none
      → T ≡ stream_run (laid urgent s) spacing_of none → J ≡ stream_run (laid urgent s) jitter_of none → k ≡ unheard → Begins urgent s r old new masters R T J k
  unfolding tally_of watch_of
  begins = by (laid urgent s) refl
    where
      by : (o : Outcome) → laid urgent s ≡ o → r ≡ begun_as urgent o → new ≡ begun_text o old → masters ≡ stream_run o master_of none → R ≡ stream_run o (limit_of urgent) none
          → T ≡ stream_run o spacing_of none → J ≡ stream_run o jitter_of none → k ≡ unheard → Begins urgent s r old new masters R T J k
      by (Read H) e a t m b d j u =
          subst (λ (x : Begun). Begins urgent s x old new masters R T J k) (sym a)
          (record {
            sheet = H;
            is_laid = e;
            passes = (passed_exactly [] (length H.streams)).1 (record { each = λ j l. absurd (omega arith) });
            rule_is = refl;
            streams_are = refl;
            bytes_are = refl;
            watch_is = ap (λ (x : Seen). x.watch) (sym (seen_none (figures H spacing_of) (figures H jitter_of)));
            masters_are = m;
            bounds_are = b;
            spacings_are = d;
            jitters_are = j;
            tally_is = u ∙ sym (after_none (figures H (limit_of urgent)) (figures H spacing_of) (figures H jitter_of));
          })
      by (Not n p) e a t m b d j u =
          subst (λ (x : Begun). Begins urgent s x old new masters R T J k) (sym a) (λ c. refuses (sheet_refused urgent s n p e c) refl t)

-- ---- Hearing a piece

module _ {urgent : Bool} {s c masters R T J : List ℕ} {h : Hearing} {k : Tally} (kept : Kept urgent s c h masters R T J k) (p : List ℕ) where
  abbrev H : Sheet
  H = kept.sheet

  abbrev n : ℕ
  n = length H.streams

  abbrev answer : Result ⊤ Refusal
  answer = answer_to p h.streams (waiting k)

  few : n ≤ most
  few = streams_few urgent s H kept.is_laid

  answer_is : answer ≡ answer_to p n (waiting (tally_of urgent H c))
  answer_is =
      ap (λ (m : ℕ). answer_to p m (waiting k)) kept.streams_are
      ∙ ap (λ (x : Tally). answer_to p n (waiting x)) kept.tally_is

  seen_is : seen_after p T J h.watch k.asked k.lead ≡ seen_after (c ++ p) (figures H spacing_of) (figures H jitter_of) began none none
  unfolding watch_of tally_of
  seen_is =
      ap (λ (x : List ℕ). seen_after p x J h.watch k.asked k.lead) kept.spacings_are
      ∙ (ap (λ (x : List ℕ). seen_after p (figures H spacing_of) x h.watch k.asked k.lead) kept.jitters_are
      ∙ (ap (λ (x : Watch). seen_after p (figures H spacing_of) (figures H jitter_of) x k.asked k.lead) kept.watch_is
      ∙ (ap (λ (x : Tally). seen_after p (figures H spacing_of) (figures H jitter_of) (watch_of H c) x.asked x.lead) kept.tally_is
      ∙ sym (seen_joined c p n few kept.passes (figures H (limit_of urgent)) (figures H spacing_of) (figures H jitter_of)))))

  tally_then : after p R T J h.watch k ≡ tally_of urgent H (c ++ p)
  unfolding watch_of tally_of
  tally_then =
      ap (λ (x : List ℕ). after p x T J h.watch k) kept.bounds_are
      ∙ (ap (λ (x : List ℕ). after p (figures H (limit_of urgent)) x J h.watch k) kept.spacings_are
      ∙ (ap (λ (x : List ℕ). after p (figures H (limit_of urgent)) (figures H spacing_of) x h.watch k) kept.jitters_are
      ∙ (ap (λ (x : Watch). after p (figures H (limit_of urgent)) (figures H spacing_of) (figures H jitter_of) x k) kept.watch_is
      ∙ (ap (after p (figures H (limit_of urgent)) (figures H spacing_of) (figures H jitter_of) (watch_of H c)) kept.tally_is
      ∙ sym (after_joined c p n few kept.passes (figures H (limit_of urgent)) (figures H spacing_of) (figures H jitter_of))))))

  -- it is taken
  pub still_kept : answer ≡ Ok tt → (k' : Tally) → k' ≡ after p R T J h.watch k
      → Kept urgent s (c ++ p) (record { urgent = h.urgent; streams = h.streams; bytes = h.bytes + length p; watch = (seen_after p T J h.watch k.asked k.lead).watch }) masters R T J k'
  unfolding watch_of tally_of
  still_kept e k' q = record {
    sheet = H;
    is_laid = kept.is_laid;
    passes = joined_passes c p n few kept.passes (figures H (limit_of urgent)) (figures H spacing_of) (figures H jitter_of) (sym answer_is ∙ e);
    rule_is = kept.rule_is;
    streams_are = kept.streams_are;
    bytes_are = omega (arith, kept.bytes_are, length-append c p);
    watch_is = ap (λ (x : Seen). x.watch) seen_is;
    masters_are = kept.masters_are;
    bounds_are = kept.bounds_are;
    spacings_are = kept.spacings_are;
    jitters_are = kept.jitters_are;
    tally_is = q ∙ tally_then;
  }

  -- it is refused, at place q
  module _ (r q : ℕ) (e : answer ≡ Err (refusal r q)) where
    verdict_then : (rest : List ℕ) → Ends p rest → heard ((c ++ p) ++ rest) n fresh ≡ Refused r (length c + q)
    unfolding tally_of
    verdict_then rest (whole m long) = refused_behind c p n few kept.passes (figures H (limit_of urgent)) (figures H spacing_of) (figures H jitter_of) r q m long (sym answer_is ∙ e) rest
    verdict_then rest at_last =
        rw (append-nil (c ++ p)) (joined_refused c p n few kept.passes (figures H (limit_of urgent)) (figures H spacing_of) (figures H jitter_of) r q (sym answer_is ∙ e))

    pub then_refused : (rest : List ℕ) → Ends p rest
        → (beside_report urgent s ((c ++ p) ++ rest) ≡ capture_refusal r (h.bytes + q)) × (beside_clean urgent s ((c ++ p) ++ rest) ≡ false)
    then_refused rest ends =
        let place : length c + q ≡ h.bytes + q = omega (arith, kept.bytes_are) in
        capture_refused urgent s H kept.is_laid ((c ++ p) ++ rest) r (h.bytes + q) (verdict_then rest ends ∙ ap (Refused r) place)

  -- whatever is answered
  module _ (x : Heard) (old new : List ℕ) (k' : Tally) where
    pub hears : let short = ltb h.bytes last in
        x ≡ heard_as short answer h (length p) (seen_after p T J h.watch k.asked k.lead).watch → new ≡ heard_text short answer h.bytes old
        → k' ≡ heard_tally short answer (after p R T J h.watch k) k → Hears urgent s c p x old new masters R T J k'
    hears = by (ltb h.bytes last) refl answer refl
      where
        by : (b : Bool) → ltb h.bytes last ≡ b → (a : Result ⊤ Refusal) → answer ≡ a → x ≡ heard_as b a h (length p) (seen_after p T J h.watch k.asked k.lead).watch
            → new ≡ heard_text b a h.bytes old → k' ≡ heard_tally b a (after p R T J h.watch k) k → Hears urgent s c p x old new masters R T J k'
        by false l a e y t q =
            subst (λ (z : Heard). Hears urgent s c p z old new masters R T J k') (sym y) (omega (arith, ltb-false h.bytes last l, kept.bytes_are))
        by true l (Ok all) e y t q =
            subst (λ (z : Heard). Hears urgent s c p z old new masters R T J k') (sym y) (omega (arith, ltb-true h.bytes last l, kept.bytes_are), still_kept e k' q)
        by true l (Err r) e y t u =
            subst (λ (z : Heard). Hears urgent s c p z old new masters R T J k') (sym y) (λ rest ends. refuses (then_refused r.no r.place e rest ends) refl t)

-- ---- Reporting

module _ {urgent : Bool} {s c masters R T J : List ℕ} {h : Hearing} {k : Tally} (kept : Kept urgent s c h masters R T J k) where
  text_is : text_of h.urgent h.streams masters R h.watch k ≡ beside_report urgent s c
  text_is =
      ap (λ (b : Bool). text_of b h.streams masters R h.watch k) kept.rule_is
      ∙ (ap (λ (n : ℕ). text_of urgent n masters R h.watch k) kept.streams_are
      ∙ (ap (λ (x : List ℕ). text_of urgent (length kept.sheet.streams) x R h.watch k) kept.masters_are
      ∙ (ap (λ (x : List ℕ). text_of urgent (length kept.sheet.streams) (figures kept.sheet master_of) x h.watch k) kept.bounds_are
      ∙ (ap (λ (w : Watch). text_of urgent (length kept.sheet.streams) (figures kept.sheet master_of) (figures kept.sheet (limit_of urgent)) w k) kept.watch_is
      ∙ (ap (text_of urgent (length kept.sheet.streams) (figures kept.sheet master_of) (figures kept.sheet (limit_of urgent)) (watch_of kept.sheet c)) kept.tally_is
      ∙ sym (capture_passed urgent s kept.sheet kept.is_laid c kept.passes).0)))))

  clean_is : clean_of h.streams R h.watch k ≡ beside_clean urgent s c
  clean_is =
      ap (λ (n : ℕ). clean_of n R h.watch k) kept.streams_are
      ∙ (ap (λ (x : List ℕ). clean_of (length kept.sheet.streams) x h.watch k) kept.bounds_are
      ∙ (ap (λ (w : Watch). clean_of (length kept.sheet.streams) (figures kept.sheet (limit_of urgent)) w k) kept.watch_is
      ∙ (ap (clean_of (length kept.sheet.streams) (figures kept.sheet (limit_of urgent)) (watch_of kept.sheet c)) kept.tally_is
      ∙ sym (capture_passed urgent s kept.sheet kept.is_laid c kept.passes).1)))

  pub reports : (r : Reported) (old new : List ℕ) → let text = text_of h.urgent h.streams masters R h.watch k in
      r ≡ reported_as (clean_of h.streams R h.watch k) (length text) → new ≡ over text old → Reports urgent s c r old new
  reports r old new a w = record {
    says = a ∙ (ap (λ (b : Bool). reported_as b (length (text_of h.urgent h.streams masters R h.watch k))) clean_is ∙ ap (λ (x : List ℕ). reported_as (beside_clean urgent s c) (length x)) text_is);
    text_is = w ∙ ap (λ (x : List ℕ). over x old) text_is;
  }

-- ---- What a program holds and writes

front : (t old : List ℕ) {new : List ℕ} {n : ℕ} → n ≡ length t → new ≡ over t old → take n new ≡ t
front t old l w = rw (l, w) (take-append_seam t (drop (length t) old))

tells_refused : {urgent : Bool} {s c old new : List ℕ} {n : ℕ} → Refuses urgent s c old new n → Tells urgent s new n false
tells_refused {urgent} {s} {c} {old} x = record { capture = c; text_is = front (beside_report urgent s c) old x.length_is x.text_is; says = sym x.is_refused }

-- behind the sheet
module _ (urgent : Bool) (s old new masters R T J : List ℕ) (k : Tally) (x : Begun) (b : Begins urgent s x old new masters R T J k) where
  pub begun_holds : (h : Hearing) → x ≡ begun.On h → Holds urgent s h masters R T J k
  begun_holds h e = record { capture = []; kept = subst (λ (y : Begun). Begins urgent s y old new masters R T J k) e b }

  pub begun_tells : (n : ℕ) → x ≡ begun.Refused n → Tells urgent s new n false
  begun_tells n e = tells_refused (subst (λ (y : Begun). Begins urgent s y old new masters R T J k) e b [])

-- behind a piece
module _ {urgent : Bool} {s masters R T J : List ℕ} {h : Hearing} {k : Tally} (held : Holds urgent s h masters R T J k) (p : List ℕ) (x : Heard) (old new : List ℕ) (k' : Tally)
    (clause : (urgent : Bool) (s c masters : List ℕ) → Kept urgent s c h masters R T J k → Hears urgent s c p x old new masters R T J k') where
  hears_it : Hears urgent s held.capture p x old new masters R T J k'
  hears_it = clause urgent s held.capture masters held.kept

  module _ (next : Hearing) (e : x ≡ told.On next) where
    on : (length held.capture < last) × Kept urgent s (held.capture ++ p) next masters R T J k'
    on = subst (λ (y : Heard). Hears urgent s held.capture p y old new masters R T J k') e hears_it

    pub heard_holds : Holds urgent s next masters R T J k'
    heard_holds = record { capture = held.capture ++ p; kept = on.1 }

    -- its bytes are counted, and they can be
    pub heard_counts : (h.bytes < last) × (next.bytes ≡ h.bytes + length p)
    heard_counts = (
      omega (arith, on.0, held.kept.bytes_are),
      omega (arith, on.1.bytes_are, held.kept.bytes_are, length-append held.capture p),
    )

  pub heard_tells : (n : ℕ) → x ≡ told.Refused n → Tells urgent s new n false
  heard_tells n e = tells_refused (subst (λ (y : Heard). Hears urgent s held.capture p y old new masters R T J k') e hears_it [] at_last)

-- behind the last one
module _ {urgent : Bool} {s masters R T J : List ℕ} {h : Hearing} {k : Tally} (held : Holds urgent s h masters R T J k) (r : Reported) (old new : List ℕ)
    (reported-it : Reports urgent s held.capture r old new) where
  abbrev c : List ℕ
  c = held.capture

  -- the answer says whether it is accepted
  pub clean_tells : (n : ℕ) → r ≡ reported.Clean n → Tells urgent s new n true
  clean_tells n e = by (beside_clean urgent s c) refl (sym e ∙ reported-it.says)
    where
      by : (b : Bool) → beside_clean urgent s c ≡ b → reported.Clean n ≡ reported_as b (length (beside_report urgent s c)) → Tells urgent s new n true
      by true f q =
          let l : n ≡ length (beside_report urgent s c) = cc in
          record { capture = c; text_is = front (beside_report urgent s c) old l reported-it.text_is; says = sym f }
      by false f q = let z : ◌≡◌ {A = ℕ} 0 1 = cc in absurd (omega arith)

  pub faulty_tells : (n : ℕ) → r ≡ reported.Faulty n → Tells urgent s new n false
  faulty_tells n e = by (beside_clean urgent s c) refl (sym e ∙ reported-it.says)
    where
      by : (b : Bool) → beside_clean urgent s c ≡ b → reported.Faulty n ≡ reported_as b (length (beside_report urgent s c)) → Tells urgent s new n false
      by true f q = let z : ◌≡◌ {A = ℕ} 0 1 = cc in absurd (omega arith)
      by false f q =
          let l : n ≡ length (beside_report urgent s c) = cc in
          record { capture = c; text_is = front (beside_report urgent s c) old l reported-it.text_is; says = sym f }
