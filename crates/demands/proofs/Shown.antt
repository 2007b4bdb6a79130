-- From the bytes of a sheet to the text of its report to the bus: where the planner accepts a P-NET sheet, the report has one line for each master
-- with streams, and in every run of the bus each request of that master is answered within the ns that the line shows. `report_of` is the text that
-- the program writes, by the contract of `report_sheet::report`; it lends a run of 32 places for each figure. Assumes nothing.
use Prim.Native.Nat.{ℕ, zero, suc, ◌+◌, ◌-◌, ◌≤◌, ◌<◌}
use mathlib.Core.Path.{◌≡◌, refl, sym, ap, ◌∙◌}
use mathlib.Core.Bool.{Bool, true, false, cond}
use mathlib.Core.List.{List, [], ◌++◌, append_assoc, Memᴰ}
use mathlib.Core.Logic.{◌⊎◌, inl, inr}
use native.Mathlib.Decide.{ℕ_discrete}
use native.Mathlib.Omega.{arith}
use lib.Dec.{eqb}
use lib.ListN.{get_or}
use borrow.Author.Tests.{ne_eqb}
use Rattle.sheet_rules.specs.Sheets.{Sheet, masters_of}
use Rattle.sheet_rules.specs.Whole.Outcome.{Read}
use Rattle.units.specs.Units.{bp, nanos_up}
use Rattle.units.specs.declared.BitPeriods.{BitPeriods}
use Rattle.units.specs.declared.Nanos.{Nanos}
use Rattle.units.proofs.Verdict.{promise_kept_in_ns}
use Rattle.units.proofs.Rounding.{nanos_cover}
use Rattle.pnet_rules.specs.Segment.{Segment, segment_of, count, bound}
use Rattle.pnet_rules.specs.Refined.{refined, rounds}
use Rattle.pnet_plan.specs.Planned.{planned}
use Rattle.pnet_plan.proofs.Refusals.{accepted_exactly}
use Rattle.pnet_run.specs.Run.{Request, Answer, Queues, Token, Run}
use Rattle.pnet_run.specs.Promise.{Spaced, Lasts, past, at_it, Answered, Accepted}
use Rattle.pnet_run.proofs.Demand.{each_request_is_answered_within_the_bound, each_request_is_answered_within_the_refined_figure}
use Rattle.text.specs.Text.{word, places, ◌·◌, texts}
use Rattle.report_phrases.specs.Phrases.{in_bp, in_ns, in_both, two_counts, name_of}
use Rattle.report_lines.specs.Lines.{master_line}
use Rattle.report_sheet.specs.Whole.{master_of, segment_report, first_bus, report_of, masters_of as lines}
use Rattle.report_sheet.proofs.Alike.{own_bus}
use Rattle.report_sheet.proofs.Segments.{masters_few}
use Rattle.demands.specs.Shown.{line_of, Stands, AnsweredWithin, Shows}
use Rattle.demands.proofs.Demand3.{accepted_on_bus}
use Rattle.demands.proofs.Lines.{Plain, plain_of, plain_if, plain_both, plain_places, plain_decimal, Lined, none, one, lined_both, such_later, among, Ended, ended, joined}

-- ---- From bp to ns

lasts_shorter : {t u v : ℕ} {y : Token} → v ≤ u → Lasts t y u → Lasts t y v
lasts_shorter l (past b) = past (omega arith)
lasts_shorter {t} {u} {v} {y} l (at_it e settled) = by (ℕ_discrete v t)
  where
    by : Dec (v ≡ t) → Lasts t y v
    by (yes f) = at_it f settled
    by (no f) = past (omega (arith, f))

-- what is answered within b is answered within its ns, rounded up
in_ns_law : {S : Segment} {k t : ℕ} {y : Token} {came : List Request} {went : List Answer} (b : BitPeriods) → Answered b S k t y came went
    → AnsweredWithin (nanos_up b) S k t y came went
in_ns_law b answered = record {
  in_time = λ a j own response e. promise_kept_in_ns (bp response) b (omega (arith, answered.in_time a j own, e));
  none_left = λ r j own span l lasts. answered.none_left r j own (lasts_shorter (omega (arith, l, (nanos_cover b).enough)) lasts);
}

both : {S : Segment} {k t : ℕ} {y : Token} {came : List Request} {went : List Answer} {b : BitPeriods} → Answered b S k t y came went
    → Answered b S k t y came went × AnsweredWithin (nanos_up b) S k t y came went
both {b = b} answered = (answered, in_ns_law b answered)

-- ---- From the segment to the text

-- a master's line as page 01 has it
line_is : (k : ℕ) (R W : BitPeriods) (m : ℕ) → master_line k R W m ≡ line_of k R (nanos_up R) W (nanos_up W) m ++ word "\n"
unfolding master_line two_counts in_both in_bp in_ns name_of
line_is k R W m = simp append_assoc

plain_name : (k : ℕ) → Plain (name_of k)
unfolding name_of
plain_name k = plain_both (plain_if (word "M") refl) (plain_places 2 k)

plain_line : (k : ℕ) (R : BitPeriods) (R_ns : Nanos) (W : BitPeriods) (W_ns : Nanos) (m : ℕ) → Plain (line_of k R R_ns W W_ns m)
plain_line k R R_ns W W_ns m =
    plain_both (plain_name k)
    (plain_both (plain_if (word " bound ") refl)
    (plain_both (plain_decimal R.0)
    (plain_both (plain_if (word " bp ") refl)
    (plain_both (plain_decimal R_ns.0)
    (plain_both (plain_if (word " ns refined ") refl)
    (plain_both (plain_decimal W.0)
    (plain_both (plain_if (word " bp ") refl)
    (plain_both (plain_decimal W_ns.0) (plain_both (plain_if (word " ns ") refl) (plain_both (plain_decimal m) (plain_if (word " rounds") refl)))))))))))

-- a name has two digits of its number
one_name : (k j : ℕ) (x y : List ℕ) → k < 100 → j < 100 → name_of k · x ≡ name_of j · y → k ≡ j
unfolding name_of places
one_name k j x y a b e =
    let tens = ap (λ (l : List ℕ). get_or l 1 0) e in
    let ones = ap (λ (l : List ℕ). get_or l 2 0) e in
    omega (arith, tens, ones)

not_the_first : (k : ℕ) (x : List ℕ) → name_of k · x ≡ word "P-NET segment" → ⊥
unfolding name_of
not_the_first k x e = let letter : ◌≡◌ {A = ℕ} 77 80 = ap (λ (l : List ℕ). get_or l 0 0) e in omega arith

module _ (S : Segment) where
  abbrev line_for : ℕ → List ℕ
  line_for k = line_of k (bp (bound S k)) (nanos_up (bp (bound S k))) (bp (refined S k)) (nanos_up (bp (refined S k))) (rounds S k)

  each_ended : (i : ℕ) → (master_of S (i + 1) ≡ []) ⊎ Ended (master_of S (i + 1))
  unfolding master_of
  each_ended i = by (eqb (count S (i + 1)) 0)
    where
      by : (b : Bool) → (cond b [] (master_line (i + 1) (bp (bound S (i + 1))) (bp (refined S (i + 1))) (rounds S (i + 1))) ≡ []) ⊎ Ended (cond b [] (master_line (i + 1) (bp (bound S (i + 1))) (bp (refined S (i + 1))) (rounds S (i + 1))))
      by true = inl refl
      by false = inr (line_for (i + 1), line_is (i + 1) (bp (bound S (i + 1))) (bp (refined S (i + 1))) (rounds S (i + 1)))

  some_line : (k : ℕ) → 1 ≤ count S k → master_of S k ≡ line_for k ++ word "\n"
  unfolding master_of
  some_line k some = rw (ne_eqb (count S k) 0 (λ e. omega arith)) (line_is k (bp (bound S k)) (bp (refined S k)) (rounds S k))

  stands : (k : ℕ) → 1 ≤ k → k ≤ S.masters → 1 ≤ count S k → Stands (line_for k) (word "P-NET segment\n" · lines S)
  unfolding lines
  stands k from to some =
      let i = k - 1 in
      let t : ℕ → List ℕ = λ j. master_of S (j + 1) in
      let next : k - 1 + 1 ≡ k = omega arith in
      let rest = among t S.masters i (omega arith) in
      let front = ended (word "P-NET segment\n") (word "P-NET segment", refl) t each_ended i in
      let here : t i ≡ line_for k ++ word "\n" = ap (master_of S) next ∙ some_line k some in
      record { before = front.0; after = rest.0; is = joined (word "P-NET segment\n") _ (texts t i) (t i) rest.0 front.0 (line_for k) rest.1 front.1 here }

  -- ---- And no other line has the master's name

  -- a line of the report: the first, or a master's
  abbrev Such : List ℕ → Type 0
  Such y = (y ≡ word "P-NET segment") ⊎ ((j : ℕ) × (j ≤ S.masters) × (y ≡ line_for j))

  own_line : (j : ℕ) → j ≤ S.masters → Lined Such (master_of S j)
  unfolding master_of
  own_line j to = by (eqb (count S j) 0)
    where
      by : (b : Bool) → Lined Such (cond b [] (master_line j (bp (bound S j)) (bp (refined S j)) (rounds S j)))
      by true = none
      by false = one (line_for j) [] (line_is j (bp (bound S j)) (bp (refined S j)) (rounds S j)) (plain_line j _ _ _ _ _) (inr (j, to, refl)) none

  lined : (n : ℕ) → n ≤ S.masters → Lined Such (texts (λ i. master_of S (i + 1)) n)
  unfolding texts
  lined zero l = none
  lined (suc n) l = lined_both (lined n (omega arith)) (own_line (n + 1) (omega arith))

  whole : Lined Such (word "P-NET segment\n" · lines S)
  unfolding lines
  whole = one (word "P-NET segment") (lines S) refl (plain_if (word "P-NET segment") refl) (inl refl) (lined S.masters (omega arith))

  one_line : (k : ℕ) → S.masters ≤ 32 → k ≤ S.masters → (rest : List ℕ) → (Memᴰ 10 rest → ⊥) → Stands (name_of k · rest) (word "P-NET segment\n" · lines S)
      → name_of k · rest ≡ line_for k
  one_line k few to rest plain there =
      by (such_later there.before (name_of k · rest) there.after (plain_both (plain_name k) (plain_of rest plain)) whole (sym there.is))
    where
      by : Such (name_of k · rest) → name_of k · rest ≡ line_for k
      by (inl e) = absurd (not_the_first k rest e)
      by (inr (j, most, e)) = let same : k ≡ j = one_name k j rest _ (omega arith) (omega arith) e in e ∙ ap line_for (sym same)

-- ---- The report and every run

module _ (s : List ℕ) (H : Sheet) (accepts : planned s 32 32 32 ≡ Read H) where
  report_is : report_of s ≡ word "P-NET segment\n" · lines (segment_of H)
  unfolding report_of segment_report
  report_is =
      let bus = ((accepted_exactly s 32 32 32 H).0 accepts).on_bus in
      let is_pnet : first_bus s ≡ 1 = own_bus s H bus.reads ∙ bus.pnet in
      rw (is_pnet, accepts)

  -- master k of 1..N has streams: 'Masters without streams have no line.'
  pub what_the_report_shows_is_kept : (k : ℕ) → 1 ≤ k → k ≤ masters_of H → 1 ≤ count (segment_of H) k
      → Shows (report_of s) (segment_of H) k (bp (bound (segment_of H) k)) (bp (refined (segment_of H) k)) (rounds (segment_of H) k)
  unfolding segment_of
  what_the_report_shows_is_kept k from to some =
      let S = segment_of H in
      let passed = (accepted_exactly s 32 32 32 H).0 accepts in
      let as_demanded : Accepted S = accepted_on_bus s H passed.on_bus passed.passes in
      record {
        line = rw report_is (stands S k from to some);
        only = λ rest plain there. one_line S k (masters_few s H accepts) to rest plain (rw report_is at there);
        bound_kept = λ run spaced. both (each_request_is_answered_within_the_bound H as_demanded k run spaced);
        refined_kept = λ run spaced. both (each_request_is_answered_within_the_refined_figure H as_demanded k run spaced);
      }
