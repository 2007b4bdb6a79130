-- The P-NET planner's answer, case by case, from plain facts. Assumes nothing.
use mathlib.Core.Path.{◌≡◌, refl, sym, ap, ◌∙◌, subst}
use mathlib.Core.Bool.{Bool, true, false, not, ◌||◌}
use mathlib.Core.List.{List}
use Prim.Native.Nat.{ℕ, ◌+◌, ◌-◌, ◌*◌, ◌≤◌, ◌<◌}
use native.Mathlib.Omega.{arith}
use borrow.Author.Tests.{ltb-false, le-ltb, le-leb, lt-leb, eq-eqb, ne_eqb}
use lib.ListN.{length, replicate}
use lib.Dec.{ltb, eqb}
use Rattle.common.specs.Checks.{verdict, Verdict}
use Rattle.common.proofs.Checks.{Applies, refused_if, passed_if}
use Rattle.common.proofs.Checks.Applies.{here, later}
use Rattle.common.proofs.Checks.Clear.{none, and}
use Rattle.sheet_record.specs.Kinds.{pnet}
use Rattle.sheet_rules.specs.Sheets.{Sheet, bus_in, masters_of}
use Rattle.sheet_rules.specs.Whole.{Outcome, or_else, reading}
use Rattle.sheet_rules.specs.Ready.{sheet_in, edition_at}
use Rattle.sheet_read.proofs.Taken.{ready_edition}
use Rattle.sheet_rules.specs.Whole.Outcome.{Read, Not}
use Rattle.common.specs.Runs.{filled}
use Rattle.common.proofs.Sums.{upto_same}
use Rattle.common.proofs.Runs.{filled_same, get_d_tab}
use Rattle.common.proofs.Firsts.{first_is}
use Rattle.pnet_rules.specs.Segment as Segment
use Rattle.pnet_rules.specs.Segment.{Segment, segment_of, count, longest, charged, turn, bound}
use Rattle.pnet_rules.specs.Refined.{refined, rounds}
use Rattle.pnet_rules.specs.Limits.{Declared}
use Rattle.pnet_rules.proofs.Holds.{longest_at_most}
use Rattle.pnet_plan.specs.declared.answer.Plan.{Plan}
use Rattle.pnet_plan.specs.Planned.{first_late, plan_checks, planned_by, planned, plan_of, at_place, run_of}
use Rattle.units.specs.declared.BitPeriods.{BitPeriods}
use Rattle.pnet_turn.specs.Turn.{at, charged_in, turn_of}
use Rattle.pnet_turn.proofs.Charges.{charged_same, turn_same}
use Rattle.pnet_search.specs.Arrays.{turn_in, bound_in, refined_in, rounds_in, Kept, Slack}
use Rattle.pnet_plan.specs.Arrays.{segment_in, Sheeted, SetOut, Grouped}
use Rattle.pnet_plan.proofs.Bytes.{declares, number_is}
use Rattle.pnet_plan.proofs.Gathering.{grouped_none}
use Rattle.pnet_plan.proofs.Tied.{Laid, kept, turn_tied, slack_tied, bound_tied, rounds_tied, refined_tied}
use Rattle.std.specs.declared.result.Result.TheVariants.{Ok, Err}
use Rattle.common.specs.Checks.{refusal}
use Rattle.std.specs.declared.result.Result.{Result}
use Rattle.common.specs.declared.Refusal.{Refusal}

module _ (s : List ℕ) (la lb lc : ℕ) where
  pub planned_unread : (n p : ℕ) → reading s ≡ Not n p → planned s la lb lc ≡ Not n p
  unfolding planned
  planned_unread n p e = ap (λ (o : Outcome). planned_by o la lb lc) e

  module _ (H : Sheet) (e : reading s ≡ Read H) where
    checked : planned s la lb lc ≡ or_else (verdict (plan_checks H la lb lc)) (Read H)
    unfolding planned
    checked = ap (λ (o : Outcome). planned_by o la lb lc) e

    refused : (n p : ℕ) → Applies (plan_checks H la lb lc) n p → planned s la lb lc ≡ Not n p
    refused n p a = checked ∙ rw (refused_if a)

    pub planned_other : (bus_in H ≡ pnet → ⊥) → planned s la lb lc ≡ Not 3 0
    unfolding plan_checks
    planned_other k = refused 3 0 (here (rw (ne_eqb (bus_in H) pnet k)))

    module _ (k : bus_in H ≡ pnet) where
      right_kind : not (eqb (bus_in H) pnet) ≡ false
      right_kind = rw (eq-eqb (bus_in H) pnet k)

      too_short : (masters_of H ≤ la → masters_of H ≤ lb → masters_of H ≤ lc → ⊥) → planned s la lb lc ≡ Not 13 (masters_of H)
      unfolding plan_checks
      too_short l = refused 13 (masters_of H) (later right_kind (here (one_short (ltb la (masters_of H)) (ltb lb (masters_of H)) (ltb lc (masters_of H)) refl refl refl)))
        where
          one_short : (a b c : Bool) → ltb la (masters_of H) ≡ a → ltb lb (masters_of H) ≡ b → ltb lc (masters_of H) ≡ c → (a || (b || c)) ≡ true
          one_short true b c p q r = refl
          one_short false true c p q r = refl
          one_short false false true p q r = refl
          one_short false false false p q r = absurd (l (ltb-false la (masters_of H) p) (ltb-false lb (masters_of H) q) (ltb-false lc (masters_of H) r))

      pub planned_short : (N : ℕ) → N ≡ masters_of H → (N ≤ la → N ≤ lb → N ≤ lc → ⊥) → planned s la lb lc ≡ Not 13 N
      planned_short N e l = rw e (too_short (rw e at l))

      module _ (a : masters_of H ≤ la) (b : masters_of H ≤ lb) (c : masters_of H ≤ lc) where
        room : (ltb la (masters_of H) || (ltb lb (masters_of H) || ltb lc (masters_of H))) ≡ false
        room = rw (le-ltb la (masters_of H) a, le-ltb lb (masters_of H) b, le-ltb lc (masters_of H) c)

        pub planned_late : (p : ℕ) → p ≡ first_late (segment_of H) → p ≤ length H.streams → planned s la lb lc ≡ Not 8 p
        unfolding plan_checks
        planned_late p q l = rw q (refused 8 (first_late (segment_of H)) (later right_kind (later room (here (le-leb _ _ (rw q at l))))))

        pub planned_read : length H.streams < first_late (segment_of H) → planned s la lb lc ≡ Read H
        unfolding plan_checks
        planned_read l =
            let v : verdict (plan_checks H la lb lc) ≡ Verdict.Passed = passed_if (and right_kind (and room (and (lt-leb _ _ l) none))) in
            checked ∙ rw v

-- ---- The answer and the three runs together, as the code returns them

-- the answer r, and the runs a, b and c where x, y and z were lent
abbrev pub Returned : List ℕ → List ℕ → List ℕ → List ℕ → Result Plan Refusal → List ℕ → List ℕ → List ℕ → Type 0
Returned s x y z r a b c =
    let outcome = planned s (length x) (length y) (length z) in
    (r ≡ plan_of outcome) × (a ≡ run_of outcome bound x) × (b ≡ run_of outcome refined y) × (c ≡ run_of outcome rounds z)

module _ (s x y z : List ℕ) where
  pub returned_refused : (n p : ℕ) → planned s (length x) (length y) (length z) ≡ Not n p → Returned s x y z (Err (refusal n p)) x y z
  returned_refused n p e = (
    ap plan_of (sym e),
    ap (λ (o : Outcome). run_of o bound x) (sym e),
    ap (λ (o : Outcome). run_of o refined y) (sym e),
    ap (λ (o : Outcome). run_of o rounds z) (sym e),
  )

  module _ (e : planned s (length x) (length y) (length z) ≡ Read (sheet_in s)) (n : ℕ) (masters : n ≡ (segment_in s).masters) where
    run_read : (figure : Segment → ℕ → ℕ) (old run : List ℕ) → run ≡ filled (at_place (figure (segment_in s))) n old → run ≡ run_of (planned s (length x) (length y) (length z)) figure old
    unfolding segment_of
    run_read figure old run q =
        (q ∙ ap (λ (k : ℕ). filled (at_place (figure (segment_in s))) k old) masters) ∙ ap (λ (o : Outcome). run_of o figure old) (sym e)

    pub returned_read : (m : ℕ) → m ≡ (segment_in s).number → (a b c : List ℕ) → a ≡ filled (at_place (bound (segment_in s))) n x
        → b ≡ filled (at_place (refined (segment_in s))) n y → c ≡ filled (at_place (rounds (segment_in s))) n z → Returned s x y z (Ok (record { masters = n; streams = m })) a b c
    unfolding segment_of
    returned_read m number a b c ea eb ec =
        let r : Ok (record { masters = n; streams = m }) ≡ plan_of (Read (sheet_in s)) = ap (λ (x : ℕ). Ok (record { masters = x; streams = m })) masters ∙ ap (λ k. Ok (record { masters = masters_of (sheet_in s); streams = k })) number in
        (r ∙ ap plan_of (sym e), run_read bound x a ea, run_read refined y b eb, run_read rounds z c ec)

-- ---- Where the code ends with a segment's arrays

module _ {s : List ℕ} {N m first : ℕ} {counts longests : List ℕ} (h : Sheeted s N m first counts longests) where
  declared : Declared (segment_in s)
  declared = declares h.ready

  pub masters_few : N ≤ 32
  masters_few = omega (arith, h.masters_are, declared.masters_to)

  pub counts_at : (y : ℕ) → y ≤ 32 → at counts y ≡ count (segment_in s) y
  counts_at y l = rw h.counts_are (get_d_tab (count (segment_in s)) 33 y (omega arith))

  longests_at : (y : ℕ) → y ≤ 32 → at longests y ≡ longest (segment_in s) y
  longests_at y l = rw h.longests_are (get_d_tab (longest (segment_in s)) 33 y (omega arith))

  pub counts_small : (y : ℕ) → y ≤ 32 → at counts y ≤ 80
  counts_small y l = omega (arith, counts_at y l, declared.counts y)

  pub longests_small : (y : ℕ) → y ≤ 32 → at longests y ≤ 1548
  longests_small y l = omega (arith, longests_at y l, longest_at_most (segment_in s) declared y)

  edition_is : (e : ℕ) → e ≡ edition_at s → e ≡ (segment_in s).edition
  unfolding segment_of
  edition_is e q = q ∙ ready_edition h.ready refl

  -- V is that of the segment
  pub turn_is : (e : ℕ) → e ≡ edition_at s → (v : BitPeriods) → v ≡ turn_of counts longests N e → v.0 ≡ turn (segment_in s)
  turn_is e q = turn_same (segment_in s) declared counts longests N e h.masters_are (edition_is e q) counts_at longests_at

  module _ (e : ℕ) (q : e ≡ edition_at s) {charges ends : List ℕ} (o : SetOut counts (charged_in counts longests N e) N charges ends) where
    charges_at : (y : ℕ) → 1 ≤ y → y ≤ (segment_in s).masters → at charges y ≡ charged (segment_in s) y
    charges_at y lo hi =
        o.charges_are y lo (omega (arith, h.masters_are))
        ∙ charged_same (segment_in s) declared counts longests N e h.masters_are (edition_is e q) counts_at longests_at y lo hi

    -- nothing is placed yet
    pub grouped_first : (pairs : List ℕ) → 2 * m ≤ length pairs → Grouped (segment_in s) 0 ends (replicate 33 1000000000) pairs
    grouped_first pairs room =
        grouped_none (segment_in s) ends pairs o.ends_long (omega (arith, number_is h.ready))
        (λ y lo hi.
        o.ends_are y lo (omega (arith, h.masters_are))
        ∙ upto_same (at counts) (count (segment_in s)) (y - 1) (λ z a b. counts_at z (omega (arith, declared.masters_to))))

    module _ (v : ℕ) (ev : v ≡ turn (segment_in s)) {ends' slacks pairs : List ℕ} (placed : Grouped (segment_in s) m ends' slacks pairs) where
      laid : Laid (segment_in s) counts charges ends' slacks pairs
      laid =
          record {
            counts_are = counts_at;
            charges_are = charges_at;
            grouped = subst (λ (i : ℕ). Grouped (segment_in s) i ends' slacks pairs) (number_is h.ready) placed;
          }

      -- among N masters, for V
      v_is : turn_in charges (segment_in s).masters ≡ v
      v_is = turn_tied declared laid ∙ sym ev

      pub kept_all : Kept N v counts charges ends' pairs
      kept_all =
          subst (λ (k : ℕ). Kept k v counts charges ends' pairs) (sym h.masters_are)
          (subst (λ (x : ℕ). Kept (segment_in s).masters x counts charges ends' pairs) v_is (kept declared laid))

      module _ (late : ℕ) (first-late : late ≡ first_late (segment_in s)) (l : m < late) where
        passes : (x : ℕ) → 1 ≤ x → x ≤ (segment_in s).number → bound (segment_in s) ((segment_in s).stream x).master ≤ ((segment_in s).stream x).deadline
        unfolding first_late Segment.late
        passes x lo hi = ltb-false _ _ ((first_is (Segment.late (segment_in s)) (segment_in s).number 1).fails x lo (omega (arith, first-late, number_is h.ready)))

        pub slack_all : Slack N v counts ends' slacks pairs
        slack_all =
            subst (λ (k : ℕ). Slack k v counts ends' slacks pairs) (sym h.masters_are)
            (subst (λ (x : ℕ). Slack (segment_in s).masters x counts ends' slacks pairs) v_is (slack_tied declared laid passes))

        module _ (x y z : List ℕ) (rx : N ≤ length x) (ry : N ≤ length y) (rz : N ≤ length z) where
          filled_tied : (f g : ℕ → ℕ) (old run : List ℕ) → run ≡ filled (at_place f) N old → ((k : ℕ) → 1 ≤ k → k ≤ (segment_in s).masters → f k ≡ g k) → run ≡ filled (at_place g) N old
          filled_tied f g old run q e = q ∙ filled_same (at_place f) (at_place g) N old (λ i l'. e (i + 1) (omega arith) (omega (arith, h.masters_are)))

          pub returned_filled : (a b c : List ℕ) → a ≡ filled (at_place (bound_in counts charges N)) N x → b ≡ filled (at_place (refined_in counts charges ends' pairs N)) N y
              → c ≡ filled (at_place (rounds_in counts charges ends' pairs N)) N z → Returned s x y z (Ok (record { masters = N; streams = m })) a b c
          unfolding segment_of
          returned_filled a b c ea eb ec =
              let S = segment_in s in
              let d = declared in
              let en = h.masters_are in
              let o' =
              planned_read s (length x) (length y) (length z) (sheet_in s) h.ready.reads h.ready.on_bus (omega (arith, en)) (omega (arith, en)) (omega (arith, en))
              (omega (arith, h.ready.number, first-late)) in
              returned_read s x y z o' N en m (number_is h.ready) a b c
              (filled_tied (bound_in counts charges N) (bound S) x a ea (λ k lo hi. rw en (bound_tied d laid k (omega (arith, d.masters_to)))))
              (filled_tied (refined_in counts charges ends' pairs N) (refined S) y b eb (λ k lo hi. rw en (refined_tied d laid k lo hi)))
              (filled_tied (rounds_in counts charges ends' pairs N) (rounds S) z c ec (λ k lo hi. rw en (rounds_tied d laid k lo hi)))

  pub returned_late : (late : ℕ) → late ≡ first_late (segment_in s) → late ≤ m → (x y z : List ℕ) → N ≤ length x → N ≤ length y → N ≤ length z
      → Returned s x y z (Err (refusal 8 late)) x y z
  unfolding segment_of
  returned_late late el l x y z rx ry rz =
      let en = h.masters_are in
      let o =
      planned_late s (length x) (length y) (length z) (sheet_in s) h.ready.reads h.ready.on_bus (omega (arith, en)) (omega (arith, en)) (omega (arith, en)) late el
      (omega (arith, h.ready.number)) in
      returned_refused s x y z 8 late o
