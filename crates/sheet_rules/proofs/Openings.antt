-- Page 02, Asks 8 and 10: the settings of a sheet whose records pass. The edition stands just behind a P-NET segment, once; longest messages stand just
-- behind a ring of kind 9, no two of one master. Assumes nothing.
use mathlib.Core.Path.{◌≡◌, refl, sym, ap, ◌∙◌, subst}
use mathlib.Core.Bool.{Bool, true, false, ◌&&◌}
use mathlib.Core.List.{List, [], ◌∷◌}
use mathlib.Core.Logic.{◌⊎◌, inl, inr}
use Prim.Native.Nat.{ℕ, zero, suc, ◌+◌, ◌≤◌, ◌<◌}
use native.Mathlib.Nat.{not-suc-le-zero}
use native.Mathlib.Omega.{arith}
use borrow.Author.Tests.{eqb-true, ltb-false}
use lib.Dec.{eqb, ltb}
use lib.ListN.{length, get_or, get_or-append}
use Rattle.common.specs.Sums.{when}
use Rattle.sheet_record.specs.declared.Record.{Record}
use Rattle.sheet_record.specs.Kinds.{decode, is_setting, is_stream, nothing}
use Rattle.sheet_record.proofs.Tables.{both_true}
use Rattle.sheet_record.proofs.Parts.{setting_kinds}
use Rattle.sheet_ranges.specs.Ranges.{MessageRanges, OpenRingRanges}
use Rattle.sheet_ranges.proofs.Ranges.{message_ranges, open_ring_ranges}
use Rattle.sheet_rules.specs.Sheets.{having, sheet_of, bus_in, given, count_of, of_kind, fits, lacking, repeated}
use Rattle.sheet_rules.specs.Records.{records_in}
use Rattle.sheet_rules.specs.Whole.{place_of, records_of, before}
use Rattle.sheet_rules.proofs.Walk.{head_at, record_at}
use Rattle.sheet_rules.proofs.Counts.{count_more}
use Rattle.sheet_rules.proofs.Cases.{PassesAt, Upto, upto_front}
use Rattle.sheet_rules.proofs.Order.{Placed, fits_then, edition_fits, message_fits, stream_of, nth, head_some, adds_stream, adds_setting, behind_first, in_order, how_many}
use Rattle.sheet_rules.proofs.Order.Placed.{as_first, as_setting, as_stream}
use Rattle.sheet_rules.proofs.Messages.{few_once, Short}

pub counted : (r : Record) → r.kind ≡ 8 → of_kind 8 (r ∷ []) ≡ 1
unfolding of_kind
counted r e = rw e

-- what is picked is of such a kind
having_such : (such : ℕ → Bool) (rs : List Record) (i : ℕ) → i < length (having such rs) → such (get_or (having such rs) i nothing).kind ≡ true
unfolding having
having_such such [] i l = absurd (not-suc-le-zero l)
having_such such (r ∷ rs) i l = split (such r.kind) refl (having_such such rs) i l
  where
    more : such r.kind ≡ true → ((j : ℕ) → j < length (having such rs) → such (get_or (having such rs) j nothing).kind ≡ true)
        → (j : ℕ) → j < length (r ∷ having such rs) → such (get_or (r ∷ having such rs) j nothing).kind ≡ true
    more e ih zero k = e
    more e ih (suc j) k = ih j (omega arith)

    split : (b : Bool) → such r.kind ≡ b → ((j : ℕ) → j < length (having such rs) → such (get_or (having such rs) j nothing).kind ≡ true)
        → (j : ℕ) → j < length (having such (r ∷ rs)) → such (get_or (having such (r ∷ rs)) j nothing).kind ≡ true
    split true e ih j k = rw e (more e ih j (rw e at k))
    split false e ih j k = rw e (ih j (rw e at k))

module _ (s : List ℕ) where
  -- the settings among the first record and m more
  pub data Settled (m : ℕ) : Type 0 where
    -- none: then the record behind the first, if there is one, is a stream
    unset : (before s (suc m)).settings ≡ [] → (1 ≤ m → is_stream (nth s 1).kind ≡ true) → Settled m
    -- the edition
    set : 1 ≤ m → (decode s 0).kind ≡ 1 → (nth s 1).kind ≡ 8 → (before s (suc m)).settings ≡ nth s 1 ∷ [] → Settled m
    -- longest messages
    own : (decode s 0).kind ≡ 9 → Settled m

  -- what a setting that fits behind m records stands behind
  module _ (m : ℕ) (fit : fits (before s (suc m)) (nth s (suc m)).kind ≡ true) where
    -- the edition: a segment, no stream, no edition
    pub edition_right : (nth s (suc m)).kind ≡ 8 → ((before s (suc m)).head.kind ≡ 1) × (length (before s (suc m)).streams ≡ 0) × (of_kind 8 (before s (suc m)).settings ≡ 0)
    edition_right k =
        let S = before s (suc m) in
        let e : (eqb S.head.kind 1 && (eqb (length S.streams) 0 && eqb (of_kind 8 S.settings) 0)) ≡ true = sym (edition_fits S) ∙ (rw k at fit) in
        let a = both_true _ _ e in
        let b = both_true _ _ a.1 in
        (eqb-true _ 1 a.0, eqb-true _ 0 b.0, eqb-true _ 0 b.1)

    -- a longest message: a ring of kind 9, no stream
    pub message_right : (nth s (suc m)).kind ≡ 10 → ((before s (suc m)).head.kind ≡ 9) × (length (before s (suc m)).streams ≡ 0)
    message_right k =
        let S = before s (suc m) in
        let e : (eqb S.head.kind 9 && (eqb (length S.streams) 0 && true)) ≡ true = sym (message_fits S) ∙ (rw k at fit) in
        let a = both_true _ _ e in
        let b = both_true _ _ a.1 in
        (eqb-true _ 9 a.0, eqb-true _ 0 b.0)

    -- behind a segment it is the edition
    pub edition_here : (decode s 0).kind ≡ 1 → is_setting (nth s (suc m)).kind ≡ true → (nth s (suc m)).kind ≡ 8
    edition_here f is = by (setting_kinds (nth s (suc m)).kind is)
      where
        by : (nth s (suc m)).kind ≡ 8 ⊎ (nth s (suc m)).kind ≡ 10 → (nth s (suc m)).kind ≡ 8
        by (inl k) = k
        by (inr k) = absurd (omega (arith, (message_right k).0, ap (λ (r : Record). r.kind) (head_at s m)))

    -- behind a ring of kind 9 a longest message
    pub message_here : (decode s 0).kind ≡ 9 → is_setting (nth s (suc m)).kind ≡ true → (nth s (suc m)).kind ≡ 10
    message_here f is = by (setting_kinds (nth s (suc m)).kind is)
      where
        by : (nth s (suc m)).kind ≡ 8 ⊎ (nth s (suc m)).kind ≡ 10 → (nth s (suc m)).kind ≡ 10
        by (inl k) = absurd (omega (arith, (edition_right k).0, ap (λ (r : Record). r.kind) (head_at s m)))
        by (inr k) = k

  -- the edition fits behind the segment
  pub edition_first : PassesAt s 0 → (decode s 0).kind ≡ 1 → fits (before s 1) 8 ≡ true
  unfolding of_kind
  edition_first p e =
      let b = behind_first s p in
      edition_fits (before s 1) ∙ (rw (head_at s 0, e, b.0, b.1) refl)

  -- and a longest message behind a ring of kind 9, as long as no stream came
  pub message_first : (m : ℕ) → (decode s 0).kind ≡ 9 → length (before s (suc m)).streams ≡ 0 → fits (before s (suc m)) 10 ≡ true
  message_first m e z = message_fits (before s (suc m)) ∙ (rw (head_at s m, e, z) refl)

  pub settled : (m : ℕ) → Upto s (suc m) → Settled m
  settled zero u = unset (behind_first s (u.passed 0 (omega arith))).0 (λ l. absurd (omega arith))
  settled (suc m) u = step (settled m earlier) (fits_then (before s (suc m)) (nth s (suc m)).kind p.is_right)
    where
      p : PassesAt s (suc m)
      p = u.passed (suc m) (omega arith)

      earlier : Upto s (suc m)
      earlier = upto_front s (suc (suc m)) (suc m) (omega arith) u

      first_kind : (before s (suc m)).head.kind ≡ (decode s 0).kind
      first_kind = ap (λ (r : Record). r.kind) (head_at s m)

      -- a stream leaves the settings as they are
      stays : is_stream (nth s (suc m)).kind ≡ true → (before s (suc (suc m))).settings ≡ (before s (suc m)).settings
      stays e = (adds_stream s (suc m) e).0

      -- behind no setting, the edition is record 1
      edition : is_setting (nth s (suc m)).kind ≡ true → (before s (suc m)).settings ≡ [] → (nth s (suc m)).kind ≡ 8 ⊎ (nth s (suc m)).kind ≡ 10 → Settled (suc m)
      edition e none (inl k) =
          let r = edition_right m p.is_right k in
          let z : m ≡ 0 = omega (arith, how_many s m earlier, r.1, ap length none) in
          let one : suc m ≡ 1 = ap suc z in
          set (omega arith) (sym first_kind ∙ r.0) (rw one at k) ((adds_setting s (suc m) e).0 ∙ (rw (none, one) refl))
      edition e none (inr k) = own (sym first_kind ∙ (message_right m p.is_right k).0)

      step : Settled m → Placed (before s (suc m)) (nth s (suc m)).kind → Settled (suc m)
      step q (as_first e z) = absurd (head_some s m earlier z)
      step (own e) (as_setting f z) = own e
      step (own e) (as_stream f) = own e
      step (unset none first) (as_setting e z) = edition e none (setting_kinds (nth s (suc m)).kind e)
      step (set l f k one) (as_setting e z) =
          absurd (omega (arith, ap (of_kind 8) one, (edition_right m p.is_right (edition_here m p.is_right f e)).2, counted (nth s 1) k))
      step (unset none first) (as_stream e) =
          let its = (stream_of (bus_in (before s (suc m))) (nth s (suc m)).kind e).0 in
          unset (stays its ∙ none) (λ l. at_one m refl its first)
        where
          at_one : (n : ℕ) → m ≡ n → is_stream (nth s (suc n)).kind ≡ true → (1 ≤ n → is_stream (nth s 1).kind ≡ true) → is_stream (nth s 1).kind ≡ true
          at_one zero z its f = its
          at_one (suc n) z its f = f (omega arith)
      step (set l f k one) (as_stream e) =
          set (omega arith) f k (stays (stream_of (bus_in (before s (suc m))) (nth s (suc m)).kind e).0 ∙ one)

  module _ (m : ℕ) (u : Upto s (suc m)) where
    -- setting i, counted from 0, stands behind the first record and i settings
    pub setting_at : (i : ℕ) → i < length (before s (suc m)).settings → get_or (before s (suc m)).settings i nothing ≡ nth s (suc i)
    unfolding records_in
    setting_at i l =
        let S = before s (suc m) in
        let e : get_or (records_in S) (suc i) nothing ≡ get_or (records_of s (suc m)) (suc i) nothing = ap (λ (rs : List Record). get_or rs (suc i) nothing) (in_order s m u) in
        sym (get_or-append S.settings S.streams nothing i l) ∙ (e ∙ record_at s (suc m) (suc i) (omega (arith, how_many s m u)))

    pub setting_there : (i : ℕ) → i < length (before s (suc m)).settings → is_setting (nth s (suc i)).kind ≡ true
    unfolding before sheet_of
    setting_there i l = subst (λ (r : Record). is_setting r.kind ≡ true) (setting_at i l) (having_such is_setting (records_of s (suc m)) i l)

    -- behind another first record there is none, and every record is a stream
    module _ (no-segment : (decode s 0).kind ≡ 1 → ⊥) (no-ring : (decode s 0).kind ≡ 9 → ⊥) where
      pub settings_none : (before s (suc m)).settings ≡ []
      settings_none = split (settled m u)
        where
          split : Settled m → (before s (suc m)).settings ≡ []
          split (unset none first) = none
          split (set l f k one) = absurd (no-segment f)
          split (own f) = absurd (no-ring f)

      pub all_streams : length (before s (suc m)).streams ≡ m
      all_streams = omega (arith, how_many s m u, ap length settings_none)

    -- behind a segment there is one at most
    pub one_setting : (decode s 0).kind ≡ 1 → length (before s (suc m)).settings ≤ 1
    one_setting e = split (settled m u)
      where
        split : Settled m → length (before s (suc m)).settings ≤ 1
        split (unset none first) = omega (arith, ap length none)
        split (set l f k one) = omega (arith, ap length one)
        split (own f) = absurd (omega arith)

  -- ---- Behind a ring of kind 9

  module _ (ring : (decode s 0).kind ≡ 9) where
    module _ (m : ℕ) (u : Upto s (suc m)) where
      pub ring_ranged : OpenRingRanges (decode s 0)
      unfolding place_of
      ring_ranged = open_ring_ranges _ (decode s 0) (u.passed 0 (omega arith)).is_ranged ring

      -- each setting is a longest message, in range
      module _ (i : ℕ) (l : i < length (before s (suc m)).settings) where
        passed_there : PassesAt s (suc i)
        passed_there = u.passed (suc i) (omega (arith, how_many s m u))

        pub message_there : (nth s (suc i)).kind ≡ 10
        message_there = message_here i passed_there.is_right ring (setting_there m u i l)

        pub message_ranged : MessageRanges (given (before s (suc i)) (nth s (suc i)).a) (nth s (suc i))
        message_ranged = message_ranges _ (nth s (suc i)) passed_there.is_ranged message_there

      -- of a master 1..n
      pub its_master : (i : ℕ) → i < length (before s (suc m)).settings
          → (1 ≤ (get_or (before s (suc m)).settings i nothing).a) × ((get_or (before s (suc m)).settings i nothing).a ≤ (decode s 0).a)
      its_master i l =
          let w = (message_ranged i l).master in
          let e : (get_or (before s (suc m)).settings i nothing).a ≡ (nth s (suc i)).a = ap (λ (r : Record). r.a) (setting_at m u i l) in
          let n : (before s (suc i)).head.a ≡ (decode s 0).a = ap (λ (r : Record). r.a) (head_at s i) in
          (omega (arith, w.least), omega (arith, w.most))

      -- and 1..100,000 long
      pub its_length : Short (before s (suc m)).settings
      its_length i l =
          let w = (message_ranged i l).message in
          let e : (get_or (before s (suc m)).settings i nothing).b ≡ (nth s (suc i)).b = ap (λ (r : Record). r.b) (setting_at m u i l) in
          (omega (arith, w.least), omega (arith, w.most))

      -- as long as no stream came, every record is one
      pub all_messages : length (before s (suc m)).streams ≡ 0 → (i : ℕ) → i < m → (nth s (suc i)).kind ≡ 10
      all_messages z i l = message_there i (omega (arith, how_many s m u))

    -- a longest message that passes is the first of its master
    pub none_before : (m : ℕ) → PassesAt s (suc m) → (nth s (suc m)).kind ≡ 10 → count_of (nth s (suc m)).a (before s (suc m)).settings ≡ 0
    unfolding repeated
    none_before m p k =
        let f : ltb 0 (count_of (nth s (suc m)).a (before s (suc m)).settings) ≡ false = rw k at p.first_of_master in
        omega (arith, ltb-false 0 (count_of (nth s (suc m)).a (before s (suc m)).settings) f)

    -- so no master has two
    pub one_message : (m : ℕ) → Upto s (suc m) → (y : ℕ) → count_of y (before s (suc m)).settings ≤ 1
    unfolding count_of
    one_message zero u y = rw (behind_first s (u.passed 0 (omega arith))).0 (omega arith)
    one_message (suc m) u y = step (one_message m earlier y) (fits_then (before s (suc m)) (nth s (suc m)).kind p.is_right)
      where
        p : PassesAt s (suc m)
        p = u.passed (suc m) (omega arith)

        earlier : Upto s (suc m)
        earlier = upto_front s (suc (suc m)) (suc m) (omega arith) u

        more : (rs : List Record) (r : Record) → count_of r.a rs ≡ 0 → count_of y rs ≤ 1 → (b : Bool) → eqb r.a y ≡ b → count_of y rs + when b 1 ≤ 1
        more rs r z ih true e = omega (arith, ap (λ (x : ℕ). count_of x rs) (eqb-true r.a y e))
        more rs r z ih false e = omega arith

        step : count_of y (before s (suc m)).settings ≤ 1 → Placed (before s (suc m)) (nth s (suc m)).kind → count_of y (before s (suc (suc m))).settings ≤ 1
        step ih (as_first e z) = absurd (head_some s m earlier z)
        step ih (as_setting e z) =
            let none = none_before m p (message_here m p.is_right ring e) in
            rw ((adds_setting s (suc m) e).0, count_more y (before s (suc m)).settings (nth s (suc m))) (more (before s (suc m)).settings (nth s (suc m)) none ih (eqb (nth s (suc m)).a y) refl)
        step ih (as_stream e) = rw (adds_stream s (suc m) (stream_of (bus_in (before s (suc m))) (nth s (suc m)).kind e).0).0 ih

    -- and there are as many as masters, at most
    pub few_messages : (m : ℕ) → Upto s (suc m) → length (before s (suc m)).settings ≤ (decode s 0).a
    few_messages m u = few_once (decode s 0).a (before s (suc m)).settings (its_master m u) (one_message m u)

  -- ---- Behind any first record

  pub few_settings : (m : ℕ) → Upto s (suc m) → length (before s (suc m)).settings ≤ 32
  few_settings m u = split (settled m u)
    where
      split : Settled m → length (before s (suc m)).settings ≤ 32
      split (unset none first) = omega (arith, ap length none)
      split (set l f k one) = omega (arith, ap length one)
      split (own f) = omega (arith, few_messages f m u, (ring_ranged f m u).masters.most)

  -- behind a stream no longest message is missing
  pub none_lacking : (m : ℕ) → Upto s (suc m) → 1 ≤ length (before s (suc m)).streams → lacking (before s (suc m)) ≡ false
  unfolding lacking
  none_lacking zero u l = absurd (omega (arith, ap length (behind_first s (u.passed 0 (omega arith))).1))
  none_lacking (suc m) u l = step (fits_then (before s (suc m)) (nth s (suc m)).kind p.is_right)
    where
      p : PassesAt s (suc m)
      p = u.passed (suc m) (omega arith)

      step : Placed (before s (suc m)) (nth s (suc m)).kind → lacking (before s (suc (suc m))) ≡ false
      step (as_first e z) = absurd (head_some s m (upto_front s (suc (suc m)) (suc m) (omega arith) u) z)
      step (as_setting e z) = absurd (omega (arith, ap length (adds_setting s (suc m) e).1))
      step (as_stream e) =
          let its = (stream_of (bus_in (before s (suc m))) (nth s (suc m)).kind e).0 in
          rw (head_at s (suc m), ← head_at s m, (adds_stream s (suc m) its).0) (p.none_missing its)
