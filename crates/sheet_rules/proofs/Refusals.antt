-- Page 01, 'Numbered refusals' 1..7, and page 02, Ask 8: reading gives a number with a place exactly if the page's table gives it, and accepts a sheet
-- exactly if the table gives none; what counts as a master's longest message, and when one is missing. Assumes nothing.
use mathlib.Core.Path.{◌≡◌, refl, sym, ap, ◌∙◌}
use mathlib.Core.Bool.{Bool, true, false, not, ◌&&◌, ◌||◌}
use mathlib.Core.List.{List}
use mathlib.Core.Logic.{◌⊎◌, inl, inr, ⊎_elim, ◌↔◌}
use Prim.Native.Nat.{ℕ, zero, suc, ◌+◌, ◌≤◌, ◌<◌}
use native.Mathlib.Omega.{arith}
use native.Mathlib.Decide.{ℕ_discrete}
use borrow.Author.Tests.{ltb-true, ltb-false, leb-false, lt-leb, le-leb, lt-ltb, le-ltb, eqb-true, eq-eqb, not-true, not-false}
use lib.ListN.{length, get_or}
use lib.Dec.{ltb, leb, eqb}
use Rattle.common.specs.Checks.Verdict.{Refused}
use Rattle.common.proofs.Checks.{Applies, refused_if, refused_then}
use Rattle.common.proofs.Checks.Applies.{here, later}
use Rattle.sheet_record.specs.declared.Record.{Record}
use Rattle.sheet_record.specs.Kinds.{kinds, line_of, bus_of, part_of, is_first, is_stream, is_stream_of, nothing, known, size_of, decode, in_range}
use Rattle.sheet_record.proofs.Tables.{both_true, known_within, known_bounds}
use Rattle.sheet_ranges.proofs.InPage.{in_page_in_range, in_range_exactly}
use Rattle.sheet_record.proofs.Parts.{first_kinds, setting_kinds, pnet_stream_kinds, ring_streams, variables}
use Rattle.sheet_rules.specs.Sheets.{Sheet, sheet_of, given, message_of, of_kind, fits, count_of, most_in_all, has_masters, lacking, repeated, over_limit, met_before}
use Rattle.sheet_rules.specs.Whole.{place_of, records_of, before, first_stream, record_checks, judge, ended, reading, Outcome}
use Rattle.sheet_rules.specs.Whole.Outcome.{Read, Not}
use Rattle.sheet_rules.specs.Refusals.{record_at, streams_before, KnownKind, Begins, Matches, RightKind, Complete, Ranged, HasMessage, Missing, WrongMessages, InLimits, MetBefore, RefusedWith, Taken, Reached, NoStream, Given}
use Rattle.sheet_rules.specs.Refusals.Begins.{pnet_segment, ring, exchange, open_ring}
use Rattle.sheet_rules.specs.Refusals.Matches.{pnet_stream, pnet_jitter_stream, ring_stream, open_ring_stream, variable}
use Rattle.sheet_rules.specs.Refusals.RightKind.{at_first, edition, message, behind}
use Rattle.sheet_rules.specs.Refusals.WrongMessages.{again, missing}
use Rattle.sheet_rules.specs.Refusals.RefusedWith.{unknown, misplaced, cut, out_of_range, wrong_messages, one_too_many, meets_before}
use Rattle.sheet_rules.specs.Refusals.Given.{empty, at_record, no_message, no_stream}
use Rattle.sheet_rules.proofs.Walk.{head_at}
use Rattle.sheet_rules.proofs.Cases.{PassesAt, Upto, Stops, neither, none_of_both, upto_none, upto_more, upto_front, reading_stops, stops_once, ended_empty, ended_no_message, ended_no_stream, ended_sheet}
use Rattle.sheet_rules.proofs.Cases.Stops.{by_record, at_end}
use Rattle.sheet_rules.proofs.Counts.{count_none, count_some}
use Rattle.sheet_rules.proofs.Order.{nth, Placed, fits_then, fits_first, stream_fits, first_only, first_passes, head_some, how_many, stream_at}
use Rattle.sheet_rules.proofs.Order.Placed.{as_first, as_setting, as_stream}
use Rattle.sheet_rules.proofs.Openings.{counted, Settled, settled, edition_right, message_right, edition_first, message_first, settings_none, all_streams, all_messages, none_lacking}
use Rattle.sheet_rules.proofs.Openings.Settled.{unset, set, own}
use Rattle.sheet_rules.proofs.Known.{both_fail}
use Rattle.sheet_rules.proofs.Missing.{head_kind, messages_no_stream, has_if, has_then, lacking_then, lacking_if, counts_own, counts_missing}

-- ---- The lines, one by one, as tests

-- a test that holds and fails
differ : {b : Bool} → b ≡ true → b ≡ false → ⊥
differ e f = let z : ◌≡◌ {A = ℕ} 0 1 = cc in omega arith

-- a test fails where what it shows does not hold
fails : {b : Bool} {P : Type 0} → (b ≡ true → P) → (P → ⊥) → b ≡ false
fails {b = true} h n = absurd (n (h refl))
fails {b = false} h n = refl

-- and holds where what it denies does not
holds : {b : Bool} {P : Type 0} → (b ≡ false → P) → (P → ⊥) → b ≡ true
holds {b = true} h n = refl
holds {b = false} h n = absurd (n (h refl))

-- a sheet begins with a first kind of the table
begins_then : (k : ℕ) → is_first k ≡ true → Begins k
begins_then k e = by (first_kinds k e)
  where
    by : k ≡ 1 ⊎ k ≡ 3 ⊎ k ≡ 5 ⊎ k ≡ 9 → Begins k
    by (inl q) = rw q pnet_segment
    by (inr (inl q)) = rw q ring
    by (inr (inr (inl q))) = rw q exchange
    by (inr (inr (inr q))) = rw q open_ring

begins_if : {k : ℕ} → Begins k → is_first k ≡ true
unfolding is_first part_of line_of kinds
begins_if pnet_segment = refl
begins_if ring = refl
begins_if exchange = refl
begins_if open_ring = refl

-- the streams of a bus match its first record
to_match : (h k : ℕ) → is_first h ≡ true → is_stream_of (bus_of h) k ≡ true → Matches h k
unfolding bus_of line_of kinds
to_match h k f e = by (first_kinds h f)
  where
    -- of the bus of this first kind
    on : {b : ℕ} → h ≡ b → is_stream_of (bus_of b) k ≡ true
    on q = rw q at e

    of_pnet : k ≡ 2 ⊎ k ≡ 7 → Matches 1 k
    of_pnet (inl q) = rw q pnet_stream
    of_pnet (inr q) = rw q pnet_jitter_stream

    four : is_stream_of 3 k ≡ true → k ≡ 4
    four q = eqb-true k 4 (sym (ring_streams k) ∙ q)

    six : is_stream_of 5 k ≡ true → k ≡ 6
    six q = eqb-true k 6 (sym (variables k) ∙ q)

    by : h ≡ 1 ⊎ h ≡ 3 ⊎ h ≡ 5 ⊎ h ≡ 9 → Matches h k
    by (inl q) = rw q (of_pnet (pnet_stream_kinds k (on q)))
    by (inr (inl q)) = rw (q, four (on q)) ring_stream
    by (inr (inr (inl q))) = rw (q, six (on q)) variable
    by (inr (inr (inr q))) = rw (q, four (on q)) open_ring_stream

matched : {h k : ℕ} → Matches h k → is_stream_of (bus_of h) k ≡ true
unfolding is_stream_of is_stream bus_of part_of line_of kinds
matched pnet_stream = refl
matched pnet_jitter_stream = refl
matched ring_stream = refl
matched open_ring_stream = refl
matched variable = refl

-- only 6, behind 5, is of WorldFIP
matched_variable : {h k : ℕ} → Matches h k → bus_of k ≡ 5 → (h ≡ 5) × (k ≡ 6)
unfolding bus_of line_of kinds
matched_variable pnet_stream b = absurd (omega (arith, b))
matched_variable pnet_jitter_stream b = absurd (omega (arith, b))
matched_variable ring_stream b = absurd (omega (arith, b))
matched_variable open_ring_stream b = absurd (omega (arith, b))
matched_variable variable b = (refl, refl)

-- 10 is neither a first record nor a stream
begins_not_10 : {k : ℕ} → Begins k → k ≡ 10 → ⊥
begins_not_10 pnet_segment e = omega arith
begins_not_10 ring e = omega arith
begins_not_10 exchange e = omega arith
begins_not_10 open_ring e = omega arith

matched_not_10 : {h k : ℕ} → Matches h k → k ≡ 10 → ⊥
matched_not_10 pnet_stream e = omega arith
matched_not_10 pnet_jitter_stream e = omega arith
matched_not_10 ring_stream e = omega arith
matched_not_10 open_ring_stream e = omega arith
matched_not_10 variable e = omega arith

-- of streams, only 4 stands behind kind 9
matched_ring : {h k : ℕ} → Matches h k → h ≡ 9 → k ≡ 4
matched_ring pnet_stream e = absurd (omega arith)
matched_ring pnet_jitter_stream e = absurd (omega arith)
matched_ring ring_stream e = absurd (omega arith)
matched_ring open_ring_stream e = refl
matched_ring variable e = absurd (omega arith)

-- the second of two tests holds
second : (a : Bool) {b : Bool} → b ≡ true → (a || b) ≡ true
second true e = refl
second false e = e

-- the test of 20
abbrev wrongly : List ℕ → ℕ → Bool
wrongly s i = repeated (before s i) (record_at s i) || (is_stream (record_at s i).kind && lacking (before s i))

module _ (s : List ℕ) (i : ℕ) where
  known_then : known (record_at s i).kind ≡ true → KnownKind s i
  known_then e = let b = known_bounds (record_at s i).kind e in record { least = b.0; most = b.1 }

  known_if : KnownKind s i → known (record_at s i).kind ≡ true
  known_if k = sym (known_within (record_at s i).kind) ∙ rw (le-leb 1 (record_at s i).kind k.least, le-leb (record_at s i).kind 10 k.most)

  ranged_then : known (record_at s i).kind ≡ true → in_range (given (before s i) (record_at s i).a) (record_at s i) ≡ true → Ranged s i
  ranged_then k e = record { fields = (in_range_exactly (given (before s i) (record_at s i).a) (record_at s i) k).0 e }

  ranged_if : Ranged s i → in_range (given (before s i) (record_at s i).a) (record_at s i) ≡ true
  ranged_if r = in_page_in_range (given (before s i) (record_at s i).a) (record_at s i) r.fields

  limits_then : over_limit (streams_before s i) (record_at s i) ≡ false → InLimits s i
  unfolding over_limit
  limits_then e =
      let k = bus_of (record_at s i).kind in
      let b = both_fail (leb (most_in_all k) (length (streams_before s i))) (has_masters k && leb 80 (count_of (record_at s i).a (streams_before s i))) e in
      record {
        in_all = leb-false (most_in_all k) (length (streams_before s i)) b.0;
        of_master = λ h. leb-false 80 (count_of (record_at s i).a (streams_before s i)) (rw h at b.1);
      }

  limits_if : InLimits s i → over_limit (streams_before s i) (record_at s i) ≡ false
  unfolding over_limit
  limits_if l = rw (lt-leb (most_in_all (bus_of (record_at s i).kind)) (length (streams_before s i)) l.in_all) (split (has_masters (bus_of (record_at s i).kind)) refl)
    where
      split : (b : Bool) → has_masters (bus_of (record_at s i).kind) ≡ b → (b && leb 80 (count_of (record_at s i).a (streams_before s i))) ≡ false
      split true h = lt-leb 80 (count_of (record_at s i).a (streams_before s i)) (l.of_master h)
      split false h = refl

-- the buses of three kinds, and that a longest message is no stream and a stream of a ring is one
six_bus : bus_of 6 ≡ 5
unfolding bus_of line_of kinds
six_bus = refl

eight_bus : bus_of 8 ≡ 1
unfolding bus_of line_of kinds
eight_bus = refl

ten_bus : bus_of 10 ≡ 3
unfolding bus_of line_of kinds
ten_bus = refl

ten_stream : is_stream 10 ≡ false
unfolding is_stream part_of line_of kinds
ten_stream = refl

four_stream : is_stream 4 ≡ true
unfolding is_stream part_of line_of kinds
four_stream = refl

module _ (s : List ℕ) where
  right_then : (i : ℕ) → Upto s i → fits (before s i) (record_at s i).kind ≡ true → RightKind s i
  unfolding before records_of
  right_then zero u e = at_first (begins_then (record_at s 0).kind (sym (fits_first (record_at s 0).kind) ∙ e))
  right_then (suc i) u e = by (fits_then (before s (suc i)) (record_at s (suc i)).kind e)
    where
      -- the edition is record 1
      by_edition : (record_at s (suc i)).kind ≡ 8 → RightKind s (suc i)
      by_edition q = place (settled s i u)
        where
          r : ((before s (suc i)).head.kind ≡ 1) × (length (before s (suc i)).streams ≡ 0) × (of_kind 8 (before s (suc i)).settings ≡ 0)
          r = edition_right s i e q

          place : Settled s i → RightKind s (suc i)
          place (unset none first) =
              let z : i ≡ 0 = omega (arith, how_many s i u, r.1, ap length none) in
              let w : RightKind s 1 = edition (sym (head_kind s i) ∙ r.0) (rw z at q) in
              rw z w
          place (set l f k one) = absurd (omega (arith, ap (of_kind 8) one, r.2, counted (nth s 1) k))
          place (own f) = absurd (omega (arith, r.0, ap (λ (x : Record). x.kind) (head_at s i)))

      there : ((j : ℕ) → j < i → (record_at s (suc j)).kind ≡ 10) → (record_at s (suc i)).kind ≡ 10 → (j : ℕ) → j ≤ i → Dec (j ≡ i) → (record_at s (suc j)).kind ≡ 10
      there h q j l (yes z) = rw z q
      there h q j l (no z) = h j (omega (arith, z))

      by_setting : (record_at s (suc i)).kind ≡ 8 ⊎ (record_at s (suc i)).kind ≡ 10 → RightKind s (suc i)
      by_setting (inl q) = by_edition q
      by_setting (inr q) =
          let r = message_right s i e q in
          message (sym (head_kind s i) ∙ r.0) (λ j l. there (all_messages s (sym (ap (λ (x : Record). x.kind) (head_at s i)) ∙ r.0) i u r.1) q j l (ℕ_discrete j i))

      by : Placed (before s (suc i)) (record_at s (suc i)).kind → RightKind s (suc i)
      by (as_first f z) = absurd (head_some s i u z)
      by (as_setting its z) = by_setting (setting_kinds (record_at s (suc i)).kind its)
      by (as_stream its) = behind (to_match (record_at s 0).kind (record_at s (suc i)).kind (first_passes s (u.passed 0 (omega arith))) (rw (head_at s i) at its))

  right_if : (i : ℕ) → Upto s i → RightKind s i → fits (before s i) (record_at s i).kind ≡ true
  unfolding before records_of place_of
  right_if zero u (at_first e) = fits_first (record_at s 0).kind ∙ begins_if e
  right_if (suc zero) u (edition f e) = ap (fits (before s 1)) e ∙ edition_first s (u.passed 0 (omega arith)) f
  right_if (suc i) u (message f e) =
      ap (fits (before s (suc i))) (e i (omega arith)) ∙ message_first s i f (messages_no_stream s i (u.passed 0 (omega arith)) (λ j l. e j (omega arith)))
  right_if (suc i) u (behind e) =
      stream_fits (before s (suc i)) (record_at s (suc i)).kind
      (ap (λ (r : Record). is_stream_of (bus_of r.kind) (record_at s (suc i)).kind) (head_at s i) ∙ matched e)

  -- on WorldFIP a record that is right for its position is a variable behind a first record of kind 5
  variable_there : (n : ℕ) → Upto s (suc n) → RightKind s (suc n) → bus_of (record_at s (suc n)).kind ≡ 5 → ((record_at s 0).kind ≡ 5) × ((record_at s (suc n)).kind ≡ 6)
  unfolding place_of
  variable_there n u (edition f e) b = absurd (omega (arith, ap bus_of e, eight_bus))
  variable_there n u (message f e) b = absurd (omega (arith, ap bus_of (e n (omega arith)), ten_bus))
  variable_there n u (behind e) b = matched_variable e b

  -- there, stream j of the streams before record n + 1 is record j + 1
  module _ (n : ℕ) (u : Upto s (suc n)) (five : (record_at s 0).kind ≡ 5) where
    no_segment : (decode s 0).kind ≡ 1 → ⊥
    unfolding place_of
    no_segment e = omega (arith, five)

    no_ring : (decode s 0).kind ≡ 9 → ⊥
    unfolding place_of
    no_ring e = omega (arith, five)

    how_many_variables : length (streams_before s (suc n)) ≡ n
    how_many_variables = all_streams s n u no_segment no_ring

    earlier_stream : (j : ℕ) → j < n → get_or (streams_before s (suc n)) j nothing ≡ record_at s (suc j)
    earlier_stream j l =
        let z : first_stream (before s (suc n)) + j ≡ suc j = omega (arith, ap length (settings_none s n u no_segment no_ring)) in
        stream_at s n u j (rw how_many_variables l) ∙ ap (nth s) z

    stands_not : (x : ℕ) → count_of x (streams_before s (suc n)) ≡ 0 → (j : ℕ) → 1 ≤ j → j < suc n → (record_at s j).a ≡ x → ⊥
    stands_not x z zero l h e = omega arith
    stands_not x z (suc j) l h e =
        let k : j < n = omega arith in
        count_none x (streams_before s (suc n)) j z (rw how_many_variables k) (ap (λ (r : Record). r.a) (earlier_stream j k) ∙ e)

  met_then : (i : ℕ) → Upto s i → RightKind s i → met_before (streams_before s i) (record_at s i) ≡ true → MetBefore s i
  unfolding met_before before sheet_of records_of count_of
  met_then zero u r e = absurd (omega (arith, ltb-true 0 0 (both_true (eqb (bus_of (record_at s 0).kind) 5) (ltb 0 0) e).1))
  met_then (suc n) u r e =
      let x = (record_at s (suc n)).a in
      let b = both_true (eqb (bus_of (record_at s (suc n)).kind) 5) (ltb 0 (count_of x (streams_before s (suc n)))) e in
      let v = variable_there n u r (eqb-true (bus_of (record_at s (suc n)).kind) 5 b.0) in
      let w = count_some x (streams_before s (suc n)) (ltb-true 0 (count_of x (streams_before s (suc n))) b.1) in
      let l : w.0 < n = rw (how_many_variables n u v.0) at w.1 in
      record {
        variable = v.1;
        j = suc w.0;
        stream = omega arith;
        earlier = omega arith;
        same = ap (λ (r : Record). r.a) (sym (earlier_stream n u v.0 w.0 l)) ∙ w.2;
      }

  met_if : (i : ℕ) → Upto s i → RightKind s i → MetBefore s i → met_before (streams_before s i) (record_at s i) ≡ true
  unfolding met_before
  met_if zero u r m = absurd (omega (arith, m.earlier))
  met_if (suc n) u r m = rw (eq-eqb (bus_of (record_at s (suc n)).kind) 5 on_bus) (split (ltb 0 (count_of (record_at s (suc n)).a (streams_before s (suc n)))) refl)
    where
      on_bus : bus_of (record_at s (suc n)).kind ≡ 5
      on_bus = ap bus_of m.variable ∙ six_bus

      split : (b : Bool) → ltb 0 (count_of (record_at s (suc n)).a (streams_before s (suc n))) ≡ b → b ≡ true
      split true q = refl
      split false q =
          absurd (stands_not n u (variable_there n u r on_bus).0 (record_at s (suc n)).a
          (omega (arith, ltb-false 0 (count_of (record_at s (suc n)).a (streams_before s (suc n))) q)) m.j m.stream m.earlier m.same)

  -- ---- 20

  -- a longest message stands behind kind 9, and so does a stream before which one can be missing
  ring_there : {i : ℕ} → RightKind s i → (record_at s i).kind ≡ 10 → (record_at s 0).kind ≡ 9
  ring_there (at_first b) k = absurd (begins_not_10 b k)
  ring_there (edition f e) k = absurd (omega arith)
  ring_there (message f e) k = f
  ring_there (behind m) k = absurd (matched_not_10 m k)

  stream_there : {i : ℕ} → RightKind s i → (record_at s 0).kind ≡ 9 → is_stream (record_at s i).kind ≡ true → (record_at s i).kind ≡ 4
  stream_there (at_first b) nine e = absurd (differ e (first_only (record_at s 0).kind (begins_if b)).1)
  stream_there (edition f k) nine e = absurd (omega arith)
  stream_there (message {i} f k) nine e = absurd (differ e (ap is_stream (k i (omega arith)) ∙ ten_stream))
  stream_there (behind m) nine e = matched_ring m nine

  repeated_then : (i : ℕ) → Upto s i → RightKind s i → repeated (before s i) (record_at s i) ≡ true → ((record_at s i).kind ≡ 10) × HasMessage s i (record_at s i).a
  unfolding repeated
  repeated_then i u r e =
      let b = both_true (eqb (record_at s i).kind 10) (ltb 0 (count_of (record_at s i).a (before s i).settings)) e in
      let k = eqb-true (record_at s i).kind 10 b.0 in
      (k, has_then s i (record_at s i).a u (ring_there r k) (ltb-true 0 (count_of (record_at s i).a (before s i).settings) b.1))

  repeated_if : (i : ℕ) → (record_at s i).kind ≡ 10 → HasMessage s i (record_at s i).a → repeated (before s i) (record_at s i) ≡ true
  unfolding repeated
  repeated_if i k h =
      rw (eq-eqb (record_at s i).kind 10 k, lt-ltb 0 (count_of (record_at s i).a (before s i).settings) (has_if s i (record_at s i).a h))

  wrong_then : (i : ℕ) → Upto s i → RightKind s i → wrongly s i ≡ true → WrongMessages s i
  wrong_then i u r e = split (repeated (before s i) (record_at s i)) refl e
    where
      split : (b : Bool) → repeated (before s i) (record_at s i) ≡ b → b || (is_stream (record_at s i).kind && lacking (before s i)) ≡ true → WrongMessages s i
      split true q f = let w = repeated_then i u r q in again w.0 w.1
      split false q f =
          let b = both_true (is_stream (record_at s i).kind) (lacking (before s i)) f in
          let m = lacking_then s i u b.1 in
          missing (stream_there r m.ring b.0) m

  wrong_if : (i : ℕ) → Upto s i → WrongMessages s i → wrongly s i ≡ true
  wrong_if i u (again k h) = rw (repeated_if i k h)
  wrong_if zero u (missing k m) = absurd (omega (arith, m.ring))
  wrong_if (suc i) u (missing k m) = second (repeated (before s (suc i)) (record_at s (suc i))) (rw (ap is_stream k ∙ four_stream, lacking_if s i u m))

  -- ---- A record

  complete_inside : (i : ℕ) → Complete s i → place_of s i < length s
  unfolding size_of
  complete_inside i c = omega (arith, c.ends)

  -- taken by the table exactly if it passes, behind records that pass
  taken_then : (i : ℕ) → Upto s i → PassesAt s i → Taken s i
  taken_then i u p =
      let e = none_of_both (repeated (before s i) (record_at s i)) (is_stream (record_at s i).kind) (lacking (before s i)) p.first_of_master p.none_missing in
      record {
        is_known = known_then s i p.is_known;
        is_right = right_then i u p.is_right;
        is_complete = record { ends = p.is_whole };
        is_ranged = ranged_then s i p.is_known p.is_ranged;
        right_messages = λ w. differ (wrong_if i u w) e;
        in_limits = limits_then s i p.in_limits;
        is_new = λ m. differ (met_if i u (right_then i u p.is_right) m) p.is_new;
      }

  taken_if : (i : ℕ) → Upto s i → Taken s i → PassesAt s i
  taken_if i u a =
      let e = neither (repeated (before s i) (record_at s i)) (is_stream (record_at s i).kind) (lacking (before s i)) (fails (wrong_then i u a.is_right) a.right_messages) in
      record {
        is_known = known_if s i a.is_known;
        is_right = right_if i u a.is_right;
        is_whole = a.is_complete.ends;
        is_ranged = ranged_if s i a.is_ranged;
        first_of_master = e.0;
        none_missing = e.1;
        in_limits = limits_if s i a.in_limits;
        is_new = fails (met_then i u a.is_right) a.is_new;
      }

  -- refused with a number exactly if that is the verdict
  refused_with : (i n p : ℕ) → Upto s i → judge s i ≡ Refused n p → (p ≡ place_of s i) × RefusedWith s i n
  unfolding judge record_checks
  refused_with i n p u e = line (refused_then _ n p e)
    where
      line : {m q : ℕ} → Applies (record_checks s (before s i) (place_of s i) (record_at s i)) m q → (q ≡ place_of s i) × RefusedWith s i m
      line (here e₂) = (refl, unknown (λ k. differ (known_if s i k) (not-true _ e₂)))
      line (later e₂ (here e₃)) = (refl, misplaced (known_then s i (not-false _ e₂)) (λ r. differ (right_if i u r) (not-true _ e₃)))
      line (later e₂ (later e₃ (here e₁))) =
          (refl, cut (known_then s i (not-false _ e₂)) (right_then i u (not-false _ e₃)) (λ c. differ e₁ (le-ltb _ _ c.ends)))
      line (later e₂ (later e₃ (later e₁ (here e₄)))) = (
        refl,
        out_of_range (known_then s i (not-false _ e₂)) (right_then i u (not-false _ e₃)) (record { ends = ltb-false _ _ e₁ })
            (λ r. differ (ranged_if s i r) (not-true _ e₄)),
      )
      line (later e₂ (later e₃ (later e₁ (later e₄ (here e₂₀))))) =
          let r = right_then i u (not-false _ e₃) in (
            refl,
            wrong_messages (known_then s i (not-false _ e₂)) r (record { ends = ltb-false _ _ e₁ }) (ranged_then s i (not-false _ e₂) (not-false _ e₄)) (wrong_then i u r e₂₀),
          )
      line (later e₂ (later e₃ (later e₁ (later e₄ (later e₂₀ (here e₅)))))) = (
        refl,
        one_too_many (known_then s i (not-false _ e₂)) (right_then i u (not-false _ e₃)) (record { ends = ltb-false _ _ e₁ })
            (ranged_then s i (not-false _ e₂) (not-false _ e₄)) (λ w. differ (wrong_if i u w) e₂₀) (λ l. differ e₅ (limits_if s i l)),
      )
      line (later e₂ (later e₃ (later e₁ (later e₄ (later e₂₀ (later e₅ (here e₇))))))) =
          let r = right_then i u (not-false _ e₃) in (
            refl,
            meets_before (known_then s i (not-false _ e₂)) r (record { ends = ltb-false _ _ e₁ })
                (ranged_then s i (not-false _ e₂) (not-false _ e₄)) (λ w. differ (wrong_if i u w) e₂₀) (limits_then s i e₅) (met_then i u r e₇),
          )
      line {m = m} {q = q} (later e₂ (later e₃ (later e₁ (later e₄ (later e₂₀ (later e₅ (later _ x40))))))) = elim x40 [ ]

  applies_for : {i n : ℕ} → Upto s i → RefusedWith s i n → Applies (record_checks s (before s i) (place_of s i) (record_at s i)) n (place_of s i)
  unfolding record_checks
  applies_for {i} u (unknown k) = here (ap not (fails (known_then s i) k))
  applies_for {i} u (misplaced k r) = later (ap not (known_if s i k)) (here (ap not (fails (right_then i u) r)))
  applies_for {i} u (cut k r c) = later (ap not (known_if s i k)) (later (ap not (right_if i u r)) (here (holds (λ e. record { ends = ltb-false _ _ e }) c)))
  applies_for {i} u (out_of_range k r c f) =
      later (ap not (known_if s i k)) (later (ap not (right_if i u r)) (later (le-ltb _ _ c.ends) (here (ap not (fails (ranged_then s i (known_if s i k)) f)))))
  applies_for {i} u (wrong_messages k r c f w) =
      later (ap not (known_if s i k)) (later (ap not (right_if i u r)) (later (le-ltb _ _ c.ends) (later (ap not (ranged_if s i f)) (here (wrong_if i u w)))))
  applies_for {i} u (one_too_many k r c f w l) =
      later (ap not (known_if s i k)) (later (ap not (right_if i u r)) (later (le-ltb _ _ c.ends) (later (ap not (ranged_if s i f)) (later (fails (wrong_then i u r) w)
      (here (holds (limits_then s i) l))))))
  applies_for {i} u (meets_before k r c f w l m) =
      later (ap not (known_if s i k)) (later (ap not (right_if i u r)) (later (le-ltb _ _ c.ends) (later (ap not (ranged_if s i f)) (later (fails (wrong_then i u r) w)
      (later (limits_if s i l) (here (met_if i u r m)))))))

  refused_for : {i n : ℕ} → Upto s i → RefusedWith s i n → judge s i ≡ Refused n (place_of s i)
  unfolding judge
  refused_for u r = refused_if (applies_for u r)

  -- ---- The whole sheet

  -- records that the table takes are those that reading goes on behind
  upto_then : (i : ℕ) → Upto s i → (j : ℕ) → j < i → Taken s j
  upto_then i u j l = taken_then j (upto_front s i j (omega arith) u) (u.passed j l)

  upto_if : (i : ℕ) → ((j : ℕ) → j < i → Taken s j) → Upto s i
  upto_if zero a = upto_none s
  upto_if (suc i) a =
      let u = upto_if i (λ j l. a j (omega arith)) in
      let t = a i (omega arith) in
      upto_more s i u (complete_inside i t.is_complete) (taken_if i u t)

  -- ---- Longest messages

  -- behind records that are taken
  module _ (i : ℕ) (all : (j : ℕ) → j < i → Taken s j) where
    -- one that was given, by record j, is what counts for its master
    pub given_counts : {y : ℕ} (h : HasMessage s i y) → message_of (before s i) y ≡ (record_at s h.j).b
    given_counts {y} h = counts_own s i y (upto_if i all) (ring_there (all h.j h.earlier).is_right h.message) h

    -- record i gives one again exactly if the reader finds it so
    pub again_exactly : RightKind s i → (repeated (before s i) (record_at s i) ≡ true) ↔ (((record_at s i).kind ≡ 10) × HasMessage s i (record_at s i).a)
    again_exactly r = (repeated_then i (upto_if i all) r, λ w. repeated_if i w.0 w.1)

  -- the first record among them
  module _ (i : ℕ) (all : (j : ℕ) → j < suc i → Taken s j) where
    -- one that is missing counts as 100,000
    pub missing_counts : {y : ℕ} → (record_at s 0).kind ≡ 9 → (HasMessage s (suc i) y → ⊥) → message_of (before s (suc i)) y ≡ 100000
    missing_counts {y} nine n = counts_missing s i y (upto_if (suc i) all) nine n

    -- one is missing exactly if the reader finds it so
    pub missing_exactly : (lacking (before s (suc i)) ≡ true) ↔ Missing s (suc i)
    missing_exactly = (lacking_then s (suc i) (upto_if (suc i) all), lacking_if s i (upto_if (suc i) all))

    -- and then no stream came yet: 20 for a missing one stands at the first stream, or at the end
    pub missing_before_streams : Missing s (suc i) → length (streams_before s (suc i)) ≡ 0
    missing_before_streams m = split (ℕ_discrete (length (streams_before s (suc i))) 0)
      where
        split : Dec (length (streams_before s (suc i)) ≡ 0) → length (streams_before s (suc i)) ≡ 0
        split (yes z) = z
        split (no some) = absurd (differ (missing_exactly.1 m) (none_lacking s i (upto_if (suc i) all) (omega (arith, some))))

  -- a record that the table refuses is one that reading comes to, and refuses so
  pub refused_at : {i n p : ℕ} → Reached s i p → RefusedWith s i n → Upto s i × (judge s i ≡ Refused n p)
  refused_at {i} h r = let u = upto_if i h.before in (u, rw h.starts (refused_for u r))

  at_its_end : (i n p : ℕ) → Upto s i → place_of s i ≡ length s → ended s i ≡ Not n p → Given s n p
  unfolding place_of
  at_its_end zero n p u l e =
      let f : Not 1 0 ≡ Not n p = sym (ended_empty s) ∙ e in
      let en : 1 ≡ n = cc in
      let ep : 0 ≡ p = cc in
      rw (← en, ← ep) (empty (sym l))
  at_its_end (suc i) n p u l e = by (lacking (before s (suc i))) refl (ℕ_discrete (length (streams_before s (suc i))) 0)
    where
      end : length (streams_before s (suc i)) ≡ 0 → NoStream s (suc i)
      end z = record { first = omega arith; taken = upto_then (suc i) u; ends = l; none = z }

      by : (b : Bool) → lacking (before s (suc i)) ≡ b → Dec (length (streams_before s (suc i)) ≡ 0) → Given s n p
      by true q d =
          let f : Not 20 (length s) ≡ Not n p = sym (ended_no_message s (suc i) (head_some s i u) q) ∙ e in
          let en : 20 ≡ n = cc in
          let ep : length s ≡ p = cc in
          let m = lacking_then s (suc i) u q in
          rw (← en, ← ep) (no_message (end (missing_before_streams i (upto_then (suc i) u) m)) m)
      by false q (yes z) =
          let f : Not 6 (length s) ≡ Not n p = sym (ended_no_stream s (suc i) (head_some s i u) q z) ∙ e in
          let en : 6 ≡ n = cc in
          let ep : length s ≡ p = cc in
          rw (← en, ← ep) (no_stream (end z) (λ m. differ (lacking_if s i u m) q))
      by false q (no some) =
          let f : Read (before s (suc i)) ≡ Not n p = sym (ended_sheet s (suc i) (head_some s i u) q some) ∙ e in
          let z : ◌≡◌ {A = ℕ} 0 1 = cc in
          absurd (omega arith)

  -- every number that reading gives, with its place, is one that the table gives
  pub given_then : (n p : ℕ) → reading s ≡ Not n p → Given s n p
  given_then n p e = by (reading_stops s)
    where
      by : Stops s (reading s) → Given s n p
      by (by_record i m q u l j o) =
          let r = refused_with i m q u j in
          let f : Not m q ≡ Not n p = sym o ∙ e in
          let en : m ≡ n = cc in
          let ep : q ≡ p = cc in
          let at : place_of s i ≡ p = sym r.0 ∙ ep in
          rw (← en, ← at) (at_record (record { starts = refl; inside = l; before = upto_then i u }) r.1)
      by (at_end i u l o) = at_its_end i n p u l (sym o ∙ e)

  -- and every number that the table gives is given
  pub given_if : {n p : ℕ} → Given s n p → reading s ≡ Not n p
  unfolding place_of
  given_if (empty e) = stops_once s (at_end 0 (upto_none s) (sym e) refl) ∙ ended_empty s
  given_if (at_record {i} {n} {p} h r) =
      let a = refused_at h r in
      stops_once s (by_record i n p a.0 (rw (← h.starts) h.inside) a.1 refl)
  given_if (no_message {i} o m) = last i o m
    where
      last : (i : ℕ) → NoStream s i → Missing s i → reading s ≡ Not 20 (length s)
      last zero o m = absurd (omega (arith, o.first))
      last (suc i) o m =
          let u = upto_if (suc i) o.taken in
          stops_once s (at_end (suc i) u o.ends refl) ∙ ended_no_message s (suc i) (head_some s i u) (lacking_if s i u m)
  given_if (no_stream {i} o m) = last i o m
    where
      last : (i : ℕ) → NoStream s i → (Missing s i → ⊥) → reading s ≡ Not 6 (length s)
      last zero o m = absurd (omega (arith, o.first))
      last (suc i) o m =
          let u = upto_if (suc i) o.taken in
          stops_once s (at_end (suc i) u o.ends refl) ∙ ended_no_stream s (suc i) (head_some s i u) (fails (lacking_then s (suc i) u) m) o.none

  -- ---- Both ways

  pub refused_exactly : (n p : ℕ) → (reading s ≡ Not n p) ↔ Given s n p
  refused_exactly n p = (given_then n p, given_if)

  -- a sheet is accepted exactly if no number is given anywhere
  pub accepted_exactly : ((S : Sheet) × (reading s ≡ Read S)) ↔ ((n p : ℕ) → Given s n p → ⊥)
  accepted_exactly = (
    λ a n p g.
        let e : Read a.0 ≡ Not n p = sym a.1 ∙ given_if g in
        let z : ◌≡◌ {A = ℕ} 0 1 = cc in
        omega arith,
    λ h. outcome (reading s) refl h,
  )
    where
      outcome : (o : Outcome) → reading s ≡ o → ((n p : ℕ) → Given s n p → ⊥) → (S : Sheet) × (reading s ≡ Read S)
      outcome (Read S) e h = (S, e)
      outcome (Not n p) e h = absurd (h n p (given_then n p e))

  -- ---- Number by number, at a place p

  -- 1: the sheet is empty; or it ends inside a record that reading comes to, of known kind and right for its position
  pub refused_1 : (p : ℕ) → (reading s ≡ Not 1 p) ↔ (((length s ≡ 0) × (p ≡ 0)) ⊎ ((i : ℕ) × Reached s i p × KnownKind s i × RightKind s i × (Complete s i → ⊥)))
  refused_1 p = (λ e. line (given_then 1 p e), ⊎_elim (λ w. given_if (rw w.1 (empty w.0))) (λ w. given_if (at_record w.1 (cut w.2 w.3 w.4))))
    where
      line : {q : ℕ} → Given s 1 q → ((length s ≡ 0) × (q ≡ 0)) ⊎ ((i : ℕ) × Reached s i q × KnownKind s i × RightKind s i × (Complete s i → ⊥))
      line (empty e) = inl (e, refl)
      line (at_record {i} h (cut k r c)) = inr (i, h, k, r, c)

  -- 2: a record that reading comes to is of no kind 1..10
  pub refused_2 : (p : ℕ) → (reading s ≡ Not 2 p) ↔ ((i : ℕ) × Reached s i p × (KnownKind s i → ⊥))
  refused_2 p = (λ e. line (given_then 2 p e), λ w. given_if (at_record w.1 (unknown w.2)))
    where
      line : {q : ℕ} → Given s 2 q → (i : ℕ) × Reached s i q × (KnownKind s i → ⊥)
      line (at_record {i} h (unknown k)) = (i, h, k)

  -- 3: a record that reading comes to is of known kind, wrong for its position
  pub refused_3 : (p : ℕ) → (reading s ≡ Not 3 p) ↔ ((i : ℕ) × Reached s i p × KnownKind s i × (RightKind s i → ⊥))
  refused_3 p = (λ e. line (given_then 3 p e), λ w. given_if (at_record w.1 (misplaced w.2 w.3)))
    where
      line : {q : ℕ} → Given s 3 q → (i : ℕ) × Reached s i q × KnownKind s i × (RightKind s i → ⊥)
      line (at_record {i} h (misplaced k r)) = (i, h, k, r)

  -- 4: a record that reading comes to is of known kind, right for its position and complete, and has a field out of range
  pub refused_4 : (p : ℕ) → (reading s ≡ Not 4 p) ↔ ((i : ℕ) × Reached s i p × KnownKind s i × RightKind s i × Complete s i × (Ranged s i → ⊥))
  refused_4 p = (λ e. line (given_then 4 p e), λ w. given_if (at_record w.1 (out_of_range w.2 w.3 w.4 w.5)))
    where
      line : {q : ℕ} → Given s 4 q → (i : ℕ) × Reached s i q × KnownKind s i × RightKind s i × Complete s i × (Ranged s i → ⊥)
      line (at_record {i} h (out_of_range k r c f)) = (i, h, k, r, c, f)

  -- 20: a record that reading comes to has nothing wrong by itself, and gives a longest message again, or is a stream and one is missing; or one is missing at
  -- the end of a sheet without streams
  pub refused_20 : (p : ℕ)
      → (reading s ≡ Not 20 p)
      ↔ (((i : ℕ) × Reached s i p × KnownKind s i × RightKind s i × Complete s i × Ranged s i × WrongMessages s i) ⊎ ((i : ℕ) × NoStream s i × Missing s i × (p ≡ length s)))
  refused_20 p = (
    λ e. line (given_then 20 p e),
    ⊎_elim (λ w. given_if (at_record w.1 (wrong_messages w.2 w.3 w.4 w.5 w.6))) (λ w. given_if (rw w.3 (no_message w.1 w.2))),
  )
    where
      line : {q : ℕ} → Given s 20 q
          → ((i : ℕ) × Reached s i q × KnownKind s i × RightKind s i × Complete s i × Ranged s i × WrongMessages s i) ⊎ ((i : ℕ) × NoStream s i × Missing s i × (q ≡ length s))
      line (at_record {i} h (wrong_messages k r c f w)) = inl (i, h, k, r, c, f, w)
      line (no_message {i} o m) = inr (i, o, m, refl)

  -- 5: a record that reading comes to has nothing wrong by itself, no longest message is wrong there, and it is one stream more than a limit allows
  pub refused_5 : (p : ℕ)
      → (reading s ≡ Not 5 p) ↔ ((i : ℕ) × Reached s i p × KnownKind s i × RightKind s i × Complete s i × Ranged s i × (WrongMessages s i → ⊥) × (InLimits s i → ⊥))
  refused_5 p = (λ e. line (given_then 5 p e), λ w. given_if (at_record w.1 (one_too_many w.2 w.3 w.4 w.5 w.6 w.7)))
    where
      line : {q : ℕ} → Given s 5 q → (i : ℕ) × Reached s i q × KnownKind s i × RightKind s i × Complete s i × Ranged s i × (WrongMessages s i → ⊥) × (InLimits s i → ⊥)
      line (at_record {i} h (one_too_many k r c f m l)) = (i, h, k, r, c, f, m, l)

  -- 6: all records are taken, the first among them, none of them is a stream, the sheet ends behind them, and no longest message is missing
  pub refused_6 : (p : ℕ) → (reading s ≡ Not 6 p) ↔ ((i : ℕ) × NoStream s i × (Missing s i → ⊥) × (p ≡ length s))
  refused_6 p = (λ e. line (given_then 6 p e), λ w. given_if (rw w.3 (no_stream w.1 w.2)))
    where
      line : {q : ℕ} → Given s 6 q → (i : ℕ) × NoStream s i × (Missing s i → ⊥) × (q ≡ length s)
      line (no_stream {i} o m) = (i, o, m, refl)
      line {q = q} (at_record {i = i} _ x6) = elim x6 [ ]

  -- 7: a variable that reading comes to has nothing wrong by itself, is within the limits, and an earlier one has its identifier; it is no longest message
  pub refused_7 : (p : ℕ)
      → (reading s ≡ Not 7 p)
      ↔ ((i : ℕ) × Reached s i p × KnownKind s i × RightKind s i × Complete s i × Ranged s i × (WrongMessages s i → ⊥) × InLimits s i × MetBefore s i)
  refused_7 p = (λ e. line (given_then 7 p e), λ w. given_if (at_record w.1 (meets_before w.2 w.3 w.4 w.5 w.6 w.7 w.8)))
    where
      line : {q : ℕ} → Given s 7 q
          → (i : ℕ) × Reached s i q × KnownKind s i × RightKind s i × Complete s i × Ranged s i × (WrongMessages s i → ⊥) × InLimits s i × MetBefore s i
      line (at_record {i} h (meets_before k r c f w l m)) = (i, h, k, r, c, f, w, l, m)

  -- reading gives no other number, and no place past the end
  pub numbers_given : {n p : ℕ} → Given s n p → (1 ≤ n) × (n ≤ 7 ⊎ n ≡ 20) × (p ≤ length s)
  numbers_given (empty e) = (omega arith, inl (omega arith), omega arith)
  numbers_given (no_message o m) = (omega arith, inr refl, omega arith)
  numbers_given (no_stream o m) = (omega arith, inl (omega arith), omega arith)
  numbers_given (at_record h (unknown k)) = (omega arith, inl (omega arith), omega (arith, h.inside))
  numbers_given (at_record h (misplaced k r)) = (omega arith, inl (omega arith), omega (arith, h.inside))
  numbers_given (at_record h (cut k r c)) = (omega arith, inl (omega arith), omega (arith, h.inside))
  numbers_given (at_record h (out_of_range k r c f)) = (omega arith, inl (omega arith), omega (arith, h.inside))
  numbers_given (at_record h (wrong_messages k r c f w)) = (omega arith, inr refl, omega (arith, h.inside))
  numbers_given (at_record h (one_too_many k r c f w l)) = (omega arith, inl (omega arith), omega (arith, h.inside))
  numbers_given (at_record h (meets_before k r c f w l m)) = (omega arith, inl (omega arith), omega (arith, h.inside))

  -- the table leaves no choice: two numbers that it gives are one, at one place
  pub given_once : {n p m q : ℕ} → Given s n p → Given s m q → (n ≡ m) × (p ≡ q)
  given_once {n} {p} {m} {q} g h =
      let e : Not n p ≡ Not m q = sym (given_if g) ∙ given_if h in
      (cc, cc)
