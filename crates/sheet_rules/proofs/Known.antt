-- What is known of a sheet that reads without refusal: all that a planner goes by, with nothing about bytes. Assumes nothing.
use mathlib.Core.Path.{◌≡◌, refl, sym, ap, ◌∙◌, subst}
use mathlib.Core.Bool.{Bool, true, false, cond, ◌&&◌, ◌||◌}
use mathlib.Core.List.{List, [], ◌∷◌, ◌++◌}
use mathlib.Core.Logic.{◌⊎◌, inl, inr}
use Prim.Native.Nat.{ℕ, zero, suc, ◌+◌, ◌*◌, ◌≤◌, ◌<◌}
use native.Mathlib.Nat.{not-suc-le-zero, zero-mul, suc-mul}
use native.Mathlib.Omega.{arith}
use native.Mathlib.Decide.{ℕ_discrete}
use borrow.Author.Tests.{ltb-false, leb-false, le-leb, eqb-true, eqb-false, ne_eqb}
use lib.ListN.{length, get_or, length-append, get_or-append}
use lib.Seq.{get_or_at}
use lib.Dec.{ltb, leb, eqb}
use Rattle.common.specs.Checks.{verdict, Verdict}
use Rattle.common.specs.Checks.Verdict.{Passed, Refused}
use Rattle.common.proofs.Checks.{Clear, passed_then}
use Rattle.common.proofs.Checks.Clear.{none, and}
use Rattle.sheet_record.specs.declared.Given.{Given}
use Rattle.sheet_record.specs.declared.Met.{Met}
use Rattle.sheet_record.specs.declared.Record.{Record}
use Rattle.sheet_record.specs.Kinds.{known, size_of, decode, in_range, whole, met_at, met_of, nothing, widths, fields_of, line_of, kinds, bus_of, is_first, is_setting, is_stream, is_stream_of}
use Rattle.sheet_record.proofs.Parts.{setting_is, first_kinds, pnet_first, setting_kinds}
use Rattle.sheet_rules.specs.Sheets.{Sheet, sheet_of, bus_in, given, message_of, edition_of, count_of, longest_of, most_in_all, has_masters, lacks_of, lacking, over_limit, met_before}
use Rattle.sheet_rules.specs.Ready.{edition_met, edition_at}
use Rattle.sheet_rules.specs.Whole.{place_of, records_of, before, first_stream, end_checks, ended, reading}
use Rattle.sheet_rules.specs.Whole.Outcome.{Read, Not}
use Rattle.sheet_rules.proofs.Walk.{head_at, place_next}
use Rattle.sheet_rules.proofs.Cases.{PassesAt, Upto, Stops, upto_front, reading_stops}
use Rattle.sheet_rules.proofs.Cases.Stops.{by_record, at_end}
use Rattle.sheet_rules.proofs.Counts.{count_more, count_none}
use Rattle.sheet_ranges.proofs.Ranges.{segment_ranges, ring_ranges, exchange_ranges, edition_ranges}
use Rattle.sheet_record.proofs.Records.{met_same, met_other}
use Rattle.sheet_rules.proofs.Messages.{lacks_none, longest_short, message_in_range}
use Rattle.sheet_rules.proofs.Openings.{Settled, settled, setting_at, setting_there, its_length, one_message, few_settings, none_lacking}
use Rattle.sheet_rules.proofs.Openings.Settled.{unset, set, own}
use Rattle.sheet_rules.proofs.Order.{given_same, message_of_ring, message_of_master, stream_only, empty_list, Placed, fits_then, stream_of, nth, first_passes, head_some, adds_stream, adds_setting, behind_first, how_many, stream_at}
use Rattle.sheet_rules.proofs.Order.Placed.{as_first, as_setting, as_stream}

pub record Known (s : List ℕ) (S : Sheet) : Type 0 where
  -- a stream at least, and at most 800, or 64 variables
  pub some : 1 ≤ length S.streams
  pub few : length S.streams ≤ 800
  pub few_variables : bus_in S ≡ 5 → length S.streams ≤ 64
  -- stream i, counted from 0, is what is met at its place, and the next record stands behind it
  pub met : (i : ℕ) → i < length S.streams → (met_at s (place_of s (first_stream S + i))).found ≡ get_or S.streams i nothing
  pub next : (i : ℕ) → i < length S.streams → (met_at s (place_of s (first_stream S + i))).next ≡ place_of s (suc (first_stream S + i))
  -- the byte at its place is its kind
  pub byte : (i : ℕ) → i < length S.streams → get_or s (place_of s (first_stream S + i)) 0 ≡ (get_or S.streams i nothing).kind
  -- the first record
  pub head_first : is_first S.head.kind ≡ true
  pub head_ranged : in_range (given (sheet_of []) S.head.a) S.head ≡ true
  -- the streams are of its bus, and in range behind it
  pub kinds : (i : ℕ) → i < length S.streams → is_stream_of (bus_in S) (get_or S.streams i nothing).kind ≡ true
  pub ranged : (i : ℕ) → i < length S.streams → in_range (given S (get_or S.streams i nothing).a) (get_or S.streams i nothing) ≡ true
  -- the settings: the edition of a P-NET sheet, or a longest message of each master, once, behind a ring of kind 9
  pub few_settings : length S.settings ≤ 32
  pub setting_kinds : (i : ℕ) → i < length S.settings → (get_or S.settings i nothing).kind ≡ 8 ⊎ (get_or S.settings i nothing).kind ≡ 10
  pub each_message : S.head.kind ≡ 9 → (y : ℕ) → 1 ≤ y → y ≤ S.head.a → count_of y S.settings ≡ 1
  -- every master's longest message is in its range, and counts as no more for any number
  pub messages : bus_in S ≡ 3 → (y : ℕ) → 1 ≤ y → y ≤ S.head.a → (1 ≤ message_of S y) × (message_of S y ≤ 100000)
  pub messages_short : (y : ℕ) → message_of S y ≤ 100000
  -- the edition that the bytes say, 1 or 2
  pub edition : bus_in S ≡ 1 → edition_at s ≡ edition_of S
  pub editions : bus_in S ≡ 1 → (1 ≤ edition_of S) × (edition_of S ≤ 2)
  -- at most 80 streams for one master
  pub per_master : (k : ℕ) → (bus_in S ≡ 5 → ⊥) → count_of k S.streams ≤ 80
  -- no two variables have one identifier
  pub distinct : bus_in S ≡ 5 → (i j : ℕ) → i < j → j < length S.streams
      → (get_or S.streams i nothing).a ≡ (get_or S.streams j nothing).a → ⊥

-- ---- Streams that passed one after the other

pub both_fail : (a b : Bool) → (a || b) ≡ false → (a ≡ false) × (b ≡ false)
both_fail true b e = let z : ◌≡◌ {A = ℕ} 0 1 = cc in absurd (omega arith)
both_fail false b e = (refl, e)

-- behind the first record h, where a record of master y is given g y
record Sound (h : Record) (g : ℕ → Given) (rs : List Record) : Type 0 where
  few : length rs ≤ most_in_all (bus_of h.kind)
  kinds : (i : ℕ) → i < length rs → is_stream_of (bus_of h.kind) (get_or rs i nothing).kind ≡ true
  ranged : (i : ℕ) → i < length rs → in_range (g (get_or rs i nothing).a) (get_or rs i nothing) ≡ true
  per_master : (k : ℕ) → (bus_of h.kind ≡ 5 → ⊥) → count_of k rs ≤ 80
  distinct : bus_of h.kind ≡ 5 → (i j : ℕ) → i < j → j < length rs → (get_or rs i nothing).a ≡ (get_or rs j nothing).a → ⊥

sound_none : (h : Record) (g : ℕ → Given) → Sound h g []
unfolding count_of
sound_none h g =
    record {
      few = omega arith;
      kinds = λ i l. absurd (not-suc-le-zero l);
      ranged = λ i l. absurd (not-suc-le-zero l);
      per_master = λ k e. omega arith;
      distinct = λ e i j l k. absurd (not-suc-le-zero k);
    }

-- what is given may be said in another way
sound_same : (h : Record) (g g' : ℕ → Given) (rs : List Record) → ((y : ℕ) → g y ≡ g' y) → Sound h g rs → Sound h g' rs
sound_same h g g' rs same d =
    record {
      few = d.few;
      kinds = d.kinds;
      ranged = λ i l. rw (← same (get_or rs i nothing).a) (d.ranged i l);
      per_master = d.per_master;
      distinct = d.distinct;
    }

-- what holds of some records and of one more
each_more : (P : Record → Type 0) (rs : List Record) (r : Record) → ((i : ℕ) → i < length rs → P (get_or rs i nothing)) → P r
    → (i : ℕ) → i < length (rs ++ (r ∷ [])) → P (get_or (rs ++ (r ∷ [])) i nothing)
each_more P rs r all one i l = split (ℕ_discrete i (length rs))
  where
    split : Dec (i ≡ length rs) → P (get_or (rs ++ (r ∷ [])) i nothing)
    split (yes e) = subst P (sym (get_or_at rs r [] nothing i (sym e))) one
    split (no e) =
        let k : i < length rs = omega (arith, e, length-append rs (r ∷ [])) in
        subst P (sym (get_or-append rs (r ∷ []) nothing i k)) (all i k)

-- one more stream that passes
module _ (h : Record) (g : ℕ → Given) (rs : List Record) (sound : Sound h g rs) (r : Record) (its : is_stream_of (bus_of h.kind) r.kind ≡ true)
    (in-limits : over_limit rs r ≡ false) (is-new : met_before rs r ≡ false) where
  of_bus : bus_of r.kind ≡ bus_of h.kind
  of_bus = (stream_of (bus_of h.kind) r.kind its).1

  limits : (leb (most_in_all (bus_of h.kind)) (length rs) ≡ false) × ((has_masters (bus_of h.kind) && leb 80 (count_of r.a rs)) ≡ false)
  unfolding over_limit
  limits =
      let e : (leb (most_in_all (bus_of h.kind)) (length rs) || (has_masters (bus_of h.kind) && leb 80 (count_of r.a rs))) ≡ false = rw of_bus at in-limits in
      both_fail (leb (most_in_all (bus_of h.kind)) (length rs)) (has_masters (bus_of h.kind) && leb 80 (count_of r.a rs)) e

  more_few : length (rs ++ (r ∷ [])) ≤ most_in_all (bus_of h.kind)
  more_few = omega (arith, length-append rs (r ∷ []), leb-false (most_in_all (bus_of h.kind)) (length rs) limits.0)

  more_counted : (k : ℕ) → (bus_of h.kind ≡ 5 → ⊥) → count_of k (rs ++ (r ∷ [])) ≤ 80
  unfolding has_masters
  more_counted k e = split (eqb r.a k) refl
    where
      split : (b : Bool) → eqb r.a k ≡ b → count_of k (rs ++ (r ∷ [])) ≤ 80
      split true q =
          let f : leb 80 (count_of r.a rs) ≡ false = rw (ne_eqb (bus_of h.kind) 5 e) at limits.1 in
          let g : leb 80 (count_of k rs) ≡ false = rw (eqb-true r.a k q) at f in
          let c : count_of k (rs ++ (r ∷ [])) ≡ count_of k rs + 1 = rw q at (count_more k rs r) in
          omega (arith, leb-false 80 (count_of k rs) g)
      split false q =
          let c : count_of k (rs ++ (r ∷ [])) ≡ count_of k rs + 0 = rw q at (count_more k rs r) in
          omega (arith, sound.per_master k e)

  new_identifier : bus_of h.kind ≡ 5 → count_of r.a rs ≡ 0
  unfolding met_before
  new_identifier e =
      let f : ltb 0 (count_of r.a rs) ≡ false = rw (of_bus, e) at is-new in
      omega (arith, ltb-false 0 (count_of r.a rs) f)

  more_distinct : bus_of h.kind ≡ 5 → (i j : ℕ) → i < j → j < length (rs ++ (r ∷ [])) → (get_or (rs ++ (r ∷ [])) i nothing).a ≡ (get_or (rs ++ (r ∷ [])) j nothing).a → ⊥
  more_distinct e i j l k q = split (ℕ_discrete j (length rs))
    where
      old : (x : ℕ) → x < length rs → get_or (rs ++ (r ∷ [])) x nothing ≡ get_or rs x nothing
      old x m = get_or-append rs (r ∷ []) nothing x m

      split : Dec (j ≡ length rs) → ⊥
      split (yes z) =
          let m : i < length rs = omega arith in
          let a : (get_or rs i nothing).a ≡ r.a = rw (old i m, get_or_at rs r [] nothing j (sym z)) at q in
          count_none r.a rs i (new_identifier e) m a
      split (no z) =
          let m : j < length rs = omega (arith, z, length-append rs (r ∷ [])) in
          let a : (get_or rs i nothing).a ≡ (get_or rs j nothing).a = rw (old i (omega arith), old j m) at q in
          sound.distinct e i j l m a

  sound_more : in_range (g r.a) r ≡ true → Sound h g (rs ++ (r ∷ []))
  sound_more is-ranged =
      record {
        few = more_few;
        kinds = each_more (λ x. is_stream_of (bus_of h.kind) x.kind ≡ true) rs r sound.kinds its;
        ranged = each_more (λ x. in_range (g x.a) x ≡ true) rs r sound.ranged is-ranged;
        per_master = more_counted;
        distinct = more_distinct;
      }

-- ---- The streams of a sheet

module _ (s : List ℕ) where
  sound_upto : (n : ℕ) → Upto s (suc n) → Sound (decode s 0) (given (before s (suc n))) (before s (suc n)).streams
  sound_upto zero u = subst (Sound (decode s 0) (given (before s 1))) (sym (behind_first s (u.passed 0 (omega arith))).1) (sound_none (decode s 0) (given (before s 1)))
  sound_upto (suc n) u =
      step (sound_upto n (upto_front s (suc (suc n)) (suc n) (omega arith) u)) (fits_then (before s (suc n)) (nth s (suc n)).kind p.is_right)
    where
      p : PassesAt s (suc n)
      p = u.passed (suc n) (omega arith)

      earlier : Upto s (suc n)
      earlier = upto_front s (suc (suc n)) (suc n) (omega arith) u

      S : Sheet
      S = before s (suc n)

      S' : Sheet
      S' = before s (suc (suc n))

      step : Sound (decode s 0) (given S) S.streams → Placed S (nth s (suc n)).kind → Sound (decode s 0) (given S') S'.streams
      step ih (as_first e z) = absurd (head_some s n earlier z)
      step ih (as_setting e z) =
          let none : S'.streams ≡ [] = (adds_setting s (suc n) e).1 ∙ empty_list s S.streams z in
          subst (Sound (decode s 0) (given S')) (sym none) (sound_none (decode s 0) (given S'))
      step ih (as_stream e) =
          let its : is_stream_of (bus_of (decode s 0).kind) (nth s (suc n)).kind ≡ true = rw (head_at s n) at e in
          let a = adds_stream s (suc n) (stream_of (bus_in S) (nth s (suc n)).kind e).0 in
          let more = sound_more (decode s 0) (given S) S.streams ih (nth s (suc n)) its p.in_limits p.is_new p.is_ranged in
          let same : (y : ℕ) → given S y ≡ given S' y = λ y. given_same S S' y (head_at s n ∙ sym (head_at s (suc n))) (sym a.0) in
          subst (Sound (decode s 0) (given S')) (sym a.1) (sound_same (decode s 0) (given S) (given S') (S.streams ++ (nth s (suc n) ∷ [])) same more)

-- a whole record of a known kind is met
pub met_whole : (s : List ℕ) (at : ℕ) → known (get_or s at 0) ≡ true → at + size_of (get_or s at 0) ≤ length s
    → met_at s at ≡ record { found = decode s at; next = at + size_of (get_or s at 0) }
unfolding met_at whole
met_whole s at k l = rw (k, le-leb (at + size_of (get_or s at 0)) (length s) l)

few_kinds : (bus : ℕ) → most_in_all bus ≤ 800
unfolding most_in_all
few_kinds bus = split (eqb bus 5)
  where
    split : (b : Bool) → cond b 64 800 ≤ 800
    split true = omega arith
    split false = omega arith

few_variables_at : (bus : ℕ) → bus ≡ 5 → most_in_all bus ≡ 64
unfolding most_in_all
few_variables_at bus e = rw e

module _ (s : List ℕ) (m : ℕ) (u : Upto s (suc m)) where
  met_at_law : (j : ℕ) → j ≤ m → met_at s (place_of s j) ≡ record { found = nth s j; next = place_of s (suc j) }
  unfolding decode place_of
  met_at_law j l = met_whole s (place_of s j) (u.passed j (omega arith)).is_known (u.passed j (omega arith)).is_whole

  -- the edition stands just behind a P-NET segment, which has 2 bytes
  module _ (some : 1 ≤ m) (pnet_first : (decode s 0).kind ≡ 1) where
    place_one : place_of s 1 ≡ 2
    unfolding place_of decode size_of widths fields_of line_of kinds
    place_one = rw pnet_first

    -- it is 1 or 2
    edition_ranged : (1 ≤ edition_of (before s (suc m))) × (edition_of (before s (suc m)) ≤ 2)
    edition_ranged = split (settled s m u)
      where
        split : Settled s m → (1 ≤ edition_of (before s (suc m))) × (edition_of (before s (suc m)) ≤ 2)
        split (unset e first) = rw e (omega arith, omega arith)
        split (own f) = absurd (omega arith)
        split (set l f k one) =
            let w = (edition_ranges _ (nth s 1) (u.passed 1 (omega arith)).is_ranged k).edition in
            rw one (w.least, w.most)

    -- its record is that kind's only if the byte there is
    not_edition : is_stream (nth s 1).kind ≡ true → get_or s 2 0 ≡ 8 → ⊥
    unfolding decode
    not_edition its e =
        let k : (nth s 1).kind ≡ 8 = ap (λ (x : ℕ). get_or s x 0) place_one ∙ e in
        let f : is_setting 8 ≡ false = rw k at (stream_only (nth s 1).kind its) in
        let t : is_setting 8 ≡ true = setting_is 8 in
        let z : ◌≡◌ {A = ℕ} 0 1 = cc in
        omega arith

    edition_there : edition_at s ≡ edition_of (before s (suc m))
    unfolding edition_at decode
    edition_there = split (settled s m u)
      where
        split : Settled s m → edition_met (met_of s 2 8) ≡ edition_of (before s (suc m))
        split (unset e first) = rw (e, ← met_other s 2 8 (not_edition (first some))) refl
        split (own f) = absurd (omega arith)
        split (set l f k one) =
            let e : get_or s 2 0 ≡ 8 = sym (ap (λ (x : ℕ). get_or s x 0) place_one) ∙ k in
            let q : met_of s 2 8 ≡ record { found = nth s 1; next = place_of s 2 } = met_same s 2 8 e ∙ (ap (met_at s) (sym place_one) ∙ met_at_law 1 some) in
            rw (one, q, ne_eqb (place_of s 2) 2 (λ z. omega (arith, place_next s 1, place_one))) refl

  setting_kind_at : (i : ℕ) → i < length (before s (suc m)).settings
      → (get_or (before s (suc m)).settings i nothing).kind ≡ 8 ⊎ (get_or (before s (suc m)).settings i nothing).kind ≡ 10
  setting_kind_at i l =
      subst (λ (r : Record). r.kind ≡ 8 ⊎ r.kind ≡ 10) (sym (setting_at s m u i l)) (setting_kinds (nth s (suc i)).kind (setting_there s m u i l))

  -- behind a stream, each master of a ring of kind 9 has its longest message, once
  messages_there : 1 ≤ length (before s (suc m)).streams → (decode s 0).kind ≡ 9 → (y : ℕ) → 1 ≤ y → y ≤ (decode s 0).a → count_of y (before s (suc m)).settings ≡ 1
  unfolding lacking
  messages_there h ring y lo hi =
      let S = before s (suc m) in
      let e : lacks_of (decode s 0).a S.settings ≡ false = rw (head_at s m, ring) at (none_lacking s m u h) in
      omega (arith, lacks_none (decode s 0).a S.settings e y lo hi, one_message s ring m u y)

  -- a longest message is 100,000 at most, and on PROFIBUS 1 at least
  message_there : (y : ℕ) → (message_of (before s (suc m)) y ≤ 100000) × (bus_of (decode s 0).kind ≡ 3 → 1 ≤ message_of (before s (suc m)) y)
  unfolding place_of bus_of line_of kinds
  message_there y = by (first_kinds (decode s 0).kind (first_passes s p))
    where
      p : PassesAt s 0
      p = u.passed 0 (omega arith)

      S : Sheet
      S = before s (suc m)

      first_kind : S.head.kind ≡ (decode s 0).kind
      first_kind = ap (λ (r : Record). r.kind) (head_at s m)

      -- that of the first record
      of_first : ((decode s 0).kind ≡ 9 → ⊥) → message_of S y ≡ (decode s 0).c
      of_first n = message_of_ring S y (λ e. n (sym first_kind ∙ e)) ∙ ap (λ (r : Record). r.c) (head_at s m)

      by : (decode s 0).kind ≡ 1 ⊎ (decode s 0).kind ≡ 3 ⊎ (decode s 0).kind ≡ 5 ⊎ (decode s 0).kind ≡ 9
          → (message_of S y ≤ 100000) × (bus_of (decode s 0).kind ≡ 3 → 1 ≤ message_of S y)
      by (inl e) =
          let w = segment_ranges _ (decode s 0) p.is_ranged e in
          (omega (arith, of_first (λ q. omega arith), w.one_field.no_c), λ b. absurd (omega (arith, ap bus_of e)))
      by (inr (inl e)) =
          let w = (ring_ranges _ (decode s 0) p.is_ranged e).message in
          (omega (arith, of_first (λ q. omega arith), w.most), λ b. omega (arith, of_first (λ q. omega arith), w.least))
      by (inr (inr (inl e))) =
          let w = exchange_ranges _ (decode s 0) p.is_ranged e in
          (omega (arith, of_first (λ q. omega arith), w.one_field.no_c), λ b. absurd (omega (arith, ap bus_of e)))
      by (inr (inr (inr e))) =
          let w = message_in_range (longest_of y S.settings) (longest_short y S.settings (its_length s e m u)) in
          let q = message_of_master S y (first_kind ∙ e) in
          (omega (arith, q, w.1), λ b. omega (arith, q, w.0))

  known_there : 1 ≤ length (before s (suc m)).streams → Known s (before s (suc m))
  unfolding before records_of place_of decode
  known_there h =
      let S = before s (suc m) in
      let q = head_at s m in
      let d = sound_upto s m u in
      let p = u.passed 0 (omega arith) in
      let on-pnet : bus_in S ≡ 1 → (decode s 0).kind ≡ 1 = λ e. pnet_first (decode s 0).kind (first_passes s p) (rw q at e) in
      let inside : (i : ℕ) → i < length S.streams → first_stream S + i ≤ m = λ i l. omega (arith, how_many s m u) in
      record {
        some = h;
        few = omega (arith, d.few, few_kinds (bus_of (decode s 0).kind));
        few_variables = λ e. omega (arith, d.few, few_variables_at (bus_of (decode s 0).kind) (rw q at e));
        met = λ i l. ap (λ (x : Met). x.found) (met_at_law (first_stream S + i) (inside i l)) ∙ sym (stream_at s m u i l);
        next = λ i l. ap (λ (x : Met). x.next) (met_at_law (first_stream S + i) (inside i l));
        byte = λ i l. ap (λ (r : Record). r.kind) (sym (stream_at s m u i l));
        head_first = rw q (first_passes s p);
        head_ranged = rw q p.is_ranged;
        kinds = λ i l. rw q (d.kinds i l);
        ranged = d.ranged;
        few_settings = few_settings s m u;
        setting_kinds = setting_kind_at;
        each_message = λ e y lo hi. messages_there h (rw q at e) y lo (rw q at hi);
        messages = λ e y lo hi. ((message_there y).1 (rw q at e), (message_there y).0);
        messages_short = λ y. (message_there y).0;
        edition = λ e. edition_there (omega (arith, how_many s m u)) (on-pnet e);
        editions = λ e. edition_ranged (omega (arith, how_many s m u)) (on-pnet e);
        per_master = λ k e. d.per_master k (rw q at e);
        distinct = λ e i j l k. d.distinct (rw q at e) i j l k;
      }

  -- ---- How long it is

  pub streams_few : length (before s (suc m)).streams ≤ most_in_all (bus_of (decode s 0).kind)
  streams_few = (sound_upto s m u).few

  -- where no setting of the sheet is longer than v, and no stream of its bus longer than w, the places are no higher
  pub place_bound : (v w : ℕ) → ((j : ℕ) → j < m → is_setting (nth s (suc j)).kind ≡ true → size_of (nth s (suc j)).kind ≤ v) → ((k : ℕ) → is_stream_of (bus_of (decode s 0).kind) k ≡ true → size_of k ≤ w)
      → (j : ℕ) → j ≤ m → place_of s (suc j) ≤ size_of (decode s 0).kind + length (before s (suc j)).settings * v + length (before s (suc j)).streams * w
  unfolding place_of decode
  place_bound v w settings short zero l =
      let b = behind_first s (u.passed 0 (omega arith)) in
      rw (b.0, b.1) (omega (arith, zero-mul v, zero-mul w))
  place_bound v w settings short (suc j) l =
      step (place_bound v w settings short j (omega arith)) (fits_then (before s (suc j)) (nth s (suc j)).kind (u.passed (suc j) (omega arith)).is_right)
    where
      S : Sheet
      S = before s (suc j)

      step : place_of s (suc j) ≤ size_of (decode s 0).kind + length S.settings * v + length S.streams * w → Placed S (nth s (suc j)).kind
          → place_of s (suc j) + size_of (nth s (suc j)).kind ≤ size_of (decode s 0).kind + length (before s (suc (suc j))).settings * v + length (before s (suc (suc j))).streams * w
      step ih (as_first e z) = absurd (head_some s j (upto_front s (suc m) (suc j) (omega arith) u) z)
      step ih (as_setting e z) =
          let a = adds_setting s (suc j) e in
          rw (a.0, a.1, length-append S.settings (nth s (suc j) ∷ [])) (omega (arith, ih, settings j (omega arith) e, suc-mul (length S.settings) v))
      step ih (as_stream e) =
          let a = adds_stream s (suc j) (stream_of (bus_in S) (nth s (suc j)).kind e).0 in
          let its : is_stream_of (bus_of (decode s 0).kind) (nth s (suc j)).kind ≡ true = rw (head_at s j) at e in
          rw (a.0, a.1, length-append S.streams (nth s (suc j) ∷ [])) (omega (arith, ih, short (nth s (suc j)).kind its, suc-mul (length S.streams) w))

  pub first_record : is_first (decode s 0).kind ≡ true
  first_record = first_passes s (u.passed 0 (omega arith))

-- ---- The law

-- a sheet that ends without a refusal has its first record and a stream
ended_read : (s : List ℕ) (i : ℕ) (S : Sheet) → ended s i ≡ Read S → (m : ℕ) × (i ≡ suc m) × (1 ≤ length (before s i).streams) × (S ≡ before s i)
unfolding ended end_checks before sheet_of
ended_read s i S e = split (verdict (end_checks (length s) (before s i))) refl
  where
    some : (n : ℕ) → eqb n 0 ≡ false → 1 ≤ n
    some zero f = absurd (eqb-false 0 0 f refl)
    some (suc n) f = omega arith

    behind : (i' : ℕ) → eqb (before s i').head.kind 0 ≡ false → (m : ℕ) × (i' ≡ suc m)
    behind zero f = absurd (eqb-false (before s 0).head.kind 0 f refl)
    behind (suc m) f = (m, refl)

    clear : Clear (end_checks (length s) (before s i)) → (m : ℕ) × (i ≡ suc m) × (1 ≤ length (before s i).streams)
    clear (and f (and l (and g none))) = let b = behind i f in (b.0, b.1, some (length (before s i).streams) g)

    split : (v : Verdict) → verdict (end_checks (length s) (before s i)) ≡ v → (m : ℕ) × (i ≡ suc m) × (1 ≤ length (before s i).streams) × (S ≡ before s i)
    split Passed q =
        let c = clear (passed_then (end_checks (length s) (before s i)) q) in
        let f : Read (before s i) ≡ Read S = rw q at e in
        (c.0, c.1, c.2, cc)
    split (Refused n p) q =
        let f : Not n p ≡ Read S = rw q at e in
        let z : ◌≡◌ {A = ℕ} 0 1 = cc in
        absurd (omega arith)

-- a sheet is read to its end: m records behind its first, and all records pass
pub record ReadsTo (s : List ℕ) (S : Sheet) : Type 0 where
  pub m : ℕ
  pub some : 1 ≤ length S.streams
  pub upto : Upto s (suc m)
  pub ends : place_of s (suc m) ≡ length s
  pub says : S ≡ before s (suc m)

pub reading_whole : (s : List ℕ) (S : Sheet) → reading s ≡ Read S → ReadsTo s S
reading_whole s S e = split (reading_stops s)
  where
    split : Stops s (reading s) → ReadsTo s S
    split (by_record i n p u l j q) = let z : ◌≡◌ {A = ℕ} 0 1 = cc in absurd (omega arith)
    split (at_end i u l q) =
        let r = ended_read s i S (sym q ∙ e) in
        record { m = r.0; some = rw r.3 r.2; upto = rw r.1 at u; ends = rw r.1 at l; says = rw r.1 at r.3 }

pub reading_read : (s : List ℕ) (S : Sheet) → reading s ≡ Read S → Known s S
reading_read s S e =
    let r = reading_whole s S e in
    subst (Known s) (sym r.says) (known_there s r.m r.upto (subst (λ (x : Sheet). 1 ≤ length x.streams) r.says r.some))
