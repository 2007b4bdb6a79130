-- The reader at the first record and at the settings behind it: what each makes of the sheet. Assumes nothing.
use mathlib.Core.Path.{◌≡◌, refl, sym, ap, ◌∙◌}
use mathlib.Core.Bool.{Bool, true, false, cond, not, ◌&&◌, ◌||◌, and-false, or-false}
use mathlib.Core.List.{List, [], ◌∷◌, ◌++◌}
use mathlib.Core.Logic.{◌⊎◌, inl, inr}
use Prim.Native.Nat.{ℕ, zero, suc, ◌+◌, ◌≤◌, ◌<◌}
use native.Mathlib.Omega.{arith}
use borrow.Author.Tests.{ne_eqb, ltb-true, ltb-false}
use lib.ListN.{length, get_or, set, replicate, length-append, get_or-eq_default}
use lib.Dec.{eqb, leb, ltb}
use Rattle.common.specs.Runs.{tab}
use Rattle.common.specs.Checks.{check, Verdict, verdict}
use Rattle.common.specs.Checks.Verdict.{Passed, Refused}
use Rattle.sheet_record.specs.declared.Given.{Given}
use Rattle.sheet_record.specs.declared.Record.{Record}
use Rattle.sheet_record.specs.declared.Met.{Met}
use Rattle.sheet_record.specs.Kinds.{kinds, line_of, fields_of, part_of, known, size_of, decode, limit, ranged, in_range, whole, met_at, met_of, is_first, is_setting, is_stream, numbers, bus_of}
use Rattle.sheet_record.proofs.Records.{met_same}
use Rattle.sheet_record.proofs.Parts.{setting_kinds}
use Rattle.sheet_ranges.proofs.Ranges.{open_ring_ranges, message_ranges}
use Rattle.sheet_judge.specs.Own.{own_no}
use Rattle.sheet_judge.proofs.Own.{met_some, own_met, own_met_kind}
use Rattle.sheet_messages.specs.Messages.{message_by, lacks_in}
use Rattle.sheet_rules.specs.Sheets.{Sheet, sheet_of, head_of, given, message_of, fits, lacking, repeated, most_in_all, has_masters, count_of, over_limit, met_before}
use Rattle.sheet_rules.specs.Whole.{place_of, records_of, before, judge, reading}
use Rattle.sheet_read.specs.Told.{told}
use Rattle.sheet_read.specs.Steps.{Begun, Opened}
use Rattle.sheet_rules.proofs.Walk.{head_at, place_next}
use Rattle.sheet_rules.proofs.Cases.{PassesAt, Upto, passes_then, passes_if, upto_none, upto_more, stops_once, ended_empty}
use Rattle.sheet_rules.proofs.Cases.Stops.{by_record, at_end}
use Rattle.sheet_read.proofs.Judged.{numbered, late_checks, own_at, wrong_at, judge_own}
use Rattle.sheet_rules.proofs.Order.{no_limits, given_none, nth, fits_first, edition_fits, message_fits, setting_only, empty_list, how_many, behind_first, adds_setting}
use Rattle.sheet_rules.proofs.Openings.{counted, edition_first}
use Rattle.sheet_read.proofs.Gathered.{of_every, same_for_all, same_past, lacks_nothing, Gives, gives_none, place_again, place_new, gives_more, lacks_told, counts_each, counts_past}
use Rattle.std.specs.declared.result.Result.TheVariants.{Err}
use Rattle.common.specs.Checks.{refusal}

-- ---- A record by itself

pub own_passed : (a b c d : Bool) → own_no a b c d ≡ 0 → (a ≡ true) × (b ≡ true) × (c ≡ true) × (d ≡ true)
unfolding own_no
own_passed false b c d e = absurd (omega arith)
own_passed true false c d e = absurd (omega arith)
own_passed true true false d e = absurd (omega arith)
own_passed true true true false e = absurd (omega arith)
own_passed true true true true e = (refl, refl, refl, refl)

-- a number that is not 0 is what is told
pub numbered_not : (n p : ℕ) (v : Verdict) → (n ≡ 0 → ⊥) → numbered n p v ≡ Refused n p
unfolding numbered
numbered_not zero p v h = absurd (h refl)
numbered_not (suc n) p v h = refl

pub told_refused : (s : List ℕ) (i x p : ℕ) → Upto s i → place_of s i < length s → judge s i ≡ Refused x p → Err (refusal x p) ≡ told s (reading s)
told_refused s i x p u l e = ap (told s) (sym (stops_once s (by_record i x p u l e refl)))

-- behind no stream, no limit is met
late_first : (r : Record) (p : ℕ) → verdict (check 5 (over_limit [] r) p ∷ check 7 (met_before [] r) p ∷ []) ≡ Passed
unfolding verdict over_limit met_before most_in_all has_masters count_of
late_first r p = split (eqb (bus_of r.kind) 5)
  where
    split : (b : Bool) → verdict (check 5 (leb (cond b 64 800) 0 || (not b && leb 80 0)) p ∷ check 7 (b && ltb 0 0) p ∷ []) ≡ Passed
    split true = refl
    split false = refl

-- the refusals of record i in their order: its own, 20, and those that go by the streams before it
module _ (s : List ℕ) (i own : ℕ) (is : own ≡ own_at s i) where
  pub judged_own : (own ≡ 0 → ⊥) → judge s i ≡ Refused own (place_of s i)
  judged_own h =
      judge_own s i ∙ (rw (← is) (numbered_not own (place_of s i) (cond (wrong_at s i) (Refused 20 (place_of s i)) (verdict (late_checks s i))) h))

  module _ (z : own ≡ 0) where
    judged_rest : judge s i ≡ cond (wrong_at s i) (Refused 20 (place_of s i)) (verdict (late_checks s i))
    unfolding numbered
    judged_rest =
        judge_own s i ∙ ap (λ (x : ℕ). numbered x (place_of s i) (cond (wrong_at s i) (Refused 20 (place_of s i)) (verdict (late_checks s i)))) (sym is ∙ z)

    pub judged_wrong : wrong_at s i ≡ true → judge s i ≡ Refused 20 (place_of s i)
    judged_wrong w = judged_rest ∙ (rw w refl)

    pub judged_late : wrong_at s i ≡ false → judge s i ≡ verdict (late_checks s i)
    judged_late w = judged_rest ∙ (rw w refl)

    -- before the streams, it passes
    pub judged_passed : wrong_at s i ≡ false → (before s i).streams ≡ [] → judge s i ≡ Passed
    unfolding late_checks
    judged_passed w e = judged_late w ∙ (rw e (late_first (decode s (place_of s i)) (place_of s i)))

-- ---- The first record

pub told_empty : (s : List ℕ) → length s ≡ 0 → Err (refusal 1 0) ≡ told s (reading s)
unfolding place_of
told_empty s e = ap (told s) (sym (stops_once s (at_end 0 (upto_none s) (sym e) refl) ∙ ended_empty s))

-- nothing is repeated or missing before it
first_not_wrong : (s : List ℕ) → wrong_at s 0 ≡ false
unfolding wrong_at repeated lacking before records_of sheet_of head_of count_of
first_not_wrong s = simp and-false

-- the reader comes to the first record: what it meets, whether that is in range and may stand first, and the refusal of it by itself
pub record MeetsFirst (s : List ℕ) (met : Met) (ranged right : Bool) (own : ℕ) : Type 0 where
  pub some : 0 < length s
  pub is_met : met ≡ met_at s 0
  pub is_right : right ≡ is_first (get_or s 0 0)
  pub is_ranged : ranged ≡ in_range no_limits met.found
  pub is_own : own ≡ own_no (known (get_or s 0 0)) right (not (eqb met.next 0)) ranged

module _ {s : List ℕ} {met : Met} {ranged right : Bool} {own : ℕ} (m : MeetsFirst s met ranged right own) where
  first_is : own ≡ own_at s 0
  unfolding own_at place_of before records_of
  first_is = rw (m.is_own, m.is_ranged, m.is_met, m.is_right, own_met s 0, ← fits_first (get_or s 0 0), given_none (decode s 0).a) refl

  pub refused_first : (own ≡ 0 → ⊥) → Err (refusal own 0) ≡ told s (reading s)
  unfolding place_of
  refused_first h = told_refused s 0 own 0 (upto_none s) m.some (judged_own s 0 own first_is h)

  pub begun_first : own ≡ 0 → Begun s met.found met.next
  unfolding own_at place_of before records_of sheet_of decode whole
  begun_first z =
      let p = own_passed _ _ _ _ (sym first_is ∙ z) in
      let h : whole s 0 ≡ true = rw (p.0, p.2) in
      let q = m.is_met ∙ met_some s 0 h in
      record {
        some = m.some;
        passed = judged_passed s 0 own first_is z (first_not_wrong s) refl;
        is_head = ap (λ (x : Met). x.found) q;
        is_first_law = ap (λ (x : Met). x.next) q;
      }

-- ---- A setting

-- the reader comes to a setting of a kind, record i: what it meets, whether that is in range, and the refusal of it by itself
pub record MeetsSetting (s : List ℕ) (i at kind : ℕ) (g : Given) (met : Met) (ranged : Bool) (own : ℕ) : Type 0 where
  pub upto : Upto s i
  pub is_at : at ≡ place_of s i
  pub stands : get_or s at 0 ≡ kind
  pub is_setting_law : is_setting kind ≡ true
  pub right : fits (before s i) kind ≡ true
  pub no_stream : (before s i).streams ≡ []
  pub is_given : (r : Record) → r.kind ≡ kind → in_range g r ≡ in_range (given (before s i) r.a) r
  pub is_met : met ≡ met_of s at kind
  pub is_ranged : ranged ≡ (eqb met.found.kind kind && in_range g met.found)
  pub is_own : own ≡ own_no (known kind) true (not (eqb met.next at)) ranged

-- a setting has a kind
setting_some : (k : ℕ) → is_setting k ≡ true → k ≡ 0 → ⊥
setting_some k e z = split (setting_kinds k e)
  where
    split : k ≡ 8 ⊎ k ≡ 10 → ⊥
    split (inl q) = omega arith
    split (inr q) = omega arith

module _ {s : List ℕ} {i at kind : ℕ} {g : Given} {met : Met} {ranged : Bool} {own : ℕ} (m : MeetsSetting s i at kind g met ranged own) where
  its_kind : (nth s i).kind ≡ kind
  unfolding decode
  its_kind = ap (λ (x : ℕ). get_or s x 0) (sym m.is_at) ∙ m.stands

  here : place_of s i < length s
  here = split (ltb (place_of s i) (length s)) refl
    where
      split : (b : Bool) → ltb (place_of s i) (length s) ≡ b → place_of s i < length s
      split true e = ltb-true (place_of s i) (length s) e
      split false e =
          absurd (setting_some kind m.is_setting_law (sym m.stands ∙ get_or-eq_default s 0 {n = at} (rw m.is_at (ltb-false (place_of s i) (length s) e))))

  own_by : own ≡ own_no (known (get_or s at 0)) true (leb (at + size_of (get_or s at 0)) (length s)) (in_range g (decode s at))
  own_by = rw (m.is_own, m.is_ranged, m.is_met) (own_met_kind s at kind m.stands true g)

  right_here : true ≡ fits (before s i) (get_or s (place_of s i) 0)
  right_here = sym (ap (λ (x : ℕ). fits (before s i) (get_or s x 0)) (sym m.is_at) ∙ (ap (fits (before s i)) m.stands ∙ m.right))

  own_is : own ≡ own_at s i
  unfolding own_at
  own_is =
      own_by ∙ (rw (m.is_at, m.is_given (nth s i) its_kind) (ap (λ (b : Bool).
      own_no (known (get_or s (place_of s i) 0)) b (leb (place_of s i + size_of (get_or s (place_of s i) 0)) (length s)) (in_range (given (before s i) (nth s i).a) (nth s i))) right_here))

  pub refused_setting : (own ≡ 0 → ⊥) → Err (refusal own at) ≡ told s (reading s)
  refused_setting h = rw m.is_at (told_refused s i own (place_of s i) m.upto here (judged_own s i own own_is h))

  -- 20 is said of it where its master has one before
  its_wrong : wrong_at s i ≡ repeated (before s i) (nth s i)
  unfolding wrong_at
  its_wrong = rw (ap is_stream its_kind ∙ setting_only kind m.is_setting_law) (or-false (repeated (before s i) (nth s i)))

  module _ (z : own ≡ 0) where
    setting_all : (known (get_or s at 0) ≡ true) × (true ≡ true) × (leb (at + size_of (get_or s at 0)) (length s) ≡ true) × (in_range g (decode s at) ≡ true)
    setting_all = own_passed _ _ _ _ (sym own_by ∙ z)

    setting_met : met ≡ record { found = decode s at; next = at + size_of (get_or s at 0) }
    unfolding whole
    setting_met = m.is_met ∙ (met_same s at kind m.stands ∙ met_some s at (rw (setting_all.0, setting_all.2) refl))

    -- the setting, and the place just after it
    pub setting_is : met.found ≡ nth s i
    setting_is = ap (λ (x : Met). x.found) setting_met ∙ ap (decode s) m.is_at

    pub setting_next : met.next ≡ place_of s (suc i)
    unfolding place_of
    setting_next = ap (λ (x : Met). x.next) setting_met ∙ (rw m.is_at refl)

    pub setting_later : at < met.next
    setting_later = omega (arith, setting_next, m.is_at, place_next s i)

    pub setting_inside : at < length s
    setting_inside = rw m.is_at here

    pub setting_ranged : in_range g met.found ≡ true
    setting_ranged = ap (λ (x : Met). in_range g x.found) setting_met ∙ setting_all.3

    pub setting_kind : met.found.kind ≡ kind
    setting_kind = ap (λ (r : Record). r.kind) setting_is ∙ its_kind

    pub repeated_setting : repeated (before s i) met.found ≡ true → Err (refusal 20 at) ≡ told s (reading s)
    repeated_setting w =
        rw m.is_at
        (told_refused s i 20 (place_of s i) m.upto here (judged_wrong s i own own_is z (its_wrong ∙ (sym (ap (repeated (before s i)) setting_is) ∙ w))))

    -- it passes
    module _ (new : repeated (before s i) met.found ≡ false) where
      pub setting_upto : Upto s (suc i)
      setting_upto =
          upto_more s i m.upto here (passes_then s i (judged_passed s i own own_is z (its_wrong ∙ (sym (ap (repeated (before s i)) setting_is) ∙ new)) m.no_stream))

      pub setting_adds : ((before s (suc i)).settings ≡ (before s i).settings ++ (met.found ∷ [])) × ((before s (suc i)).streams ≡ [])
      setting_adds =
          let a = adds_setting s i (ap is_setting its_kind ∙ m.is_setting_law) in
          (rw setting_is a.0, a.1 ∙ m.no_stream)

-- ---- No setting, or the edition

-- a first record that passed
module _ {s : List ℕ} {head : Record} {first : ℕ} (b : Begun s head first) where
  pub first_upto : Upto s 1
  unfolding place_of
  first_upto = upto_more s 0 (upto_none s) b.some (passes_then s 0 b.passed)

  pub head_of_law : (i : ℕ) → (before s (suc i)).head ≡ head
  head_of_law i = head_at s i ∙ sym b.is_head

  pub head_ranged : in_range no_limits head ≡ true
  unfolding place_of before records_of
  head_ranged = rw b.is_head (ap (λ (g : Given). in_range g (decode s 0)) (sym (given_none (decode s 0).a)) ∙ (first_upto.passed 0 (omega arith)).is_ranged)

-- c settings behind it passed, and none of them is a longest message
module _ {s : List ℕ} {head : Record} {first : ℕ} (b : Begun s head first) (other : head.kind ≡ 9 → ⊥) where
  opened_with : (c at : ℕ) → Upto s (suc c) → length (before s (suc c)).settings ≡ c → at ≡ place_of s (suc c)
      → (is_setting (get_or s at 0) ≡ true → fits (before s (suc c)) (get_or s at 0) ≡ false) → Opened s head at (replicate 33 head.c) false
  opened_with c at u many is ends =
      let S = before s (suc c) in
      let other' : S.head.kind ≡ 9 → ⊥ = λ e. other (ap (λ (r : Record). r.kind) (sym (head_of_law b c)) ∙ e) in
      let limits : replicate 33 head.c ≡ tab (message_of S) 33 =
      ap (λ (r : Record). replicate 33 r.c) (sym (head_of_law b c)) ∙ same_for_all S other' in
      record {
        c = c;
        inside = λ i l. u.inside i (omega arith);
        passed = λ i l. passes_if s i (u.passed i (omega arith));
        settings = many;
        is_head = b.is_head;
        is_first_law = is;
        ends = ends;
        limits = limits;
        of_any = of_every (message_of S) (replicate 33 head.c) limits (same_past S other');
        is_lacking = lacks_nothing S other';
      }

-- a setting that may stand behind a first record of another kind than 1 and 9 is none
pub none_fits : (S : Sheet) (k : ℕ) → (S.head.kind ≡ 1 → k ≡ 8 → ⊥) → (S.head.kind ≡ 9 → k ≡ 10 → ⊥) → is_setting k ≡ true → fits S k ≡ false
none_fits S k one nine e = split (setting_kinds k e)
  where
    split : k ≡ 8 ⊎ k ≡ 10 → fits S k ≡ false
    split (inl q) = ap (fits S) q ∙ (edition_fits S ∙ (rw (ne_eqb S.head.kind 1 (λ z. one z q)) refl))
    split (inr q) = ap (fits S) q ∙ (message_fits S ∙ (rw (ne_eqb S.head.kind 9 (λ z. nine z q)) refl))

-- no setting stands behind the first record
pub opened_at_once : {s : List ℕ} {head : Record} {first : ℕ} → Begun s head first → (head.kind ≡ 9 → ⊥) → (head.kind ≡ 1 → get_or s first 0 ≡ 8 → ⊥)
    → Opened s head first (replicate 33 head.c) false
opened_at_once {s} {head} {first} b other none =
    opened_with b other 0 first (first_upto b) (ap length (behind_first s ((first_upto b).passed 0 (omega arith))).0) b.is_first_law
    (none_fits (before s 1) (get_or s first 0) (λ e. none (kind_of e)) (λ e. absurd (other (kind_of e))))
  where
    kind_of : {k : ℕ} → (before s 1).head.kind ≡ k → head.kind ≡ k
    kind_of e = ap (λ (r : Record). r.kind) (sym (head_of_law b 0)) ∙ e

-- the range of an edition goes by nothing before it
edition_range : (g g' : Given) (r : Record) (k : ℕ) → k ≡ 8 → ranged g r (fields_of k) (numbers r) ≡ ranged g' r (fields_of k) (numbers r)
unfolding ranged limit fields_of line_of kinds
edition_range g g' r k e = rw e refl

-- the reader comes to the edition, just behind a segment
module _ {s : List ℕ} {head : Record} {first : ℕ} (b : Begun s head first) (segment : head.kind ≡ 1) where
  first_passed : PassesAt s 0
  first_passed = (first_upto b).passed 0 (omega arith)

  pub meets_edition : {g : Given} {met : Met} {ranged : Bool} {own : ℕ} → get_or s first 0 ≡ 8 → met ≡ met_of s first 8 → ranged ≡ (eqb met.found.kind 8 && in_range g met.found)
      → own ≡ own_no (known 8) true (not (eqb met.next first)) ranged → MeetsSetting s 1 first 8 g met ranged own
  unfolding is_setting part_of line_of kinds in_range
  meets_edition {g} stands is_met is_ranged is_own =
      record {
        upto = first_upto b;
        is_at = b.is_first_law;
        stands = stands;
        is_setting_law = refl;
        right = edition_first s first_passed (ap (λ (r : Record). r.kind) (sym b.is_head) ∙ segment);
        no_stream = (behind_first s first_passed).1;
        is_given = λ r e. edition_range g (given (before s 1) r.a) r r.kind e;
        is_met = is_met;
        is_ranged = is_ranged;
        is_own = is_own;
      }

  -- a second one fits nowhere
  pub opened_behind : {g : Given} {met : Met} {ranged : Bool} {own : ℕ} → MeetsSetting s 1 first 8 g met ranged own → own ≡ 0 → Opened s head met.next (replicate 33 head.c) false
  unfolding repeated
  opened_behind {met = met} m z =
      let k = setting_kind m z in
      let new : repeated (before s 1) met.found ≡ false = rw (ne_eqb met.found.kind 10 (λ e. omega arith)) refl in
      let a = setting_adds m z new in
      let one : (before s 2).settings ≡ met.found ∷ [] = a.0 ∙ (rw (behind_first s first_passed).0 refl) in
      opened_with b (λ e. omega arith) 1 met.next (setting_upto m z new) (ap length one) (setting_next m z) (λ e. once (get_or s met.next 0) k one (setting_kinds (get_or s met.next 0) e))
    where
      once : (k : ℕ) → met.found.kind ≡ 8 → (before s 2).settings ≡ met.found ∷ [] → k ≡ 8 ⊎ k ≡ 10 → fits (before s 2) k ≡ false
      once k e one (inl q) =
          ap (fits (before s 2)) q
          ∙ (edition_fits (before s 2) ∙ (rw (one, counted met.found e) (and_last (eqb (before s 2).head.kind 1) (eqb (length (before s 2).streams) 0))))
        where
          and_last : (a b : Bool) → (a && (b && false)) ≡ false
          and_last true true = refl
          and_last true false = refl
          and_last false b = refl
      once k e one (inr q) =
          ap (fits (before s 2)) q
          ∙ (message_fits (before s 2)
          ∙ (rw (ne_eqb (before s 2).head.kind 9 (λ w. omega (arith, ap (λ (r : Record). r.kind) (head_of_law b 1)))) refl))

-- ---- The longest messages

-- the range of a longest message goes by the masters alone
message_range : (g g' : Given) (r : Record) (k : ℕ) → k ≡ 10 → g.masters ≡ g'.masters → ranged g r (fields_of k) (numbers r) ≡ ranged g' r (fields_of k) (numbers r)
unfolding ranged limit fields_of line_of kinds
message_range g g' r k e q = rw (e, q) refl

-- i longest messages behind a ring of kind 9 passed, up to the place `at`, and `messages` has them
pub record Giving (s : List ℕ) (head : Record) (first : ℕ) (g : Given) (messages : List ℕ) (i at : ℕ) : Type 0 where
  pub begun : Begun s head first
  pub ring : head.kind ≡ 9
  pub is_given : g.masters ≡ head.a
  pub upto : Upto s (suc i)
  pub is_at : at ≡ place_of s (suc i)
  pub many : length (before s (suc i)).settings ≡ i
  pub gives : Gives (before s (suc i)).settings messages

-- the same, with any number of them
pub record GivesOn (s : List ℕ) (head : Record) (first : ℕ) (g : Given) (messages : List ℕ) (at : ℕ) : Type 0 where
  pub i : ℕ
  pub giving : Giving s head first g messages i at

-- none yet
pub gives_first : {s : List ℕ} {head : Record} {first : ℕ} {g : Given} {messages : List ℕ} → Begun s head first → head.kind ≡ 9 → messages ≡ replicate 33 0 → g.masters ≡ head.a
    → GivesOn s head first g messages first
gives_first {s} {head} {first} {g} {messages} b ring zeros e =
    let none = (behind_first s ((first_upto b).passed 0 (omega arith))).0 in
    record {
      i = 0;
      giving =
          record {
            begun = b;
            ring = ring;
            is_given = e;
            upto = first_upto b;
            is_at = b.is_first_law;
            many = ap length none;
            gives = rw (none, zeros) gives_none;
          };
    }

module _ {s : List ℕ} {head : Record} {first : ℕ} {g : Given} {messages : List ℕ} {i at : ℕ} (v : Giving s head first g messages i at) where
  ring_is : (before s (suc i)).head.kind ≡ 9
  ring_is = ap (λ (r : Record). r.kind) (head_of_law v.begun i) ∙ v.ring

  pub ring_masters : head.a ≤ 32
  ring_masters = (open_ring_ranges no_limits head (head_ranged v.begun) v.ring).masters.most

  no_streams : (before s (suc i)).streams ≡ []
  no_streams = empty_list s (before s (suc i)).streams (omega (arith, how_many s i v.upto, v.many))

  pub meets_message : {met : Met} {ranged : Bool} {own : ℕ} → get_or s at 0 ≡ 10 → met ≡ met_of s at 10 → ranged ≡ (eqb met.found.kind 10 && in_range g met.found)
      → own ≡ own_no (known 10) true (not (eqb met.next at)) ranged → MeetsSetting s (suc i) at 10 g met ranged own
  unfolding is_setting part_of line_of kinds in_range
  meets_message stands is_met is_ranged is_own =
      record {
        upto = v.upto;
        is_at = v.is_at;
        stands = stands;
        is_setting_law = refl;
        right = message_fits (before s (suc i)) ∙ (rw (ring_is, no_streams) refl);
        no_stream = no_streams;
        is_given = λ r e. message_range g (given (before s (suc i)) r.a) r r.kind e (v.is_given ∙ sym (ap (λ (x : Record). x.a) (head_of_law v.begun i)));
        is_met = is_met;
        is_ranged = is_ranged;
        is_own = is_own;
      }

  -- it is the longest message of a master
  module _ {met : Met} {ranged : Bool} {own : ℕ} (m : MeetsSetting s (suc i) at 10 g met ranged own) (z : own ≡ 0) where
    pub of_master : (1 ≤ met.found.a) × (met.found.a ≤ 32) × (1 ≤ met.found.b)
    of_master =
        let w = message_ranges g met.found (setting_ranged m z) (setting_kind m z) in
        (w.master.least, omega (arith, w.master.most, v.is_given, ring_masters), w.message.least)

    -- of one that has one
    pub refused_again : (get_or messages met.found.a 0 ≡ 0 → ⊥) → Err (refusal 20 at) ≡ told s (reading s)
    refused_again h = repeated_setting m z (place_again v.gives (before s (suc i)) met.found refl (setting_kind m z) of_master.1 h)

    pub gives_next : get_or messages met.found.a 0 ≡ 0 → Giving s head first g (set messages met.found.a met.found.b) (suc i) met.next
    gives_next e =
        let new = place_new v.gives (before s (suc i)) met.found refl of_master.1 e in
        let a = setting_adds m z new in
        record {
          begun = v.begun;
          ring = v.ring;
          is_given = v.is_given;
          upto = setting_upto m z new;
          is_at = setting_next m z;
          many = rw a.0 (omega (arith, length-append (before s (suc i)).settings (met.found ∷ []), v.many));
          gives = rw a.0 (gives_more v.gives met.found of_master.0 of_master.1 of_master.2 e);
        }

  -- no other stands behind them
  pub opened_messages : (get_or s at 0 ≡ 10 → ⊥) → (counted' : List ℕ) (lacks' : Bool) → counted' ≡ tab (λ y. message_by (get_or messages y 0)) 33
      → lacks' ≡ lacks_in head.a messages → Opened s head at counted' lacks'
  opened_messages none counted' lacks' ec el =
      let S = before s (suc i) in
      let limits : counted' ≡ tab (message_of S) 33 = ec ∙ counts_each v.gives S refl ring_is in
      record {
        c = i;
        inside = λ j l. v.upto.inside j (omega arith);
        passed = λ j l. passes_if s j (v.upto.passed j (omega arith));
        settings = v.many;
        is_head = v.begun.is_head;
        is_first_law = v.is_at;
        ends = none_fits S (get_or s at 0) (λ e k. absurd (omega (arith, ring_is))) (λ e. none);
        limits = limits;
        of_any = of_every (message_of S) counted' limits (counts_past v.gives S refl ring_is);
        is_lacking =
            let h = ap (λ (r : Record). r.a) (head_of_law v.begun i) in
            el ∙ (ap (λ (n : ℕ). lacks_in n messages) (sym h) ∙ lacks_told v.gives S refl ring_is (omega (arith, ring_masters)));
      }

-- a ring of kind 9 has no M itself
pub no_message_yet : {s : List ℕ} {head : Record} {first : ℕ} → Begun s head first → head.kind ≡ 9 → replicate 33 head.c ≡ replicate 33 0
no_message_yet {head = head} b ring = ap (λ (n : ℕ). replicate 33 n) (open_ring_ranges no_limits head (head_ranged b) ring).no_c
