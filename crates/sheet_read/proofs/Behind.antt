-- The reader's state behind n streams that passed, and what the next record makes of it. Assumes nothing.
use mathlib.Core.Path.{◌≡◌, refl, sym, ap, ◌∙◌}
use mathlib.Core.Bool.{Bool, true, false, not, ◌&&◌}
use mathlib.Core.List.{List, [], ◌∷◌}
use mathlib.Core.Logic.{◌⊎◌, inl, inr}
use Prim.Native.Nat.{ℕ, suc, ◌+◌, ◌≤◌, ◌<◌}
use native.Mathlib.Omega.{arith}
use native.Mathlib.Decide.{ℕ_discrete}
use borrow.Author.Tests.{eqb-true, ne_eqb, eq-eqb}
use lib.ListN.{length, get_or, replicate, length-append}
use lib.Dec.{eqb, leb}
use Rattle.common.specs.Runs.{tab}
use Rattle.common.proofs.Runs.{tab_same, tab_places}
use Rattle.common.specs.Checks.{check, verdict}
use Rattle.common.specs.Checks.Verdict.{Passed, Refused}
use Rattle.sheet_record.specs.declared.Given.{Given}
use Rattle.sheet_record.specs.declared.Record.{Record}
use Rattle.sheet_record.specs.declared.Met.{Met}
use Rattle.sheet_record.specs.Kinds.{kinds, line_of, part_of, known, size_of, decode, in_range, whole, bus_of, is_first, is_setting, is_stream, is_stream_of, stream_met}
use Rattle.sheet_record.proofs.Records.{stream_same}
use Rattle.sheet_record.proofs.Parts.{first_bus, pnet_first, ring_first, ring_streams}
use Rattle.sheet_ranges.proofs.Ranges.{segment_ranges, pnet_ranges, ring_ranges, open_ring_ranges, ring_stream_ranges}
use Rattle.sheet_judge.specs.Own.{own_no, as_bus}
use Rattle.sheet_judge.proofs.Own.{met_some, own_same, own_met_of, as_itself}
use Rattle.sheet_keep.specs.Steps.{late_no, counts_with, longests_with, ids_with}
use Rattle.sheet_keep.proofs.Late.{not_late_variable}
use Rattle.sheet_messages.specs.Messages.{message_at}
use Rattle.sheet_rules.specs.Sheets.{Sheet, bus_in, given, message_of, fits, lacking, repeated, over_limit, met_before}
use Rattle.sheet_rules.specs.Whole.{place_of, records_of, before, first_stream, judge, ended, reading, Outcome}
use Rattle.sheet_read.specs.Told.{told, streams_of_master, longest_of_master, by_master, counts_told, longests_told, messages_told, accepted}
use Rattle.sheet_rules.specs.Whole.Outcome.{Read, Not}
use Rattle.sheet_read.specs.Steps.{Opened, given_to}
use Rattle.sheet_rules.proofs.Walk.{head_at, place_next, place_from}
use Rattle.sheet_rules.proofs.Cases.{Upto, passes_then, upto_more, upto_place, stops_once, ended_no_message, ended_no_stream, ended_sheet}
use Rattle.sheet_rules.proofs.Cases.Stops.{at_end}
use Rattle.sheet_read.proofs.Judged.{numbered, late_checks, own_at, wrong_at}
use Rattle.sheet_read.proofs.Kept.{Figures, Keeps, keeps_none, keeps_more, late_variable, late_stream, variable}
use Rattle.sheet_rules.proofs.Order.{no_limits, given_none, given_same, nth, stream_of, fits_behind, setting_late, first_passes, head_some, empty_list, how_many, adds_stream}
use Rattle.sheet_read.proofs.Begins.{own_passed, numbered_not, told_refused, judged_own, judged_wrong, judged_late}
use Rattle.std.specs.declared.result.Result.TheVariants.{Ok, Err}
use Rattle.common.specs.Checks.{refusal}
use Rattle.common.specs.declared.Refusal.{Refusal}

-- ---- Masters

-- a stream's master is one of the 32 that are counted: it is at most N, or n
master_counted : (h r : Record) (g : Given) → is_first h.kind ≡ true → in_range no_limits h ≡ true → g.masters ≡ h.a → is_stream_of (bus_of h.kind) r.kind ≡ true
    → in_range g r ≡ true → (bus_of h.kind ≡ 5 → ⊥) → r.a ≤ 32
master_counted h r g f i e its j other = split (first_bus h.kind f)
  where
    bus : (k : ℕ) → bus_of h.kind ≡ k → is_stream_of k r.kind ≡ true
    bus k q = rw q at its

    ring : h.kind ≡ 3 ⊎ h.kind ≡ 9 → h.a ≤ 32
    ring (inl q) = (ring_ranges no_limits h i q).masters.most
    ring (inr q) = (open_ring_ranges no_limits h i q).masters.most

    split : bus_of h.kind ≡ 1 ⊎ bus_of h.kind ≡ 3 ⊎ bus_of h.kind ≡ 5 → r.a ≤ 32
    split (inl q) =
        omega (arith, e, (pnet_ranges g r j (bus 1 q)).master.most, (segment_ranges no_limits h i (pnet_first h.kind f q)).masters.most)
    split (inr (inl q)) =
        let k = eqb-true r.kind 4 (sym (ring_streams r.kind) ∙ bus 3 q) in
        omega (arith, e, (ring_stream_ranges g r j k).master.most, ring (ring_first h.kind f q))
    split (inr (inr q)) = absurd (other q)

-- ---- The state

-- the first record, `head`, and i more passed, up to the place `at`; n of them are streams, which the arrays keep, and the first of those stands at
-- `first`. No setting that fits stands at `at`. What the settings set is known: each master's longest message, and whether one is missing
pub record Behind (s : List ℕ) (head : Record) (first : ℕ) (messages : List ℕ) (lacks : Bool) (counts longests ids : List ℕ) (i n at : ℕ) : Type 0 where
  pub upto : Upto s (suc i)
  pub is_at : at ≡ place_of s (suc i)
  pub is_head : head ≡ decode s 0
  pub begins : first ≡ place_of s (first_stream (before s (suc i)))
  pub number : length (before s (suc i)).streams ≡ n
  pub keeps : Keeps (bus_of head.kind) (before s (suc i)).streams counts longests ids
  pub ends : is_setting (get_or s at 0) ≡ true → fits (before s (suc i)) (get_or s at 0) ≡ false
  pub limits : messages ≡ tab (message_of (before s (suc i))) 33
  pub of_any : (y : ℕ) → message_at messages y ≡ message_of (before s (suc i)) y
  pub is_lacking : lacks ≡ lacking (before s (suc i))

-- a first record and settings that passed
pub opened : (s : List ℕ) (head : Record) (first : ℕ) (messages : List ℕ) (lacks : Bool) (o : Opened s head first messages lacks)
    → Behind s head first messages lacks (replicate 33 0) (replicate 33 0) (replicate 64 0) o.c 0 first
opened s head first messages lacks o =
    let u : Upto s (suc o.c) = record { inside = λ j l. o.inside j (omega arith); passed = λ j l. passes_then s j (o.passed j (omega arith)) } in
    let none : length (before s (suc o.c)).streams ≡ 0 = omega (arith, how_many s o.c u, o.settings) in
    record {
      upto = u;
      is_at = o.is_first_law;
      is_head = o.is_head;
      begins = rw o.settings o.is_first_law;
      number = none;
      keeps = rw (empty_list s (before s (suc o.c)).streams none) (keeps_none (bus_of head.kind));
      ends = o.ends;
      limits = o.limits;
      of_any = o.of_any;
      is_lacking = o.is_lacking;
    }

-- what is missing is set by the first record and the settings
lacking_same : (S S' : Sheet) → S.head ≡ S'.head → S.settings ≡ S'.settings → lacking S ≡ lacking S'
unfolding lacking
lacking_same S S' h e = rw (h, e)

-- ---- What is handed over

-- on a refusal the lent memory keeps what it had
pub refused_keeps : (s : List ℕ) (r : Refusal) (o : Outcome) (counts longests messages : List ℕ) → Err r ≡ told s o
    → (counts ≡ counts_told o counts) × ((longests ≡ longests_told o longests) × (messages ≡ messages_told o messages))
unfolding counts_told longests_told messages_told
refused_keeps s r o counts longests messages e = (kept streams_of_master o counts e, (kept longest_of_master o longests e, kept message_of o messages e))
  where
    kept : (figure : Sheet → ℕ → ℕ) (o' : Outcome) (old : List ℕ) → Err r ≡ told s o' → old ≡ by_master figure o' old
    kept figure (Read S) old q = let z : ◌≡◌ {A = ℕ} 0 1 = cc in absurd (omega arith)
    kept figure (Not n p) old q = refl

-- ---- A stream

module _ {s : List ℕ} {head : Record} {first : ℕ} {messages : List ℕ} {lacks : Bool} {counts longests ids : List ℕ} {i n at : ℕ}
    (b : Behind s head first messages lacks counts longests ids i n at) where
  head_first : is_first head.kind ≡ true
  head_first = rw b.is_head (first_passes s (b.upto.passed 0 (omega arith)))

  head_ranged : in_range no_limits head ≡ true
  unfolding place_of before records_of
  head_ranged =
      rw b.is_head
      (ap (λ (g : Given). in_range g (decode s 0)) (sym (given_none (decode s 0).a)) ∙ (b.upto.passed 0 (omega arith)).is_ranged)

  -- fewer streams than bytes
  pub fewer_streams : n < at
  fewer_streams = omega (arith, place_from s (suc i), b.is_at, how_many s i b.upto, b.number)

  head_is : (before s (suc i)).head ≡ head
  head_is = head_at s i ∙ sym b.is_head

  -- the streams so far are of the bus of the first record
  bus_is : bus_in (before s (suc i)) ≡ bus_of head.kind
  bus_is = ap (λ (r : Record). bus_of r.kind) head_is

  -- and what is given to a record of master y is known
  given_is : (y : ℕ) → given_to head.a messages y ≡ given (before s (suc i)) y
  given_is y = let e = ap (λ (r : Record). r.a) (sym head_is) in let f = b.of_any y in cc

-- what the reader holds while it goes: the bus, and the state
pub record Reads (s : List ℕ) (head : Record) (first bus : ℕ) (messages : List ℕ) (lacks : Bool) (counts longests ids : List ℕ) (i n at : ℕ) : Type 0 where
  pub is_bus : bus ≡ bus_of head.kind
  pub behind : Behind s head first messages lacks counts longests ids i n at

-- the same, with any number of records
pub record ReadsOn (s : List ℕ) (head : Record) (first bus : ℕ) (messages : List ℕ) (lacks : Bool) (counts longests ids : List ℕ) (n at : ℕ) : Type 0 where
  pub i : ℕ
  pub reads : Reads s head first bus messages lacks counts longests ids i n at

-- the bus is that of the first record, one of the three
bus_as : {s : List ℕ} {head : Record} {first bus : ℕ} {messages : List ℕ} {lacks : Bool} {counts longests ids : List ℕ} {i n at : ℕ}
    → Reads s head first bus messages lacks counts longests ids i n at → as_bus bus ≡ bus_of head.kind
bus_as {head = head} {bus = bus} r = as_itself bus (rw r.is_bus (first_bus head.kind (head_first r.behind))) ∙ r.is_bus

-- the reader comes to a record: what it meets, whether that is right and in range, and the refusal of it by itself
pub record Meets (s : List ℕ) (head : Record) (first : ℕ) (messages : List ℕ) (lacks : Bool) (counts longests ids : List ℕ) (i n at bus : ℕ) (met : Met) (right ranged : Bool) (own : ℕ) : Type 0 where
  pub reads : Reads s head first bus messages lacks counts longests ids i n at
  pub inside : at < length s
  pub is_right : right ≡ is_stream_of (as_bus bus) (get_or s at 0)
  pub is_met : met ≡ stream_met s at (as_bus bus)
  pub is_ranged : ranged ≡ (is_stream_of (as_bus bus) met.found.kind && in_range (given_to head.a messages met.found.a) met.found)
  pub is_own : own ≡ own_no (known (get_or s at 0)) right (not (eqb met.next at)) ranged

-- a stream is no longest message
no_message : (k : ℕ) → is_stream k ≡ true → k ≡ 10 → ⊥
unfolding is_stream part_of line_of kinds
no_message k e q = let z : is_stream 10 ≡ true = ap is_stream (sym q) ∙ e in let y : ◌≡◌ {A = ℕ} 0 1 = cc in omega arith

module _ {s : List ℕ} {head : Record} {first : ℕ} {messages : List ℕ} {lacks : Bool} {counts longests ids : List ℕ} {i n at bus : ℕ} {met : Met} {right ranged : Bool} {own : ℕ}
    (m : Meets s head first messages lacks counts longests ids i n at bus met right ranged own) where
  here : place_of s (suc i) < length s
  here = rw m.reads.behind.is_at at m.inside

  -- behind the first record, a stream of its bus
  right_is : fits (before s (suc i)) (get_or s (place_of s (suc i)) 0) ≡ is_stream_of (bus_of head.kind) (get_or s (place_of s (suc i)) 0)
  right_is =
      fits_behind (before s (suc i)) (get_or s (place_of s (suc i)) 0) (head_some s i m.reads.behind.upto) (rw m.reads.behind.is_at at m.reads.behind.ends)
      ∙ ap (λ (b : ℕ). is_stream_of b (get_or s (place_of s (suc i)) 0)) (bus_is m.reads.behind)

  -- what is met is the record of the bytes, where that is a stream of the bus and whole
  met_there : known (get_or s at 0) ≡ true → is_stream_of (bus_of head.kind) (get_or s at 0) ≡ true → leb (at + size_of (get_or s at 0)) (length s) ≡ true
      → met ≡ record { found = decode s at; next = at + size_of (get_or s at 0) }
  unfolding whole
  met_there k r w =
      m.is_met ∙ (rw (bus_as m.reads) (stream_same s at (bus_of head.kind) r) ∙ met_some s at (rw (k, w) refl))

  -- and then the limits are those of its master
  own_by : own ≡ own_no (known (get_or s at 0)) (is_stream_of (bus_of head.kind) (get_or s at 0)) (leb (at + size_of (get_or s at 0)) (length s)) (in_range (given (before s (suc i)) (decode s at).a) (decode s at))
  own_by =
      rw (m.is_own, m.is_right, m.is_ranged, m.is_met, bus_as m.reads) (own_met_of s at (bus_of head.kind) _)
      ∙ own_same (known (get_or s at 0)) (is_stream_of (bus_of head.kind) (get_or s at 0)) _ _ _ _ (λ k r. refl)
      (λ k r w. ap (λ (x : Given). in_range x (decode s at)) (ap (λ (x : Met). given_to head.a messages x.found.a) (met_there k r w) ∙ given_is m.reads.behind (decode s at).a))

  own_is : own ≡ own_at s (suc i)
  unfolding own_at
  own_is = own_by ∙ (rw (m.reads.behind.is_at, right_is) refl)

  pub refused_own : (own ≡ 0 → ⊥) → Err (refusal own at) ≡ told s (reading s)
  refused_own h =
      rw m.reads.behind.is_at (told_refused s (suc i) own (place_of s (suc i)) m.reads.behind.upto here (judged_own s (suc i) own own_is h))

  module _ (z : own ≡ 0) where
    own_all : (known (get_or s at 0) ≡ true)
        × (is_stream_of (bus_of head.kind) (get_or s at 0) ≡ true)
        × (leb (at + size_of (get_or s at 0)) (length s) ≡ true)
        × (in_range (given (before s (suc i)) (decode s at).a) (decode s at) ≡ true)
    own_all = own_passed _ _ _ _ (sym own_by ∙ z)

    met_is : met ≡ record { found = decode s at; next = at + size_of (get_or s at 0) }
    met_is = met_there own_all.0 own_all.1 own_all.2

    -- the stream, and the place just after it
    stream_is : met.found ≡ nth s (suc i)
    stream_is = ap (λ (x : Met). x.found) met_is ∙ ap (decode s) m.reads.behind.is_at

    next_is : met.next ≡ place_of s (suc (suc i))
    unfolding place_of
    next_is = ap (λ (x : Met). x.next) met_is ∙ (rw m.reads.behind.is_at refl)

    pub next_later : at < met.next
    next_later = omega (arith, next_is, m.reads.behind.is_at, place_next s (suc i))

    its : is_stream_of (bus_of head.kind) met.found.kind ≡ true
    unfolding decode
    its = rw met_is own_all.1

    ranged_here : in_range (given (before s (suc i)) met.found.a) met.found ≡ true
    ranged_here = ap (λ (x : Met). in_range (given (before s (suc i)) x.found.a) x.found) met_is ∙ own_all.3

    master_at_most : (bus_of head.kind ≡ 5 → ⊥) → met.found.a ≤ 32
    master_at_most other =
        master_counted head met.found (given (before s (suc i)) met.found.a) (head_first m.reads.behind) (head_ranged m.reads.behind)
        (ap (λ (r : Record). r.a) (head_is m.reads.behind)) its ranged_here other

    pub master_here : (met.found.kind ≡ 6 → ⊥) → met.found.a ≤ 32
    master_here h =
        master_at_most (λ e. h (variable (bus_of head.kind) (before s (suc i)).streams counts longests ids met.found m.reads.behind.keeps its e))

    -- 20 is said of it where a longest message is missing
    its_wrong : wrong_at s (suc i) ≡ lacks
    unfolding wrong_at repeated
    its_wrong =
        let e : is_stream (nth s (suc i)).kind ≡ true = ap (λ (r : Record). is_stream r.kind) (sym stream_is) ∙ (stream_of (bus_of head.kind) met.found.kind its).0 in
        rw (ne_eqb (nth s (suc i)).kind 10 (no_message (nth s (suc i)).kind e), e, m.reads.behind.is_lacking) refl

    pub refused_lacking : lacks ≡ true → Err (refusal 20 at) ≡ told s (reading s)
    refused_lacking w =
        rw m.reads.behind.is_at
        (told_refused s (suc i) 20 (place_of s (suc i)) m.reads.behind.upto here (judged_wrong s (suc i) own own_is z (its_wrong ∙ w)))

    number_is : length (before s (suc i)).streams ≡ n
    number_is = m.reads.behind.number

    -- 5 and 7, by what is kept
    late_is : verdict (late_checks s (suc i)) ≡ numbered (late_no counts ids n met.found) (place_of s (suc i)) Passed
    unfolding late_checks
    late_is = rw (← stream_is) (rw number_is at (split (ℕ_discrete (bus_of head.kind) 5)))
      where
        split : Dec (bus_of head.kind ≡ 5)
            → verdict (check 5 (over_limit (before s (suc i)).streams met.found) (place_of s (suc i)) ∷ check 7 (met_before (before s (suc i)).streams met.found) (place_of s (suc i)) ∷ [])
            ≡ numbered (late_no counts ids (length (before s (suc i)).streams) met.found) (place_of s (suc i)) Passed
        split (yes e) = late_variable (bus_of head.kind) (before s (suc i)).streams counts longests ids met.found m.reads.behind.keeps its e (place_of s (suc i))
        split (no e) = late_stream (bus_of head.kind) (before s (suc i)).streams counts longests ids met.found m.reads.behind.keeps its e (master_at_most e) (place_of s (suc i))

    module _ (given-all : lacks ≡ false) where
      judged_kept : judge s (suc i) ≡ numbered (late_no counts ids n met.found) (place_of s (suc i)) Passed
      judged_kept = judged_late s (suc i) own own_is z (its_wrong ∙ given-all) ∙ late_is

      module _ (late : ℕ) (is-late : late ≡ late_no counts ids n met.found) where
        pub refused_late : (late ≡ 0 → ⊥) → Err (refusal late at) ≡ told s (reading s)
        refused_late h =
            let g : judge s (suc i) ≡ Refused late (place_of s (suc i)) = judged_kept ∙ (rw (← is-late) (numbered_not late (place_of s (suc i)) Passed h)) in
            rw m.reads.behind.is_at (told_refused s (suc i) late (place_of s (suc i)) m.reads.behind.upto here g)

        -- it passes
        pub not_late : late ≡ 0 → late_no counts ids n met.found ≡ 0
        not_late f = sym is-late ∙ f

        -- a stream changes nothing of what the settings set
        same_head : (before s (suc i)).head ≡ (before s (suc (suc i))).head
        same_head = head_at s i ∙ sym (head_at s (suc i))

        same_settings : (before s (suc i)).settings ≡ (before s (suc (suc i))).settings
        same_settings = sym (adds_stream s (suc i) (rw stream_is at (stream_of (bus_of head.kind) met.found.kind its).0)).0

        same_message : (y : ℕ) → message_of (before s (suc i)) y ≡ message_of (before s (suc (suc i))) y
        same_message y = ap (λ (x : Given). x.message) (given_same (before s (suc i)) (before s (suc (suc i))) y same_head same_settings)

        behind_more : (counts' longests' ids' : List ℕ) → late ≡ 0 → counts' ≡ counts_with counts met.found
            → longests' ≡ longests_with longests met.found → ids' ≡ ids_with ids n met.found → Behind s head first messages lacks counts' longests' ids' (suc i) (n + 1) met.next
        unfolding numbered
        behind_more counts' longests' ids' f ec el ei =
            let r = met.found in
            let e = not_late f in
            let g : judge s (suc i) ≡ Passed = judged_kept ∙ ap (λ (x : ℕ). numbered x (place_of s (suc i)) Passed) e in
            let bus' = bus_of head.kind in
            let rs = (before s (suc i)).streams in
            let few : bus' ≡ 5 → length rs < 64 =
            λ five. rw number_is (not_late_variable counts ids n r (variable bus' rs counts longests ids r m.reads.behind.keeps its five) e) in
            let k = keeps_more bus' rs counts longests ids r m.reads.behind.keeps its master_at_most few in
            let more = adds_stream s (suc i) (rw stream_is at (stream_of bus' r.kind its).0) in
            let one_more : length (before s (suc (suc i))).streams ≡ n + 1 = rw more.1 (omega (arith, length-append rs (nth s (suc i) ∷ []), number_is)) in
            record {
              upto = upto_more s (suc i) m.reads.behind.upto here (passes_then s (suc i) g);
              is_at = next_is;
              is_head = m.reads.behind.is_head;
              begins = rw more.0 m.reads.behind.begins;
              number = one_more;
              keeps = rw (ec, el, ei, more.1, ← stream_is) (rw number_is at k);
              ends = setting_late (before s (suc (suc i))) (get_or s met.next 0) (omega (arith, one_more));
              limits = m.reads.behind.limits ∙ tab_same (message_of (before s (suc i))) (message_of (before s (suc (suc i)))) 33 (λ y l. same_message y);
              of_any = λ y. m.reads.behind.of_any y ∙ same_message y;
              is_lacking = m.reads.behind.is_lacking ∙ lacking_same (before s (suc i)) (before s (suc (suc i))) same_head same_settings;
            }

        pub reads_more : (counts' longests' ids' : List ℕ) → late ≡ 0 → counts' ≡ counts_with counts met.found
            → longests' ≡ longests_with longests met.found → ids' ≡ ids_with ids n met.found → Reads s head first bus messages lacks counts' longests' ids' (suc i) (n + 1) met.next
        reads_more counts' longests' ids' f ec el ei =
            record { is_bus = m.reads.is_bus; behind = behind_more counts' longests' ids' f ec el ei }

-- a kind that is unknown or may not stand there is refused before its record is looked at
own_placed : (isKnown isRight is_whole isRanged : Bool) → (own_no isKnown isRight true true ≡ 0 → ⊥) → own_no isKnown isRight is_whole isRanged ≡ own_no isKnown isRight true true
unfolding own_no
own_placed false r w g h = refl
own_placed true false w g h = refl
own_placed true true w g h = absurd (h refl)

pub refused_placed : {s : List ℕ} {head : Record} {first : ℕ} {messages : List ℕ} {lacks : Bool} {counts longests ids : List ℕ} {i n at bus : ℕ} {right : Bool}
    → Reads s head first bus messages lacks counts longests ids i n at → at < length s → right ≡ is_stream_of (as_bus bus) (get_or s at 0)
    → (own_no (known (get_or s at 0)) right true true ≡ 0 → ⊥) → Err (refusal (own_no (known (get_or s at 0)) right true true) at) ≡ told s (reading s)
refused_placed {s = s} {head = head} {messages = messages} {at = at} {bus = bus} {right = right} reads inside is_right h =
    let met : Met = stream_met s at (as_bus bus) in
    let ranged : Bool = is_stream_of (as_bus bus) met.found.kind && in_range (given_to head.a messages met.found.a) met.found in
    let same = own_placed (known (get_or s at 0)) right (not (eqb met.next at)) ranged h in
    let m : Meets _ _ _ _ _ _ _ _ _ _ _ _ met right ranged _ = record { reads = reads; inside = inside; is_right = is_right; is_met = refl; is_ranged = refl; is_own = refl } in
    ap (λ (k : ℕ). Err (refusal k at)) (sym same) ∙ refused_own m (λ z. h (sym same ∙ z))

-- ---- The end

module _ {s : List ℕ} {head : Record} {first : ℕ} {messages : List ℕ} {lacks : Bool} {counts longests ids : List ℕ} {i n at : ℕ}
    (b : Behind s head first messages lacks counts longests ids i n at) (out : length s ≤ at) where
  reading_ends : reading s ≡ ended s (suc i)
  reading_ends = stops_once s (at_end (suc i) b.upto (omega (arith, upto_place s (suc i) b.upto, b.is_at)) refl)

  pub ends_lacking : lacks ≡ true → Err (refusal 20 (length s)) ≡ told s (reading s)
  ends_lacking e = ap (told s) (sym (reading_ends ∙ ended_no_message s (suc i) (head_some s i b.upto) (sym b.is_lacking ∙ e)))

  pub ends_empty : lacks ≡ false → n ≡ 0 → Err (refusal 6 (length s)) ≡ told s (reading s)
  ends_empty all e = ap (told s) (sym (reading_ends ∙ ended_no_stream s (suc i) (head_some s i b.upto) (sym b.is_lacking ∙ all) (b.number ∙ e)))

  module _ (all : lacks ≡ false) (some : n ≡ 0 → ⊥) where
    reads : reading s ≡ Read (before s (suc i))
    reads = reading_ends ∙ ended_sheet s (suc i) (head_some s i b.upto) (sym b.is_lacking ∙ all) (λ e. some (sym b.number ∙ e))

    pub ends_accepted : Ok (accepted head n first) ≡ told s (reading s)
    ends_accepted = rw (b.is_head, b.begins, ← head_at s i, ← b.number) (sym (ap (told s) reads))

    -- and the figures are those of its masters
    told_figures : (figure : Sheet → ℕ → ℕ) (xs old : List ℕ) → (bus_of head.kind ≡ 5 → ⊥) → Figures (bus_of head.kind) (figure (before s (suc i))) xs
        → xs ≡ by_master figure (reading s) old
    told_figures figure xs old k w =
        rw (reads, bus_is b, ne_eqb (bus_of head.kind) 5 k) (tab_places (figure (before s (suc i))) xs 33 w.places (λ x l. w.each k x (omega arith)))

    pub ends_counted : (bus_of head.kind ≡ 5 → ⊥) → (old : List ℕ) → counts ≡ counts_told (reading s) old
    unfolding counts_told
    ends_counted k old = told_figures streams_of_master counts old k b.keeps.counted

    pub ends_longest : (bus_of head.kind ≡ 5 → ⊥) → (old : List ℕ) → longests ≡ longests_told (reading s) old
    unfolding longests_told
    ends_longest k old = told_figures longest_of_master longests old k b.keeps.longest

    pub ends_messages : (bus_of head.kind ≡ 5 → ⊥) → (old : List ℕ) → messages ≡ messages_told (reading s) old
    unfolding messages_told
    ends_messages k old = rw (reads, bus_is b, ne_eqb (bus_of head.kind) 5 k) b.limits

    -- a bus without masters has none
    module _ (five : bus_of head.kind ≡ 5) where
      no_figures : (figure : Sheet → ℕ → ℕ) (old : List ℕ) → old ≡ by_master figure (reading s) old
      no_figures figure old = rw (reads, bus_is b, eq-eqb (bus_of head.kind) 5 five)

      pub ends_uncounted : (counts' longests' messages' : List ℕ)
          → (counts' ≡ counts_told (reading s) counts') × ((longests' ≡ longests_told (reading s) longests') × (messages' ≡ messages_told (reading s) messages'))
      unfolding counts_told longests_told messages_told
      ends_uncounted counts' longests' messages' = (no_figures streams_of_master counts', (no_figures longest_of_master longests', no_figures message_of messages'))
