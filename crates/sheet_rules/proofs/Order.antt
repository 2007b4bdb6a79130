-- Page 01, 'Sheet records': what fits behind a sheet, by its part; and records that pass stand in order, the first record, its settings, its
-- streams, so that a sheet is its records. Assumes nothing.
use mathlib.Core.Path.{◌≡◌, refl, sym, ap, ◌∙◌}
use mathlib.Core.Bool.{Bool, true, false, ◌&&◌, and-false}
use mathlib.Core.List.{List, [], ◌∷◌, ◌++◌, append-nil, append_assoc}
use mathlib.Core.Logic.{◌⊎◌, inl, inr}
use Prim.Native.Nat.{ℕ, zero, suc, ◌+◌, ◌≤◌, ◌<◌}
use native.Mathlib.Omega.{arith}
use borrow.Author.Tests.{eqb-true, eqb-false, eq-eqb, ne_eqb}
use lib.Dec.{eqb}
use lib.ListN.{length, get_or, length-append}
use lib.Seq.{get_or-append-add}
use Rattle.sheet_record.specs.declared.Given.{Given}
use Rattle.sheet_record.specs.declared.Record.{Record}
use Rattle.sheet_record.specs.Kinds.{kinds, line_of, bus_of, Part, part_of, is_first_part, is_setting_part, is_stream_part, is_first, is_setting, is_stream, is_stream_of, decode, nothing}
use Rattle.sheet_record.specs.Kinds.Part.{no_part, first, setting, stream}
use Rattle.sheet_record.proofs.Tables.{both_true}
use Rattle.sheet_record.proofs.Parts.{setting_behind, stream_bus}
use Rattle.sheet_messages.specs.Messages.{message_by}
use Rattle.sheet_rules.specs.Sheets.{Sheet, having, head_of, sheet_of, bus_in, given, message_of, longest_of, of_kind, placed, again, fits}
use Rattle.sheet_rules.specs.Records.{records_in}
use Rattle.sheet_rules.specs.Whole.{place_of, records_of, before, first_stream}
use Rattle.sheet_rules.proofs.Walk.{having_it, not_having, length_records, record_at, head_at, settings_more, streams_more}
use Rattle.sheet_rules.proofs.Cases.{PassesAt, Upto, upto_front}

never : {A : Type 0} → false ≡ true → A
never e = let z : ◌≡◌ {A = ℕ} 0 1 = cc in absurd (omega arith)

-- ---- Limits

-- what a first record is given
abbrev pub no_limits : Given
no_limits = record { masters = 0; message = 0 }

pub given_none : (y : ℕ) → given (sheet_of []) y ≡ no_limits
unfolding sheet_of head_of message_of
given_none y = refl

-- what is given is set by the first record and the settings
pub given_same : (S S' : Sheet) (y : ℕ) → S.head ≡ S'.head → S.settings ≡ S'.settings → given S y ≡ given S' y
unfolding message_of
given_same S S' y h e = rw (h, e)

-- M of the ring, and of a bus that has none 0
pub message_of_ring : (S : Sheet) (y : ℕ) → (S.head.kind ≡ 9 → ⊥) → message_of S y ≡ S.head.c
unfolding message_of
message_of_ring S y n = rw (ne_eqb S.head.kind 9 n)

-- behind kind 9, the master's own
pub message_of_master : (S : Sheet) (y : ℕ) → S.head.kind ≡ 9 → message_of S y ≡ message_by (longest_of y S.settings)
unfolding message_of
message_of_master S y e = rw e

-- ---- A kind has one part

pub stream_only : (k : ℕ) → is_stream k ≡ true → is_setting k ≡ false
unfolding is_stream is_setting
stream_only k e = split (part_of k) e
  where
    split : (p : Part) → is_stream_part p ≡ true → is_setting_part p ≡ false
    split no_part f = refl
    split first f = refl
    split (setting h t) f = never f
    split stream f = refl

pub setting_only : (k : ℕ) → is_setting k ≡ true → is_stream k ≡ false
unfolding is_stream is_setting
setting_only k e = split (part_of k) e
  where
    split : (p : Part) → is_setting_part p ≡ true → is_stream_part p ≡ false
    split no_part f = refl
    split first f = refl
    split (setting h t) f = refl
    split stream f = never f

pub first_only : (k : ℕ) → is_first k ≡ true → (is_setting k ≡ false) × (is_stream k ≡ false)
unfolding is_first is_stream is_setting
first_only k e = split (part_of k) e
  where
    split : (p : Part) → is_first_part p ≡ true → (is_setting_part p ≡ false) × (is_stream_part p ≡ false)
    split no_part f = never f
    split first f = (refl, refl)
    split (setting h t) f = never f
    split stream f = never f

pub stream_of : (bus k : ℕ) → is_stream_of bus k ≡ true → (is_stream k ≡ true) × (bus_of k ≡ bus)
unfolding is_stream_of
stream_of bus k e = let b = both_true (is_stream k) (eqb (bus_of k) bus) e in (b.0, eqb-true (bus_of k) bus b.1)

-- ---- What fits

-- kind k stands right behind S
pub data Placed (S : Sheet) (k : ℕ) : Type 0 where
  as_first : is_first k ≡ true → S.head.kind ≡ 0 → Placed S k
  as_setting : is_setting k ≡ true → length S.streams ≡ 0 → Placed S k
  as_stream : is_stream_of (bus_in S) k ≡ true → Placed S k

pub fits_then : (S : Sheet) (k : ℕ) → fits S k ≡ true → Placed S k
unfolding fits is_first is_setting is_stream is_stream_of
fits_then S k e = split (part_of k) refl e
  where
    split : (p : Part) → part_of k ≡ p → placed S k p ≡ true → Placed S k
    split no_part q f = never f
    split first q f = as_first (ap is_first_part q) (eqb-true S.head.kind 0 f)
    split (setting h t) q f =
        let b = both_true (eqb S.head.kind h) (eqb (length S.streams) 0 && again t k S.settings) f in
        let c = both_true (eqb (length S.streams) 0) (again t k S.settings) b.1 in
        as_setting (ap is_setting_part q) (eqb-true (length S.streams) 0 c.0)
    split stream q f =
        as_stream (rw (ap is_stream_part q, eq-eqb (bus_of k) (bus_in S) (sym (eqb-true (bus_in S) (bus_of k) f))))

-- the order of two numbers does not matter
eqb_sym : (x y : ℕ) → eqb x y ≡ eqb y x
eqb_sym x y = split (eqb x y) refl
  where
    split : (b : Bool) → eqb x y ≡ b → b ≡ eqb y x
    split true e = sym (eq-eqb y x (sym (eqb-true x y e)))
    split false e = sym (ne_eqb y x (λ q. eqb-false x y e (sym q)))

-- behind a first record, the streams of its bus
pub stream_fits : (S : Sheet) (k : ℕ) → is_stream_of (bus_in S) k ≡ true → fits S k ≡ true
unfolding fits is_stream_of is_stream
stream_fits S k e = let b = both_true (is_stream_part (part_of k)) (eqb (bus_of k) (bus_in S)) e in split (part_of k) b.0
  where
    split : (p : Part) → is_stream_part p ≡ true → placed S k p ≡ true
    split no_part q = never q
    split first q = never q
    split (setting h t) q = never q
    split stream q = eqb_sym (bus_in S) (bus_of k) ∙ eq-eqb (bus_of k) (bus_in S) (stream_of (bus_in S) k e).1

-- and nothing else, but for a setting
pub fits_behind : (S : Sheet) (k : ℕ) → (S.head.kind ≡ 0 → ⊥) → (is_setting k ≡ true → fits S k ≡ false) → fits S k ≡ is_stream_of (bus_in S) k
unfolding fits is_stream_of is_stream is_setting
fits_behind S k some none = split (part_of k) refl
  where
    split : (p : Part) → part_of k ≡ p → placed S k p ≡ (is_stream_part p && eqb (bus_of k) (bus_in S))
    split no_part q = refl
    split first q = ne_eqb S.head.kind 0 some
    split (setting h t) q = rw q at (none (ap is_setting_part q))
    split stream q = eqb_sym (bus_in S) (bus_of k)

-- the edition: behind kind 1, before the streams, once
pub edition_fits : (S : Sheet) → fits S 8 ≡ (eqb S.head.kind 1 && (eqb (length S.streams) 0 && eqb (of_kind 8 S.settings) 0))
unfolding fits part_of line_of kinds
edition_fits S = refl

-- a longest message: behind kind 9, before the streams
pub message_fits : (S : Sheet) → fits S 10 ≡ (eqb S.head.kind 9 && (eqb (length S.streams) 0 && true))
unfolding fits part_of line_of kinds
message_fits S = refl

-- no setting fits behind a stream
pub setting_late : (S : Sheet) (k : ℕ) → 1 ≤ length S.streams → is_setting k ≡ true → fits S k ≡ false
unfolding fits is_setting
setting_late S k l e = split (part_of k) e
  where
    split : (p : Part) → is_setting_part p ≡ true → placed S k p ≡ false
    split no_part q = never q
    split first q = never q
    split (setting h t) q = rw (ne_eqb (length S.streams) 0 (λ z. omega arith)) (simp and-false)
    split stream q = never q

bus_none : bus_of 0 ≡ 0
unfolding bus_of line_of kinds
bus_none = refl

-- where there is nothing, a first record
pub fits_first : (k : ℕ) → fits (sheet_of []) k ≡ is_first k
unfolding fits is_first is_stream is_setting sheet_of
fits_first k = split (part_of k) refl
  where
    some_bus : bus_of k ≡ 1 ⊎ bus_of k ≡ 3 ⊎ bus_of k ≡ 5 → bus_of 0 ≡ bus_of k → ⊥
    some_bus (inl e) q = omega (arith, bus_none)
    some_bus (inr (inl e)) q = omega (arith, bus_none)
    some_bus (inr (inr e)) q = omega (arith, bus_none)

    behind_some : {h : ℕ} → h ≡ 1 ⊎ h ≡ 9 → 0 ≡ h → ⊥
    behind_some (inl e) z = omega arith
    behind_some (inr e) z = omega arith

    split : (p : Part) → part_of k ≡ p → placed (sheet_of []) k p ≡ is_first_part p
    split no_part q = refl
    split first q = refl
    split (setting h t) q = rw (ne_eqb 0 h (λ z. behind_some (setting_behind k h t q) z))
    split stream q = ne_eqb (bus_of 0) (bus_of k) (some_bus (stream_bus k (ap is_stream_part q)))

-- and that is not `nothing`
pub first_some : (k : ℕ) → is_first k ≡ true → k ≡ 0 → ⊥
unfolding is_first part_of line_of kinds
first_some k f e = let z : is_first 0 ≡ true = rw e at f in never z

-- ---- Records that pass

module _ (s : List ℕ) where
  -- record i
  abbrev pub nth : ℕ → Record
  nth i = decode s (place_of s i)

  -- the first is one that stands first
  pub first_passes : PassesAt s 0 → is_first (decode s 0).kind ≡ true
  unfolding before place_of records_of
  first_passes p = sym (fits_first (decode s 0).kind) ∙ p.is_right

  pub head_some : (n : ℕ) → Upto s (suc n) → (before s (suc n)).head.kind ≡ 0 → ⊥
  head_some n u e = first_some (decode s 0).kind (first_passes (u.passed 0 (omega arith))) (ap (λ (r : Record). r.kind) (sym (head_at s n)) ∙ e)

  -- ---- What a record adds

  module _ (i : ℕ) where
    pub adds_stream : is_stream (nth i).kind ≡ true → ((before s (suc i)).settings ≡ (before s i).settings) × ((before s (suc i)).streams ≡ (before s i).streams ++ (nth i ∷ []))
    adds_stream e = (
      settings_more s i ∙ (rw (not_having is_setting (nth i) (stream_only (nth i).kind e)) (append-nil (before s i).settings)),
      streams_more s i ∙ ap (λ (t : List Record). (before s i).streams ++ t) (having_it is_stream (nth i) e),
    )

    pub adds_setting : is_setting (nth i).kind ≡ true → ((before s (suc i)).settings ≡ (before s i).settings ++ (nth i ∷ [])) × ((before s (suc i)).streams ≡ (before s i).streams)
    adds_setting e = (
      settings_more s i ∙ ap (λ (t : List Record). (before s i).settings ++ t) (having_it is_setting (nth i) e),
      streams_more s i ∙ (rw (not_having is_stream (nth i) (setting_only (nth i).kind e)) (append-nil (before s i).streams)),
    )

  -- the first record adds neither
  pub behind_first : PassesAt s 0 → ((before s 1).settings ≡ []) × ((before s 1).streams ≡ [])
  unfolding before sheet_of records_of having place_of
  behind_first p =
      let o = first_only (decode s 0).kind (first_passes p) in
      (not_having is_setting (decode s 0) o.0, not_having is_stream (decode s 0) o.1)

  -- ---- A sheet is its records

  pub empty_list : (l : List Record) → length l ≡ 0 → l ≡ []
  empty_list [] e = refl
  empty_list (x ∷ l) e = absurd (omega arith)

  pub in_order : (n : ℕ) → Upto s (suc n) → records_in (before s (suc n)) ≡ records_of s (suc n)
  unfolding records_in records_of place_of
  in_order zero u =
      let b = behind_first (u.passed 0 (omega arith)) in
      rw (head_at s 0, b.0, b.1)
  in_order (suc n) u =
      step (in_order n (upto_front s (suc (suc n)) (suc n) (omega arith) u)) (fits_then (before s (suc n)) (nth (suc n)).kind (u.passed (suc n) (omega arith)).is_right)
    where
      same_head : (before s (suc (suc n))).head ≡ (before s (suc n)).head
      same_head = head_at s (suc n) ∙ sym (head_at s n)

      step : (before s (suc n)).head ∷ ((before s (suc n)).settings ++ (before s (suc n)).streams) ≡ records_of s (suc n) → Placed (before s (suc n)) (nth (suc n)).kind
          → (before s (suc (suc n))).head ∷ ((before s (suc (suc n))).settings ++ (before s (suc (suc n))).streams) ≡ records_of s (suc n) ++ (nth (suc n) ∷ [])
      step ih (as_first e z) = absurd (head_some n (upto_front s (suc (suc n)) (suc n) (omega arith) u) z)
      step ih (as_setting e z) =
          let a = adds_setting (suc n) e in
          let z' = empty_list (before s (suc n)).streams z in
          let h : (before s (suc n)).head ∷ ((before s (suc n)).settings ++ []) ≡ records_of s (suc n) = rw z' at ih in
          rw (same_head, a.0, a.1, z', ← h) (simp (append-nil, append_assoc))
      step ih (as_stream e) =
          let a = adds_stream (suc n) (stream_of (bus_in (before s (suc n))) (nth (suc n)).kind e).0 in
          rw (same_head, a.0, a.1, ← ih) (simp append_assoc)

  module _ (n : ℕ) (u : Upto s (suc n)) where
    -- so there are as many of them
    pub how_many : length (before s (suc n)).settings + length (before s (suc n)).streams ≡ n
    unfolding records_in
    how_many =
        let S = before s (suc n) in
        let e = ap length (in_order n u) ∙ length_records s (suc n) in
        omega (arith, length-append S.settings S.streams)

    -- and stream i stands behind the first record, the settings and i streams
    pub stream_at : (i : ℕ) → i < length (before s (suc n)).streams → get_or (before s (suc n)).streams i nothing ≡ nth (first_stream (before s (suc n)) + i)
    unfolding records_in
    stream_at i l =
        let S = before s (suc n) in
        let j = first_stream S + i in
        let e : get_or (S.settings ++ S.streams) (length S.settings + i) nothing ≡ get_or S.streams i nothing = get_or-append-add S.settings S.streams i nothing in
        let z : j ≡ suc (length S.settings + i) = omega arith in
        let f : get_or (records_in S) (suc (length S.settings + i)) nothing ≡ get_or (records_of s (suc n)) j nothing =
        ap (λ (x : ℕ). get_or (records_in S) x nothing) (sym z) ∙ ap (λ (rs : List Record). get_or rs j nothing) (in_order n u) in
        sym e ∙ (f ∙ record_at s (suc n) j (omega (arith, how_many)))
