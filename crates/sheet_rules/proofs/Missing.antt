-- Page 02, Ask 8: what stands behind a ring of kind 9 whose records pass. Its settings are longest messages, one of a master at most; what counts for a master is
-- its own, and where it has none 100,000; one is missing only before the streams. Assumes nothing.
use mathlib.Core.Path.{◌≡◌, refl, sym, ap, ◌∙◌}
use mathlib.Core.Bool.{Bool, true, false, ◌||◌}
use mathlib.Core.List.{List, [], ◌∷◌, ◌++◌, append-nil}
use mathlib.Core.Logic.{◌⊎◌, inl, inr}
use Prim.Native.Nat.{ℕ, zero, suc, ◌+◌, ◌≤◌, ◌<◌, max}
use native.Mathlib.Omega.{arith}
use native.Mathlib.Decide.{ℕ_discrete}
use borrow.Author.Tests.{eqb-true, eq-eqb, ne_eqb}
use lib.Dec.{eqb}
use lib.ListN.{length}
use Rattle.common.specs.Sums.{when}
use Rattle.sheet_record.specs.declared.Given.{Given}
use Rattle.sheet_record.specs.declared.Record.{Record}
use Rattle.sheet_record.specs.Kinds.{kinds, line_of, part_of, is_setting, in_range}
use Rattle.sheet_record.proofs.Tables.{both_true}
use Rattle.sheet_record.proofs.Parts.{setting_kinds}
use Rattle.sheet_ranges.proofs.Ranges.{message_ranges}
use Rattle.sheet_messages.specs.Messages.{message_by}
use Rattle.sheet_rules.specs.Sheets.{Sheet, given, count_of, longest_of, message_of, lacks_of, lacking, having, head_of, sheet_of}
use Rattle.sheet_rules.specs.Whole.{place_of, records_of, before}
use Rattle.sheet_rules.specs.Refusals.{record_at, HasMessage, Missing}
use Rattle.sheet_rules.proofs.Walk.{not_having, head_at, before_none, settings_more}
use Rattle.sheet_rules.proofs.Counts.{count_append, count_more, longest_more}
use Rattle.sheet_rules.proofs.Cases.{PassesAt, Upto, upto_front}
use Rattle.sheet_rules.proofs.Order.{message_of_master, adds_setting, behind_first}
use Rattle.sheet_rules.proofs.Messages.{lacks_some}
use Rattle.sheet_rules.proofs.Openings.{edition_right, none_before}

-- ---- Lists

-- what no record has is 0 at most
longest_none : (x : ℕ) (rs : List Record) → count_of x rs ≡ 0 → longest_of x rs ≡ 0
unfolding count_of longest_of
longest_none x [] e = refl
longest_none x (r ∷ rs) e = split (eqb r.a x) refl (longest_none x rs)
  where
    split : (b : Bool) → eqb r.a x ≡ b → (count_of x rs ≡ 0 → longest_of x rs ≡ 0) → max (when b r.b) (longest_of x rs) ≡ 0
    split true q ih = let z : 1 + count_of x rs ≡ 0 = rw q at e in absurd (omega arith)
    split false q ih = let z : 0 + count_of x rs ≡ 0 = rw q at e in omega (arith, ih (omega arith))

-- a master of 1..n that has none is missing one
lacks_if : (n : ℕ) (rs : List Record) (y : ℕ) → 1 ≤ y → y ≤ n → count_of y rs ≡ 0 → lacks_of n rs ≡ true
unfolding lacks_of
lacks_if zero rs y lo hi e = absurd (omega arith)
lacks_if (suc n) rs y lo hi e = split (ℕ_discrete y (suc n)) (lacks_of n rs) refl (λ l. lacks_if n rs y lo l e)
  where
    split : Dec (y ≡ suc n) → (b : Bool) → lacks_of n rs ≡ b → (y ≤ n → lacks_of n rs ≡ true) → (b || eqb (count_of (suc n) rs) 0) ≡ true
    split d true q ih = refl
    split (yes k) false q ih = eq-eqb (count_of (suc n) rs) 0 (ap (λ (x : ℕ). count_of x rs) (sym k) ∙ e)
    split (no k) false q ih = let f = ih (omega (arith, k)) in let z : ◌≡◌ {A = ℕ} 0 1 = cc in absurd (omega arith)

-- ---- Kinds

ten_setting : is_setting 10 ≡ true
unfolding is_setting part_of line_of kinds
ten_setting = refl

-- a longest message is 1 at least, and counts as it is
message_least : (g : Given) (r : Record) → r.kind ≡ 10 → in_range g r ≡ true → 1 ≤ r.b
message_least g r k e = (message_ranges g r e k).message.least

as_given : (m : ℕ) → 1 ≤ m → message_by m ≡ m
unfolding message_by
as_given zero l = absurd (omega arith)
as_given (suc m) l = refl

module _ (s : List ℕ) where
  pub head_kind : (i : ℕ) → (before s (suc i)).head.kind ≡ (record_at s 0).kind
  unfolding place_of
  head_kind i = ap (λ (r : Record). r.kind) (head_at s i)

  masters : (i : ℕ) → (before s (suc i)).head.a ≡ (record_at s 0).a
  unfolding place_of
  masters i = ap (λ (r : Record). r.a) (head_at s i)

  -- ---- Settings

  -- records of kind 10 are no streams
  pub messages_no_stream : (n : ℕ) → PassesAt s 0 → ((j : ℕ) → j < n → (record_at s (suc j)).kind ≡ 10) → length (before s (suc n)).streams ≡ 0
  messages_no_stream zero p h = ap length (behind_first s p).1
  messages_no_stream (suc n) p h =
      ap length (adds_setting s (suc n) (ap is_setting (h n (omega arith)) ∙ ten_setting)).1 ∙ messages_no_stream n p (λ j l. h j (omega arith))

  -- ---- The longest message of a master

  -- one that stands before record i is among the settings there
  pub has_if : (i y : ℕ) → HasMessage s i y → 0 < count_of y (before s i).settings
  has_if zero y h = absurd (omega (arith, h.earlier))
  has_if (suc i) y h = split (ℕ_discrete h.j i) (has_if i y)
    where
      split : Dec (h.j ≡ i) → (HasMessage s i y → 0 < count_of y (before s i).settings) → 0 < count_of y (before s (suc i)).settings
      split (yes e) ih =
          let its : (record_at s i).kind ≡ 10 = ap (λ (j : ℕ). (record_at s j).kind) (sym e) ∙ h.message in
          let same : (record_at s i).a ≡ y = ap (λ (j : ℕ). (record_at s j).a) (sym e) ∙ h.its in
          let a = (adds_setting s i (ap is_setting its ∙ ten_setting)).0 in
          let c = ap (count_of y) a ∙ count_more y (before s i).settings (record_at s i) in
          let w = ap (λ (b : Bool). when b 1) (eq-eqb (record_at s i).a y same) in
          omega (arith, c, w)
      split (no e) ih =
          let w = ih (record { j = h.j; earlier = omega (arith, h.earlier, e); message = h.message; its = h.its }) in
          omega (arith, w, ap (count_of y) (settings_more s i), count_append y (before s i).settings (having is_setting (record_at s i ∷ [])))

  -- what record i adds to the settings, behind a ring of kind 9: nothing, or a longest message
  adds_message : (i : ℕ) → Upto s (suc i) → (record_at s 0).kind ≡ 9 → ((before s (suc i)).settings ≡ (before s i).settings) ⊎ ((record_at s i).kind ≡ 10)
  adds_message i u nine = split (is_setting (record_at s i).kind) refl
    where
      no_edition : (j : ℕ) → PassesAt s j → (record_at s j).kind ≡ 8 → ⊥
      no_edition zero p e = omega (arith, nine)
      no_edition (suc j) p e = omega (arith, nine, head_kind j, (edition_right s j p.is_right e).0)

      kind : (record_at s i).kind ≡ 8 ⊎ (record_at s i).kind ≡ 10 → (record_at s i).kind ≡ 10
      kind (inl e) = absurd (no_edition i (u.passed i (omega arith)) e)
      kind (inr e) = e

      split : (b : Bool) → is_setting (record_at s i).kind ≡ b → ((before s (suc i)).settings ≡ (before s i).settings) ⊎ ((record_at s i).kind ≡ 10)
      split true e = inr (kind (setting_kinds (record_at s i).kind e))
      split false e = inl (settings_more s i ∙ (rw (not_having is_setting (record_at s i) e) (append-nil (before s i).settings)))

  -- a longest message adds itself
  adds_own : (i : ℕ) → (record_at s i).kind ≡ 10 → (before s (suc i)).settings ≡ (before s i).settings ++ (record_at s i ∷ [])
  adds_own i e = (adds_setting s i (ap is_setting e ∙ ten_setting)).0

  later_on : {i y : ℕ} → HasMessage s i y → HasMessage s (suc i) y
  later_on h = record { j = h.j; earlier = omega (arith, h.earlier); message = h.message; its = h.its }

  pub has_then : (i y : ℕ) → Upto s i → (record_at s 0).kind ≡ 9 → 0 < count_of y (before s i).settings → HasMessage s i y
  unfolding count_of sheet_of
  has_then zero y u nine l = absurd (omega (arith, ap (λ (S : Sheet). count_of y S.settings) (before_none s)))
  has_then (suc i) y u nine l = by (adds_message i u nine) (has_then i y (upto_front s (suc i) i (omega arith) u) nine)
    where
      own : (record_at s i).kind ≡ 10 → (0 < count_of y (before s i).settings → HasMessage s i y) → (b : Bool) → eqb (record_at s i).a y ≡ b → HasMessage s (suc i) y
      own its ih true q = record { j = i; earlier = omega arith; message = its; its = eqb-true (record_at s i).a y q }
      own its ih false q =
          let c = ap (count_of y) (adds_own i its) ∙ count_more y (before s i).settings (record_at s i) in
          later_on (ih (omega (arith, c, ap (λ (b : Bool). when b 1) q)))

      by : ((before s (suc i)).settings ≡ (before s i).settings) ⊎ ((record_at s i).kind ≡ 10) → (0 < count_of y (before s i).settings → HasMessage s i y) → HasMessage s (suc i) y
      by (inl e) ih = later_on (ih (omega (arith, l, ap (count_of y) e)))
      by (inr e) ih = own e ih (eqb (record_at s i).a y) refl

  pub has_not : (i y : ℕ) → Upto s i → (record_at s 0).kind ≡ 9 → (HasMessage s i y → ⊥) → count_of y (before s i).settings ≡ 0
  has_not i y u nine n = split (ℕ_discrete (count_of y (before s i).settings) 0)
    where
      split : Dec (count_of y (before s i).settings ≡ 0) → count_of y (before s i).settings ≡ 0
      split (yes e) = e
      split (no e) = absurd (n (has_then i y u nine (omega (arith, e))))

  -- no record that passes gives one again
  not_again : (i : ℕ) → (record_at s 0).kind ≡ 9 → PassesAt s i → (record_at s i).kind ≡ 10 → count_of (record_at s i).a (before s i).settings ≡ 0
  unfolding place_of
  not_again zero nine p e = absurd (omega (arith, nine))
  not_again (suc i) nine p e = none_before s nine i p e

  -- so the longest of a master's is the one that it has
  longest_given : (i y : ℕ) → Upto s i → (record_at s 0).kind ≡ 9 → (h : HasMessage s i y) → longest_of y (before s i).settings ≡ (record_at s h.j).b
  longest_given zero y u nine h = absurd (omega (arith, h.earlier))
  longest_given (suc i) y u nine h = split (ℕ_discrete h.j i) (longest_given i y (upto_front s (suc i) i (omega arith) u) nine)
    where
      p : PassesAt s i
      p = u.passed i (omega arith)

      more : (record_at s i).kind ≡ 10 → longest_of y (before s (suc i)).settings ≡ max (longest_of y (before s i).settings) (when (eqb (record_at s i).a y) (record_at s i).b)
      more its = ap (longest_of y) (adds_own i its) ∙ longest_more y (before s i).settings (record_at s i)

      -- it is record i
      here : h.j ≡ i → longest_of y (before s (suc i)).settings ≡ (record_at s i).b
      here e =
          let its : (record_at s i).kind ≡ 10 = ap (λ (j : ℕ). (record_at s j).kind) (sym e) ∙ h.message in
          let same : (record_at s i).a ≡ y = ap (λ (j : ℕ). (record_at s j).a) (sym e) ∙ h.its in
          let z = longest_none y (before s i).settings (ap (λ (x : ℕ). count_of x (before s i).settings) (sym same) ∙ not_again i nine p its) in
          let w = ap (λ (b : Bool). when b (record_at s i).b) (eq-eqb (record_at s i).a y same) in
          omega (arith, more its, z, w)

      -- or an earlier one, and record i is of another master
      other : HasMessage s i y → (record_at s i).kind ≡ 10 → (record_at s i).a ≡ y → ⊥
      other k its same =
          omega (arith, has_if i y k, ap (λ (x : ℕ). count_of x (before s i).settings) (sym same) ∙ not_again i nine p its)

      stays : HasMessage s i y → ((before s (suc i)).settings ≡ (before s i).settings) ⊎ ((record_at s i).kind ≡ 10)
          → longest_of y (before s (suc i)).settings ≡ longest_of y (before s i).settings
      stays k (inl e) = ap (longest_of y) e
      stays k (inr e) =
          let w = ap (λ (b : Bool). when b (record_at s i).b) (ne_eqb (record_at s i).a y (other k e)) in
          omega (arith, more e, w)

      split : Dec (h.j ≡ i) → ((k : HasMessage s i y) → longest_of y (before s i).settings ≡ (record_at s k.j).b)
          → longest_of y (before s (suc i)).settings ≡ (record_at s h.j).b
      split (yes e) ih = here e ∙ ap (λ (j : ℕ). (record_at s j).b) (sym e)
      split (no e) ih =
          let k : HasMessage s i y = record { j = h.j; earlier = omega (arith, h.earlier, e); message = h.message; its = h.its } in
          stays k (adds_message i u nine) ∙ ih k

  -- ---- What is missing

  pub lacking_then : (i : ℕ) → Upto s i → lacking (before s i) ≡ true → Missing s i
  unfolding lacking before records_of sheet_of head_of
  lacking_then zero u e = let z : ◌≡◌ {A = ℕ} 0 1 = cc in absurd (omega arith)
  lacking_then (suc i) u e =
      let S = before s (suc i) in
      let b = both_true (eqb S.head.kind 9) (lacks_of S.head.a S.settings) e in
      let w = lacks_some S.head.a S.settings b.1 in
      record {
        ring = sym (head_kind i) ∙ eqb-true S.head.kind 9 b.0;
        y = w.0;
        least = w.1;
        most = omega (arith, w.2, masters i);
        none = λ h. omega (arith, has_if (suc i) w.0 h, w.3);
      }

  pub lacking_if : (i : ℕ) → Upto s (suc i) → Missing s (suc i) → lacking (before s (suc i)) ≡ true
  unfolding lacking
  lacking_if i u m =
      let S = before s (suc i) in
      let none = has_not (suc i) m.y u m.ring m.none in
      rw (eq-eqb S.head.kind 9 (head_kind i ∙ m.ring)) (lacks_if S.head.a S.settings m.y m.least (omega (arith, m.most, masters i)) none)

  -- ---- What counts for a master

  -- its own longest message, where it has one
  pub counts_own : (i y : ℕ) → Upto s i → (record_at s 0).kind ≡ 9 → (h : HasMessage s i y) → message_of (before s i) y ≡ (record_at s h.j).b
  counts_own zero y u nine h = absurd (omega (arith, h.earlier))
  counts_own (suc i) y u nine h =
      message_of_master (before s (suc i)) y (head_kind i ∙ nine) ∙ (ap message_by (longest_given (suc i) y u nine h) ∙ as_given (record_at s h.j).b some)
    where
      some : 1 ≤ (record_at s h.j).b
      some = message_least (given (before s h.j) (record_at s h.j).a) (record_at s h.j) h.message (u.passed h.j h.earlier).is_ranged

  -- and 100,000 where it has none
  pub counts_missing : (i y : ℕ) → Upto s (suc i) → (record_at s 0).kind ≡ 9 → (HasMessage s (suc i) y → ⊥) → message_of (before s (suc i)) y ≡ 100000
  unfolding message_by
  counts_missing i y u nine n =
      message_of_master (before s (suc i)) y (head_kind i ∙ nine) ∙ ap message_by (longest_none y (before s (suc i)).settings (has_not (suc i) y u nine n))
