-- Export goes from record to record of an accepted sheet: the text so far is that of the records passed, and behind the last it is the sheet's text.
-- Assumes nothing.
use Prim.Native.Nat.{ℕ, suc, ◌+◌, ◌≤◌, ◌<◌}
use mathlib.Core.Path.{◌≡◌, refl, sym, ap, ◌∙◌}
use mathlib.Core.List.{List, [], ◌∷◌, ◌++◌, append_assoc, append-nil}
use native.Mathlib.Omega.{arith}
use native.Mathlib.Decide.{ℕ_discrete}
use lib.ListN.{length, get_or, take, drop, length-append, take-append-drop}
use Rattle.text.specs.Text.{behind, Wrote}
use Rattle.text.proofs.Writing.{wrote_none, wrote_then}
use Rattle.sheet_record.specs.declared.Met.{Met}
use Rattle.sheet_record.specs.declared.Record.{Record}
use Rattle.sheet_record.specs.Kinds.{decode, met_at, nothing}
use Rattle.sheet_rules.specs.Records.{records_in}
use Rattle.sheet_rules.specs.Whole.{place_of, records_of, reading}
use Rattle.sheet_rules.specs.Whole.Outcome.{Read}
use Rattle.sheet_rules.specs.Ready.{sheet_in}
use Rattle.sheet_rules.proofs.Walk.{place_next, length_records, record_at, records_front}
use Rattle.sheet_rules.proofs.Order.{in_order}
use Rattle.sheet_rules.proofs.Known.{ReadsTo, reading_whole, met_whole}
use Rattle.sheet_line.specs.Lines.{line_text}
use Rattle.sheet_pieces.specs.Texts.{text_of}
use Rattle.sheet_text.specs.Answers.{sheet_text, most_text}
use Rattle.sheet_text.proofs.Inverse.{ranged_at}
use Rattle.sheet_text.proofs.Lengths.{most_text_is, line_at_most, text_at_most}

-- ---- Lines one behind another

text_append : (rs qs : List Record) → text_of (rs ++ qs) ≡ text_of rs ++ text_of qs
unfolding text_of
text_append [] qs = refl
text_append (r ∷ rs) qs = rw (text_append rs qs) (sym (append_assoc (line_text r) (text_of rs) (text_of qs)))

text_more : (rs : List Record) (r : Record) → text_of (rs ++ (r ∷ [])) ≡ text_of rs ++ line_text r
unfolding text_of
text_more rs r = text_append rs (r ∷ []) ∙ ap (λ (t : List ℕ). text_of rs ++ t) (append-nil (line_text r))

text_front : (rs : List Record) (i : ℕ) → length (text_of (take i rs)) ≤ length (text_of rs)
text_front rs i =
    omega (arith, ap (λ (qs : List Record). length (text_of qs)) (take-append-drop i rs), ap length (text_append (take i rs) (drop i rs)), length-append (text_of (take i rs)) (text_of (drop i rs)))

-- ---- Record after record

-- the records of the accepted sheet s before place `at` are passed, and t is their text
pub record Passed (s : List ℕ) (at : ℕ) (t : List ℕ) : Type 0 where
  pub reads : reading s ≡ Read (sheet_in s)
  pub i : ℕ
  pub so_far : i ≤ suc (reading_whole s (sheet_in s) reads).m
  pub is_place : at ≡ place_of s i
  pub is_text : t ≡ text_of (records_of s i)

pub passed_none : (s : List ℕ) → reading s ≡ Read (sheet_in s) → Passed s 0 []
unfolding place_of records_of text_of
passed_none s e = record { reads = e; i = 0; so_far = omega arith; is_place = refl; is_text = refl }

module _ {s : List ℕ} {at : ℕ} {t : List ℕ} (p : Passed s at t) where
  whole : ReadsTo s (sheet_in s)
  whole = reading_whole s (sheet_in s) p.reads

  all_records : records_in (sheet_in s) ≡ records_of s (suc whole.m)
  unfolding whole
  all_records = ap records_in whole.says ∙ in_order s whole.m whole.upto

  -- no text on the way is longer than the longest
  pub passed_most : length t ≤ most_text
  unfolding whole sheet_text
  passed_most =
      let e : records_of s p.i ≡ take p.i (records_in (sheet_in s)) = sym (ap (take p.i) all_records ∙ records_front s (suc whole.m) p.i p.so_far) in
      omega (
        arith,
        ap length p.is_text,
        ap (λ (rs : List Record). length (text_of rs)) e,
        text_front (records_in (sheet_in s)) p.i,
        text_at_most s (sheet_in s) p.reads,
      )

  -- at the end, it is the sheet's text
  pub passed_all : length s ≤ at → t ≡ sheet_text (sheet_in s)
  unfolding whole sheet_text
  passed_all l = p.is_text ∙ (ap (λ (k : ℕ). text_of (records_of s k)) last ∙ ap text_of (sym all_records))
    where
      last : p.i ≡ suc whole.m
      last = split (ℕ_discrete p.i (suc whole.m))
        where
          split : Dec (p.i ≡ suc whole.m) → p.i ≡ suc whole.m
          split (yes e) = e
          split (no d) = absurd (omega (arith, whole.upto.inside p.i (omega (arith, p.so_far, d)), p.is_place))

  -- within the sheet, what is met there is the next record
  module _ (m : Met) (l : at < length s) (e : m ≡ met_at s at) where
    inner : p.i < suc whole.m
    unfolding whole
    inner = let d : (p.i ≡ suc whole.m → ⊥) = λ q. omega (arith, ap (place_of s) q, whole.ends, p.is_place) in omega (arith, p.so_far, d)

    met : m ≡ record { found = decode s (place_of s p.i); next = place_of s (suc p.i) }
    unfolding place_of decode
    met =
        let q = whole.upto.passed p.i inner in
        e ∙ (ap (met_at s) p.is_place ∙ met_whole s (place_of s p.i) q.is_known q.is_whole)

    pub passed_later : at < m.next
    passed_later = omega (arith, ap (λ (x : Met). x.next) met, place_next s p.i, p.is_place)

    pub passed_line : length (line_text m.found) < 96
    unfolding whole
    passed_line =
        let n = suc whole.m in
        let r : get_or (records_in (sheet_in s)) p.i nothing ≡ m.found =
        ap (λ (rs : List Record). get_or rs p.i nothing) all_records ∙ (record_at s n p.i inner ∙ sym (ap (λ (x : Met). x.found) met)) in
        let h : p.i < length (records_in (sheet_in s)) = omega (arith, ap length all_records, length_records s n, inner) in
        line_at_most m.found (rw (← r) (ranged_at s (sheet_in s) p.reads p.i h))

    pub passed_more : Passed s m.next (t ++ line_text m.found)
    unfolding records_of whole
    passed_more =
        record {
          reads = p.reads;
          i = suc p.i;
          so_far = omega (arith, inner);
          is_place = ap (λ (x : Met). x.next) met;
          is_text =
              ap (λ (x : Met). t ++ line_text x.found) met
              ∙ (ap (λ (x : List ℕ). x ++ line_text (decode s (place_of s p.i))) p.is_text ∙ sym (text_more (records_of s p.i) (decode s (place_of s p.i))));
        }

-- ---- Counting

-- n bytes so far
pub record Counted (s : List ℕ) (at n : ℕ) : Type 0 where
  pub text : List ℕ
  pub passed : Passed s at text
  pub is_number : n ≡ length text

pub counted_none : (s : List ℕ) → reading s ≡ Read (sheet_in s) → Counted s 0 0
counted_none s e = record { text = []; passed = passed_none s e; is_number = refl }

module _ {s : List ℕ} {at n : ℕ} (c : Counted s at n) (m : Met) (l : at < length s) (e : m ≡ met_at s at) (k : ℕ) {old new : List ℕ}
    (long : 96 ≡ length old) (w : Wrote old 0 (line_text m.found) new k) where
  line_long : k ≡ length (line_text m.found)
  unfolding behind
  line_long = omega (arith, w.ends, passed_line c.passed m l e, long)

  pub counted_more : Counted s m.next (n + k)
  counted_more =
      record {
        text = c.text ++ line_text m.found;
        passed = passed_more c.passed m l e;
        is_number = omega (arith, c.is_number, line_long, length-append c.text (line_text m.found));
      }

  pub counted_small : n + k ≤ 79968
  counted_small = omega (arith, counted_more.is_number, passed_most counted_more.passed, most_text_is)

pub counted_all : {s : List ℕ} {at n : ℕ} → Counted s at n → length s ≤ at → n ≡ length (sheet_text (sheet_in s))
counted_all c l = c.is_number ∙ ap length (passed_all c.passed l)

-- ---- Writing

-- the text so far stands at the front of the run
pub record Written (s old : List ℕ) (at : ℕ) (out : List ℕ) (next : ℕ) : Type 0 where
  pub text : List ℕ
  pub passed : Passed s at text
  pub wrote : Wrote old 0 text out next

pub written_none : (s old : List ℕ) → reading s ≡ Read (sheet_in s) → Written s old 0 old 0
written_none s old e = record { text = []; passed = passed_none s e; wrote = wrote_none }

pub written_more : {s old : List ℕ} {at : ℕ} {out : List ℕ} {next : ℕ} → Written s old at out next → (m : Met) → at < length s → m ≡ met_at s at → (new : List ℕ) (k : ℕ)
    → Wrote out next (line_text m.found) new k → Written s old m.next new k
written_more w m l e new k v =
    record { text = w.text ++ line_text m.found; passed = passed_more w.passed m l e; wrote = wrote_then w.wrote v }

pub written_all : {s old : List ℕ} {at : ℕ} {out : List ℕ} {next : ℕ} → Written s old at out next → length s ≤ at → Wrote old 0 (sheet_text (sheet_in s)) out next
written_all w l = rw (← passed_all w.passed l) w.wrote
