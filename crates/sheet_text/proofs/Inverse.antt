-- Page 02, 'Ask 14': export and import are inverse on all sheets that read without refusal and are not of kind 3. The laws of the two calls are at the end.
-- Assumes nothing.
use Prim.Native.Nat.{ℕ, zero, suc, ◌+◌, ◌-◌, ◌/◌, ◌%◌, ◌^◌, ◌≤◌, ◌<◌}
use mathlib.Core.Path.{◌≡◌, refl, sym, ap, ◌∙◌, subst}
use mathlib.Core.List.{List, [], ◌∷◌, ◌++◌}
use mathlib.Core.Bool.{Bool, true, false, not, ◌||◌, true≢false}
use mathlib.Core.Logic.{◌⊎◌, inl, inr}
use native.Mathlib.Omega.{arith}
use borrow.Author.Tests.{eqb-true, ltb-true, ltb-false, le-ltb, not-false}
use lib.Dec.{ltb, eqb}
use lib.ListN.{length, get_or, take, drop, length-append, get_or-append}
use lib.Seq.{take_at, drop_at, get_or-append-add}
use Rattle.common.specs.Checks.{check, verdict, unless}
use Rattle.common.specs.Checks.Verdict.{Passed}
use Rattle.common.proofs.Checks.{Clear, passed_if, passed_then}
use Rattle.common.proofs.Checks.Clear.{none as no-check, and}
use Rattle.text.specs.Text.{word}
use Rattle.sheet_record.specs.declared.Record.{Record}
use Rattle.sheet_record.specs.Numbers.{digits}
use Rattle.sheet_record.specs.Kinds.{Field, Kind, kinds, fields_of, is_stream_part, part_of, is_first, is_stream, known, body, numbers, encode, decode, in_range, nothing}
use Rattle.sheet_record.proofs.Tables.{both_true, at_every_line, fields_at_most, known_bounds}
use Rattle.sheet_record.proofs.Parts.{first_kinds}
use Rattle.sheet_ranges.proofs.Fits.{Fit, in_range_fits}
use Rattle.sheet_ranges.proofs.Fits.Fit.{none as no_field, over as no_number, more as a-field}
use Rattle.sheet_write.specs.Writing.{greatest}
use Rattle.sheet_write.proofs.Trips.{decode_fit}
use Rattle.sheet_rules.specs.Sheets.{Sheet, bus_in}
use Rattle.sheet_rules.specs.Records.{records_in, bytes_of}
use Rattle.sheet_rules.specs.Whole.{Outcome, reading}
use Rattle.sheet_rules.specs.Whole.Outcome.{Read, Not}
use Rattle.sheet_rules.proofs.Order.{stream_of}
use Rattle.sheet_rules.proofs.Known.{reading_read}
use Rattle.sheet_rules.proofs.Trips.{right_ranged, read_right, read_written}
use Rattle.sheet_line.specs.Lines.{word_of, has_word, in_bytes, sayable}
use Rattle.sheet_line.proofs.Lines.{known_but_3}
use Rattle.sheet_said.proofs.Guessed.{has_word_law, in_bytes_law}
use Rattle.sheet_said.proofs.Laws.{ranged_sayable}
use Rattle.sheet_pieces.specs.Texts.{Meaning, text_of, meaning}
use Rattle.sheet_pieces.specs.Texts.Meaning.{Stands, Bad}
use Rattle.sheet_text.specs.Answers.{sheet_text, text_by, sheet_by, export_checks, export_verdict, export_answer, export_bytes, copy_verdict, import_verdict, import_answer, import_bytes, Exports, Imports}
use Rattle.sheet_text.specs.Refusals.{AllSayable, StandsFor}
use Rattle.sheet_text.specs.Refusals.AllSayable.{none, more}
use Rattle.sheet_text.proofs.Meaning.{means_then, means_if}
use Rattle.std.specs.declared.result.Result.TheVariants.{Ok, Err}
use Rattle.common.specs.Checks.{refusal}
use Rattle.common.proofs.Answered.{unless_passed}

-- ---- The records of an accepted sheet

-- every stream has a word
abbrev worded : Kind → Bool
worded l = not (is_stream_part l.part) || not (eqb (length (word l.word)) 0)

stream_word : (k : ℕ) → is_stream k ≡ true → has_word k ≡ true
unfolding is_stream part_of has_word word_of kinds
stream_word k e = then (is_stream k) (has_word k) e (at_every_line worded refl refl k)
  where
    then : (a b : Bool) → a ≡ true → (not a || b) ≡ true → b ≡ true
    then true b q t = t
    then false b q t = cc

each_sayable : (rs : List Record) → ((i : ℕ) → i < length rs → sayable (get_or rs i nothing) ≡ true) → AllSayable rs
each_sayable [] h = none
each_sayable (r ∷ rs) h = more (h 0 (omega arith)) (each_sayable rs (λ i l. h (suc i) (omega arith)))

module _ (s : List ℕ) (S : Sheet) (e : reading s ≡ Read S) where
  -- a first record, its settings and its streams
  pub how_many_records : length (records_in S) ≡ 1 + length S.settings + length S.streams
  unfolding records_in
  how_many_records = omega (arith, length-append S.settings S.streams)

  pub ranged_at : (i : ℕ) → i < length (records_in S) → in_range greatest (get_or (records_in S) i nothing) ≡ true
  ranged_at i l = right_ranged (records_in S) (read_right s S e) i l

  -- where the first record has a word, all have
  behind_word : (i : ℕ) → i < length (S.settings ++ S.streams) → has_word (get_or (S.settings ++ S.streams) i nothing).kind ≡ true
  unfolding has_word word_of kinds
  behind_word i l = split (ltb i (length S.settings)) refl
    where
      setting_word : {k : ℕ} → k ≡ 8 ⊎ k ≡ 10 → has_word k ≡ true
      setting_word (inl q) = rw q
      setting_word (inr q) = rw q

      split : (b : Bool) → ltb i (length S.settings) ≡ b → has_word (get_or (S.settings ++ S.streams) i nothing).kind ≡ true
      split true q =
          let k = ltb-true i (length S.settings) q in
          rw (get_or-append S.settings S.streams nothing i k) (setting_word ((reading_read s S e).setting_kinds i k))
      split false q =
          let k = ltb-false i (length S.settings) q in
          let j = i - length S.settings in
          let z : i ≡ length S.settings + j = omega arith in
          let r = get_or S.streams j nothing in
          let w = stream_word r.kind (stream_of (bus_in S) r.kind ((reading_read s S e).kinds j (omega (arith, length-append S.settings S.streams)))).0 in
          rw (z, get_or-append-add S.settings S.streams j nothing) w

  word_at : has_word S.head.kind ≡ true → (i : ℕ) → i < length (records_in S) → has_word (get_or (records_in S) i nothing).kind ≡ true
  unfolding records_in
  word_at w zero l = w
  word_at w (suc i) l = behind_word i (omega arith)

  pub all_sayable : has_word S.head.kind ≡ true → AllSayable (records_in S)
  all_sayable w =
      each_sayable (records_in S)
      (λ i l. ranged_sayable greatest (get_or (records_in S) i nothing) (word_at w i l) (ranged_at i l) (omega arith) (omega arith))

  -- its text stands for it
  pub text_stands : has_word S.head.kind ≡ true → ((i : ℕ) → get_or s i 0 < 256) → StandsFor (sheet_text S) s
  unfolding sheet_text
  text_stands w bytes =
      record { records = records_in S; each = all_sayable w; is_text = refl; is_sheet = sym (read_written s S bytes e) }

-- ---- Bytes of records

-- each number below 256
abbrev Bytes : List ℕ → Type 0
Bytes l = (i : ℕ) → get_or l i 0 < 256

bytes_more : (b : ℕ) (l : List ℕ) → b < 256 → Bytes l → Bytes (b ∷ l)
bytes_more b l h t zero = h
bytes_more b l h t (suc i) = t i

bytes_both : (p q : List ℕ) → Bytes p → Bytes q → Bytes (p ++ q)
bytes_both [] q h t = t
bytes_both (b ∷ p) q h t = bytes_more b (p ++ q) (h 0) (bytes_both p q (λ i. h (suc i)) t)

bytes_none : Bytes []
bytes_none i = omega arith

digits_bytes : (w v : ℕ) → Bytes (digits w v)
unfolding digits
digits_bytes zero v = bytes_none
digits_bytes (suc w) v = bytes_both (digits w (v / 256)) (v % 256 ∷ []) (digits_bytes w (v / 256)) (bytes_more (v % 256) [] (omega arith) bytes_none)

body_bytes : (fs : List Field) (xs : List ℕ) → Bytes (body fs xs)
unfolding body
body_bytes [] xs = bytes_none
body_bytes (f ∷ fs) [] = bytes_none
body_bytes (f ∷ fs) (x ∷ xs) = bytes_both (digits f.width x) (body fs xs) (digits_bytes f.width x) (body_bytes fs xs)

-- a kind that has a word is known
word_known : (k : ℕ) → has_word k ≡ true → known k ≡ true
word_known k e = (both_true (not (eqb k 3)) (known k) (known_but_3 k ∙ e)).1

sayable_bytes : {rs : List Record} → AllSayable rs → Bytes (bytes_of rs)
unfolding bytes_of encode
sayable_bytes none = bytes_none
sayable_bytes (more {r} {rs} e a) =
    let k = known_bounds r.kind (word_known r.kind (has_word_law r e)) in
    let n = body (fields_of r.kind) (numbers r) in
    bytes_both (encode r) (bytes_of rs) (bytes_more r.kind n (omega (arith, k.1)) (body_bytes (fields_of r.kind) (numbers r))) (sayable_bytes a)

-- ---- Records whose numbers fit their bytes are told by them

data AllFit : List Record → Type 0 where
  fit_none : AllFit []
  fit_more : {r : Record} {rs : List Record} → Fit (fields_of r.kind) (numbers r) → AllFit rs → AllFit (r ∷ rs)

in_bytes_fit : (fs : List Field) (xs : List ℕ) → length fs ≤ length xs → in_bytes fs xs ≡ true → Fit fs xs
unfolding in_bytes
in_bytes_fit [] [] l e = no_field
in_bytes_fit [] (x ∷ xs) l e =
    let b = both_true (eqb x 0) (in_bytes [] xs) e in
    no_number (eqb-true x 0 b.0) (in_bytes_fit [] xs (omega arith) b.1)
in_bytes_fit (f ∷ fs) [] l e = absurd (omega arith)
in_bytes_fit (f ∷ fs) (x ∷ xs) l e =
    let b = both_true (ltb x (256 ^ f.width)) (in_bytes fs xs) e in
    a-field (ltb-true x (256 ^ f.width) b.0) (in_bytes_fit fs xs (omega arith) b.1)

sayable_fit : {rs : List Record} → AllSayable rs → AllFit rs
sayable_fit none = fit_none
sayable_fit (more {r} e a) = fit_more (in_bytes_fit (fields_of r.kind) (numbers r) (fields_at_most r.kind) (in_bytes_law r e)) (sayable_fit a)

ranged_fit : (rs : List Record) → ((i : ℕ) → i < length rs → in_range greatest (get_or rs i nothing) ≡ true) → AllFit rs
ranged_fit [] h = fit_none
ranged_fit (r ∷ rs) h = fit_more (in_range_fits greatest (omega arith) (omega arith) r (h 0 (omega arith))) (ranged_fit rs (λ i l. h (suc i) (omega arith)))

same_bytes : {rs qs : List Record} → AllFit rs → AllFit qs → bytes_of rs ≡ bytes_of qs → rs ≡ qs
unfolding bytes_of encode
same_bytes fit_none fit_none e = refl
same_bytes fit_none (fit_more f a) e = absurd (omega (arith, ap length e))
same_bytes (fit_more f a) fit_none e = absurd (omega (arith, ap length e))
same_bytes (fit_more {r} {rs} f a) (fit_more {r = q} {rs = qs} g b) e =
    let h : r ≡ q = sym (decode_fit r f [] (bytes_of rs)) ∙ (ap (λ (l : List ℕ). decode l 0) e ∙ decode_fit q g [] (bytes_of qs)) in
    let k = length (encode q) in
    let t : bytes_of rs ≡ bytes_of qs =
    sym (drop_at (encode r) (bytes_of rs) k (ap (λ (x : Record). length (encode x)) h)) ∙ (ap (drop k) e ∙ drop_at (encode q) (bytes_of qs) k refl) in
    let u = same_bytes a b t in
    cc

-- ---- A text that stands for an accepted sheet is its text

module _ (t s : List ℕ) (S : Sheet) (f : StandsFor t s) (e : reading s ≡ Read S) where
  same_records : records_in S ≡ f.records
  same_records =
      let bytes : Bytes s = subst Bytes (sym f.is_sheet) (sayable_bytes f.each) in
      same_bytes (ranged_fit (records_in S) (ranged_at s S e)) (sayable_fit f.each) (read_written s S bytes e ∙ f.is_sheet)

  pub stands_text : sheet_text S ≡ t
  unfolding sheet_text
  stands_text = ap text_of same_records ∙ sym f.is_text

  pub stands_word : has_word S.head.kind ≡ true
  unfolding records_in
  stands_word = by f.records f.each same_records
    where
      by : (rs : List Record) → AllSayable rs → records_in S ≡ rs → has_word S.head.kind ≡ true
      by [] a q = absurd (omega (arith, ap length q))
      by (r ∷ rs) (more w a) q = let h : r ≡ S.head = cc in rw (← h) (has_word_law r w)

-- ---- When export and import answer a length

pub record Exportable (s : List ℕ) (room n : ℕ) : Type 0 where
  pub sheet : Sheet
  pub reads : reading s ≡ Read sheet
  pub worded : has_word sheet.head.kind ≡ true
  pub is_length : n ≡ length (sheet_text sheet)
  pub fits : n ≤ room

module _ (room : ℕ) (s : List ℕ) (n : ℕ) where
  export_if : Exportable s room n → export_answer room s ≡ Ok n
  unfolding export_answer export_checks
  export_if x =
      let fits : length (sheet_text x.sheet) ≤ room = rw x.is_length at x.fits in
      let v : verdict (export_checks room x.sheet) ≡ Passed = passed_if (and (ap not x.worded) (and (le-ltb _ _ fits) no-check)) in
      rw (x.reads, v) (ap Ok (sym x.is_length))

  pub export_then : export_answer room s ≡ Ok n → Exportable s room n
  unfolding export_answer export_checks
  export_then e = by (reading s) refl e
    where
      clear : (S : Sheet) → Clear (export_checks room S) → (has_word S.head.kind ≡ true) × (length (sheet_text S) ≤ room)
      clear S (and e₂ (and e₁₃ no-check)) = (not-false _ e₂, ltb-false _ _ e₁₃)

      by : (o : Outcome) → reading s ≡ o → unless (export_verdict room o) (length (text_by o)) ≡ Ok n → Exportable s room n
      by (Not m p) q a = absurd (let z : ◌≡◌ {A = ℕ} 0 1 = cc in omega arith)
      by (Read S) q a =
          let v = unless_passed (verdict (export_checks room S)) (length (sheet_text S)) a in
          let c = clear S (passed_then (export_checks room S) v.0) in
          record { sheet = S; reads = q; worded = c.0; is_length = sym v.1; fits = omega (arith, v.1, c.1) }

-- the run then has the text in front
export_front : (old s : List ℕ) (n : ℕ) (x : Exportable s (length old) n) → take n (export_bytes old s) ≡ sheet_text x.sheet
unfolding export_bytes export_checks
export_front old s n x =
    let t = sheet_text x.sheet in
    let fits : length t ≤ length old = rw x.is_length at x.fits in
    let v : verdict (export_checks (length old) x.sheet) ≡ Passed = passed_if (and (ap not x.worded) (and (le-ltb _ _ fits) no-check)) in
    rw (x.reads, v) (take_at t (drop (length t) old) n (sym x.is_length))

pub record Importable (t : List ℕ) (room n : ℕ) : Type 0 where
  pub bytes : List ℕ
  pub sheet : Sheet
  pub stands : StandsFor t bytes
  pub reads : reading bytes ≡ Read sheet
  pub is_length : n ≡ length bytes
  pub fits : n ≤ room

module _ (room : ℕ) (t : List ℕ) (n : ℕ) where
  import_if : Importable t room n → import_answer room t ≡ Ok n
  unfolding import_answer
  import_if x =
      let m = length x.bytes in
      let fits : m ≤ room = rw x.is_length at x.fits in
      let v : verdict (check 13 (ltb room m) m ∷ []) ≡ Passed = passed_if (and (le-ltb _ _ fits) no-check) in
      rw (means_if x.stands, x.reads, v) (ap Ok (sym x.is_length))

  pub import_then : import_answer room t ≡ Ok n → Importable t room n
  unfolding import_answer
  import_then e = by (meaning t) refl e
    where
      clear : (m : ℕ) → Clear (check 13 (ltb room m) m ∷ []) → m ≤ room
      clear m (and q no-check) = ltb-false _ _ q

      read : (s : List ℕ) → meaning t ≡ Stands s → (o : Outcome) → reading s ≡ o → unless (copy_verdict room (length s) o) (length s) ≡ Ok n → Importable t room n
      read s m (Not k p) q a = absurd (let z : ◌≡◌ {A = ℕ} 0 1 = cc in omega arith)
      read s m (Read S) q a =
          let cs = check 13 (ltb room (length s)) (length s) ∷ [] in
          let v = unless_passed (verdict cs) (length s) a in
          record { bytes = s; sheet = S; stands = means_then t s m; reads = q; is_length = sym v.1; fits = omega (arith, v.1, clear (length s) (passed_then cs v.0)) }

      by : (m : Meaning) → meaning t ≡ m → unless (import_verdict room m) (length (sheet_by m)) ≡ Ok n → Importable t room n
      by (Bad k) m a = absurd (let z : ◌≡◌ {A = ℕ} 0 1 = cc in omega arith)
      by (Stands s) m a = read s m (reading s) refl a

-- the run then has the sheet in front
import_front : (old t : List ℕ) (n : ℕ) (x : Importable t (length old) n) → take n (import_bytes old t) ≡ x.bytes
unfolding import_bytes
import_front old t n x =
    let s = x.bytes in
    let fits : length s ≤ length old = rw x.is_length at x.fits in
    let v : verdict (check 13 (ltb (length old) (length s)) (length s) ∷ []) ≡ Passed = passed_if (and (le-ltb _ _ fits) no-check) in
    rw (means_if x.stands, x.reads, v) (take_at s (drop (length s) old) n (sym x.is_length))

-- a first record has a word, but that of kind 3
pub head_word : (k : ℕ) → is_first k ≡ true → (k ≡ 3 → ⊥) → has_word k ≡ true
unfolding has_word
head_word k f other = by (first_kinds k f)
  where
    by : k ≡ 1 ⊎ k ≡ 3 ⊎ k ≡ 5 ⊎ k ≡ 9 → has_word k ≡ true
    by (inl e) = rw e
    by (inr (inl e)) = absurd (other e)
    by (inr (inr (inl e))) = rw e
    by (inr (inr (inr e))) = rw e

pub no_head_word : (k : ℕ) → has_word k ≡ true → k ≡ 3 → ⊥
unfolding has_word
no_head_word k w e = true≢false (sym w ∙ ap has_word e)

-- ---- The laws of the two calls

-- every sheet that reads without refusal and is not of kind 3 is exported, into a run that holds its text
pub exported : (old s : List ℕ) (S : Sheet) → reading s ≡ Read S → (S.head.kind ≡ 3 → ⊥) → length (sheet_text S) ≤ length old → Exports old s (sheet_text S)
exported old s S e other fits =
    let n = length (sheet_text S) in
    let x : Exportable s (length old) n = record { sheet = S; reads = e; worded = head_word S.head.kind (reading_read s S e).head_first other; is_length = refl; fits = fits } in
    record { answer = export_if (length old) s n x; text = export_front old s n x }

-- export, then import: what export wrote of a sheet, import turns into that sheet, byte by byte, in any run that holds it
pub export_import : (old new s : List ℕ) (n : ℕ) → ((i : ℕ) → get_or s i 0 < 256) → export_answer (length old) s ≡ Ok n → length s ≤ length new
    → Imports new (take n (export_bytes old s)) s
export_import old new s n bytes e fits =
    let x = export_then (length old) s n e in
    let stands : StandsFor (take n (export_bytes old s)) s = rw (export_front old s n x) (text_stands s x.sheet x.reads x.worded bytes) in
    let y : Importable (take n (export_bytes old s)) (length new) (length s) =
    record { bytes = s; sheet = x.sheet; stands = stands; reads = x.reads; is_length = refl; fits = fits } in
    record { answer = import_if (length new) (take n (export_bytes old s)) (length s) y; sheet = import_front new (take n (export_bytes old s)) (length s) y }

-- import, then export: what import wrote of a text, export turns into that text, byte by byte, in any run that holds it
pub import_export : (old new t : List ℕ) (n : ℕ) → import_answer (length old) t ≡ Ok n → length t ≤ length new → Exports new (take n (import_bytes old t)) t
import_export old new t n e fits =
    let x = import_then (length old) t n e in
    let is : sheet_text x.sheet ≡ t = stands_text t x.bytes x.sheet x.stands x.reads in
    let w = stands_word t x.bytes x.sheet x.stands x.reads in
    let y : Exportable x.bytes (length new) (length t) =
    record { sheet = x.sheet; reads = x.reads; worded = w; is_length = ap length (sym is); fits = fits } in
    rw (import_front old t n x) (record { answer = export_if (length new) x.bytes (length t) y; text = export_front new x.bytes (length t) y ∙ is })
