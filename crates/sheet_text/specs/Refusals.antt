-- Page 02, 'Ask 14', in the page's own words: the sheet that a text stands for, the first line that is not of the form, and when export and import give a
-- number, with its place. Assumes nothing.
use Rattle.std.specs.Prelude.{ℕ, suc, ◌<◌, ◌≡◌, List, [], ◌∷◌, ◌++◌, true, length}
use Rattle.sheet_record.specs.declared.Record.{Record}
use Rattle.sheet_rules.specs.Sheets.{Sheet}
use Rattle.sheet_rules.specs.Records.{bytes_of}
use Rattle.sheet_rules.specs.Whole.{reading}
use Rattle.sheet_rules.specs.Whole.Outcome.{Read}
use Rattle.sheet_rules.specs.Refusals.{Given}
use Rattle.sheet_line.specs.Lines.{line_text, sayable}
use Rattle.sheet_pieces.specs.Texts.{text_of}
use Rattle.sheet_text.specs.Answers.{sheet_text}

-- ---- Texts

-- a line can say each of these records
pub data AllSayable : List Record → Type 0 where
  none : AllSayable []
  more : {r : Record} {rs : List Record} → sayable r ≡ true → AllSayable rs → AllSayable (r ∷ rs)

-- the text t is the lines of some records, and s their bytes
pub record StandsFor (t s : List ℕ) : Type 0 where
  pub records : List Record
  pub each : AllSayable records
  pub is_text : t ≡ text_of records
  pub is_sheet : s ≡ bytes_of records

-- a text begins with the line of no record
pub record NoLine (t : List ℕ) : Type 0 where
  pub some : 0 < length t
  pub of_none : (r : Record) (behind : List ℕ) → sayable r ≡ true → t ≡ line_text r ++ behind → ⊥

-- line n of the text t, counted from 1, is the first that is not the line of a record: it is of another form, or has no end
pub record BadLine (t : List ℕ) (n : ℕ) : Type 0 where
  pub before : List Record
  pub rest : List ℕ
  pub each : AllSayable before
  pub is_text : t ≡ text_of before ++ rest
  pub number : n ≡ suc (length before)
  pub is_bad : NoLine rest

-- ---- The tables

-- import of the text t into a run of so many bytes is refused with a number and a place: 23, then what reading gives, then 13
pub data ImportRefused (t : List ℕ) (room : ℕ) : ℕ → ℕ → Type 0 where
  -- the line's number
  bad_line : {n : ℕ} → BadLine t n → ImportRefused t room 23 n
  -- a place in the sheet that the text stands for
  unread : {s : List ℕ} {n p : ℕ} → StandsFor t s → Given s n p → ImportRefused t room n p
  -- that sheet's length
  no_room : {s : List ℕ} {S : Sheet} → StandsFor t s → reading s ≡ Read S → room < length s → ImportRefused t room 13 (length s)

-- export of the sheet s: what reading gives, then 2 at 0 for a first record of kind 3, then 13
pub data ExportRefused (s : List ℕ) (room : ℕ) : ℕ → ℕ → Type 0 where
  unread : {n p : ℕ} → Given s n p → ExportRefused s room n p
  no_word : {S : Sheet} → reading s ≡ Read S → S.head.kind ≡ 3 → ExportRefused s room 2 0
  -- the text's length
  no_room : {S : Sheet} → reading s ≡ Read S → (S.head.kind ≡ 3 → ⊥) → room < length (sheet_text S) → ExportRefused s room 13 (length (sheet_text S))
