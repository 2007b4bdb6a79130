-- Page 02, 'Ask 14': what export and import answer, and what the lent run then holds. The refusals in the page's order: export's are those of reading, 2 at 0
-- for a sheet whose first record has no word, which is one of kind 3, and 13 with the text's length; import's are 23, those of reading, and 13
-- with the sheet's length. Assumes nothing.
use Rattle.std.specs.Prelude.{ℕ, suc, ◌+◌, ◌*◌, List, [], ◌∷◌, ◌≡◌, not, length, take, ltb}
use Rattle.common.specs.Checks.{Check, check, Verdict, verdict, unless}
use Rattle.common.specs.Checks.Verdict.{Refused}
use Rattle.text.specs.Text.{over}
use Rattle.sheet_write.specs.Writing.{pasted_by}
use Rattle.sheet_record.specs.Kinds.{pnet}
use Rattle.sheet_rules.specs.Sheets.{Sheet, most_in_all}
use Rattle.sheet_rules.specs.Records.{records_in}
use Rattle.sheet_rules.specs.Whole.{Outcome, reading}
use Rattle.sheet_rules.specs.Whole.Outcome.{Read, Not}
use Rattle.sheet_line.specs.Lines.{has_word}
use Rattle.sheet_pieces.specs.Texts.{Meaning, text_of, meaning}
use Rattle.sheet_pieces.specs.Texts.Meaning.{Stands, Bad}
use Rattle.std.specs.declared.result.Result.TheVariants.{Ok, Err}
use Rattle.std.specs.declared.result.Result.{Result}
use Rattle.common.specs.declared.Refusal.{Refusal}

-- ---- Export, of the bytes s into a run of so many bytes

-- the text of a sheet
unfoldable pub sheet_text : Sheet → List ℕ
unfolding text_of records_in
sheet_text S = text_of (records_in S)

-- none is longer: a first record, 32 settings and 800 streams, and no line has more than 96 bytes, 79,968 in all
unfoldable pub most_text : ℕ
unfolding most_in_all
most_text = suc (32 + most_in_all pnet) * 96

unfoldable pub export_checks : ℕ → Sheet → List Check
unfolding has_word sheet_text
export_checks room S =
    check 2 (not (has_word S.head.kind)) 0
    ∷ check 13 (ltb room (length (sheet_text S))) (length (sheet_text S))
    ∷ []

abbrev pub export_verdict : ℕ → Outcome → Verdict
export_verdict room (Read S) = verdict (export_checks room S)
export_verdict room (Not n p) = Refused n p

abbrev pub text_by : Outcome → List ℕ
text_by (Read S) = sheet_text S
text_by (Not n p) = []

unfoldable pub export_answer : ℕ → List ℕ → Result ℕ Refusal
unfolding verdict export_checks reading
export_answer room s = unless (export_verdict room (reading s)) (length (text_by (reading s)))

unfoldable pub export_bytes : List ℕ → List ℕ → List ℕ
unfolding verdict export_checks reading
export_bytes old s = pasted_by (export_verdict (length old) (reading s)) (over (text_by (reading s)) old) old

-- ---- Import, of the text t

-- of a sheet that was read, or was not
abbrev pub copy_verdict : ℕ → ℕ → Outcome → Verdict
copy_verdict room n (Read S) = verdict (check 13 (ltb room n) n ∷ [])
copy_verdict room n (Not m p) = Refused m p

abbrev pub import_verdict : ℕ → Meaning → Verdict
import_verdict room (Stands s) = copy_verdict room (length s) (reading s)
import_verdict room (Bad n) = Refused 23 n

abbrev pub sheet_by : Meaning → List ℕ
sheet_by (Stands s) = s
sheet_by (Bad n) = []

unfoldable pub import_answer : ℕ → List ℕ → Result ℕ Refusal
unfolding verdict reading meaning
import_answer room t = unless (import_verdict room (meaning t)) (length (sheet_by (meaning t)))

unfoldable pub import_bytes : List ℕ → List ℕ → List ℕ
unfolding verdict reading meaning
import_bytes old t = pasted_by (import_verdict (length old) (meaning t)) (over (sheet_by (meaning t)) old) old

-- ---- A sheet as it is, of the bytes s

unfoldable pub copy_answer : ℕ → List ℕ → Result ℕ Refusal
unfolding verdict reading
copy_answer room s = unless (copy_verdict room (length s) (reading s)) (length s)

unfoldable pub copy_bytes : List ℕ → List ℕ → List ℕ
unfolding verdict reading
copy_bytes old s = pasted_by (copy_verdict (length old) (length s) (reading s)) (over s old) old

-- ---- What it is that the two are inverse

-- export of the sheet s into the run `old` answers how long its text t is, and t then stands at the front of the run
pub record Exports (old s t : List ℕ) : Type 0 where
  pub answer : export_answer (length old) s ≡ Ok (length t)
  pub text : take (length t) (export_bytes old s) ≡ t

-- import of the text t into the run `old` answers how long the sheet s is, and s then stands at the front of the run
pub record Imports (old t s : List ℕ) : Type 0 where
  pub answer : import_answer (length old) t ≡ Ok (length s)
  pub sheet : take (length s) (import_bytes old t) ≡ s
