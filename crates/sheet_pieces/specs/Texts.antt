-- Page 02, 'Ask 14': a sheet as text, one record a line, and what a text stands for. Assumes nothing.
use Rattle.std.specs.Prelude.{ℕ, suc, List, [], ◌∷◌, ◌++◌, cond, length, eqb}
use Rattle.sheet_record.specs.declared.Record.{Record}
use Rattle.sheet_record.specs.Kinds.{encode}
use Rattle.sheet_line.specs.Lines.{line_text}
use Rattle.sheet_said.specs.Said.{record_in}

-- the lines of these records
unfoldable pub text_of : List Record → List ℕ
unfolding line_text
text_of [] = []
text_of (r ∷ rs) = line_text r ++ text_of rs

-- the bytes of a sheet, or the number, from 1, of the first line that is not the line of a record
pub data Meaning : Type 0 where
  Stands : List ℕ → Meaning
  Bad : ℕ → Meaning

-- what a text stands for from line n on, of which the bytes `front` are read, behind the bytes s of a sheet. The last line has an end too
unfoldable pub meaning_from : ℕ → List ℕ → List ℕ → List ℕ → Meaning
unfolding record_in encode
meaning_from n front s [] = cond (eqb (length front) 0) (Stands s) (Bad n)
meaning_from n front s (b ∷ t) =
    let r = record_in (front ++ (b ∷ [])) in
    let ended = cond (eqb r.kind 0) (Bad n) (meaning_from (suc n) [] (s ++ encode r) t) in
    cond (eqb b 10) ended (meaning_from n (front ++ (b ∷ [])) s t)

unfoldable pub meaning : List ℕ → Meaning
unfolding meaning_from
meaning t = meaning_from 1 [] [] t
