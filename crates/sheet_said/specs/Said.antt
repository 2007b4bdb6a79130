-- Page 02, 'Ask 14': the record that a line says. A line is taken for that of one record, the only one that it can be the line of; the line of that
-- record is then held against it, byte by byte, so nothing is taken but what export writes. Assumes nothing.
use Rattle.std.specs.Prelude.{ℕ, suc, ◌+◌, ◌-◌, ◌*◌, min, List, [], ◌∷◌, ◌++◌, Bool, true, false, cond, ◌&&◌, eqb}
use Rattle.text.specs.Text.{word}
use Rattle.text_entry.specs.Entered.{is_digit}
use Rattle.sheet_record.specs.declared.Record.{Record}
use Rattle.sheet_record.specs.Kinds.{Kind, kinds, nothing}
use Rattle.sheet_line.specs.Lines.{line_text, sayable}

-- ---- Its word

-- p stands at the front of a line
unfoldable pub begins : List ℕ → List ℕ → Bool
begins [] l = true
begins (b ∷ p) [] = false
begins (b ∷ p) (c ∷ l) = eqb b c && begins p l

-- a word and a comma do; the empty word is none
abbrev pub headed : List ℕ → List ℕ → Bool
headed [] l = false
headed (b ∷ w) l = begins ((b ∷ w) ++ word ",") l

-- the kind, counted from k on, of the first of these lines of the table whose word a line begins with, and 0 if there is none
unfoldable pub kind_among : List Kind → ℕ → List ℕ → ℕ
unfolding begins
kind_among [] k l = 0
kind_among (c ∷ cs) k l = cond (headed (word c.word) l) k (kind_among cs (suc k) l)

unfoldable pub kind_in : List ℕ → ℕ
unfolding kind_among kinds
kind_in l = kind_among kinds 0 l

-- ---- Its numbers

-- the number that the digits before the next comma say, read from the left, behind the value v
unfoldable pub digits_behind : ℕ → List ℕ → ℕ
unfolding is_digit
digits_behind v [] = v
digits_behind v (b ∷ l) = cond (eqb b 44) v (digits_behind (cond (is_digit b) (v * 10 + (b - 48)) v) l)

-- one that 32 bits do not hold counts as the greatest that they hold, whose line is another
unfoldable pub number_at : List ℕ → ℕ
unfolding digits_behind
number_at l = min (digits_behind 0 l) 4294967295

-- what stands behind the next comma
unfoldable pub behind_comma : List ℕ → List ℕ
behind_comma [] = []
behind_comma (b ∷ l) = cond (eqb b 44) l (behind_comma l)

-- ---- The record

-- the only record that the line can be that of
unfoldable pub guess : List ℕ → Record
unfolding kind_in number_at behind_comma
guess l =
    let a = behind_comma l in
    let b = behind_comma a in
    let c = behind_comma b in
    let d = behind_comma c in
    let e = behind_comma d in
    record { kind = kind_in l; a = number_at a; b = number_at b; c = number_at c; d = number_at d; e = number_at e }

unfoldable pub same : List ℕ → List ℕ → Bool
same [] [] = true
same [] (c ∷ m) = false
same (b ∷ l) [] = false
same (b ∷ l) (c ∷ m) = eqb b c && same l m

-- the record whose line this is, and `nothing` where it is the line of none
unfoldable pub record_in : List ℕ → Record
unfolding guess sayable same line_text
record_in l = cond (sayable (guess l) && same l (line_text (guess l))) (guess l) nothing
