-- Page 02, 'Ask 14': what the program makes of what it is given as a sheet, of which nobody knows what was read. Assumes nothing.
use Rattle.std.specs.Prelude.{ℕ, ◌≤◌, min, ◌≡◌, List, ◌++◌, Bool, true, false, ◌||◌, not, length, take, eqb, Ok, Err}
use Rattle.std.specs.declared.result.Result.{Result}
use Rattle.sheet_rules.specs.Sheets.{Sheet}
use Rattle.sheet_rules.specs.Whole.{reading}
use Rattle.sheet_rules.specs.Whole.Outcome.{Read}
use Rattle.sheet_said.specs.Said.{kind_in}
use Rattle.sheet_pieces.specs.Texts.{meaning}
use Rattle.sheet_pieces.specs.Texts.Meaning.{Stands, Bad}
use Rattle.sheet_pieces.specs.Steps.{State, started, room, steps}
use Rattle.planner_io.specs.declared.input.Unread.{Unread}
use Rattle.planner_io.specs.declared.input.Unread.TheVariants.{Failed, BadLine}

-- `first` and some pieces behind it are taken, in runs with room for a line and for what decides a sheet
pub record Took (first : List ℕ) (st : State) : Type 0 where
  pub rest : List ℕ
  pub front : List ℕ
  pub sheet : List ℕ
  pub wide : 96 ≤ length front
  pub roomy : room ≤ length sheet
  pub state_is : st ≡ steps (record { taken = started; front = front; sheet = sheet }) (first ++ rest)

-- what some text that begins with `first` comes to: nothing, as it could not be read; the number of the line that is not of the form, as far as 64 bits go; or
-- a sheet, as which the first bytes of the run are read, and which they are where it is accepted
pub data Made (first sheet : List ℕ) (r : Result ℕ Unread) : Type 0 where
  nothing : r ≡ Err Failed → Made first sheet r
  no_text : (rest : List ℕ) (n : ℕ) → meaning (first ++ rest) ≡ Bad n → r ≡ Err (BadLine (min n 18446744073709551615)) → Made first sheet r
  a_sheet : (rest s : List ℕ) (l : ℕ) → meaning (first ++ rest) ≡ Stands s → r ≡ Ok l → reading (take l sheet) ≡ reading s
      → ((S : Sheet) → reading s ≡ Read S → take l sheet ≡ s)
      → Made first sheet r

-- what begins with a word of texts and a comma is a text, and so is all that is asked for as one; all else is the bytes of a sheet
pub data GivenAs (as-text : Bool) (sheet : List ℕ) (r : Result ℕ Unread) : Type 0 where
  nothing_read : r ≡ Err Failed → GivenAs as-text sheet r
  as_bytes : (l : ℕ) → r ≡ Ok l → (as-text || not (eqb (kind_in (take l sheet)) 0)) ≡ false → GivenAs as-text sheet r
  as_a_text : (first : List ℕ) → (as-text || not (eqb (kind_in first) 0)) ≡ true → Made first sheet r → GivenAs as-text sheet r
