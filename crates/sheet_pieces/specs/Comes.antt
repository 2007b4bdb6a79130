-- Page 02, 'Ask 14': what is at hand once a whole text was taken, piece by piece: what `end` answers, and the kept front of the sheet, which stands for the
-- sheet whether reading accepts it or not. A line's number is told as far as 64 bits go. Assumes nothing.
use Rattle.std.specs.Prelude.{ℕ, ◌≤◌, min, ◌≡◌, List, length, take}
use Rattle.sheet_rules.specs.Sheets.{Sheet}
use Rattle.sheet_rules.specs.Whole.{reading}
use Rattle.sheet_rules.specs.Whole.Outcome.{Read}
use Rattle.sheet_pieces.specs.Texts.{Meaning}
use Rattle.sheet_pieces.specs.Texts.Meaning.{Stands, Bad}
use Rattle.sheet_pieces.specs.Steps.{State, ended_as}
use Rattle.std.specs.declared.result.Result.TheVariants.{Ok, Err}
use Rattle.common.specs.Checks.{refusal}

-- the first k bytes of the run are read as the sheet s is, and are that sheet where it is accepted
pub record KeptFor (s : List ℕ) (st : State) (k : ℕ) : Type 0 where
  pub ended : ended_as st.taken ≡ Ok k
  pub inside : k ≤ length st.sheet
  pub alike : reading (take k st.sheet) ≡ reading s
  pub whole : (S : Sheet) → reading s ≡ Read S → take k st.sheet ≡ s

pub data Comes (st : State) : Meaning → Type 0 where
  stands : {s : List ℕ} {k : ℕ} → KeptFor s st k → Comes st (Stands s)
  bad : {n : ℕ} → ended_as st.taken ≡ Err (refusal 23 (min n 18446744073709551615)) → Comes st (Bad n)
