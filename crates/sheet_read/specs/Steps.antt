-- Page 01, 'Sheet records': what the parts of the reader go by behind the first record.
-- Words of inner contracts alone. Assumes nothing.
use Rattle.std.specs.Prelude.{ℕ, suc, ◌≤◌, ◌<◌, ◌≡◌, List, Bool, true, false, length, get_or}
use Rattle.sheet_record.specs.declared.Record.{Record}
use Rattle.sheet_record.specs.declared.Given.{Given}
use Rattle.sheet_record.specs.Kinds.{is_setting, decode}
use Rattle.common.specs.Checks.Verdict.{Passed}
use Rattle.common.specs.Runs.{tab}
use Rattle.sheet_messages.specs.Messages.{message_at}
use Rattle.sheet_rules.specs.Sheets.{message_of, lacking, fits}
use Rattle.sheet_rules.specs.Whole.{place_of, before, judge, reading}
use Rattle.sheet_read.specs.Told.{told}
use Rattle.std.specs.declared.result.Result.{Result}
use Rattle.common.specs.declared.Refusal.{Refusal}
use Rattle.sheet_read.specs.declared.Settings.{Settings}
use Rattle.std.specs.declared.result.Result.TheVariants.{Ok, Err}

-- the first record of the sheet passed: it is `head`, and the place behind it is `first`
pub record Begun (s : List ℕ) (head : Record) (first : ℕ) : Type 0 where
  pub some : 0 < length s
  pub passed : judge s 0 ≡ Passed
  pub is_head : head ≡ decode s 0
  pub is_first_law : first ≡ place_of s 1

-- it and the settings behind it passed, c of them; the place behind those is `first`, and no setting that fits stands there. Place y of `messages` has the
-- longest message of master y, it tells that of any other number too, and `lacks` says whether one is missing
pub record Opened (s : List ℕ) (head : Record) (first : ℕ) (messages : List ℕ) (lacks : Bool) : Type 0 where
  pub c : ℕ
  pub inside : (i : ℕ) → i ≤ c → place_of s i < length s
  pub passed : (i : ℕ) → i ≤ c → judge s i ≡ Passed
  pub settings : length (before s (suc c)).settings ≡ c
  pub is_head : head ≡ decode s 0
  pub is_first_law : first ≡ place_of s (suc c)
  pub ends : is_setting (get_or s first 0) ≡ true → fits (before s (suc c)) (get_or s first 0) ≡ false
  pub limits : messages ≡ tab (message_of (before s (suc c))) 33
  pub of_any : (y : ℕ) → message_at messages y ≡ message_of (before s (suc c)) y
  pub is_lacking : lacks ≡ lacking (before s (suc c))

-- what is given to a stream of master y: how many masters there are, and the longest message that counts for it
abbrev pub given_to : ℕ → List ℕ → ℕ → Given
given_to masters messages y = record { masters = masters; message = message_at messages y }

-- what the settings come to: one of them is refused, as reading refuses the sheet, or all passed
abbrev pub Settles : List ℕ → Record → List ℕ → Result Settings Refusal → Type 0
Settles s head messages (Ok g) = Opened s head g.at messages g.lacks
Settles s head messages (Err r) = Err r ≡ told s (reading s)
