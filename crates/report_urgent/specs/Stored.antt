-- Page 02, 'Ask 11': what a program may write of a report. Assumes nothing.
use Rattle.std.specs.Prelude.{ℕ, ◌≡◌, List, Bool, take}
use Rattle.report_urgent.specs.Whole.{urgent_report, urgent_accepts}

-- the first n bytes of a text are the whole report of the sheet s, and `accepted` is what it says
pub record Tells (s text : List ℕ) (n : ℕ) (accepted : Bool) : Type 0 where
  pub text_is : take n text ≡ urgent_report s
  pub says : accepted ≡ urgent_accepts s
