-- Page 01, 'Sheets worked by hand', with page 02, 'Ask 4' and 'Ask 11': whether a report is of what is accepted, beside its length. Assumes nothing.
use Rattle.std.specs.Prelude.{ℕ, Bool, cond}
use Rattle.report_phrases.specs.declared.Reported.{Reported}
use Rattle.report_phrases.specs.declared.Reported.TheVariants as reported

-- a report of n bytes, of what is accepted or refused
abbrev pub told : Bool → ℕ → Reported
told accepted n = cond accepted (reported.Accepted n) (reported.Refused n)
