-- Page 01, 'Numbered refusals': a refusal has a number, a condition and a place, and only the first that applies is given.
-- Assumes nothing.
use Rattle.std.specs.Prelude.{ℕ, Bool, cond, eqb, List, [], ◌∷◌, ⊤, Ok, Err}
use Rattle.std.specs.declared.result.Result.{Result}
use Rattle.common.specs.declared.Refusal.{Refusal}

-- a line of the refusal list: number, 'given exactly if', place
pub record Check : Type 0 where
  pub no : ℕ
  pub given : Bool
  pub place : ℕ

abbrev pub check : ℕ → Bool → ℕ → Check
check n b p = record { no = n; given = b; place = p }

pub data Verdict : Type 0 where
  Passed : Verdict
  Refused : ℕ → ℕ → Verdict

-- the first that applies, in the order of the list
unfoldable pub verdict : List Check → Verdict
verdict [] = Passed
verdict (c ∷ cs) = cond c.given (Refused c.no c.place) (verdict cs)

-- ---- What code answers

-- a refusal with a number and a place
abbrev pub refusal : ℕ → ℕ → Refusal
refusal n p = record { no = n; place = p }

-- x, unless a line of the list applies
abbrev pub unless : {A : Type 0} → Verdict → A → Result A Refusal
unless Passed x = Ok x
unless (Refused n p) x = Err (refusal n p)

-- nothing, unless a refusal of this number applies at a place; 0 is none
abbrev pub unless_no : ℕ → ℕ → Result ⊤ Refusal
unless_no n p = cond (eqb n 0) (Ok tt) (Err (refusal n p))
