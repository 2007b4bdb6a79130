-- Page 01, 'Sheets worked by hand': what the report's lines are made of. Words are fixed byte strings, numbers are decimal, and the unit
-- words are always " bp", " us" and, by page 02's Ask 5, " ns". Assumes nothing.
use Rattle.std.specs.Prelude.{◌≡◌, ℕ, zero, suc, ◌+◌, ◌-◌, ◌*◌, ◌/◌, ◌%◌, ◌^◌, min, List, [], ◌∷◌, ◌++◌, Bool, length, get_or, drop, ltb}
use Prim.Native.Char.{code}
use Prim.Native.String.{String, [] as none, ◌∷◌ as ◌then◌}
use Rattle.std.proofs.lemmas.List.Edits.{sets}
use Rattle.common.specs.Sums.{first_of}

-- ---- Words and numbers

-- the bytes of a word
abbrev pub word : String → List ℕ
word none = []
word (c then s) = code c ∷ word s

-- the last decimal digit of n, `0` to `9`
abbrev pub digit : ℕ → ℕ
digit n = 48 + n % 10

-- the last k decimal digits of n, the highest first
unfoldable pub places : ℕ → ℕ → List ℕ
places zero n = []
places (suc k) n = places k (n / 10) ++ (digit n ∷ [])

-- k digits hold n
unfoldable pub holds : ℕ → ℕ → Bool
holds n k = ltb n (10 ^ k)

-- how many digits a number of 64 bits has: the fewest that hold it, and one at least
unfoldable pub width_of : ℕ → ℕ
width_of n = first_of (holds n) 20 1

-- a number: no leading zeros, `0` for 0
unfoldable pub decimal : ℕ → List ℕ
decimal n = places (width_of n) n

-- the number that digits say, read from the left, behind the value v
unfoldable pub read_behind : ℕ → List ℕ → ℕ
read_behind v [] = v
read_behind v (d ∷ ds) = read_behind (v * 10 + (d - 48)) ds

-- ---- Texts

-- a text behind another
infixr 20 ◌·◌
abbrev pub ◌·◌ : List ℕ → List ℕ → List ℕ
p · q = p ++ q

-- a number between words
unfoldable pub counted : List ℕ → ℕ → List ℕ → List ℕ
counted before n after = before · decimal n · after

-- the run that a text was put at the front of
abbrev pub over : List ℕ → List ℕ → List ℕ
over t old = t ++ drop (length t) old

-- what stands at place i of a run
abbrev pub item : List ℕ → ℕ → ℕ
item l i = get_or l i 0

-- t 0, .., t (n - 1), each behind the one before it
unfoldable pub texts : (ℕ → List ℕ) → ℕ → List ℕ
texts t zero = []
texts t (suc n) = texts t n · t n

-- ---- Writing

-- n zeros
pub record Zeros (n : ℕ) (run : List ℕ) : Type 0 where
  pub long : n ≡ length run
  pub each : (i : ℕ) → item run i ≡ 0

-- the place just after a text t that is stored from place `at` on in a run of n bytes: what does not fit is left out
unfoldable pub behind : ℕ → ℕ → List ℕ → ℕ
behind n at t = at + min (length t) (n - at)

-- the text t was stored in the run `old` from place `at` on, as far as the run goes: what the run then is, and the place just after
pub record Wrote (old : List ℕ) (at : ℕ) (t : List ℕ) (new : List ℕ) (next : ℕ) : Type 0 where
  pub stored : new ≡ sets old at t
  pub ends : next ≡ behind (length old) at t
