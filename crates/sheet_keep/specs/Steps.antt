-- Page 01, 'Numbered refusals' 5 and 7: what is answered of a stream by those before it, a refusal's number or 0 for none, and what is kept of
-- them: how many each master has and the longest C of them, or the identifiers in sheet order. Words of inner contracts alone. Assumes nothing.
use Rattle.std.specs.Prelude.{ℕ, zero, suc, ◌+◌, max, List, Bool, false, cond, ◌||◌, get_or, set, leb, eqb}
use Rattle.sheet_record.specs.declared.Record.{Record}

-- x stands among the first n identifiers
unfoldable pub among : ℕ → ℕ → List ℕ → Bool
among x zero ids = false
among x (suc n) ids = among x n ids || eqb (get_or ids n 0) x

-- by the n streams before it
unfoldable pub late_no : List ℕ → List ℕ → ℕ → Record → ℕ
unfolding among
late_no counts ids n r =
    cond (eqb r.kind 6) (cond (leb 64 n) 5 (cond (among r.a n ids) 7 0))
    (cond (leb 800 n) 5 (cond (leb 80 (get_or counts r.a 0)) 5 0))

-- what is kept once it passed
unfoldable pub counts_with : List ℕ → Record → List ℕ
counts_with counts r = cond (eqb r.kind 6) counts (set counts r.a (get_or counts r.a 0 + 1))

unfoldable pub longests_with : List ℕ → Record → List ℕ
longests_with longests r = cond (eqb r.kind 6) longests (set longests r.a (max (get_or longests r.a 0) r.b))

unfoldable pub ids_with : List ℕ → ℕ → Record → List ℕ
ids_with ids n r = cond (eqb r.kind 6) (set ids n r.a) ids
