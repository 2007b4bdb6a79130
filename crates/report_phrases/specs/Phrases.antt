-- Page 01, 'Sheets worked by hand', with page 02, 'Ask 5', 'Ask 8', 'Ask 11' and 'Ask 14': what every report says in the same words, a count with its unit, a master's
-- name, a refusal. Assumes nothing.
use Rattle.std.specs.Prelude.{ℕ, List, [], cond, ◌||◌, leb, eqb}
use Rattle.units.specs.Units.{nanos_up}
use Rattle.units.specs.declared.BitPeriods.{BitPeriods}
use Rattle.units.specs.declared.Micros.{Micros}
use Rattle.units.specs.declared.Nanos.{Nanos}
use Rattle.text.specs.Text.{word, places, decimal, ◌·◌}

-- ---- Counts with their unit

unfoldable pub in_bp : BitPeriods → List ℕ
in_bp b = decimal b.0 · word " bp"

unfoldable pub in_us : Micros → List ℕ
in_us u = decimal u.0 · word " us"

unfoldable pub in_ns : Nanos → List ℕ
in_ns n = decimal n.0 · word " ns"

-- a P-NET count in both units, the ns rounded up (page 02, Ask 5)
unfoldable pub in_both : BitPeriods → List ℕ
in_both b = in_bp b · word " " · in_ns (nanos_up b)

-- two P-NET counts, each behind its words
unfoldable pub two_counts : List ℕ → BitPeriods → List ℕ → BitPeriods → List ℕ
two_counts first a second b = first · in_both a · second · in_both b

-- ---- Masters and streams

-- master numbers have two digits
unfoldable pub name_of : ℕ → List ℕ
name_of k = word "M" · places 2 k

-- a stream's number and its master
unfoldable pub whose_text : ℕ → ℕ → List ℕ
whose_text number master = word "stream " · decimal number · word " " · name_of master

-- ---- Refusals

-- what a refusal's place is: nothing is said of that of 10 and 11
unfoldable pub place_text : ℕ → ℕ → List ℕ
place_text n p =
    cond (leb n 7 || eqb n 20) (word " at byte " · decimal p)
    (cond (leb n 9 || eqb n 21) (word " at stream " · decimal p)
    (cond (eqb n 12) (word " at variable " · decimal p) (cond (eqb n 23) (word " at line " · decimal p) [])))

-- refusal n with place p, without the line's end: some reports say more behind it
unfoldable pub refused_text : ℕ → ℕ → List ℕ
refused_text n p = word "refused " · decimal n · place_text n p

-- the whole report of refusal n with place p
unfoldable pub refusal_text : ℕ → ℕ → List ℕ
refusal_text n p = refused_text n p · word "\n"
