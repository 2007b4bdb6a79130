-- Page 01, 'Numbered refusals' 1..7, and page 02, Ask 8: reading goes record by record, in a record the order is 2, 3, 1, 4, 20, 5, 7; 20 and then 6 come
-- at the end. Assumes nothing.
use Rattle.std.specs.Prelude.{ℕ, zero, suc, ◌+◌, List, [], ◌∷◌, ◌++◌, cond, not, ◌&&◌, ◌||◌, length, get_or, ltb, eqb}
use Rattle.common.specs.Checks.{Check, check, Verdict, verdict}
use Rattle.common.specs.Checks.Verdict.{Passed, Refused}
use Rattle.sheet_record.specs.declared.Record.{Record}
use Rattle.sheet_record.specs.Kinds.{known, is_stream, size_of, decode, in_range}
use Rattle.sheet_rules.specs.Sheets.{Sheet, given, sheet_of, fits, lacking, repeated, over_limit, met_before}

-- ---- The walk, record after record

-- where record i stands, counted from 0: the first at 0, each other one just behind the one before it
unfoldable pub place_of : List ℕ → ℕ → ℕ
unfolding size_of
place_of s zero = 0
place_of s (suc i) = place_of s i + size_of (get_or s (place_of s i) 0)

-- the first n records
unfoldable pub records_of : List ℕ → ℕ → List Record
unfolding decode place_of
records_of s zero = []
records_of s (suc n) = records_of s n ++ (decode s (place_of s n) ∷ [])

-- what stands before record i
unfoldable pub before : List ℕ → ℕ → Sheet
unfolding sheet_of records_of
before s i = sheet_of (records_of s i)

-- ---- The refusals of reading

-- those of a record r of the sheet s, at a place behind S
unfoldable pub record_checks : List ℕ → Sheet → ℕ → Record → List Check
unfolding known fits size_of in_range repeated lacking over_limit met_before
record_checks s S at r =
    check 2 (not (known r.kind)) at
    ∷ check 3 (not (fits S r.kind)) at
    ∷ check 1 (ltb (length s) (at + size_of r.kind)) at
    ∷ check 4 (not (in_range (given S r.a) r)) at
    ∷ check 20 (repeated S r || (is_stream r.kind && lacking S)) at
    ∷ check 5 (over_limit S.streams r) at
    ∷ check 7 (met_before S.streams r) at
    ∷ []

-- those of a sheet of n bytes that ends behind S: no first record, a longest message missing, no stream
unfoldable pub end_checks : ℕ → Sheet → List Check
unfolding lacking
end_checks n S =
    check 1 (eqb S.head.kind 0) 0
    ∷ check 20 (lacking S) n
    ∷ check 6 (eqb (length S.streams) 0) n
    ∷ []

-- ---- The whole reading

-- what a byte sequence is: a sheet, or refused with a number and a place
pub data Outcome : Type 0 where
  Read : Sheet → Outcome
  Not : ℕ → ℕ → Outcome

abbrev pub or_else : Verdict → Outcome → Outcome
or_else Passed o = o
or_else (Refused n p) o = Not n p

-- record i is refused with a number and a place, or passes
unfoldable pub judge : List ℕ → ℕ → Verdict
unfolding verdict record_checks before decode place_of
judge s i = verdict (record_checks s (before s i) (place_of s i) (decode s (place_of s i)))

-- the sheet ends behind its first i records
unfoldable pub ended : List ℕ → ℕ → Outcome
unfolding verdict end_checks before
ended s i = or_else (verdict (end_checks (length s) (before s i))) (Read (before s i))

-- reading from record i on; a record has a byte at least, so n records are enough for n bytes
unfoldable pub read_from : List ℕ → ℕ → ℕ → Outcome
unfolding ended judge place_of
read_from s zero i = ended s i
read_from s (suc n) i =
    let rest = read_from s n (suc i) in
    cond (ltb (place_of s i) (length s)) (or_else (judge s i) rest) (ended s i)

unfoldable pub reading : List ℕ → Outcome
unfolding read_from
reading s = read_from s (length s) 0

-- the number of a sheet's first stream among its records, counted from 0
abbrev pub first_stream : Sheet → ℕ
first_stream S = suc (length S.settings)
