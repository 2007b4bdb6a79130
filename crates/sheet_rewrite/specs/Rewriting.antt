-- Page 02, Ask 8: a sheet of kind 3 as one of kinds 9 and 10, masters ascending, then the streams; any other byte for byte. What rewriting answers, and what the
-- lent run then holds: refused as reading refuses, then with 13 and the new sheet's length. Assumes nothing.
use Rattle.std.specs.Prelude.{ℕ, zero, suc, List, [], ◌∷◌, ◌++◌, cond, length, ltb, eqb}
use Rattle.common.specs.Checks.{check, Verdict, verdict, unless}
use Rattle.common.specs.Checks.Verdict.{Refused}
use Rattle.text.specs.Text.{over}
use Rattle.sheet_record.specs.declared.Record.{Record}
use Rattle.sheet_write.specs.Writing.{pasted_by}
use Rattle.sheet_rules.specs.Sheets.{Sheet, masters_of, message_of}
use Rattle.sheet_rules.specs.Records.{bytes_of}
use Rattle.sheet_rules.specs.Whole.{Outcome, reading}
use Rattle.sheet_rules.specs.Whole.Outcome.{Read, Not}
use Rattle.std.specs.declared.result.Result.{Result}
use Rattle.common.specs.declared.Refusal.{Refusal}

-- ---- The new sheet

-- the ring without its M
abbrev pub open_ring : Record → Record
open_ring h = record { kind = 9; a = h.a; b = h.b; c = 0; d = 0; e = 0 }

-- the longest message of master y
abbrev pub message_record : Sheet → ℕ → Record
message_record S y = record { kind = 10; a = y; b = message_of S y; c = 0; d = 0; e = 0 }

-- those of masters 1..n, ascending
unfoldable pub message_records : Sheet → ℕ → List Record
unfolding message_of
message_records S zero = []
message_records S (suc n) = message_records S n ++ (message_record S (suc n) ∷ [])

-- the records of the new sheet
unfoldable pub renewed : Sheet → List Record
unfolding message_records
renewed S = open_ring S.head ∷ (message_records S (masters_of S) ++ S.streams)

-- the bytes of the new sheet, of the bytes s that say S
unfoldable pub rewritten : List ℕ → Sheet → List ℕ
unfolding bytes_of renewed
rewritten s S = cond (eqb S.head.kind 3) (bytes_of (renewed S)) s

-- ---- The answer, into a run of so many bytes, and the run

abbrev pub rewritten_by : List ℕ → Outcome → List ℕ
rewritten_by s (Read S) = rewritten s S
rewritten_by s (Not n p) = []

-- the bytes t fit, or 13 with their length
abbrev pub room_verdict : ℕ → List ℕ → Verdict
room_verdict room t = verdict (check 13 (ltb room (length t)) (length t) ∷ [])

abbrev pub rewrite_verdict : ℕ → List ℕ → Outcome → Verdict
rewrite_verdict room s (Read S) = room_verdict room (rewritten s S)
rewrite_verdict room s (Not n p) = Refused n p

unfoldable pub rewrite_answer : ℕ → List ℕ → Result ℕ Refusal
unfolding verdict reading rewritten
rewrite_answer room s = unless (rewrite_verdict room s (reading s)) (length (rewritten_by s (reading s)))

unfoldable pub rewrite_bytes : List ℕ → List ℕ → List ℕ
unfolding verdict reading rewritten
rewrite_bytes old s = pasted_by (rewrite_verdict (length old) s (reading s)) (over (rewritten_by s (reading s)) old) old

-- ---- Words of inner contracts

-- the ring of kind 3 alone
abbrev pub alone : Record → Sheet
alone h = record { head = h; settings = []; streams = [] }

-- the bytes of the ring h without its M, and of the longest messages of masters 1..n
unfoldable pub front_bytes : Record → ℕ → List ℕ
unfolding bytes_of message_records
front_bytes h n = bytes_of (open_ring h ∷ message_records (alone h) n)

-- the bytes t at the front of a run, where they fit
abbrev pub fill_answer : ℕ → List ℕ → Result ℕ Refusal
fill_answer room t = unless (room_verdict room t) (length t)

abbrev pub fill_bytes : List ℕ → List ℕ → List ℕ
fill_bytes old t = pasted_by (room_verdict (length old) t) (over t old) old
