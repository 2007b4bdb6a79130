-- Page 02, 'Ask 14': a text comes piece by piece, and is read byte by byte. What is kept between two bytes: where the text is (`Taken`), the line
-- under way and the front of the sheet, each in a lent run. Words of the contracts of the steps; what they come to is in proofs/Whole. Assumes nothing.
use Rattle.std.specs.Prelude.{ℕ, suc, ◌+◌, min, List, [], ◌∷◌, true, false, cond, ◌||◌, length, take, set, ltb, eqb}
use Rattle.sheet_record.specs.declared.Record.{Record}
use Rattle.sheet_write.specs.Writing.{free_answer, free_bytes}
use Rattle.sheet_rules.specs.Lengths.{longest_record, enough}
use Rattle.sheet_said.specs.Said.{record_in}
use Rattle.sheet_pieces.specs.declared.Taken.{Taken}
use Rattle.std.specs.declared.result.Result.TheVariants.{Ok, Err}
use Rattle.std.specs.declared.result.Result.{Result}
use Rattle.common.specs.declared.Refusal.{Refusal}
use Rattle.common.specs.Checks.{refusal}
use Rattle.std.specs.Result.{result_unwrap_or}

-- a record more than what decides a sheet's reading
unfoldable pub room : ℕ
unfolding enough longest_record
room = enough + longest_record

pub record State : Type 0 where
  pub taken : Taken
  pub front : List ℕ
  pub sheet : List ℕ

abbrev pub started : Taken
started = record { line = 1; held = 0; kept = 0; bad = false }

-- ---- The line under way

-- how many bytes of the line a run holds, of which h were held, and the run with a byte more; what does not fit is left out
unfoldable pub holds : List ℕ → ℕ → ℕ
holds front h = min h (length front)

unfoldable pub held_more : List ℕ → ℕ → ℕ
unfolding holds
held_more front h = min (suc (holds front h)) (length front)

unfoldable pub front_with : List ℕ → ℕ → ℕ → List ℕ
unfolding holds
front_with front h b = set front (holds front h) b

-- ---- The front of the sheet

-- behind the bytes that decide its reading, no more is kept
unfoldable pub kept_more : List ℕ → ℕ → Record → ℕ
unfolding free_answer enough
kept_more sheet at r = cond (ltb at enough) (result_unwrap_or (free_answer (length sheet) at r) at) at

unfoldable pub sheet_more : List ℕ → ℕ → Record → List ℕ
unfolding free_bytes enough
sheet_more sheet at r = cond (ltb at enough) (free_bytes sheet at r) sheet

-- ---- A byte more

-- the next line's number, as far as 64 bits go
unfoldable pub next_line : ℕ → ℕ
next_line n = min (suc n) 18446744073709551615

-- the line ended, h bytes of it are held, and r is the record that it says
abbrev pub line_ends : State → ℕ → Record → State
line_ends st h r =
    cond (eqb r.kind 0)
    (record { taken = record { line = st.taken.line; held = h; kept = st.taken.kept; bad = true }; front = st.front; sheet = st.sheet })
    (record {
      taken = record { line = next_line st.taken.line; held = 0; kept = kept_more st.sheet st.taken.kept r; bad = false };
      front = st.front;
      sheet = sheet_more st.sheet st.taken.kept r;
    })

-- the line has a byte more
unfoldable pub held_with : State → ℕ → State
unfolding held_more front_with
held_with st b =
    record {
      taken = record { line = st.taken.line; held = held_more st.front st.taken.held; kept = st.taken.kept; bad = false };
      front = front_with st.front st.taken.held b;
      sheet = st.sheet;
    }

unfoldable pub ended_with : State → State
unfolding record_in kept_more sheet_more next_line
ended_with st = line_ends st st.taken.held (record_in (take st.taken.held st.front))

-- behind a line that is not of the form nothing is looked at
unfoldable pub stepped : State → ℕ → State
unfolding held_with ended_with
stepped st b = cond st.taken.bad st (cond (eqb b 10) (ended_with (held_with st b)) (held_with st b))

unfoldable pub steps : State → List ℕ → State
unfolding stepped
steps st [] = st
steps st (b ∷ p) = steps (stepped st b) p

-- ---- The end

-- an unended last line is not of the form
unfoldable pub ended_as : Taken → Result ℕ Refusal
ended_as t = cond (t.bad || ltb 0 t.held) (Err (refusal 23 t.line)) (Ok t.kept)
