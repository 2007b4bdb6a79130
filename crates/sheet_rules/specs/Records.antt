-- Page 01, 'Sheet records': a sheet by its records alone, with no bytes, and how the writer puts it down record by record.
-- Assumes nothing.
use Rattle.std.specs.Prelude.{ℕ, ◌<◌, ◌≤◌, ◌≡◌, true, false, List, [], ◌∷◌, ◌++◌, length, get_or, take}
use Rattle.sheet_record.specs.declared.Record.{Record}
use Rattle.sheet_record.specs.Kinds.{known, is_stream, encode, in_range, nothing}
use Rattle.sheet_write.specs.Writing.{put_answer, put_bytes}
use Rattle.sheet_rules.specs.Sheets.{Sheet, sheet_of, given, fits, lacking, repeated, over_limit, met_before}
use Rattle.std.specs.declared.result.Result.TheVariants.{Ok, Err}

-- the records of a sheet: the first one, its settings, its streams
unfoldable pub records_in : Sheet → List Record
records_in S = S.head ∷ (S.settings ++ S.streams)

-- their bytes, one record after the other
unfoldable pub bytes_of : List Record → List ℕ
unfolding encode
bytes_of [] = []
bytes_of (r ∷ rs) = encode r ++ bytes_of rs

-- ---- Right sheets

-- r may stand behind these records
pub record Follows (before : List Record) (r : Record) : Type 0 where
  pub is_known : known r.kind ≡ true
  pub is_right : fits (sheet_of before) r.kind ≡ true
  pub is_ranged : in_range (given (sheet_of before) r.a) r ≡ true
  pub first_of_master : repeated (sheet_of before) r ≡ false
  pub none_missing : is_stream r.kind ≡ true → lacking (sheet_of before) ≡ false
  pub in_limits : over_limit (sheet_of before).streams r ≡ false
  pub is_new : met_before (sheet_of before).streams r ≡ false

-- each record may stand behind those before it, and there is a stream
pub record Right (rs : List Record) : Type 0 where
  pub each : (i : ℕ) → i < length rs → Follows (take i rs) (get_or rs i nothing)
  pub some : 1 ≤ length (sheet_of rs).streams

-- ---- Writing

-- these records, written one after the other from place `at` on, each at the place that the one before it answered, turn the
-- buffer b into b', and the last answers the place `end`
pub data Writes : List ℕ → ℕ → List Record → List ℕ → ℕ → Type 0 where
  none : {b : List ℕ} {at : ℕ} → Writes b at [] b at
  next : {b b' : List ℕ} {at e end : ℕ} {r : Record} {rs : List Record}
      → put_answer (length b) at r ≡ Ok e → Writes (put_bytes b at r) e rs b' end → Writes b at (r ∷ rs) b' end
