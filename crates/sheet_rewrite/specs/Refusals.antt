-- Page 02, Ask 8, in the page's own words: when rewriting a sheet gives a number, with its place. Assumes nothing.
use Rattle.std.specs.Prelude.{ℕ, ◌+◌, ◌*◌, ◌<◌, ◌≡◌, List, length}
use Rattle.sheet_rules.specs.Sheets.{Sheet, masters_of}
use Rattle.sheet_rules.specs.Whole.{reading}
use Rattle.sheet_rules.specs.Whole.Outcome.{Read}
use Rattle.sheet_rules.specs.Refusals.{Given}

-- how long a ring of kind 3 is as one of kinds 9 and 10: 6 bytes for the ring, 6 for each master, 10 for each stream
unfoldable pub new_length : Sheet → ℕ
new_length S = 6 + 6 * masters_of S + 10 * length S.streams

-- rewriting the sheet s into a run of so many bytes is refused with a number and a place: what reading gives, then 13
pub data RewriteRefused (s : List ℕ) (room : ℕ) : ℕ → ℕ → Type 0 where
  unread : {n p : ℕ} → Given s n p → RewriteRefused s room n p
  -- a ring of kind 3: the new sheet's length
  no_room : {S : Sheet} → reading s ≡ Read S → S.head.kind ≡ 3 → room < new_length S → RewriteRefused s room 13 (new_length S)
  -- any other sheet: its own
  no_room_alike : {S : Sheet} → reading s ≡ Read S → (S.head.kind ≡ 3 → ⊥) → room < length s → RewriteRefused s room 13 (length s)
