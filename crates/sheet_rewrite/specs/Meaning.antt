-- Page 02, Ask 8: 'Kind 3 sheets are still read, mean M for every master'; 'such a sheet rewritten keeps its meaning, not its bytes'. What the meaning of a
-- sheet is, and what it is that rewriting keeps it. Assumes nothing.
use Rattle.std.specs.Prelude.{ℕ, ◌≤◌, ◌≡◌, List, take}
use Rattle.sheet_record.specs.Kinds.{profibus}
use Rattle.sheet_rules.specs.Sheets.{Sheet, bus_in, masters_of, message_of}
use Rattle.sheet_rules.specs.Whole.{reading}
use Rattle.sheet_rules.specs.Whole.Outcome.{Read}
use Rattle.std.specs.declared.result.Result.TheVariants.{Ok, Err}
use Rattle.common.specs.Checks.{refusal}
use Rattle.std.specs.declared.result.Result.{Result}
use Rattle.common.specs.declared.Refusal.{Refusal}

-- two sheets say the same ring, the one by kind 3 and the other by kinds 9 and 10: n, L, the longest message of each master, and the streams
pub record SameRing (S S' : Sheet) : Type 0 where
  pub a_ring : bus_in S ≡ profibus
  pub again : bus_in S' ≡ profibus
  pub masters : masters_of S' ≡ masters_of S
  pub latency : S'.head.b ≡ S.head.b
  pub messages : (y : ℕ) → 1 ≤ y → y ≤ masters_of S → message_of S' y ≡ message_of S y
  pub streams : S'.streams ≡ S.streams

-- S' means what S means: it is the same sheet, or the same ring
pub data SameMeaning (S : Sheet) : Sheet → Type 0 where
  same_sheet : SameMeaning S S
  same_ring : {S' : Sheet} → SameRing S S' → SameMeaning S S'

-- what rewriting the bytes s answers, and the run that it leaves: refused; or so many bytes stand at the front of the run, which are a sheet that the writer
-- puts, its first record not being of kind 3, and mean what s means
pub data Rewrites (s : List ℕ) : Result ℕ Refusal → List ℕ → Type 0 where
  refused : {n p : ℕ} {out : List ℕ} → Rewrites s (Err (refusal n p)) out
  kept : {n : ℕ} {out : List ℕ} {S S' : Sheet} → reading s ≡ Read S → reading (take n out) ≡ Read S' → SameMeaning S S' → (S'.head.kind ≡ 3 → ⊥)
      → Rewrites s (Ok n) out
