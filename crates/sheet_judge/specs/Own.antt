-- Page 01, 'Numbered refusals' 2, 3, 1, 4: what is answered of a record by itself, a refusal's number or 0 for none. Words of inner contracts alone.
-- Assumes nothing.
use Rattle.std.specs.Prelude.{ℕ, Bool, cond, eqb}
use Rattle.sheet_record.specs.Kinds.{pnet, profibus, worldfip}

-- by the record itself: known, right for its position, whole, every field in its range
unfoldable pub own_no : Bool → Bool → Bool → Bool → ℕ
own_no isKnown isRight is_whole isRanged = cond isKnown (cond isRight (cond is_whole (cond isRanged 0 4) 1) 3) 2

-- the bus of a number: one that is none of the three counts for the last
unfoldable pub as_bus : ℕ → ℕ
as_bus bus = cond (eqb bus pnet) pnet (cond (eqb bus profibus) profibus worldfip)
