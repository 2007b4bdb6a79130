-- `worldfip_sets::single` meets its contract.
use Rattle.std.proofs.Common.{◌≡◌, ℕ, ◌*◌, ◌%◌, ◌^◌, ◌<◌, arith, sym, ◌∙◌}
use Rattle.std.specs.Prelude.{Option}
use Rattle.std.specs.Option.{unwrap_or, SomeIff}
use Rattle.std.specs.declared.option.Option.TheVariants.{Some, None}
use Rattle.worldfip_sets.specs.Sets.{alone}
use Rattle.worldfip_sets.proofs.Members.{shifted_one, alone_is, alone_none}
use Rattle.worldfip_sets.proofs.single.Goals as goal

-- a 1 shifted by r where r is below 64, and otherwise 0
or_none : (r : ℕ) (o : Option ℕ) → SomeIff o (r < 64) (1 * 2 ^ r % 18446744073709551616) → unwrap_or o 0 ≡ alone r
or_none r None above = sym (alone_none r (omega arith))
or_none r (Some x) h = h.1 ∙ shifted_one r h.0 ∙ sym (alone_is r h.0)

pub returns : goal.returns
returns c = c.unwrap_or.ensures ∙ or_none _ _ c.checked_shl.ensures
