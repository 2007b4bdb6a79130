-- Page 02, 'Ask 4': what one segment of a path says, a sheet and the master that sends there. Assumes nothing.
use Rattle.std.specs.Prelude.{ℕ, List}
use Rattle.sheet_rules.specs.Whole.{Outcome}
use Rattle.sheet_rules.specs.Whole.Outcome.{Read, Not}
use Rattle.units.specs.Units.{bp}
use Rattle.units.specs.declared.BitPeriods.{BitPeriods}
use Rattle.pnet_rules.specs.Segment.{segment_of, bound}
use Rattle.pnet_bounds.specs.Bounded.{bounded}
use Rattle.std.specs.declared.result.Result.TheVariants.{Ok, Err}
use Rattle.common.specs.Checks.{refusal}
use Rattle.std.specs.declared.result.Result.{Result}
use Rattle.common.specs.declared.Refusal.{Refusal}

-- 'each sheet's own' refusals: those of reading, 3 at 0 if it isn't P-NET, 8. No run is lent for a segment: with room for 800 streams, the
-- most that a sheet has, 13 is never given
abbrev pub sound : List ℕ → Outcome
sound s = bounded s 800

-- R of master k there, 0 for one without streams; or the sheet's refusal
abbrev pub sender_of : Outcome → ℕ → Result BitPeriods Refusal
sender_of (Read H) k = Ok (bp (bound (segment_of H) k))
sender_of (Not n p) k = Err (refusal n p)
