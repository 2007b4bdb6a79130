-- A short capture, the latest record first, as it is kept. Assumes nothing.
use mathlib.Core.Path.{◌≡◌, refl}
use mathlib.Core.Bool.{false}
use mathlib.Core.List.{[], ◌∷◌}
use Rattle.sheet_record.specs.Kinds.{within}
use Rattle.capture_log.specs.Log.{around}
use Rattle.capture_ages.specs.Ages.{lead_behind, kept_lead}
use Rattle.capture_ages.specs.Clock.{began, ago, step_of, tick, far_of, lead_of, watch_with}
use Rattle.capture_ages.proofs.Examples.{wrapped}
use Rattle.capture_watch.specs.Follow.{request, seen, seen_with, followed}

-- over the wrap of the counter, where the second request of stream 1 is too soon
pub kept_over_the_wrap : followed (100 ∷ []) (0 ∷ []) (seen began (0 ∷ []) (0 ∷ [])) wrapped
    ≡ seen record { clock = 49; stamp = 0x20; broken = false; soon = 1; whose = 1 } (49 ∷ []) (0 ∷ [])
unfolding followed seen_with watch_with lead_of lead_behind kept_lead request far_of tick step_of ago within around
kept_over_the_wrap = refl
