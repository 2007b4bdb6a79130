-- Captures of which it is proved what is kept of them. The latest record is first. Assumes nothing.
use Rattle.std.specs.Prelude.{◌≤◌, List, [], ◌∷◌}
use Rattle.capture_log.specs.declared.Event.{Event}
use Rattle.capture_watch.specs.Follow.{most}

-- every record's stream has a place
pub data Placed : List Event → Type 0 where
  none : Placed []
  and : {e : Event} {es : List Event} → 1 ≤ e.stream → e.stream ≤ most → Placed es → Placed (e ∷ es)
