-- `capture_watch::is_request` meets its contract.
use mathlib.Core.Path.{refl}
use Rattle.capture_watch.specs.Follow.{request}
use Rattle.capture_watch.proofs.is_request.Goals as goal

pub returns : goal.returns
unfolding request
returns c = refl
