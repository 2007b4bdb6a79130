-- `capture_log::whole_at` meets its contract: the stamp is two and two bytes.
use Rattle.capture_log.proofs.Records.{event_is}
use Rattle.capture_log.proofs.whole_at.Goals as goal

pub returns : goal.returns
returns c =
    let x = c in
    event_is _ _ _ _ _ x.pair-stream.ensures.0 x.pair-high.ensures.0 x.pair-low.ensures.0
