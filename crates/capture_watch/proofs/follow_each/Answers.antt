use Rattle.capture_watch.proofs.Following.{following_none, following_more}
use Rattle.capture_watch.proofs.follow_each.Goals as goal

pub loop-n-init : goal.loop-n-init
loop-n-init c = let p = c.requires in following_none _ _ _ _ p.1.1.0 p.1.1.1

pub loop-n-preserved : goal.loop-n-preserved
loop-n-preserved c =
    let h = c.follow_one-w.ensures in
    following_more c.loop-n.invariant _ _ _ _ c.event_at-e.ensures h.value h.asked_after h.lead_after
