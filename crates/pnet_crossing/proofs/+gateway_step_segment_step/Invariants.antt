-- The two steps of a path's cost: one cycle of calls, and what falls is the number of hops left.
use Rattle.pnet_crossing.proofs.+gateway_step_segment_step.Given as goal

abbrev pub decreases-segment_step : goal.decreases-segment_step
decreases-segment_step l = l.left

abbrev pub decreases-gateway_step : goal.decreases-gateway_step
decreases-gateway_step l = l.left
