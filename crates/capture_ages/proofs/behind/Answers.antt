-- `capture_ages::behind` meets its contract.
use Rattle.std.proofs.Common.{◌≡◌, ℕ, ◌+◌, ◌%◌, ◌^◌, Bool, true, false, cond, ◌||◌, eqb, leb, refl, ap}
use mir.Val.{bool_byte}
use Rattle.common.specs.Sums.{when}
use Rattle.capture_log.specs.declared.Event.{Event}
use Rattle.capture_ages.specs.declared.Watch.{Watch}
use Rattle.capture_ages.specs.Clock.{step_of, tick, far_of, watch_with}
use Rattle.capture_ages.proofs.behind.Goals as goal

-- what the code puts together
watch-is : (w : Watch) (e : Event) (early : Bool) (step clock soon whose : ℕ) → step ≡ step_of w e.stamp → clock ≡ tick w e.stamp
    → soon ≡ (w.soon + when early 1) % 2 ^ 64 → whose ≡ cond (eqb w.whose 0) (when early e.stream) w.whose
    → record { clock = clock; stamp = e.stamp; broken = w.broken || leb (2 ^ 31) step; soon = soon; whose = whose } ≡ watch_with w e early
unfolding watch_with far_of
watch-is w e early step clock soon whose p q r s = rw (p, q, r, s) refl

-- a bool counts 1
one-if : (b : Bool) → bool_byte b ≡ when b 1
one-if true = refl
one-if false = refl

pub returns : goal.returns
returns c = watch-is _ _ _ _ _ _ _ c.step-far.ensures c.clock_at.ensures (ap (λ (x : ℕ). (c.args.w.soon + x) % 2 ^ 64) (one-if c.args.early)) c.first.ensures
