-- Where no stream ahead of i can ask twice within x, some run takes the figure x (Slowest): so no figure lower than x would be true. Assumes nothing.
use Prim.Native.Nat.{ℕ, ◌+◌, ◌*◌, ◌≤◌}
use mathlib.Core.Path.{◌≡◌, ap, ◌∙◌}
use mathlib.Core.Bool.{false}
use native.Mathlib.Omega.{arith}
use Rattle.units.specs.declared.BitPeriods.{BitPeriods}
use Rattle.units.specs.Units.{bp}
use Rattle.pnet_rules.specs.Segment.{Segment, turn}
use Rattle.pnet_rules.specs.Limits.{Declared}
use Rattle.pnet_urgent_rules.specs.Urgent.{blocked, ahead_in, figure, unmet}
use Rattle.pnet_urgent_rules.proofs.Right.{turn_some}
use Rattle.pnet_urgent_rules.proofs.Figures.{declared_met, met_is_figure}
use Rattle.pnet_run.specs.Run.{Belongs}
use Rattle.pnet_urgent_run.specs.Promise.{SafeFor, ReachedFor}
use Rattle.pnet_urgent_run.proofs.Slowest.{some_run_takes, reached_is_least, OnceEach, once_is_rank}

-- Page 02, Ask 10, charges each master its own H under edition 1 alone; so exactness is said of edition 1, as in demand 3
pub no_lower_figure_would_be_true : (S : Segment) → Declared S → S.edition ≡ 1
    → ((m a b : ℕ) → Belongs S m a → Belongs S m b → (S.stream a).cycle ≡ (S.stream b).cycle)
    → (i : ℕ) → 1 ≤ i → i ≤ S.number → unmet S i ≡ false → OnceEach S i (figure S i)
    → ReachedFor (bp (figure S i)) S i × ((Q : BitPeriods) → SafeFor Q S i → figure S i ≤ Q.0)
no_lower_figure_would_be_true S declared first_edition alike i from to accepted once =
    let some = turn_some S declared in
    let met = (declared_met S declared i).0 accepted in
    let is = met_is_figure S i some met in
    let solves : figure S i ≡ turn S * (1 + blocked S i + ahead_in S i (figure S i)) = rw is at met.solves.equal in
    let positive : 1 ≤ figure S i = omega (arith, solves, some) in
    let reached : ReachedFor (bp (figure S i)) S i =
    rw (solves ∙ ap (λ (n : ℕ). turn S * (1 + blocked S i + n)) (once_is_rank S declared i (figure S i) positive once))
    (some_run_takes S declared first_edition alike i from to) in
    (reached, λ Q safe. reached_is_least (bp (figure S i)) Q reached safe)
