-- `capture_ages::lead_of` meets its contract.
use Rattle.std.proofs.Common.{ℕ, ap, ◌∙◌}
use Rattle.capture_ages.specs.Ages.{lead_behind}
use Rattle.capture_ages.specs.Clock.{ago, lead_of}
use Rattle.capture_ages.proofs.lead_of.Goals as goal

pub returns : goal.returns
unfolding lead_of ago
returns c =
    let a = c.args in
    c.lead_behind.ensures
    ∙ ap (lead_behind a.spacing a.previous a.lead) (ap (λ (x : ℕ). ago x a.previous) c.clock_at.ensures)
