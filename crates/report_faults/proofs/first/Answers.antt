-- `report_faults::first` finds the first stream that has a figure other than 0 in a run: what `position` answers.
use borrow.Author.Tests.{tests}
use borrow.Author.Rules.{rules}
use mathlib.Core.Path.{◌∙◌}
use native.Mathlib.Omega.{arith}
use lib.ListN.{take}
use Rattle.std.proofs.lemmas.Iterator.{IsFirst-from_position, YieldsList-from_slice}
use Rattle.report_faults.proofs.Counts.{Other, Zero, first_found}
use Rattle.report_faults.proofs.first.Goals as goal

pub returns : goal.returns
returns c =
    let a = c.args in
    c.unwrap_or.ensures ∙ first_found a.run.now a.n (omega arith) c.position.result
    (IsFirst-from_position _ _ _ Other Zero c.position.ensures.ran (YieldsList-from_slice (take a.n a.run.now) cc) (λ x q k. search (rules, tests)) (λ x q k. search (rules, tests)))
