-- `report_faults::exceeding` counts the streams that have a figure other than 0 in a run: what `filter` and `count` answer.
use mathlib.Core.Path.{◌∙◌}
use native.Mathlib.Omega.{arith}
use borrow.Author.Tests.{tests}
use borrow.Author.Rules.{rules}
use lib.ListN.{take}
use Rattle.std.proofs.lemmas.Iterator.{YieldsList-from_slice}
use Rattle.std.proofs.lemmas.Iterator.Consumers.{count_from_yields_List, YieldsList-from_filter}
use Rattle.std.proofs.lemmas.List.Sums.{length-filter}
use Rattle.report_faults.proofs.Counts.{other, exceeding_counted}
use Rattle.report_faults.proofs.exceeding.Goals as goal

pub returns : goal.returns
returns c =
    let a = c.args in
    count_from_yields_List c.filter.result c.count.result c.count.ensures.ran
    (YieldsList-from_filter _ other (YieldsList-from_slice (take a.n a.run.now) cc) c.filter.ensures.closure (λ x r q k. search (rules, tests)))
    ∙ (length-filter other (take a.n a.run.now) ∙ exceeding_counted a.run.now a.n (omega arith))
