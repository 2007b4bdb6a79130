-- `report_faults::put_ages` stores what is wrong with ages and gaps, or that they are not known.
use Rattle.text.proofs.Writing.{wrote_then}
use Rattle.report_faults.specs.Faults.{ages_lines}
use Rattle.report_faults.proofs.put_ages.Goals as goal

pub returns-then-broken : goal.returns-then-broken
unfolding ages_lines
returns-then-broken c = simp c.if-broken.true c.put_word.ensures

pub returns : goal.returns
unfolding ages_lines
returns c =
    simp c.if-broken.false
    (wrote_then c.put_found-next.ensures c.put_soon.ensures)
