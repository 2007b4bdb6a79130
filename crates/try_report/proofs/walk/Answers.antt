-- `try_report::walk` writes a line that stands within its run. Assumes nothing.
use Rattle.std.proofs.Common.{sym}
use Rattle.std.proofs.lemmas.List.{length-take-le}
use Rattle.text.proofs.Writing.{wrote_inside}
use Rattle.try_report.proofs.walk.Goals as goal

pub slice_bounds-line-end : goal.slice_bounds-line-end
slice_bounds-line-end c = wrote_inside c.put_counted-n.ensures

pub slice_bounds-say-end : goal.slice_bounds-say-end
slice_bounds-say-end c = sym (length-take-le _ _ (wrote_inside c.put_counted-n.ensures))
