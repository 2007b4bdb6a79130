-- `report_faults::put_faults` stores a line for each thing that is wrong.
use Rattle.text.proofs.Writing.{wrote_then}
use Rattle.report_faults.specs.Faults.{fault_lines}
use Rattle.report_faults.proofs.put_faults.Goals as goal

pub returns : goal.returns
unfolding fault_lines
returns c =
    wrote_then c.put_found-ages.ensures
    (wrote_then c.put_ages-silence.ensures c.put_silence.ensures)
