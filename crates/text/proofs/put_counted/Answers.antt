-- `text::put_counted` stores words, a number and words, one behind another.
use Rattle.text.specs.Text.{counted}
use Rattle.text.proofs.Writing.{wrote_then}
use Rattle.text.proofs.put_counted.Goals as goal

pub returns : goal.returns
unfolding counted
returns c = wrote_then c.put_word-number.ensures (wrote_then c.put_number-rest.ensures c.put_word.ensures)
