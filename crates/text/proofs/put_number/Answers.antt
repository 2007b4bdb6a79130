-- `text::put_number` stores the digits of a number, as many as `width` counts.
use Rattle.text.specs.Text.{decimal}
use Rattle.text.proofs.put_number.Goals as goal

pub returns : goal.returns
unfolding decimal
returns c = rw (← c.width-k.ensures) c.put_places.ensures
