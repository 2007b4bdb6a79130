-- `report_phrases::put_whose` stores the number and the master of a stream.
use mathlib.Core.Path.{◌≡◌}
use mathlib.Core.List.{◌++◌}
use Prim.Native.Nat.{ℕ}
use Rattle.text.specs.Text.{word, counted}
use Rattle.text.proofs.Writing.{wrote_then, counted_then}
use Rattle.report_phrases.specs.Phrases.{name_of, whose_text}
use Rattle.report_phrases.proofs.put_whose.Goals as goal

-- the two pieces that the code stores
pieces : (number master : ℕ) → whose_text number master ≡ counted (word "stream ") number (word " ") ++ name_of master
unfolding whose_text
pieces number master = counted_then (word "stream ") number (word " ") (name_of master)

pub returns : goal.returns
returns c =
    rw pieces
    (wrote_then c.put_counted-name.ensures
    c.put_name.ensures)
