-- `text_hex::put_bytes` meets its contract. The invariant: with the bytes that the rest of the text says, the run is what it is to be.
use Rattle.text_hex.proofs.Laws.{Storing}
use Rattle.text_hex.proofs.put_bytes.Given as goal

abbrev pub invariant-loop-b : goal.invariant-loop-b
invariant-loop-b l = Storing l.initial.out l.text l.out l.n l.high l.b-index
