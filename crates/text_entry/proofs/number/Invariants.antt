-- `text_entry::number` meets its contract. The invariant: with the digits so far as one number, the rest of the word gives the answer.
use Prim.Native.Nat.{◌≤◌}
use mathlib.Core.Path.{◌≡◌}
use lib.ListN.{drop}
use Rattle.text_entry.specs.Entered.{entered_of}
use Rattle.text_entry.proofs.Laws.{entered_behind}
use Rattle.text_entry.proofs.number.Given as goal

abbrev pub invariant-loop-digit : goal.invariant-loop-digit
invariant-loop-digit l = (l.n ≤ 4294967295) × (entered_of l.word ≡ entered_behind l.n (drop l.digit-index l.word))
