-- `report_phrases::put_refused` stores a refusal and what follows it.
use mathlib.Core.Path.{◌≡◌}
use mathlib.Core.List.{List, [], ◌++◌, append_assoc}
use Prim.Native.Nat.{ℕ}
use Rattle.text.specs.Text.{word, counted}
use Rattle.report_phrases.specs.Phrases.{place_text, refused_text}
use Rattle.text.proofs.Writing.{wrote_then}
use Rattle.report_phrases.proofs.put_refused.Goals as goal

-- the two pieces that the code stores
pieces : (n p : ℕ) (after : List ℕ) → refused_text n p ++ after ≡ counted (word "refused ") n [] ++ (place_text n p ++ after)
unfolding refused_text counted
pieces n p after = simp append_assoc

pub returns : goal.returns
returns c = rw pieces (wrote_then c.put_counted-next.ensures c.put_place.ensures)
