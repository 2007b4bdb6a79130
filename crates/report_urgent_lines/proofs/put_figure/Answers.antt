-- `report_urgent_lines::put_figure` stores a place, a figure and its rounds.
use mathlib.Core.Path.{◌≡◌}
use mathlib.Core.List.{[], ◌++◌, append_assoc}
use Prim.Native.Nat.{ℕ}
use Rattle.units.specs.declared.BitPeriods.{BitPeriods}
use Rattle.text.specs.Text.{word, counted}
use Rattle.text.proofs.Writing.{wrote_then}
use Rattle.report_phrases.specs.Phrases.{in_both}
use Rattle.report_urgent_lines.specs.Lines.{figure_text}
use Rattle.report_urgent_lines.proofs.put_figure.Goals as goal

-- the three pieces that the code stores
pieces : (place : ℕ) (figure : BitPeriods) (rounds : ℕ)
    → figure_text place figure rounds ≡ counted (word " place ") place (word " figure ") ++ (([] ++ in_both figure) ++ counted (word " ") rounds (word " rounds"))
unfolding figure_text counted
pieces place figure rounds = simp append_assoc

pub returns : goal.returns
returns c =
    rw pieces
    (wrote_then c.put_counted-periods.ensures
    (wrote_then c.put_both-search.ensures c.put_counted.ensures))
