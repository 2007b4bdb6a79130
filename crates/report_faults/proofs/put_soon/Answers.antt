-- `report_faults::put_soon` stores how many requests came too soon, and the stream of the first.
use mathlib.Core.Path.{◌≡◌}
use mathlib.Core.List.{[], ◌++◌}
use Prim.Native.Nat.{ℕ}
use borrow.Author.Tests.{eq-eqb, ne_eqb}
use Rattle.text.specs.Text.{word, counted}
use Rattle.text.proofs.Writing.{wrote_none, wrote_then, counted_then}
use Rattle.report_faults.specs.Faults.{soon_line}
use Rattle.report_faults.proofs.put_soon.Goals as goal

-- what the code stores, by the count
module _ (soon whose : ℕ) where
  soon-none : soon ≡ 0 → soon_line soon whose ≡ []
  unfolding soon_line
  soon-none z = simp (eq-eqb soon 0 z)

  soon-some : (soon ≡ 0 → ⊥)
      → soon_line soon whose ≡ counted (word "requests sooner than their spacing allows ") soon (word " times, first stream ") ++ counted [] whose (word "\n")
  unfolding soon_line counted
  soon-some some =
      simp (ne_eqb soon 0 some)
      (counted_then (word "requests sooner than their spacing allows ") soon (word " times, first stream ") (counted [] whose (word "\n")))

pub returns-then-soon-eq0 : goal.returns-then-soon-eq0
returns-then-soon-eq0 c = rw (soon-none _ _ c.if-soon-eq0.true) wrote_none

pub returns : goal.returns
returns c =
    rw (soon-some _ _ c.if-soon-eq0.false)
    (wrote_then c.put_counted-next.ensures c.put_counted.ensures)
