-- `report_faults::put_found` stores in how many streams something is found, and in which first.
use mathlib.Core.Path.{◌≡◌, sym, ◌∙◌}
use mathlib.Core.List.{[], List, ◌++◌}
use Prim.Native.Nat.{ℕ, ◌+◌}
use native.Mathlib.Omega.{arith}
use borrow.Author.Tests.{eq-eqb, ne_eqb}
use Rattle.text.specs.Text.{word, item, counted}
use Rattle.text.proofs.Writing.{wrote_none, wrote_then, counted_then}
use Rattle.report_faults.specs.Faults.{exceeding, first, streams_line}
use Rattle.report_faults.proofs.Counts.{first_few}
use Rattle.report_faults.proofs.put_found.Goals as goal

-- what the code stores, by what it has counted and found
module _ (words : List ℕ) (run : ℕ → ℕ) (n count : ℕ) (e : count ≡ exceeding run n) where
  found_none : count ≡ 0 → streams_line words run n ≡ []
  unfolding streams_line
  found_none z = simp (eq-eqb (exceeding run n) 0 (sym e ∙ z))

  found_some : (lowest : ℕ) → (count ≡ 0 → ⊥) → lowest ≡ first run n
      → streams_line words run n ≡ counted words count (word " streams, first stream ") ++ counted [] (lowest + 1) (word "\n")
  unfolding streams_line counted
  found_some lowest some f =
      rw (e, f)
      (simp (ne_eqb (exceeding run n) 0 (λ z. some (e ∙ z)))
      (counted_then words (exceeding run n) (word " streams, first stream ") (counted [] (first run n + 1) (word "\n"))))

pub returns-then-count-eq0 : goal.returns-then-count-eq0
returns-then-count-eq0 c =
    let a = c.args in
    rw (found_none a.words.now (item a.run.now) a.n _ c.exceeding-count.ensures c.if-count-eq0.true) wrote_none

pub overflow_add-lowest : goal.overflow_add-lowest
overflow_add-lowest c =
    let start = c in
    omega (arith, first_few (item start.args.run.now) start.args.n, c.first-lowest.ensures, start.requires)

pub returns : goal.returns
returns c =
    let after = c in
    let a = after.args in
    rw (found_some a.words.now (item a.run.now) a.n _ after.exceeding-count.ensures _ after.if-count-eq0.false after.first-lowest.ensures)
    (wrote_then c.put_counted-next.ensures c.put_counted.ensures)
