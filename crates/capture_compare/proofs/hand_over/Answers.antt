-- `capture_compare::hand_over` meets its contract: the first n places of a run are those of the array, and the others as they were.
use Rattle.std.proofs.Common.{◌≡◌, ℕ, List, ◌++◌, ◌≤◌, length, get_or, take, drop, ap, ◌∙◌, arith}
use Rattle.std.proofs.lemmas.List.{get_or-take, length-take-le}
use Rattle.common.specs.Runs.{filled}
use Rattle.common.proofs.Runs.{tab_places}
use Rattle.capture_compare.proofs.hand_over.Goals as goal

-- a run behind one copy
copied : (xs old front : List ℕ) (n : ℕ) → n ≤ length xs → front ≡ take n xs → front ++ drop n old ≡ filled (λ i. get_or xs i 0) n old
unfolding filled
copied xs old front n l e =
    ap (λ (run : List ℕ). run ++ drop n old)
    (e ∙ tab_places (λ i. get_or xs i 0) (take n xs) n (length-take-le n xs l) (λ i h. get_or-take n xs i 0 h))

pub returns : goal.returns
returns c =
    let a = c.args in
    let p = c.requires in
    record {
      answered_after = copied a.answers.now a.answered.now _ a.n (omega arith) c.copy_from_slice.ensures.after;
      longest_after = copied a.largest.now a.longest.now _ a.n (omega arith) c.copy_from_slice-2.ensures.after;
      exceeding_after = copied a.above.now a.exceeding.now _ a.n (omega arith) c.copy_from_slice-3.ensures.after;
      waiting_after = copied a.left.now a.waiting.now _ a.n (omega arith) c.copy_from_slice-4.ensures.after;
    }
