-- Page 02, 'Ask 11': what x and its rounds are, for every stream of a segment whose V is not 0. The figure is the least solution where the stream is accepted, and a stream is accepted exactly if
-- there is a least solution of at most D. Assumes nothing.
use mathlib.Core.Path.{◌≡◌, refl}
use mathlib.Core.Logic.{◌↔◌, ◌⊎◌, inl, inr}
use mathlib.Core.Bool.{true, false}
use Prim.Native.Nat.{ℕ, ◌+◌, ◌*◌, ◌≤◌, ◌<◌}
use native.Mathlib.Nat.{mul_comm, mul-le-mul}
use native.Mathlib.Omega.{arith}
use borrow.Author.Tests.{le-ltb, ltb-true, ltb-false}
use Rattle.pnet_rules.specs.Segment.{Segment, turn}
use Rattle.pnet_rules.specs.Search.{value_from, Settles}
use Rattle.pnet_rules.specs.Limits.{Declared}
use Rattle.pnet_rules.proofs.Sequence.{Least, settles_or_passes, still_least, value_at_most, moves_up}
use Rattle.pnet_urgent_rules.specs.Urgent.{blocked, ahead_in, right_by, right, rounds, figure, unmet}
use Rattle.pnet_urgent_rules.specs.Refusals.{Solves, Met}
use Rattle.pnet_urgent_rules.proofs.Right.{ahead_rises, right_rises, right_from, solution_from, turn_some}
use Rattle.pnet_urgent_rules.proofs.Slots.{slot_values, settles_in_slots}

-- ---- The page's words and the definition

module _ (S : Segment) (i x : ℕ) where
  pub solves_if : x ≡ right S i x → Solves S i x
  unfolding right right_by
  solves_if e = record { equal = e }

  pub solves_then : Solves S i x → x ≡ right S i x
  unfolding right right_by
  solves_then s = s.equal

-- ---- The figure

module _ (S : Segment) (i : ℕ) (some : 1 ≤ turn S) where
  -- no value of the search is above a solution
  figure_at_most : (w : ℕ) → w ≡ right S i w → figure S i ≤ w
  unfolding figure
  figure_at_most w e = value_at_most (turn S) (right S i) (right_rises S i) (right_from S i (turn S)) w (omega (arith, e)) (solution_from S i w e) (rounds S i)

  module _ (accepted : unmet S i ≡ false) where
    pub figure_in_time : figure S i ≤ (S.stream i).deadline
    unfolding unmet
    figure_in_time = ltb-false (S.stream i).deadline (figure S i) accepted

    -- the round count is the first m whose m-th value equals the next one
    pub rounds_first : Settles (turn S) (right S i) (rounds S i)
    unfolding rounds figure
    rounds_first = by (settles_or_passes (turn S) (right S i) (right_rises S i) (right_from S i (turn S)) (S.stream i).deadline some)
      where
        by : Settles (turn S) (right S i) (rounds S i) ⊎ ((S.stream i).deadline < figure S i) → Settles (turn S) (right S i) (rounds S i)
        by (inl s) = s
        by (inr l) = absurd (omega (arith, figure_in_time))

    is_least : Least (right S i) (figure S i)
    unfolding figure
    is_least = still_least (turn S) (right S i) (right_rises S i) (right_from S i (turn S)) (rounds S i) rounds_first.still (solution_from S i)

    -- x = right side
    pub figure_solves : figure S i ≡ right S i (figure S i)
    figure_solves = is_least.solves

    -- and no smaller number solves it
    pub figure_least : (w : ℕ) → w ≡ right S i w → figure S i ≤ w
    figure_least = is_least.least

    -- each round takes a V at least: the value after r rounds is at least r + 1 of them
    pub rounds_at_most : (rounds S i + 1) * turn S ≤ figure S i
    unfolding figure right right_by
    rounds_at_most =
        let f : ℕ → ℕ = λ (n : ℕ). 1 + blocked S i + ahead_in S i (turn S * n) in
        let m = rounds S i in
        let low : m + 1 ≤ value_from 1 f m =
        omega (
          arith,
          moves_up 1 f (λ x y l. omega (arith, ahead_rises S i (turn S * x) (turn S * y) (mul-le-mul {n₁ = turn S} {m₁ = x} {n₂ = turn S} {m₂ = y} (omega arith) l))) (omega arith) m
              (settles_in_slots S i some f (λ n. refl) m rounds_first).first,
        ) in
        omega (
          arith,
          slot_values S i some f (λ n. refl) m,
          mul_comm (turn S) (value_from 1 f m),
          mul-le-mul {n₁ = m + 1} {m₁ = turn S} {n₂ = value_from 1 f m} {m₂ = turn S} low (omega arith),
        )

  -- a stream that is not accepted has no solution in time
  pub unmet_none : unmet S i ≡ true → (w : ℕ) → w ≡ right S i w → (S.stream i).deadline < w
  unfolding unmet
  unmet_none e w q = omega (arith, ltb-true (S.stream i).deadline (figure S i) e, figure_at_most w q)

  -- ---- Accepted in the page's words

  pub met_then : unmet S i ≡ false → Met S i
  met_then e =
      record {
        x = figure S i;
        solves = solves_if S i (figure S i) (figure_solves e);
        least = λ w s. figure_least e w (solves_then S i w s);
        in_time = figure_in_time e;
      }

  pub met_if : Met S i → unmet S i ≡ false
  unfolding unmet
  met_if m = le-ltb (S.stream i).deadline (figure S i) (omega (arith, figure_at_most m.x (solves_then S i m.x m.solves), m.in_time))

  -- x is one number
  pub met_is_figure : (m : Met S i) → m.x ≡ figure S i
  met_is_figure m =
      let e = met_if m in
      omega (arith, m.least (figure S i) (solves_if S i (figure S i) (figure_solves e)), figure_least e m.x (solves_then S i m.x m.solves))

  pub met_exactly : (unmet S i ≡ false) ↔ Met S i
  met_exactly = (met_then, met_if)

-- so it is in a segment that a sheet can declare
pub declared_met : (S : Segment) → Declared S → (i : ℕ) → (unmet S i ≡ false) ↔ Met S i
declared_met S d i = met_exactly S i (turn_some S d)
