-- Page 02, 'Ask 4': which refusal of a path is given, line by line of the list, where no sheet is refused. Assumes nothing.
use mathlib.Core.Path.{◌≡◌, sym, ap, ◌∙◌}
use mathlib.Core.Bool.{Bool, true, false, not, ◌||◌}
use Prim.Native.Nat.{ℕ, ◌+◌, ◌*◌, ◌≤◌, ◌<◌}
use borrow.Author.Tests.{lt-ltb, le-ltb, le-leb, lt-leb}
use lib.Dec.{leb, ltb}
use Rattle.common.specs.Checks.{Verdict, unless}
use Rattle.common.specs.Sums.{first_of}
use Rattle.common.proofs.Checks.{Applies, refused_if, passed_if}
use Rattle.common.proofs.Checks.Applies.{here, later}
use Rattle.common.proofs.Checks.Clear.{none, and}
use Rattle.common.proofs.Outside.{outside_is}
use Rattle.sheet_record.specs.Kinds.{within}
use Rattle.sheet_ranges.proofs.Ranges.{range_within}
use Rattle.units.specs.Units.{bp}
use Rattle.pnet_crossing.specs.Cost.{segment_step, is_too_long, cost_over, path_checks, crossing_by}
use Rattle.std.specs.declared.result.Result.TheVariants.{Ok, Err}
use Rattle.common.specs.Checks.{refusal}

-- ---- Out of range, as the code tests it

outside : (lo x hi : ℕ) → not (within lo x hi) ≡ (ltb x lo || ltb hi x)
unfolding within
outside lo x hi = outside_is lo x hi

-- ---- The refusals

module _ (R F : ℕ → ℕ) (absent : ℕ → Bool) (g D : ℕ) where
  refused : {n p : ℕ} → Applies (path_checks R F absent g D) n p → Err (refusal n p) ≡ crossing_by R F absent g D
  unfolding crossing_by
  refused a = ap (λ (v : Verdict). unless v (bp (cost_over R F g))) (sym (refused_if a))

  pub too_many : (ltb g 1 || ltb 10 g) ≡ true → Err (refusal 17 g) ≡ crossing_by R F absent g D
  unfolding path_checks
  too_many e = refused (here (outside 1 g 10 ∙ e))

  module _ (few : (1 ≤ g) × (g ≤ 10)) (long : ℕ) (long-is : long ≡ first_of (is_too_long F) g 1) where
    number : not (within 1 g 10) ≡ false
    number = ap not (range_within 1 g 10 (record { least = few.0; most = few.1 }))

    pub time_out_of_range : long ≤ g → Err (refusal 4 long) ≡ crossing_by R F absent g D
    unfolding path_checks
    time_out_of_range l = rw long-is (refused (later number (here (le-leb _ _ (rw long-is at l)))))

    module _ (short : g < long) where
      times : leb (first_of (is_too_long F) g 1) g ≡ false
      times = lt-leb _ _ (rw long-is at short)

      pub deadline_out_of_range : (ltb D 1 || ltb 1000000000 D) ≡ true → Err (refusal 4 0) ≡ crossing_by R F absent g D
      unfolding path_checks
      deadline_out_of_range e = refused (later number (later times (here (outside 1 D 1000000000 ∙ e))))

      module _ (in-range : (ltb D 1 || ltb 1000000000 D) ≡ false) (without : ℕ) (without_is : without ≡ first_of absent (g + 1) 1) where
        deadline : not (within 1 D 1000000000) ≡ false
        deadline = outside 1 D 1000000000 ∙ in-range

        pub sender_absent : without ≤ g + 1 → Err (refusal 18 without) ≡ crossing_by R F absent g D
        unfolding path_checks
        sender_absent l = rw without_is (refused (later number (later times (later deadline (here (le-leb _ _ (rw without_is at l)))))))

        module _ (all : g + 1 < without) (cost hops : ℕ) (cost-of : cost ≡ segment_step R F hops 1) (hops-are : hops ≡ 2 * g + 1) where
          senders : leb (first_of absent (g + 1) 1) (g + 1) ≡ false
          senders = lt-leb _ _ (rw without_is at all)

          cost_is : cost ≡ cost_over R F g
          unfolding cost_over
          cost_is = cost-of ∙ ap (λ (n : ℕ). segment_step R F n 1) hops-are

          pub late : D < cost → Err (refusal 19 0) ≡ crossing_by R F absent g D
          unfolding path_checks
          late l = refused (later number (later times (later deadline (later senders (here (lt-ltb _ _ (rw cost_is at l)))))))

          pub in_time : cost ≤ D → Ok (bp cost) ≡ crossing_by R F absent g D
          unfolding crossing_by path_checks
          in_time l =
              rw cost_is
              (ap (λ (v : Verdict). unless v (bp (cost_over R F g)))
              (sym (passed_if (and number (and times (and deadline (and senders (and (le-ltb _ _ (rw cost_is at l)) none))))))))
