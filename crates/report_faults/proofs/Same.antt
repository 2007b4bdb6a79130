-- Runs that agree at the first n places have the same last lines. Assumes nothing.
use mathlib.Core.Path.{◌≡◌, refl, ap}
use mathlib.Core.List.{List}
use mathlib.Core.Bool.{Bool, not}
use Prim.Native.Nat.{ℕ, ◌<◌}
use native.Mathlib.Omega.{arith}
use lib.Dec.{eqb}
use Rattle.common.specs.Sums.{when}
use Rattle.common.proofs.Firsts.{first_same}
use Rattle.common.proofs.FromZero.{sum_same}
use Rattle.text.specs.Text.{word}
use Rattle.report_faults.specs.Faults.{exceeds, exceeding, first, streams_line, ages_lines, silence_line, fault_lines, clean, last_lines}

-- below n
abbrev pub Agree : ℕ → (ℕ → ℕ) → (ℕ → ℕ) → Type 0
Agree n f g = (i : ℕ) → i < n → f i ≡ g i

module _ (n : ℕ) (f g : ℕ → ℕ) (e : Agree n f g) where
  exceeding_same : exceeding f n ≡ exceeding g n
  unfolding exceeding exceeds
  exceeding_same =
      sum_same (λ i. when (exceeds f i) 1) (λ i. when (exceeds g i) 1) n (λ i l. ap (λ (x : ℕ). when (not (eqb x 0)) 1) (e i l))

  first_alike : first f n ≡ first g n
  unfolding first exceeds
  first_alike = first_same (exceeds f) (exceeds g) n 0 (λ i lo hi. ap (λ (x : ℕ). not (eqb x 0)) (e i (omega arith)))

  streams_same : (words : List ℕ) → streams_line words f n ≡ streams_line words g n
  unfolding streams_line
  streams_same words = rw (exceeding_same, first_alike) refl

module _ (n : ℕ) (above above' late late' answers answers' : ℕ → ℕ) (a : Agree n above above') (l : Agree n late late') (r : Agree n answers answers')
    (soon whose : ℕ) (broken : Bool) where
  pub clean_same : clean above late answers soon broken n ≡ clean above' late' answers' soon broken n
  unfolding clean
  clean_same = rw (exceeding_same n above above' a, exceeding_same n late late' l, exceeding_same n answers answers' r) refl

  ages_same : ages_lines late soon whose broken n ≡ ages_lines late' soon whose broken n
  unfolding ages_lines
  ages_same = rw (streams_same n late late' l (word "requests open beyond the bound in ")) refl

  silence_same : silence_line answers n ≡ silence_line answers' n
  unfolding silence_line
  silence_same = rw (exceeding_same n answers answers' r) refl

  faults_same : fault_lines above late answers soon whose broken n ≡ fault_lines above' late' answers' soon whose broken n
  unfolding fault_lines
  faults_same = rw (streams_same n above above' a (word "answers above the bound in "), ages_same, silence_same) refl

  pub last_same : last_lines above late answers soon whose broken n ≡ last_lines above' late' answers' soon whose broken n
  unfolding last_lines
  last_same = rw (clean_same, faults_same) refl
