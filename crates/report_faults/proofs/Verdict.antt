-- A report ends in the words of a clean capture exactly if the capture is clean. Assumes nothing.
use mathlib.Core.Path.{◌≡◌, refl, ap}
use mathlib.Core.List.{List, [], ◌∷◌, ◌++◌, append_assoc}
use mathlib.Core.Bool.{Bool, true, false, cond}
use Prim.Native.Nat.{ℕ, ◌+◌}
use native.Mathlib.Omega.{arith}
use lib.Dec.{eqb}
use Rattle.text.specs.Text.{word, decimal, item}
use Rattle.report_faults.specs.Faults.{exceeding, first, streams_line, soon_line, ages_lines, silence_line, fault_lines, clean, last_lines}

-- ---- How a line begins

-- a text that does not begin with `e`, as the words of a clean capture do; 0 stands for no text
abbrev Other : List ℕ → Type 0
Other t = item t 0 ≡ 101 → ⊥

soon_other : (soon whose : ℕ) (rest : List ℕ) → Other rest → Other (soon_line soon whose ++ rest)
unfolding soon_line
soon_other soon whose rest o = split (eqb soon 0)
  where
    split : (b : Bool) → Other (cond b [] (word "requests sooner than their spacing allows " ++ (decimal soon ++ (word " times, first stream " ++ (decimal whose ++ word "\n")))) ++ rest)
    split true = o
    split false = λ e. omega arith

module _ (run : ℕ → ℕ) (n : ℕ) where
  silence_other : Other (silence_line run n)
  unfolding silence_line
  silence_other = split (eqb (exceeding run n) 0)
    where
      split : (b : Bool) → Other (cond b (word "no answer in the whole capture\n") [])
      split true = λ e. omega arith
      split false = λ e. omega arith

  streams_other : (c : ℕ) (words rest : List ℕ) → (c ≡ 101 → ⊥) → Other rest → Other (streams_line (c ∷ words) run n ++ rest)
  unfolding streams_line
  streams_other c words rest begins o = split (eqb (exceeding run n) 0)
    where
      split : (b : Bool) → Other (cond b [] (c ∷ words ++ (decimal (exceeding run n) ++ (word " streams, first stream " ++ (decimal (first run n + 1) ++ word "\n")))) ++ rest)
      split true = o
      split false = begins

-- ---- The last lines

module _ (above late answers : ℕ → ℕ) (soon whose : ℕ) (broken : Bool) (n : ℕ) where
  ages_other : (b : Bool) → Other (ages_lines late soon whose b n ++ silence_line answers n)
  unfolding ages_lines
  ages_other true = λ e. omega arith
  ages_other false =
      let over = streams_line (word "requests open beyond the bound in ") late n in
      rw (append_assoc over (soon_line soon whose) (silence_line answers n))
      (streams_other late n _ _ (soon_line soon whose ++ silence_line answers n) (λ e. omega arith) (soon_other soon whose (silence_line answers n) (silence_other answers n)))

  faults_other : Other (fault_lines above late answers soon whose broken n)
  unfolding fault_lines
  faults_other = streams_other above n _ _ (ages_lines late soon whose broken n ++ silence_line answers n) (λ e. omega arith) (ages_other broken)

  pub clean_said : clean above late answers soon broken n ≡ true → last_lines above late answers soon whose broken n ≡ word "every answer within its bound\n"
  unfolding last_lines
  clean_said e = simp e

  pub said_clean : last_lines above late answers soon whose broken n ≡ word "every answer within its bound\n" → clean above late answers soon broken n ≡ true
  unfolding last_lines
  said_clean = split (clean above late answers soon broken n)
    where
      split : (b : Bool) → cond b (word "every answer within its bound\n") (fault_lines above late answers soon whose broken n) ≡ word "every answer within its bound\n" → b ≡ true
      split true e = refl
      split false e = absurd (faults_other (ap (λ (t : List ℕ). item t 0) e))
