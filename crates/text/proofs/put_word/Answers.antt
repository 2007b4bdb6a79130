use mathlib.Core.Path.{◌≡◌, sym, ap, ◌∙◌}
use mathlib.Core.List.{List}
use Prim.Native.Nat.{ℕ, ◌+◌, ◌<◌}
use native.Mathlib.Numerals.{add-one}
use native.Mathlib.Omega.{arith}
use lib.ListN.{length, get_or, take, set}
use lib.Seq.{sets, length-take-le, take-suc}
use Rattle.text.specs.Text.{behind}
use Rattle.text.proofs.Writing.{sets_more, sets_fit}
use Rattle.text.proofs.put_word.Goals as goal

-- a turn's store
one_more : (o o₀ w : List ℕ) (at j : ℕ) → j < length w → o ≡ sets o₀ at (take j w) → set o (at + j) (get_or w j 0) ≡ sets o₀ at (take (j + 1) w)
one_more o o₀ w at j h e =
    let l : length (take j w) ≡ j = length-take-le j w (omega arith) in
    rw (e, add-one j, take-suc w j 0 h) (ap (λ (k : ℕ). set (sets o₀ at (take j w)) (at + k) (get_or w j 0)) (sym l) ∙ sets_more (take j w) o₀ at (get_or w j 0))

-- no byte of it fits
pub returns-then-out-at : goal.returns-then-out-at
unfolding behind
returns-then-out-at c =
    let a = c.args in
    record {
      stored = sets_fit a.word.now a.out.now a.at 0 (omega (arith, c.if-out-at.true));
      ends = omega (arith, c.if-out-at.true);
    }

pub loop-j-preserved : goal.loop-j-preserved
loop-j-preserved c = one_more _ _ c.args.word.now c.args.at c.loop-j.j (omega arith) c.loop-j.invariant

pub returns : goal.returns
unfolding behind
returns c =
    let l = c.loop-j in
    let a = c.args in
    record {
      stored = l.invariant ∙ sets_fit a.word.now a.out.now a.at l.j (omega arith);
      ends = omega arith;
    }
