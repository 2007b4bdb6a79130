use mathlib.Core.Path.{◌≡◌, sym, ap, ◌∙◌}
use mathlib.Core.List.{List}
use Prim.Native.Nat.{ℕ, ◌+◌, ◌-◌, ◌/◌}
use native.Mathlib.Omega.{arith}
use lib.ListN.{set}
use lib.Seq.{sets, set_out}
use Rattle.text.specs.Text.{digit, places, behind}
use Rattle.text.proofs.Numbers.{length_places, last_digit_first}
use Rattle.text.proofs.put_places.Goals as goal
use Rattle.text.proofs.put_places.Goals.{Joined-j-count, else-j-count, then-j-count}

-- a digit that does not fit is left out, as a store past the run's end is
stored : (c : Joined-j-count) → c.if-j-count.out ≡ set c.loop-j.out (c.args.at + (c.loop-j.j - 1)) (digit c.loop-j.rest)
stored c = elim c.if-j-count.branch [ then-j-count w ↦ w.out-is | else-j-count w ↦ w.out-is ∙ sym (set_out c.loop-j.out _ _ (omega (arith, w.if-j-count))) ]

pub loop-j-preserved : goal.loop-j-preserved
loop-j-preserved c =
    let l = c.loop-j in
    let at = c.args.at in
    let i = l.j - 1 in
    let e : i + 1 ≡ l.j = omega arith in
    ap (λ (x : List ℕ). sets x at (places i (l.rest / 10))) (stored (goal.at.loop-j-preserved c).Joined-j-count)
    ∙ (last_digit_first l.out at i l.rest ∙ (ap (λ (m : ℕ). sets l.out at (places m l.rest)) e ∙ l.invariant))

pub returns : goal.returns
unfolding behind places
returns c =
    let l = c.loop-j in
    let a = c.args in
    let z : l.j ≡ 0 = omega arith in
    record {
      stored = ap (λ (m : ℕ). sets l.out a.at (places m l.rest)) (sym z) ∙ l.invariant;
      ends = omega (arith, length_places a.k a.n);
    }
