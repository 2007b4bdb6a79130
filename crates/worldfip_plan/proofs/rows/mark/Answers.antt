use mathlib.Core.Path.{◌≡◌, ap, ◌∙◌}
use Prim.Native.Nat.{ℕ, ◌+◌, ◌*◌, ◌/◌, ◌≤◌, ◌<◌}
use native.Mathlib.Omega.{arith}
use native.Mathlib.Numerals.{add-one}
use native.Mathlib.Nat.{zero-mul, suc-mul, le-div_iff_mul-le}
use Rattle.std.proofs.Math.Nat.{mul-mod_left, lt-div-mul-add}
use Rattle.worldfip_plan.proofs.Turns.{walked_none, walked_all, walked_more}
use Rattle.worldfip_plan.proofs.rows.mark.Goals as goal

pub loop-k-init : goal.loop-k-init
loop-k-init c = λ m h. rw (zero-mul c.args.p) (walked_none c.args.p c.args.x m _)

-- one turn further
next : (k p : ℕ) → (k + 1) * p ≡ k * p + p
next k p = rw (add-one k) (suc-mul k p)

pub loop-k-preserved : goal.loop-k-preserved
loop-k-preserved c =
    let l = c.loop-k in
    let a = c.args in
    let some = c.requires.0 in
    let fits : l.k * a.p ≤ a.rows = (le-div_iff_mul-le {k = a.p} {x = l.k} {y = a.rows} some).0 (omega arith) in
    λ m h.
    rw (next l.k a.p) (walked_more a.p a.x a.t.now l.t (l.k * a.p) a.rows (mul-mod_left l.k a.p) (omega arith) l.invariant fits some m h)

pub returns : goal.returns
returns c =
    let l = c.loop-k in
    let a = c.args in
    let all : l.k ≡ a.rows / a.p + 1 = omega arith in
    let past : a.rows < l.k * a.p = omega (arith, lt-div-mul-add {a = a.rows} {b = a.p} c.requires.0, next (a.rows / a.p) a.p, ap (λ (n : ℕ). n * a.p) all) in
    λ m h. l.invariant m h ∙ walked_all a.p a.x (l.k * a.p) m _ (omega arith)
