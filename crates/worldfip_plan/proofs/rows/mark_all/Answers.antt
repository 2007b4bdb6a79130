use mathlib.Core.Path.{◌≡◌, refl, sym, ap, ◌∙◌}
use Prim.Native.Nat.{ℕ, ◌≤◌}
use native.Mathlib.Omega.{arith}
use lib.ListN.{get_or}
use Rattle.worldfip_sets.specs.Sets.{set_of}
use Rattle.worldfip_sets.proofs.Members.{alone_is}
use Rattle.worldfip_plan.specs.Held.{requests}
use Rattle.worldfip_plan.proofs.Turns.{marked_none, marked_more, group_on, group_marked}
use Rattle.worldfip_plan.proofs.rows.mark_all.Goals as goal
use Rattle.worldfip_plan.proofs.rows.mark_all.Goals.{then-q-r, else-q-r}

pub loop-r-init : goal.loop-r-init
unfolding requests set_of
loop-r-init c =
    let p = c.requires in
    let a = c.args in
    (refl, λ e. refl, λ m l. marked_none a.q.now m 0 (get_or a.t.now m 0) 0 refl ∙ p.cleared.none m)

pub offset_bounds-q-r : goal.offset_bounds-q-r
offset_bounds-q-r c = omega (arith, c.requires.usable)

pub bounds-q-r : goal.bounds-q-r
bounds-q-r c = omega (arith, c.requires.usable)

pub overflow_cast-r : goal.overflow_cast-r
overflow_cast-r c = omega (arith, c.requires.usable)

pub offset_bounds-q-r-in-loop-r : goal.offset_bounds-q-r-in-loop-r
offset_bounds-q-r-in-loop-r c = omega (arith, c.requires.usable)

pub bounds-q-r-in-loop-r : goal.bounds-q-r-in-loop-r
bounds-q-r-in-loop-r c = omega (arith, c.requires.usable)

pub overflow_cast-p : goal.overflow_cast-p
overflow_cast-p c = omega (arith, c.type_inv.q c.loop-r.r)

pub mark-requires : goal.mark-requires
mark-requires c =
    let s = c in
    let l = c.loop-r in
    (s.requires.usable.long l.r (omega arith), omega (arith, c.type_inv.q l.r), omega (arith, s.requires.cleared), omega (arith, s.requires.cleared))

pub loop-r-preserved : goal.loop-r-preserved
loop-r-preserved c =
    let l = c.loop-r in
    let s = c in
    let q = s.args.q.now in
    let long = s.requires.usable.long l.r (omega arith) in
    let more = λ (m : ℕ) (b : m ≤ s.args.rows). marked_more q m l.r (get_or l.t m 0) l.group c.single-group.result (c.single-group.ensures ∙ alone_is l.r (omega (arith, s.requires.usable))) (l.invariant.2 m b) in
    elim c.if-q-r.branch [
      | then-q-r w ↦ rw (w.t-is, w.group-is) (w.mark.auto.t ∙ l.invariant.0, λ e. refl, λ m b. group_marked q m l.r (get_or l.t m 0) _ _ (w.mark.ensures m b) (more m b))
      | else-q-r w ↦ rw (w.t-is, w.group-is) (l.invariant.0, λ e. absurd (omega arith), λ m b. group_on q m l.r (get_or l.t m 0) _ w.if-q-r.false (more m b))
    ]

pub returns : goal.returns
returns c =
    let s = c in
    let l = c.loop-r in
    let e : l.r ≡ s.args.n = omega arith in
    λ m k. sym (marked_none s.args.q.now m l.r (get_or l.t m 0) l.group (l.invariant.1 (rw e s.requires.usable.ends))) ∙ (l.invariant.2 m k ∙ ap (λ (x : ℕ). requests s.args.q.now x m) e)
