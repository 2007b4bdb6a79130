use Prim.Native.Nat.{ℕ, ◌+◌, ◌-◌, ◌≤◌}
use mathlib.Core.Path.{◌≡◌, sym, ap, ◌∙◌}
use mathlib.Core.List.{List}
use native.Mathlib.Omega.{arith}
use lib.ListN.{get_or}
use Rattle.common.proofs.Runs.{get_d_tab}
use Rattle.sheet_rules.specs.Ready.{sheet_in}
use Rattle.profibus_rules.specs.Ring.{Ring, ring_of, count, rotation, Declared}
use Rattle.profibus_plan.proofs.Passing.{Stepped, ready_declared, ready_number, stepped}
use Rattle.profibus_rules.specs.Target.{Limited}
use Rattle.profibus_rules.proofs.Sizes.{messages_most}
use Rattle.profibus_plan.proofs.Answers.{plan_fails, plan_limited}
use Rattle.profibus_plan.proofs.Tight.{Tight, Next, some, fits, tight_none, tight_kept, tight_new, tight_fails, tight_limited}
use Rattle.profibus_plan.proofs.largest_target.Goals as goal
use Rattle.profibus_plan.proofs.largest_target.Goals.{After-struct_known-1, Start, then-d-h+else-d-h-2, else-d-h}

-- the ring, from the entry
abbrev ring : List ℕ → Ring
ring s = ring_of (sheet_in s)

within : (c : Start) → Declared (ring c.args.s.now)
within c = ready_declared c.args.s.now c.args.first c.args.streams c.requires.ready

-- `shortest` is the rotation at L
at_latency : (c : Start) → c.args.latency + c.args.longest ≡ rotation (ring c.args.s.now) (ring c.args.s.now).latency
unfolding rotation
at_latency c = omega (arith, c.requires.latency_value)

at_latency_most : (c : Start) → c.args.latency + c.args.longest ≤ 3300000
at_latency_most c =
    omega (arith, c.requires.latency_value, (within c).latency_in, messages_most (ring c.args.s.now) (within c))

-- the record that was met is stream i + 1
step : (c : After-struct_known-1) → Stepped c.args.s.now (ring c.args.s.now) (c.loop-i.i + 1) c.ring_stream_at-met.result
step c =
    let l = c.loop-i in
    stepped c.args.s.now c.args.first c.args.streams c.requires.ready l.i l.at c.ring_stream_at-met.result
    c.loop-i-test.true l.invariant.0 c.ring_stream_at-met.ensures

-- its master's count is the ring's h
share : (c : After-struct_known-1)
    → get_or c.args.counts.now c.ring_stream_at-met.result.found.a 0
    ≡ count (ring c.args.s.now) ((ring c.args.s.now).stream (c.loop-i.i + 1)).master
share c =
    let R = ring c.args.s.now in
    let master = c.ring_stream_at-met.result.found.a in
    ap (λ (l : List ℕ). get_or l master 0) c.requires.counts_value
    ∙ (get_d_tab (count R) 33 master (step c).small ∙ ap (count R) (step c).master)

-- and stands behind streams 1..i, with its figures
next : (c : After-struct_known-1)
    → Next (ring c.args.s.now) c.loop-i.i c.loop-i.borne c.loop-i.limiting
    (get_or c.args.counts.now c.ring_stream_at-met.result.found.a 0)
    c.ring_stream_at-met.result.found.b
    c.ring_stream_at-met.result.found.c
next c =
    let s = step c in
    record {
      tight = c.loop-i.invariant.1;
      on = s.on;
      share = share c;
      cycle = s.cycle;
      deadline = s.deadline;
    }

pub overflow_add-shortest : goal.overflow_add-shortest
overflow_add-shortest c = omega (arith, at_latency_most (goal.at.overflow_add-shortest c).Start)

pub loop-i-init : goal.loop-i-init
loop-i-init c =
    let start = (goal.at.loop-i-init c).Start in
    let R = ring c.args.s.now in
    let l : rotation R R.latency ≤ 1000000000 = omega (arith, at_latency start, at_latency_most start) in
    (c.requires.ready.starts, tight_none R l)

pub overflow_cast-master : goal.overflow_cast-master
overflow_cast-master c = omega (arith, (step (goal.at.overflow_cast-master c).After-struct_known-1).small)

pub bounds-counts-master : goal.bounds-counts-master
bounds-counts-master c = (step (goal.at.bounds-counts-master c).After-struct_known-1).small

pub overflow_cast-h : goal.overflow_cast-h
overflow_cast-h c =
    let at = goal.at.overflow_cast-h c in
    omega (arith, share at.After-struct_known-1, (within at.Start).count_in ((ring c.args.s.now).stream (c.loop-i.i + 1)).master)

pub overflow_mul-h : goal.overflow_mul-h
overflow_mul-h c =
    let at = goal.at.overflow_mul-h c in
    let n = next at.After-struct_known-1 in
    omega (arith, fits (within at.Start) n c.loop-i.borne n.tight.most)

pub overflow_add-h : goal.overflow_add-h
overflow_add-h c =
    let at = goal.at.overflow_add-h c in
    let n = next at.After-struct_known-1 in
    omega (arith, fits (within at.Start) n c.loop-i.borne n.tight.most)

pub overflow_mul-h-then-d-h : goal.overflow_mul-h-then-d-h
overflow_mul-h-then-d-h c =
    let at = goal.at.overflow_mul-h-then-d-h c in
    omega (arith, fits (within at.Start) (next at.After-struct_known-1) (c.args.latency + c.args.longest) (omega (arith, at_latency_most at.Start)))

pub overflow_add-h-then-d-h : goal.overflow_add-h-then-d-h
overflow_add-h-then-d-h c =
    let at = goal.at.overflow_add-h-then-d-h c in
    omega (arith, fits (within at.Start) (next at.After-struct_known-1) (c.args.latency + c.args.longest) (omega (arith, at_latency_most at.Start)))

pub returns-then-d-h-2 : goal.returns-then-d-h-2
returns-then-d-h-2 c =
    let at = goal.at.returns-then-d-h-2 c in
    sym (plan_fails (sheet_in c.args.s.now) c.requires.ready.on_bus (c.loop-i.i + 1)
    (tight_fails (within at.Start) (next at.After-struct_known-1) (rw (← (at_latency at.Start)) c.if-d-h-2.true)))

pub overflow_sub-borne : goal.overflow_sub-borne
overflow_sub-borne c = omega (arith, c.if-d-h-2.false)

pub nonzero_div-borne : goal.nonzero_div-borne
nonzero_div-borne c =
    let at = goal.at.nonzero_div-borne c in
    some (within at.Start) (next at.After-struct_known-1)

pub loop-i-preserved : goal.loop-i-preserved
loop-i-preserved c =
    let at = goal.at.loop-i-preserved c in
    let n = next at.After-struct_known-1 in
    elim c.if-d-h.branch [
      | then-d-h+else-d-h-2 w ↦ ((step at.After-struct_known-1).next, rw (w.borne-is, w.limiting-is) (tight_new (within at.Start) n w.if-d-h.true (rw (← (at_latency at.Start)) w.if-d-h-2.false)))
      | else-d-h w ↦ ((step at.After-struct_known-1).next, rw (w.borne-is, w.limiting-is) (tight_kept (within at.Start) n w.if-d-h.false))
    ]

pub overflow_sub-rotation : goal.overflow_sub-rotation
overflow_sub-rotation c = omega (arith, at_latency (goal.at.overflow_sub-rotation c).Start, c.loop-i.invariant.1.enough)

pub overflow_cast-rotation : goal.overflow_cast-rotation
overflow_cast-rotation c = omega (arith, c.loop-i.invariant.1.most)

pub returns : goal.returns
returns c =
    let declared = within (goal.at.returns c).Start in
    let R = ring c.args.s.now in
    let l = c.loop-i in
    let e : l.i ≡ R.number = omega (arith, ready_number c.args.s.now c.args.first c.args.streams c.requires.ready) in
    let t : Tight R R.number l.borne l.limiting = rw e at l.invariant.1 in
    let a : Limited R (l.borne - c.args.longest) l.limiting = rw c.requires.latency_value.1 (tight_limited R declared l.borne l.limiting t) in
    sym (plan_limited (sheet_in c.args.s.now) c.requires.ready.on_bus declared (l.borne - c.args.longest) l.limiting a)
