use Rattle.std.specs.Prelude.{ℕ, get_or, not, eqb, Err}
use mathlib.Core.Path.{◌≡◌, refl, sym, ap, ◌∙◌}
use Rattle.std.proofs.lemmas.Result.{err_from_is_err_and}
use Rattle.common.proofs.Answered.{unless_no_ok, unless_no_err}
use Rattle.sheet_record.specs.Kinds.{known}
use Rattle.sheet_judge.specs.Own.{own_no}
use Prim.Native.Nat.{suc}
use native.Mathlib.Omega.{arith}
use Rattle.sheet_record.specs.Kinds.{bus_of}
use Rattle.sheet_read.proofs.Behind.{opened, fewer_streams, Meets, master_here, not_late, reads_more, next_later}
use Rattle.sheet_read.proofs.Behind.{refused_own, refused_lacking, refused_late, refused_keeps, ends_lacking, ends_empty, ends_accepted, ends_counted, ends_longest, ends_messages, ends_uncounted}
use Rattle.sheet_read.proofs.read_streams.Goals as goal
use Rattle.sheet_read.proofs.read_streams.Goals.{After-judge-in-loop-at}
use Rattle.sheet_read.proofs.Behind.{refused_placed}

pub loop-at-init : goal.loop-at-init
loop-at-init c =
    let o = c in
    let b = opened o.args.s.now o.args.head o.args.first o.args.messages.now o.args.lacks o.requires.opened in
    record { i = o.requires.opened.c; reads = record { is_bus = o.requires.is_bus; behind = b } }

-- the refusal of what is met, by itself
abbrev own : After-judge-in-loop-at → ℕ
own c = own_no (known (get_or c.args.s.now c.loop-at.at 0)) c.is_stream-right.result (not (eqb c.stream_at-met.result.next c.loop-at.at)) c.stream_ranged-ranged.result

-- what is met behind the streams so far
meets : (c : After-judge-in-loop-at)
    → Meets c.args.s.now c.args.head c.args.first c.args.messages.now c.args.lacks
    c.loop-at.counts c.loop-at.longests c.loop-at.ids c.loop-at.invariant.i c.loop-at.n c.loop-at.at c.args.bus
    c.stream_at-met.result c.is_stream-right.result c.stream_ranged-ranged.result (own c)
meets c =
    record {
      reads = c.loop-at.invariant.reads;
      inside = c.loop-at-test.true;
      is_right = c.is_stream-right.ensures;
      is_met = c.stream_at-met.ensures;
      is_ranged = c.stream_ranged-ranged.ensures;
      is_own = refl;
    }

-- the kind is unknown or may not stand here
pub returns-in_err-judge : goal.returns-in_err-judge
returns-in_err-judge c =
    let a = c.args in
    let l = c.loop-at in
    let f = unless_no_err _ _ (sym c.judge.ensures ∙ c.in_err-judge.was) in
    let e = ap Err f.1 ∙ refused_placed l.invariant.reads c.loop-at-test.true c.is_stream-right.ensures f.0 in
    let k = refused_keeps a.s.now _ _ a.counted.now a.longest.now a.handed.now e in
    let p = err_from_is_err_and c.from_residual.result c.from_residual.ensures.1 in
    rw (p.1, p.2) (record { value = e; counted_after = k.0; longest_after = k.1.0; handed_after = k.1.1 })

pub returns-in_err-judge-2 : goal.returns-in_err-judge-2
returns-in_err-judge-2 c =
    let a = c.args in
    let f = unless_no_err _ _ (sym c.judge-in-loop-at.ensures ∙ c.in_err-judge-2.was) in
    let e = ap Err f.1 ∙ refused_own (meets (goal.at.returns-in_err-judge-2 c).After-judge-in-loop-at) f.0 in
    let k = refused_keeps a.s.now _ _ a.counted.now a.longest.now a.handed.now e in
    let p = err_from_is_err_and c.from_residual-in_err-judge-2.result c.from_residual-in_err-judge-2.ensures.1 in
    rw (p.1, p.2) (record { value = e; counted_after = k.0; longest_after = k.1.0; handed_after = k.1.1 })

pub returns-then-lacks : goal.returns-then-lacks
returns-then-lacks c =
    let a = c.args in
    let e = refused_lacking (meets (goal.at.returns-then-lacks c).After-judge-in-loop-at) (unless_no_ok _ _ (sym c.judge-in-loop-at.ensures ∙ c.in_ok-judge-2.was)) c.if-lacks.true in
    let k = refused_keeps a.s.now _ _ a.counted.now a.longest.now a.handed.now e in
    record { value = e; counted_after = k.0; longest_after = k.1.0; handed_after = k.1.1 }

pub judge-requires-in-loop-at-2 : goal.judge-requires-in-loop-at-2
judge-requires-in-loop-at-2 c = master_here (meets (goal.at.judge-requires-in-loop-at-2 c).After-judge-in-loop-at) (unless_no_ok _ _ (sym c.judge-in-loop-at.ensures ∙ c.in_ok-judge-2.was))

pub returns-in_err-judge-3 : goal.returns-in_err-judge-3
returns-in_err-judge-3 c =
    let a = c.args in
    let f = unless_no_err _ _ (sym c.judge-in-loop-at-2.ensures ∙ c.in_err-judge-3.was) in
    let e = ap Err f.1 ∙ refused_late (meets (goal.at.returns-in_err-judge-3 c).After-judge-in-loop-at) (unless_no_ok _ _ (sym c.judge-in-loop-at.ensures ∙ c.in_ok-judge-2.was)) c.if-lacks.false _ refl f.0 in
    let k = refused_keeps a.s.now _ _ a.counted.now a.longest.now a.handed.now e in
    let p = err_from_is_err_and c.from_residual-in_err-judge-3.result c.from_residual-in_err-judge-3.ensures.1 in
    rw (p.1, p.2) (record { value = e; counted_after = k.0; longest_after = k.1.0; handed_after = k.1.1 })

pub keep-requires : goal.keep-requires
keep-requires c =
    let m = meets (goal.at.keep-requires c).After-judge-in-loop-at in
    record {
      r_value = not_late m (unless_no_ok _ _ (sym c.judge-in-loop-at.ensures ∙ c.in_ok-judge-2.was)) c.if-lacks.false _ refl (unless_no_ok _ _ (sym c.judge-in-loop-at-2.ensures ∙ c.in_ok-judge-3.was));
      a_bound = master_here m (unless_no_ok _ _ (sym c.judge-in-loop-at.ensures ∙ c.in_ok-judge-2.was));
    }

pub overflow_add-n : goal.overflow_add-n
overflow_add-n c = omega (arith, fewer_streams c.loop-at.invariant.reads.behind, (meets (goal.at.overflow_add-n c).After-judge-in-loop-at).inside)

pub loop-at-smaller : goal.loop-at-smaller
loop-at-smaller c =
    let m = meets (goal.at.loop-at-smaller c).After-judge-in-loop-at in
    omega (arith, next_later m (unless_no_ok _ _ (sym c.judge-in-loop-at.ensures ∙ c.in_ok-judge-2.was)), m.inside)

pub loop-at-preserved : goal.loop-at-preserved
loop-at-preserved c =
    let k = c.keep in
    record {
      i = suc c.loop-at.invariant.i;
      reads =
          reads_more (meets (goal.at.loop-at-preserved c).After-judge-in-loop-at) (unless_no_ok _ _ (sym c.judge-in-loop-at.ensures ∙ c.in_ok-judge-2.was)) c.if-lacks.false _ refl
          k.new.counts k.new.longests k.new.ids (unless_no_ok _ _ (sym c.judge-in-loop-at-2.ensures ∙ c.in_ok-judge-3.was)) k.ensures.counts_after k.ensures.longests_after k.ensures.ids_after;
    }

pub returns-then-lacks-2 : goal.returns-then-lacks-2
returns-then-lacks-2 c =
    let a = c.args in
    let e = ends_lacking c.loop-at.invariant.reads.behind c.loop-at-test.false c.if-lacks-2.true in
    let k = refused_keeps a.s.now _ _ a.counted.now a.longest.now a.handed.now e in
    record { value = e; counted_after = k.0; longest_after = k.1.0; handed_after = k.1.1 }

pub returns-then-n-eq0 : goal.returns-then-n-eq0
returns-then-n-eq0 c =
    let o = c in
    let a = c.args in
    let e = ends_empty o.loop-at.invariant.reads.behind o.loop-at-test.false c.if-lacks-2.false c.if-n-eq0.true in
    let k = refused_keeps a.s.now _ _ a.counted.now a.longest.now a.handed.now e in
    record { value = e; counted_after = k.0; longest_after = k.1.0; handed_after = k.1.1 }

pub returns-then-bus-eq5 : goal.returns-then-bus-eq5
returns-then-bus-eq5 c =
    let o = c in
    let a = c.args in
    let r = o.loop-at.invariant.reads in
    let all = c.if-lacks-2.false in
    let some = c.if-n-eq0.false in
    let five = sym r.is_bus ∙ c.if-bus-eq5.true in
    let k = ends_uncounted r.behind o.loop-at-test.false all some five a.counted.now a.longest.now a.handed.now in
    record { value = ends_accepted r.behind o.loop-at-test.false all some; counted_after = k.0; longest_after = k.1.0; handed_after = k.1.1 }

pub returns : goal.returns
returns c =
    let t = c in
    let o = t in
    let a = o.args in
    let r = o.loop-at.invariant.reads in
    let out = o.loop-at-test.false in
    let all = t.if-lacks-2.false in
    let some = t.if-n-eq0.false in
    let other : bus_of a.head.kind ≡ 5 → ⊥ = λ e. t.if-bus-eq5.false (r.is_bus ∙ e) in record {
      value = ends_accepted r.behind out all some;
      counted_after = ends_counted r.behind out all some other a.counted.now;
      longest_after = ends_longest r.behind out all some other a.longest.now;
      handed_after = ends_messages r.behind out all some other a.handed.now;
    }
