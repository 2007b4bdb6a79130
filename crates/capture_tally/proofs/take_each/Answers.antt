use Rattle.std.proofs.Common.{◌≡◌, ◌≤◌, min, sym, refl, ◌∙◌, arith}
use Rattle.capture_log.specs.Records.{judge}
use Rattle.capture_tally.specs.Pieces.{most, before, answer_to}
use Rattle.capture_tally.specs.Steps.{no_of}
use Rattle.capture_tally.proofs.Hearing.{hearing_none, number_is, next_is, next_read, hearing_next, hearing_refused, hearing_all, hearing_kept}
use Rattle.capture_tally.proofs.Answers.{refused_not_all}
use Rattle.capture_tally.proofs.take_each.Goals as goal
use Rattle.capture_tally.proofs.take_each.Goals.{After-event_at-e}

pub loop-at-init : goal.loop-at-init
loop-at-init c =
    let p = c.requires in
    hearing_none _ _ _ _ record {
      left_long = p.left_long;
      since_long = p.since_long;
      answers_long = p.answers_long;
      largest_long = p.largest_long;
      above_long = p.above_long;
      answers_small = λ i. omega (arith, c.type_inv.answers i);
      above_small = λ i. omega (arith, c.type_inv.above i);
    }

pub refusal-no-requires : goal.refusal-no-requires
refusal-no-requires c = (omega arith, c.loop-at.invariant.keeps.left_is.long)

pub returns-then-no-ne0 : goal.returns-then-no-ne0
unfolding answer_to
returns-then-no-ne0 c =
    let h = c.loop-at.invariant in
    let n = number_is h (omega arith) _ c.refusal-no.ensures in
    let x = hearing_refused h (omega arith) (omega arith) (λ z. c.if-no-ne0.true (n ∙ z)) in
    (rw (x, n) refl, λ e. refused_not_all e, λ e. refused_not_all e, λ e. refused_not_all e, λ e. refused_not_all e, λ e. refused_not_all e)

-- no refusal is given
none : (c : After-event_at-e)
    → no_of (judge c.args.piece.now (min c.args.streams most) (before c.args.left.now c.args.since.now) c.loop-at.invariant.j) ≡ 0
none c = sym (number_is c.loop-at.invariant (omega arith) _ c.refusal-no.ensures) ∙ c.if-no-ne0.false

-- the record has a place
placed : (c : After-event_at-e) → (1 ≤ c.event_at-e.result.stream) × (c.event_at-e.result.stream ≤ most)
placed c =
    let x = next_is c.loop-at.invariant (omega arith) (none c) in
    let e = c.event_at-e.ensures ∙ next_read x in
    rw e (x.from, x.to)

pub keep-requires : goal.keep-requires
keep-requires c =
    let l = c.loop-at in
    let p = c.requires in
    let k = l.invariant.keeps in
    record {
      le_stream = placed (goal.at.keep-requires c).After-event_at-e;
      long = record {
        bound_long = p.bound_long;
        left_long = k.left_is.long;
        since_long = k.since_is.long;
        answers_long = k.answers_is.long;
        largest_long = k.largest_is.long;
        above_long = k.above_is.long;
      };
    }

pub loop-at-preserved : goal.loop-at-preserved
loop-at-preserved c =
    let k = c.keep.ensures in
    hearing_next c.loop-at.invariant (omega arith) (none (goal.at.loop-at-preserved c).After-event_at-e) _ c.event_at-e.ensures _ _ _ _ _ k.left_after k.since_after k.answers_after k.largest_after k.above_after

pub returns : goal.returns
unfolding answer_to
returns c =
    let h = c.loop-at.invariant in
    let k = hearing_kept h (omega arith) (omega arith) in
    (rw (hearing_all h (omega arith) (omega arith)) refl, λ e. k.0, λ e. k.1.0, λ e. k.1.1.0, λ e. k.1.1.1.0, λ e. k.1.1.1.1)

-- the step that ends the walk
pub returns-else-no-ne0 : goal.returns-else-no-ne0
unfolding answer_to
returns-else-no-ne0 c =
    let x = next_is c.loop-at.invariant (omega arith) (none (goal.at.returns-else-no-ne0 c).After-event_at-e) in
    let k = c.keep.ensures in
    let h = hearing_next c.loop-at.invariant (omega arith) (none (goal.at.returns-else-no-ne0 c).After-event_at-e) _ c.event_at-e.ensures _ _ _ _ _ k.left_after k.since_after k.answers_after k.largest_after k.above_after in
    let g = hearing_kept h (omega arith) (omega (arith, x.ends)) in
    (rw (hearing_all h (omega arith) (omega (arith, x.ends))) refl, λ e. g.0, λ e. g.1.0, λ e. g.1.1.0, λ e. g.1.1.1.0, λ e. g.1.1.1.1)
