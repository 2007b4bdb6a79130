-- `report_beside::hear` takes a piece and follows it, or stores its refusal.
use mathlib.Core.Path.{refl, sym, ◌∙◌}
use native.Mathlib.Omega.{arith}
use Rattle.capture_tally.specs.Pieces.{before}
use Rattle.capture_tally.proofs.Split.{refused_inside}
use Rattle.report_beside.specs.Whole.{tally}
use Rattle.report_beside.proofs.Pieces.{tally_same}
use Rattle.report_beside.proofs.Listening.{answered_long, answered_all, answered_refused, promised}
use Rattle.report_beside.proofs.hear.Goals as goal

pub returns-then-bytes-ge-LAST : goal.returns-then-bytes-ge-LAST
returns-then-bytes-ge-LAST c =
    let a = c.args in
    let k = tally a.left.now a.since.now a.answers.now a.largest.now a.above.now a.asked.now a.lead.now in
    let f = promised a.piece.now a.bound.now a.spacing.now a.jitter.now a.out.now a.heard k _ _ _ _ _ _ _ _ _
    (answered_long a.piece.now a.bound.now a.spacing.now a.jitter.now a.out.now a.heard k c.if-bytes-ge-LAST.true) in
    record { fact = f.0; fact_2 = f.1 }

pub refuse_capture-requires : goal.refuse_capture-requires
refuse_capture-requires c =
    let a = c.args in
    let t = c.take-taken.ensures in
    omega (arith, refused_inside a.piece.now a.heard.streams (before a.left.now a.since.now) _ _ (sym t.0 ∙ c.in-Err.is))

pub returns-in-Err : goal.returns-in-Err
returns-in-Err c =
    let a = c.args in
    let k = tally a.left.now a.since.now a.answers.now a.largest.now a.above.now a.asked.now a.lead.now in
    let t = c.take-taken.ensures in
    let not_taken = sym t.0 ∙ c.in-Err.is in
    let f = promised a.piece.now a.bound.now a.spacing.now a.jitter.now a.out.now a.heard k _ _ _ _ _ _ _ _ _
    (answered_refused a.piece.now a.bound.now a.spacing.now a.jitter.now a.out.now a.heard k c.if-bytes-ge-LAST.false _ _ _ _ _
    not_taken c.refuse_capture.ensures.0 c.refuse_capture.ensures.1
    (tally_same (rw not_taken at t.1) (rw not_taken at t.2) (rw not_taken at t.3) (rw not_taken at t.4) (rw not_taken at t.5) refl refl)) in
    record { fact = f.0; fact_2 = f.1 }

pub returns : goal.returns
returns c =
    let a = c.args in
    let k = tally a.left.now a.since.now a.answers.now a.largest.now a.above.now a.asked.now a.lead.now in
    let t = c.take-taken.ensures in
    let f = c.follow-watch.ensures in
    let all = sym t.0 ∙ c.in_default.is in
    let g = promised a.piece.now a.bound.now a.spacing.now a.jitter.now a.out.now a.heard k _ _ _ _ _ _ _ _ _
    (answered_all a.piece.now a.bound.now a.spacing.now a.jitter.now a.out.now a.heard k c.if-bytes-ge-LAST.false _ _ all f.value
    (tally_same (rw all at t.1) (rw all at t.2) (rw all at t.3) (rw all at t.4) (rw all at t.5) f.asked_after f.lead_after)) in
    record { fact = g.0; fact_2 = g.1 }
