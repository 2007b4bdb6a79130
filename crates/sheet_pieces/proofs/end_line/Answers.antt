-- `sheet_pieces::end_line` meets its contract: what is held says no record, or one, which is kept.
use mathlib.Core.Path.{◌≡◌}
use native.Mathlib.Omega.{arith}
use Rattle.sheet_pieces.specs.Steps.{next_line}
use Rattle.sheet_pieces.proofs.Stepped.{line_bad, line_good}
use Rattle.sheet_pieces.proofs.end_line.Goals as goal

pub returns-then-r-eq0 : goal.returns-then-r-eq0
returns-then-r-eq0 c =
    let a = c.args in
    let said = c.record_in-r in
    let ended = line_bad a.t a.front.now a.sheet.now said.result said.ensures c.if-r-eq0.true in
    record { value = ended.0; sheet_after = ended.1 }

pub returns : goal.returns
unfolding next_line
returns c =
    let said = c.record_in-r in
    let a = c.args in
    let kept = c.keep.ensures in
    let next : c.saturating_add.result ≡ next_line a.t.line = omega arith in
    let ended = line_good a.t a.front.now a.sheet.now said.result said.ensures c.if-r-eq0.false next (kept.value, kept.sheet_after) in
    record { value = ended.0; sheet_after = ended.1 }
