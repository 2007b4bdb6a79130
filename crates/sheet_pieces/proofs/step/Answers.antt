-- `sheet_pieces::step` meets its contract: behind a bad line nothing changes; else the byte is held, and ends the line or not.
use native.Mathlib.Omega.{arith}
use Rattle.sheet_pieces.proofs.Held.{held_most}
use Rattle.sheet_pieces.proofs.Stepped.{step_none, step_more, step_end}
use Rattle.sheet_pieces.proofs.step.Goals as goal

pub returns-then-t : goal.returns-then-t
returns-then-t c =
    let a = c.args in
    let one = step_none a.t a.front.now a.sheet.now a.byte c.if-t.true in
    record { value = one.0; front_after = one.1.0; sheet_after = one.1.1 }

pub returns-then-byte-ne10 : goal.returns-then-byte-ne10
returns-then-byte-ne10 c =
    let a = c.args in
    let held = c.hold-held.ensures in
    let one = step_more a.t a.front.now a.sheet.now a.byte c.if-t.false (held.value, held.front_after) c.if-byte-ne10.true in
    record { value = one.0; front_after = one.1.0; sheet_after = one.1.1 }

pub end_line-requires : goal.end_line-requires
end_line-requires c =
    let a = c.args in
    let held = c.hold-held.ensures in
    omega (arith, held_most a.front.now a.t.held a.byte (held.value, held.front_after), c.hold-held.auto.front)

pub returns : goal.returns
returns c =
    let a = c.args in
    let held = c.hold-held.ensures in
    let ended = c.end_line.ensures in
    let one = step_end a.t a.front.now a.sheet.now a.byte c.if-t.false (held.value, held.front_after) c.if-byte-ne10.false (ended.value, ended.sheet_after) in
    record { value = one.0; front_after = one.1.0; sheet_after = one.1.1 }
