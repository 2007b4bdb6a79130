-- `sheet_record::jitter_width` meets its contract: kind 7 alone has a fifth field.
use mathlib.Core.Path.{sym}
use Rattle.sheet_record.specs.Kinds.{kinds, line_of, fields_of}
use Rattle.sheet_record.specs.Widths.{width_at}
use Rattle.sheet_record.proofs.Parts.{no_fifth}
use Rattle.sheet_record.proofs.jitter_width.Goals as goal

pub returns-then-kind-eq7 : goal.returns-then-kind-eq7
unfolding width_at fields_of line_of kinds
returns-then-kind-eq7 c = rw c.if-kind-eq7.true

pub returns-else-kind-eq7 : goal.returns-else-kind-eq7
returns-else-kind-eq7 c = sym (no_fifth c.args.kind c.if-kind-eq7.false)
