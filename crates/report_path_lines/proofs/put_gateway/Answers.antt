-- `report_path_lines::put_gateway` stores the line of a gateway.
use mathlib.Core.Path.{◌≡◌}
use mathlib.Core.List.{◌++◌, append_assoc}
use Prim.Native.Nat.{ℕ}
use Rattle.units.specs.declared.BitPeriods.{BitPeriods}
use Rattle.text.specs.Text.{word, counted}
use Rattle.report_phrases.specs.Phrases.{in_bp}
use Rattle.text.proofs.Writing.{wrote_then}
use Rattle.report_path_lines.specs.Lines.{gateway_line}
use Rattle.report_path_lines.proofs.put_gateway.Goals as goal

-- the three pieces that the code stores
pieces : (number : ℕ) (time : BitPeriods)
    → gateway_line number time ≡ counted (word "gateway ") number (word " request ") ++ (in_bp time ++ ((word " reply " ++ in_bp time) ++ word "\n"))
unfolding gateway_line counted
pieces number time = simp append_assoc

pub returns : goal.returns
returns c =
    rw pieces
    (wrote_then c.put_counted-request.ensures
    (wrote_then c.put_bp-reply.ensures c.put_end.ensures))
