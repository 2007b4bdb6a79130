-- `sheet_record::is_pnet_stream` meets its contract: 2 and 7 are the streams of P-NET.
use mathlib.Core.Path.{sym}
use Rattle.sheet_record.proofs.Parts.{pnet_streams}
use Rattle.sheet_record.proofs.is_pnet_stream.Goals as goal

pub returns : goal.returns
returns c = sym (pnet_streams c.args.kind)
