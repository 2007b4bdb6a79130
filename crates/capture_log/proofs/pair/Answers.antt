-- `capture_log::pair` meets its contract.
use Rattle.std.proofs.Common.{◌+◌, sym, arith}
use Rattle.capture_log.proofs.Records.{be_pair}
use Rattle.capture_log.proofs.pair.Goals as goal

pub overflow_cast-result : goal.overflow_cast-result
overflow_cast-result c = omega (arith, c.type_inv.c c.args.at)

pub overflow_mul-result : goal.overflow_mul-result
overflow_mul-result c = omega (arith, c.type_inv.c c.args.at)

pub overflow_cast-result-2 : goal.overflow_cast-result-2
overflow_cast-result-2 c = omega (arith, c.type_inv.c (c.args.at + 1))

pub overflow_add-result-2 : goal.overflow_add-result-2
overflow_add-result-2 c = omega (arith, c.type_inv.c c.args.at, c.type_inv.c (c.args.at + 1))

pub returns : goal.returns
returns c = (sym (be_pair _ _), omega (arith, c.type_inv.c c.args.at, c.type_inv.c (c.args.at + 1)))
