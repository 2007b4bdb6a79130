-- `pnet_sender::streams_of` meets its contract: what stands at the master's place, and nothing past it.
use native.Mathlib.Omega.{arith}
use borrow.Author.Tests.{le-leb, lt-leb}
use Rattle.pnet_sender.proofs.streams_of.Goals as goal

pub returns-then-master-gt32 : goal.returns-then-master-gt32
returns-then-master-gt32 c = rw (lt-leb c.args.master 32 (omega arith))

pub returns : goal.returns
returns c = rw (le-leb c.args.master 32 (omega arith))
