-- `pnet_simulate::clear` meets its contract.
use mathlib.Core.Path.{◌≡◌}
use lib.ListN.{replicate}
use borrow.Author.Rules.{rules}
use Rattle.pnet_simulate.proofs.Zeros.{zeros_filled}
use Rattle.pnet_simulate.proofs.clear.Goals as goal

pub returns : goal.returns
returns c =
    let zeros : c.fill.new.self ≡ replicate c.args.n 0 = search rules in
    zeros_filled c.args.n c.args.answered.now c.fill.new.self zeros
