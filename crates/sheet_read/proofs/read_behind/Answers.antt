-- `sheet_read::read_behind` meets its contract: the settings by `pass_settings`, and the streams by `read_streams`.
use mathlib.Core.Path.{subst}
use Rattle.std.proofs.lemmas.Result.{err_from_is_err_and}
use Rattle.sheet_read.specs.Steps.{Settles}
use Rattle.sheet_read.proofs.Behind.{refused_keeps}
use Rattle.sheet_read.proofs.read_behind.Goals as goal

pub returns-in_err-settings : goal.returns-in_err-settings
returns-in_err-settings c =
    let a = c.args in
    let e = subst (Settles a.s.now a.head c.pass_settings.new.messages) c.in_err-settings.was c.pass_settings.ensures in
    let k = refused_keeps a.s.now _ _ a.counts.now a.longests.now a.handed.now e in
    let p = err_from_is_err_and c.from_residual.result c.from_residual.ensures.1 in
    rw (p.1, p.2) (record { value = e; counts_after = k.0; longests_after = k.1.0; handed_after = k.1.1 })

pub read_streams-requires-clause-opened : goal.read_streams-requires-clause-opened
read_streams-requires-clause-opened c = subst (Settles c.args.s.now c.args.head c.pass_settings.new.messages) c.in_ok-settings.was c.pass_settings.ensures
