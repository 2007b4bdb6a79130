-- `sheet_read::pass_settings` meets its contract: a ring of kind 9 has no M of its own, so all places are 0 there before the messages are read.
use mathlib.Core.Path.{sym, ◌∙◌}
use borrow.Author.Tests.{eqb-true, eqb-false}
use Rattle.sheet_read.proofs.Begins.{no_message_yet, opened_at_once}
use Rattle.sheet_read.proofs.pass_settings.Goals as goal

pub pass_messages-requires : goal.pass_messages-requires
pass_messages-requires c =
    let b = c.requires in
    let ring = c.if-kind-eq9.true in
    record {
      begun = b;
      kind_value = ring;
      messages_value = no_message_yet b ring;
    }

pub pass_edition-requires : goal.pass_edition-requires
pass_edition-requires c =
    let o = c in
    record {
      begun = o.requires;
      kind_value = (o.if-kind-eq1.true, eqb-true _ 8 (sym c.stands.ensures ∙ c.if-stands.true));
    }

pub returns-else-stands : goal.returns-else-stands
returns-else-stands c =
    let o = c in
    let b = o.requires in
    opened_at_once b o.if-kind-eq9.false (λ e. eqb-false _ 8 (sym c.stands.ensures ∙ c.if-stands.false))

pub returns-else-kind-eq1 : goal.returns-else-kind-eq1
returns-else-kind-eq1 c =
    let b = c.requires in
    opened_at_once b c.if-kind-eq9.false (λ e. absurd (c.if-kind-eq1.false e))
