-- `sheet_record::pnet_stream_at` meets its contract: the streams of P-NET are of two kinds, whose fields stand alike but for J.
use mathlib.Core.Path.{◌≡◌, sym, ◌∙◌}
use mathlib.Core.Bool.{true}
use borrow.Author.Rules.{rules}
use lib.ListN.{get_or}
use Rattle.sheet_record.specs.Kinds.{is_stream_of}
use Rattle.sheet_record.proofs.Parts.{pnet_wide}
use Rattle.sheet_record.proofs.Records.{met_past, stream_none, stream_same, stream_other}
use Rattle.sheet_record.proofs.pnet_stream_at.Goals as goal
use Rattle.sheet_record.proofs.pnet_stream_at.Goals.{Then-is_pnet_stream}

pub returns-then-s-at : goal.returns-then-s-at
returns-then-s-at c =
    let a = c.args in
    c.nothing_at.ensures ∙ stream_none a.s.now a.at 1 (met_past a.s.now a.at c.if-s-at.true)

-- a stream stands there
stands : (c : Then-is_pnet_stream)
    → is_stream_of 1 (get_or c.args.s.now c.args.at 0) ≡ true
stands c = sym c.is_pnet_stream.ensures ∙ c.if-is_pnet_stream.true

pub whole_at-requires : goal.whole_at-requires
whole_at-requires c = record {
  at_in_bounds = search rules;
  wide = pnet_wide _ _ (stands (goal.at.whole_at-requires c).Then-is_pnet_stream) c.jitter_width.ensures;
}

pub returns-then-is_pnet_stream : goal.returns-then-is_pnet_stream
returns-then-is_pnet_stream c =
    let a = c.args in
    c.whole_at.ensures ∙ sym (stream_same a.s.now a.at 1 (stands (goal.at.returns-then-is_pnet_stream c).Then-is_pnet_stream))

pub returns : goal.returns
returns c =
    let a = c.args in
    c.nothing_at-2.ensures ∙ stream_other a.s.now a.at 1 (sym c.is_pnet_stream.ensures ∙ c.if-is_pnet_stream.false)
