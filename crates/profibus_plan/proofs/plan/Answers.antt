-- `profibus_plan::plan` meets its contract: what the reader took is the ring's sheet, and what it refused stays refused.
use mathlib.Core.Path.{◌≡◌, sym, ap, ◌∙◌}
use native.Mathlib.Omega.{arith}
use lib.ListN.{get_or}
use Rattle.std.proofs.lemmas.Result.{err_from_is_err_and}
use Rattle.common.specs.Runs.{tab}
use Rattle.common.specs.Sums.{upto}
use Rattle.sheet_read.proofs.Taken.{Taken, taken, not_taken, taken_ready}
use Rattle.sheet_rules.specs.Ready.{sheet_in, Ready}
use Rattle.sheet_record.specs.declared.Record.{Record}
use Rattle.sheet_record.specs.Kinds.{profibus, bus_of}
use Rattle.profibus_rules.specs.Ring.{ring_of, Declared}
use Rattle.profibus_plan.specs.Planned.{plan_of}
use Rattle.profibus_plan.proofs.Answers.{plan_other_bus}
use Rattle.profibus_plan.proofs.Passing.{ready_declared, ready_counts, ready_messages, messages_short, messages_sum}
use Rattle.profibus_plan.proofs.plan.Goals as goal
use Rattle.profibus_plan.proofs.plan.Goals.{Else-bus_of-ne3}

-- what the reader took is a PROFIBUS sheet
took : (c : Else-bus_of-ne3)
    → Taken c.args.s.now c.in_ok-sheet.sheet.head c.in_ok-sheet.sheet.streams c.in_ok-sheet.sheet.first
took c =
    taken c.args.s.now c.in_ok-sheet.sheet.head c.in_ok-sheet.sheet.streams c.in_ok-sheet.sheet.first
    (sym c.read_ring.ensures.value ∙ c.in_ok-sheet.was)

ready : (c : Else-bus_of-ne3) → Ready c.args.s.now profibus c.in_ok-sheet.sheet.first c.in_ok-sheet.sheet.streams
ready c = taken_ready (took c) (sym c.bus_of.ensures ∙ c.if-bus_of-ne3.false)

-- the ring is declared
within : (c : Else-bus_of-ne3) → Declared (ring_of (sheet_in c.args.s.now))
within c =
    ready_declared c.args.s.now c.in_ok-sheet.sheet.first c.in_ok-sheet.sheet.streams (ready c)

masters : (c : Else-bus_of-ne3) → c.in_ok-sheet.sheet.head.a ≡ (ring_of (sheet_in c.args.s.now)).masters
unfolding ring_of
masters c = ap (λ (r : Record). r.a) (took c).begins

-- and its longest messages were handed over
handed : (c : Else-bus_of-ne3) → c.read_ring.new.messages ≡ tab (ring_of (sheet_in c.args.s.now)).longest 33
handed c =
    c.read_ring.ensures.messages_after
    ∙ ready_messages c.args.s.now c.in_ok-sheet.sheet.first c.in_ok-sheet.sheet.streams (ready c) _

latency : (c : Else-bus_of-ne3) → c.in_ok-sheet.sheet.head.b ≡ (ring_of (sheet_in c.args.s.now)).latency
unfolding ring_of
latency c = ap (λ (r : Record). r.b) (took c).begins

pub returns-then-bus_of-ne3 : goal.returns-then-bus_of-ne3
returns-then-bus_of-ne3 c =
    let t =
    taken c.args.s.now c.in_ok-sheet.sheet.head c.in_ok-sheet.sheet.streams c.in_ok-sheet.sheet.first
    (sym c.read_ring.ensures.value ∙ c.in_ok-sheet.was) in
    let S = sheet_in c.args.s.now in
    sym (ap plan_of t.reads ∙ plan_other_bus S (λ e. c.if-bus_of-ne3.true (c.bus_of.ensures ∙ (ap (λ (r : Record). bus_of r.kind) t.begins ∙ e))))

pub together-longest-requires : goal.together-longest-requires
together-longest-requires c =
    let e = (goal.at.together-longest-requires c).Else-bus_of-ne3 in
    let R = ring_of (sheet_in c.args.s.now) in
    (omega (arith, masters e, (within e).masters_in), λ y lo hi. messages_short R (within e) _ (handed e) y lo (omega (arith, masters e)))

pub largest_target-requires : goal.largest_target-requires
largest_target-requires c =
    let e = (goal.at.largest_target-requires c).Else-bus_of-ne3 in
    let R = ring_of (sheet_in c.args.s.now) in
    let run = c.read_ring.new.messages in
    let h = c.in_ok-sheet.sheet in
    record {
      ready = ready e;
      counts_value = c.read_ring.ensures.counts_after ∙ ready_counts c.args.s.now h.first h.streams (ready e) _;
      latency_value =
          (latency e, c.together-longest.ensures ∙ (ap (upto (λ y. get_or run y 0)) (masters e) ∙ messages_sum R (within e) run (handed e)));
    }

pub returns-in_err-sheet : goal.returns-in_err-sheet
unfolding plan_of
returns-in_err-sheet c =
    let p = err_from_is_err_and c.from_residual.result c.from_residual.ensures.1 in
    let r = c.in_err-sheet.field-0.0 in
    rw (p.1, p.2) (sym (ap plan_of (not_taken c.args.s.now r.no r.place (sym c.read_ring.ensures.value ∙ c.in_err-sheet.was))))

pub returns : goal.returns
returns c = c.largest_target.ensures ∙ ap plan_of (sym (took (goal.at.returns c).Else-bus_of-ne3).reads)
