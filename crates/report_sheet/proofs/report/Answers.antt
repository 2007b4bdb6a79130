-- `report_sheet::report` writes the whole report of any bytes, or nothing where a report might not fit.
use mathlib.Core.Path.{ap}
use native.Mathlib.Omega.{arith}
use borrow.Author.Tests.{lt-ltb, le-ltb}
use Rattle.std.specs.declared.option.Option.TheVariants.{Some}
use Rattle.report_sheet.specs.Whole.{most_text, answer_of, run_of}
use Rattle.report_sheet.proofs.Longest.{no_report_longer}
use Rattle.report_sheet.proofs.Stored.{reports_front}
use Rattle.report_sheet.proofs.report.Goals as goal

pub returns-then-out-lt-MOST_TEXT : goal.returns-then-out-lt-MOST_TEXT
unfolding answer_of run_of
returns-then-out-lt-MOST_TEXT c =
    record {
      value = simp (lt-ltb _ most_text c.if-out-lt-MOST_TEXT.true);
      out_after = simp (lt-ltb _ most_text c.if-out-lt-MOST_TEXT.true);
    }

pub returns : goal.returns
unfolding answer_of run_of
returns c =
    let s = c.args.s.now in
    let room = c.if-out-lt-MOST_TEXT.false in
    let w = reports_front c.put_report.ensures (omega (arith, no_report_longer s, room)) in
    record { value = simp (le-ltb _ most_text room) (ap Some w.0); out_after = simp (le-ltb _ most_text room) w.1 }
