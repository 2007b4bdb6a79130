-- Page 02, 'Ask 11': a report speaks of first-come queues exactly where these refuse with 8 the sheet that is accepted here, and it names the stream that they name. Assumes nothing.
use mathlib.Core.Path.{◌≡◌, refl}
use mathlib.Core.List.{List, []}
use Prim.Native.Nat.{ℕ, ◌-◌, ◌≤◌, ◌<◌}
use borrow.Author.Tests.{le-leb, lt-leb}
use lib.ListN.{length}
use Rattle.units.specs.Units.{bp}
use Rattle.sheet_rules.specs.Sheets.{Sheet}
use Rattle.sheet_rules.specs.Whole.Outcome.{Read, Not}
use Rattle.pnet_rules.specs.Segment.{Segment, segment_of}
use Rattle.pnet_plan.specs.Planned.{first_late, at_place}
use Rattle.pnet_bounds.specs.Bounded.{bounded, bound_of}
use Rattle.pnet_bounds.proofs.Bounded.{bounded_late, bounded_read}
use Rattle.pnet_urgent_rules.specs.Urgent.{figure}
use Rattle.pnet_urgent_rules.specs.Planned.{urgently}
use Rattle.pnet_urgent_rules.proofs.Cases.{urgently_passes, urgently_on_bus, urgently_fits}
use Rattle.pnet_urgent_streams.specs.Listed.{deadline_of}
use Rattle.report_urgent_lines.specs.Lines.{late_line, late_text}

module _ (s : List ℕ) (H : Sheet) (e : urgently s 800 ≡ Read H) where
  abbrev S : Segment
  S = segment_of H

  -- the last line of the report
  abbrev last_line : List ℕ
  last_line = late_text (at_place (figure S)) (at_place (deadline_of S)) (first_late S) (bp (bound_of S (first_late S))) (length H.streams)

  pub spoken_of : first_late S ≤ length H.streams
      → (bounded s 800 ≡ Not 8 (first_late S))
      × (last_line ≡ late_line (first_late S) (bp (bound_of S (first_late S))) (bp (at_place (figure S) (first_late S - 1))) (bp (at_place (deadline_of S) (first_late S - 1))))
  unfolding late_text
  spoken_of l = (
    bounded_late s 800 H (urgently_passes s 800 H e).0 (urgently_on_bus s 800 H e) (urgently_fits s 800 H e) (first_late S) refl l,
    rw (le-leb (first_late S) (length H.streams) l) refl,
  )

  pub not_spoken_of : length H.streams < first_late S → (bounded s 800 ≡ Read H) × (last_line ≡ [])
  unfolding late_text
  not_spoken_of l = (
    bounded_read s 800 H (urgently_passes s 800 H e).0 (urgently_on_bus s 800 H e) (urgently_fits s 800 H e) l,
    rw (lt-leb (first_late S) (length H.streams) l) refl,
  )
