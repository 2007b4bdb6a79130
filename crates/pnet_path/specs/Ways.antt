-- Page 02, 'Ask 4': what is kept of a path that is handed over segment by segment, and what it answers. Assumes nothing.
use Rattle.std.specs.Prelude.{◌≡◌, ℕ, zero, suc, ◌+◌, ◌-◌, ◌^◌, ◌≤◌, min, List, true, cond, replicate, set, is_some}
use Rattle.pnet_bounds.specs.Bounded.{bounded}
use Rattle.pnet_sender.specs.Sender.{sound, sender_of}
use Rattle.units.specs.Units.{bp}
use Rattle.units.specs.declared.BitPeriods.{BitPeriods}
use Rattle.pnet_crossing.specs.Cost.{crossing_by, kept, no_bound}
use Rattle.pnet_path.specs.Path.{Path}
use Rattle.pnet_path.specs.declared.Way.{Way}
use Rattle.std.specs.declared.result.Result.TheVariants.{Ok, Err}
use Rattle.std.specs.declared.result.Result.{Result}
use Rattle.common.specs.declared.Refusal.{Refusal}
use Rattle.std.specs.declared.option.Option.{Option}
use Rattle.std.specs.declared.option.Option.TheVariants.{Some, None}

-- ---- What is kept

-- no segment yet
abbrev pub started : Way
started = record {
  segments = 0;
  refused = None;
  masters = replicate 12 0;
  bounds = replicate 12 (bp 0);
  times = replicate 11 (bp 0);
}

-- one segment more, as far as 64 bits count
unfoldable pub one_more_of : ℕ → ℕ
one_more_of n = min (n + 1) (2 ^ 64 - 1)

-- segment i's sender and bound go to place i, the forwarding time of the gateway before it to place i - 1: past the last place nothing is kept
unfoldable pub further : Way → ℕ → ℕ → ℕ → Way
unfolding one_more_of
further w F k R = record {
  segments = one_more_of w.segments;
  refused = w.refused;
  masters = set w.masters (w.segments + 1) k;
  bounds = set w.bounds (w.segments + 1) (bp R);
  times = set w.times w.segments (bp F);
}

-- a segment whose sheet is refused: it is the last
unfoldable pub stopped : Way → Refusal → Way
unfolding one_more_of
stopped w r = record {
  segments = one_more_of w.segments;
  refused = Some r;
  masters = w.masters;
  bounds = w.bounds;
  times = w.times;
}

abbrev pub over_by : Way → ℕ → ℕ → Result BitPeriods Refusal → Way
over_by w F k (Ok R) = further w F k R.0
over_by w F k (Err r) = stopped w r

-- the segment of a sheet s is handed over, with its sender k and the forwarding time F of the gateway that leads there; behind a refused
-- sheet nothing is looked at
unfoldable pub over_to : Way → ℕ → List ℕ → ℕ → Way
unfolding bounded further stopped
over_to w F s k = cond (is_some w.refused) w (over_by w F k (sender_of (sound s) k))

-- ---- The answer

-- the refusal of a sheet, or else what the whole path costs
abbrev pub answer_by : Option Refusal → Result BitPeriods Refusal → Result BitPeriods Refusal
answer_by (Some r) cost = Err r
answer_by None cost = cost

unfoldable pub answer_of : Way → ℕ → Result BitPeriods Refusal
unfolding crossing_by no_bound
answer_of w D = answer_by w.refused (crossing_by (kept w.bounds) (kept w.times) (no_bound w.bounds) (w.segments - 1) D)

-- ---- A whole path

-- what is kept behind the first n segments of P
unfoldable pub way_over : Path → ℕ → Way
unfolding over_to
way_over P zero = started
way_over P (suc n) = over_to (way_over P n) (P.hop (suc n)).forwarding (P.hop (suc n)).sheet (P.hop (suc n)).sender

-- P is handed over with its first n segments: they are all, or the sheet of one is refused, and nothing behind it is looked at
pub data HandedOver (P : Path) : ℕ → Type 0 where
  whole : HandedOver P P.segments
  up_to_refused : {n : ℕ} → n ≤ P.segments → is_some (way_over P n).refused ≡ true → HandedOver P n
