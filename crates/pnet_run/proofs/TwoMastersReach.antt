-- Where every stream of the third sheet asks once (TwoMasters), every master keeps its spacing: so a response of 760 bp is reached. Assumes nothing.
use mathlib.Core.Path.{refl}
use mathlib.Core.List.{◌∷◌, Memᴰ}
use native.Mathlib.Omega.{arith}
use Rattle.units.specs.Units.{bp}
use Rattle.pnet_rules.specs.Segment.{segment_of}
use Rattle.pnet_run.specs.Run.{answer, toward}
use Rattle.pnet_run.specs.Promise.{Reached}
use Rattle.pnet_run.proofs.Slowest.{asked, asked_to, asked_each, asked_spaced}
use Rattle.pnet_run.proofs.TwoMasters.{two, once, stream_2}

pub some_run_takes_760 : Reached (bp 760) two 1
unfolding segment_of
some_run_takes_760 = record {
  now = 760;
  token = toward 2 40;
  queues = once.0;
  came = asked_to 3;
  went = answer (asked 2) 760 ∷ once.1;
  run = once.2;
  spaced = asked_spaced two;
  slow = asked 2;
  arrived = asked_each 3 2 (omega arith) (omega arith);
  own = stream_2;
  exact = Memᴰ.head refl;
}
