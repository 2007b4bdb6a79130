-- What is followed of a capture that passes: its records, all whole and known, of streams that have a place. Assumes nothing.
use Prim.Native.Nat.{ℕ, zero, suc, ◌*◌, ◌/◌, ◌^◌, ◌≤◌, ◌<◌}
use mathlib.Core.Path.{◌≡◌, refl, ap}
use mathlib.Core.List.{List}
use native.Mathlib.Decide.{ℕ_discrete}
use native.Mathlib.Omega.{arith}
use lib.ListN.{length, get_or}
use Rattle.common.specs.Checks.Verdict.{Passed}
use Rattle.common.specs.Sums.{up}
use Rattle.capture_log.specs.Log.{fresh}
use Rattle.capture_log.specs.Records.{size, events_in, records, heard}
use Rattle.capture_log.specs.Refusals.{Taken}
use Rattle.capture_log.proofs.Records.{met_whole}
use Rattle.capture_log.proofs.Refusals.{known_exactly, passed_exactly}
use Rattle.capture_ages.specs.Ages.{clock}
use Rattle.capture_ages.specs.Clock.{began}
use Rattle.capture_watch.specs.Follow.{most, seen, followed, met_in}
use Rattle.capture_watch.specs.Placed.{Placed}
use Rattle.capture_watch.specs.Placed.Placed.{none, and}
use Rattle.capture_watch.proofs.Means.{Keeps, kept_means}

events_many : (c : List ℕ) (j : ℕ) → length (events_in c j) ≡ j
unfolding events_in
events_many c zero = refl
events_many c (suc j) = ap suc (events_many c j)

-- for n streams
module _ (c : List ℕ) (n : ℕ) (passes : heard c n fresh ≡ Passed) where
  each : (j : ℕ) → size * j < length c → Taken c n j
  each = ((passed_exactly c n).0 passes).each

  pub passed_whole : length c ≡ size * (length c / size)
  passed_whole = split (ℕ_discrete (length c) (size * (length c / size)))
    where
      split : Dec (length c ≡ size * (length c / size)) → length c ≡ size * (length c / size)
      split (yes e) = e
      split (no z) = let t = each (length c / size) (omega (arith, z)) in absurd (omega (arith, t.is_whole.ends))

  pub passed_count : records c ≡ length c / size
  unfolding records up
  passed_count = omega (arith, passed_whole)

  -- each is met as it stands
  pub read_as : (j : ℕ) → size * j ≤ length c → met_in c j ≡ events_in c j
  unfolding met_in events_in
  read_as zero h = refl
  read_as (suc j) h =
      let t = each j (omega arith) in
      rw (met_whole c (size * j) (omega arith) ((known_exactly c n j).1 t.is_known), read_as j (omega arith)) refl

  pub passed_records : met_in c (length c / size) ≡ events_in c (length c / size)
  passed_records = read_as (length c / size) (omega arith)

  module _ (few : n ≤ most) where
    placed : (j : ℕ) → size * j ≤ length c → Placed (events_in c j)
    unfolding events_in
    placed zero h = none
    placed (suc j) h =
        let t = each j (omega arith) in
        and t.on_sheet.from (omega (arith, t.on_sheet.to)) (placed j (omega arith))

    pub passed_placed : Placed (events_in c (length c / size))
    passed_placed = placed (length c / size) (omega arith)

    -- what is kept of it is what its records say
    pub passed_means : (T J zeros : List ℕ) → length zeros ≡ most → ((i : ℕ) → i < most → get_or zeros i 0 ≡ 0) → length c < 2 ^ 64
        → clock (events_in c (length c / size)) < 2 ^ 64
        → Keeps T J (events_in c (length c / size)) (followed T J (seen began zeros zeros) (met_in c (length c / size)))
    passed_means T J zeros long zero-each small short =
        rw passed_records (kept_means T J zeros long zero-each passed_placed short (omega (arith, events_many c (length c / size))))
