-- Page 02, Ask 8: 'Users with one slow drive dislike that M counts once per master'. Where each master has its own longest message and none a longer one than before,
-- TTR never falls. Assumes nothing.
use mathlib.Core.Path.{◌≡◌, ap}
use mathlib.Core.List.{List}
use Prim.Native.Nat.{ℕ, ◌+◌, ◌*◌, ◌≤◌}
use native.Mathlib.Nat.{mul-le-mul_left}
use native.Mathlib.Omega.{arith}
use lib.ListN.{length}
use Rattle.common.proofs.Sums.{upto_mono}
use Rattle.sheet_record.specs.declared.Record.{Record}
use Rattle.sheet_rules.specs.Sheets.{Sheet, masters_of, message_of}
use Rattle.profibus_rules.specs.Ring.{Ring, stream_at, ring_of, count, messages, rotation, needed, Declared, Shortened}
use Rattle.profibus_rules.specs.Target.{AllPass, Limited, target, first_failing}
use Rattle.profibus_rules.proofs.Rule.{all_pass_below}
use Rattle.profibus_rules.proofs.Answer.{largest, all_bear, target_limited, limited_is}
use Rattle.profibus_rules.proofs.Same.{alike_count, alike_least}

module _ {R R' : Ring} (shorter : Shortened R R') where
  pub shorter_messages : messages R' ≤ messages R
  unfolding messages
  shorter_messages = rw shorter.masters (upto_mono R'.longest R.longest R.masters shorter.longest)

  -- no stream needs more
  pub shorter_needs : (ttr i : ℕ) → needed R' ttr i ≤ needed R ttr i
  unfolding needed rotation
  shorter_needs ttr i =
      let h = count R (R.stream i).master in
      let l : ttr + messages R' ≤ ttr + messages R = omega (arith, shorter_messages) in
      let m : h * (ttr + messages R') ≤ h * (ttr + messages R) = mul-le-mul_left h l in
      rw (shorter.stream i, alike_count R R' shorter.number shorter.stream (R.stream i).master) (omega (arith, m))

  -- where all passed, all pass
  pub shorter_passes : (ttr : ℕ) → AllPass R ttr → AllPass R' ttr
  shorter_passes ttr p =
      record {
        each =
            λ i on.
            let same : (R'.stream i).deadline ≡ (R.stream i).deadline = rw (shorter.stream i) in
            omega (arith, same, shorter_needs ttr i, p.each i (on.0, rw shorter.number at on.1));
      }

  pub shorter_target : target R ≤ target R'
  unfolding target
  shorter_target = omega (arith, shorter_messages, alike_least R R' shorter.number shorter.stream)

  -- ---- In the page's words

  -- a ring that is accepted stays so
  pub shorter_accepted : (ttr i : ℕ) → Declared R' → Limited R ttr i → Limited R' (target R') (first_failing R' (target R' + 1))
  shorter_accepted ttr i d a =
      target_limited R' d (all_pass_below R' R'.latency ttr (omega (arith, shorter.latency, a.at_least)) (shorter_passes ttr a.passes))

  -- and its TTR is no lower
  pub never_lower : (ttr i ttr' i' : ℕ) → Limited R ttr i → Limited R' ttr' i' → ttr ≤ ttr'
  never_lower ttr i ttr' i' a b = omega (arith, largest R' ttr' i' b ttr (shorter_passes ttr a.passes))

  -- it is higher by just what the messages together are shorter
  pub rises_by : (ttr i ttr' i' : ℕ) → Declared R → Declared R' → Limited R ttr i → Limited R' ttr' i' → ttr' + messages R' ≡ ttr + messages R
  unfolding target rotation
  rises_by ttr i ttr' i' d d' a b =
      omega (arith, (limited_is R d ttr i a).0, (limited_is R' d' ttr' i' b).0, alike_least R R' shorter.number shorter.stream, all_bear R d ttr a.passes, all_bear R' d' ttr' b.passes)

-- ---- From two sheets

-- the same n, L and streams, and no master a longer message
pub shortened_ring : (S S' : Sheet) → masters_of S' ≡ masters_of S → S'.head.b ≡ S.head.b
    → ((y : ℕ) → 1 ≤ y → y ≤ masters_of S → message_of S' y ≤ message_of S y) → S'.streams ≡ S.streams → Shortened (ring_of S) (ring_of S')
unfolding ring_of
shortened_ring S S' masters latency messages streams =
    record {
      masters = masters;
      latency = latency;
      longest = messages;
      number = ap length streams;
      stream = λ i. ap (λ (rs : List Record). stream_at rs i) streams;
    }
