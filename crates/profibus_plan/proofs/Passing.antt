-- What a pass over the streams meets: stream after stream of the sheet's ring, each master's count, and the masters' longest messages. Assumes nothing.
use mathlib.Core.Path.{◌≡◌, refl, sym, ap, ◌∙◌}
use mathlib.Core.List.{List}
use Prim.Native.Nat.{ℕ, ◌+◌, ◌-◌, ◌≤◌, ◌<◌}
use native.Mathlib.Omega.{arith}
use borrow.Author.Tests.{ne_eqb}
use lib.ListN.{get_or}
use Rattle.common.specs.Runs.{tab}
use Rattle.common.specs.Sums.{upto}
use Rattle.common.proofs.Runs.{tab_same, get_d_tab}
use Rattle.common.proofs.Sums.{upto_same}
use Rattle.sheet_record.specs.declared.Met.{Met}
use Rattle.sheet_record.specs.Kinds.{profibus, worldfip, stream_met}
use Rattle.sheet_rules.specs.Sheets.{bus_in}
use Rattle.sheet_rules.specs.Whole.{reading}
use Rattle.sheet_read.specs.Told.{streams_of_master, counts_told, messages_told}
use Rattle.sheet_rules.specs.Ready.{sheet_in, stream_place, Ready}
use Rattle.sheet_read.proofs.Taken.{ready_known, stream_met_law}
use Rattle.profibus_rules.specs.Ring.{Ring, Stream, stream_of, stream_at, ring_of, On, count, messages, Declared}
use Rattle.profibus_rules.proofs.Declared.{declared, count_is}

-- ---- Stream after stream

-- a record that was met is stream i of the ring, counted from 1, and behind it stands the next
pub record Stepped (s : List ℕ) (R : Ring) (i : ℕ) (m : Met) : Type 0 where
  pub on : On R i
  pub master : m.found.a ≡ (R.stream i).master
  pub cycle : m.found.b ≡ (R.stream i).cycle
  pub deadline : m.found.c ≡ (R.stream i).deadline
  pub small : m.found.a < 33
  pub next : m.next ≡ stream_place s i

module _ (s : List ℕ) (first n : ℕ) (ready : Ready s profibus first n) where
  pub ready_declared : Declared (ring_of (sheet_in s))
  ready_declared = declared s (sheet_in s) (ready_known ready) ready.on_bus

  pub ready_number : (ring_of (sheet_in s)).number ≡ n
  unfolding ring_of
  ready_number = ready.number

  pub stepped : (i at : ℕ) (m : Met) → i < n → at ≡ stream_place s i → m ≡ stream_met s at profibus → Stepped s (ring_of (sheet_in s)) (i + 1) m
  unfolding ring_of stream_at
  stepped i at m l e q =
      let here = stream_met_law ready i at m l e q in
      let p : i + 1 - 1 ≡ i = omega arith in
      let on : On (ring_of (sheet_in s)) (i + 1) = (omega arith, omega (arith, ready_number)) in
      let e' : stream_of m.found ≡ (ring_of (sheet_in s)).stream (i + 1) = rw (p, here.is) in
      let a = ap (λ (x : Stream). x.master) e' in
      record {
        on = on;
        master = a;
        cycle = ap (λ (x : Stream). x.cycle) e';
        deadline = ap (λ (x : Stream). x.deadline) e';
        small = omega (arith, a, ready_declared.master_in (i + 1) on, ready_declared.masters_in);
        next = here.next;
      }

  -- the counts that reading hands over are each master's h
  pub ready_counts : (old : List ℕ) → counts_told (reading s) old ≡ tab (count (ring_of (sheet_in s))) 33
  unfolding counts_told streams_of_master
  ready_counts old =
      let S = sheet_in s in
      let other : bus_in S ≡ worldfip → ⊥ = λ e. omega (arith, ready.on_bus) in
      rw (ready.reads, ne_eqb (bus_in S) worldfip other)
      (tab_same (streams_of_master S) (count (ring_of S)) 33 (λ k l. sym (count_is S k)))

  -- and the messages each master's longest
  pub ready_messages : (old : List ℕ) → messages_told (reading s) old ≡ tab (ring_of (sheet_in s)).longest 33
  unfolding messages_told ring_of
  ready_messages old =
      let other : bus_in (sheet_in s) ≡ worldfip → ⊥ = λ e. omega (arith, ready.on_bus) in
      rw (ready.reads, ne_eqb (bus_in (sheet_in s)) worldfip other) refl

-- ---- The longest messages in a run

module _ (R : Ring) (declared : Declared R) (run : List ℕ) (is : run ≡ tab R.longest 33) where
  message_at : (y : ℕ) → y ≤ R.masters → get_or run y 0 ≡ R.longest y
  message_at y hi = ap (λ (l : List ℕ). get_or l y 0) is ∙ get_d_tab R.longest 33 y (omega (arith, declared.masters_in))

  pub messages_short : (y : ℕ) → 1 ≤ y → y ≤ R.masters → get_or run y 0 ≤ 100000
  messages_short y lo hi = omega (arith, message_at y hi, declared.longest_in y lo hi)

  pub messages_sum : upto (λ y. get_or run y 0) R.masters ≡ messages R
  unfolding messages
  messages_sum = upto_same (λ y. get_or run y 0) R.longest R.masters (λ y lo hi. message_at y hi)
