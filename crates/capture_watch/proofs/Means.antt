-- What is kept of a capture is what its records say, below 2^64 bp and 2^64 records. Assumes nothing.
use Prim.Native.Nat.{ℕ, ◌+◌, ◌-◌, ◌*◌, ◌^◌, ◌≤◌, ◌<◌}
use mathlib.Core.Path.{◌≡◌, refl, sym, ap, ◌∙◌}
use mathlib.Core.Bool.{Bool, true, false, cond, ◌&&◌, and-true}
use mathlib.Core.List.{List, [], ◌∷◌}
use native.Mathlib.Decide.{ℕ_discrete}
use native.Mathlib.Omega.{arith}
use borrow.Author.Tests.{eq-eqb, ne_eqb}
use lib.Dec.{leb, ltb, eqb}
use lib.ListN.{length, get_or, set}
use lib.Seq.{get_or-set_same, get_or-set_other}
use Rattle.common.specs.Sums.{when}
use Rattle.common.proofs.Runs.{get_d_tab}
use Rattle.sheet_ranges.proofs.Ranges.{range_within}
use Rattle.capture_log.specs.declared.Event.{Event}
use Rattle.capture_log.specs.Log.{asks, around, fresh}
use Rattle.capture_log.specs.Log as Log
use Rattle.capture_ages.specs.declared.Watch.{Watch}
use Rattle.capture_ages.specs.Ages.{step, clock, far, broken, asked, lead_behind, kept_lead, lead, early, soon, whose, beyond}
use Rattle.capture_ages.specs.Clock.{began, ago, step_of, tick, far_of, lead_of, watch_with}
use Rattle.capture_watch.specs.Follow.{most, request, spot, Seen, seen, seen_with, followed, overdue_at, overdue_run}
use Rattle.capture_watch.specs.Placed.{Placed}
use Rattle.capture_watch.specs.Placed.Placed.{none, and}
use Rattle.capture_watch.proofs.Following.{asked_long, lead_long}

-- ---- Bounds

begun : (e : Event) (es : List Event) → 1 ≤ clock (e ∷ es)
unfolding clock step
begun e [] = omega arith
begun e (f ∷ es) = omega (arith, begun f es)

pub grows : (e : Event) (es : List Event) → clock es ≤ clock (e ∷ es)
unfolding clock
grows e es = omega arith

-- a step is below 2^32 bp, so the clock of up to 2^32 records is below 2^64
step_below : (e : Event) (es : List Event) → step e es < 2 ^ 32
unfolding step around
step_below e [] = omega arith
step_below e (f ∷ es) = omega arith

clock_most : (es : List Event) → clock es ≤ (2 ^ 32 - 1) * length es
unfolding clock
clock_most [] = omega arith
clock_most (e ∷ es) = omega (arith, clock_most es, step_below e es)

pub clock_below : (es : List Event) → length es ≤ 2 ^ 32 → clock es < 2 ^ 64
clock_below es few = omega (arith, clock_most es)

pub asked_past : (es : List Event) (i : ℕ) → asked es i ≤ clock es
unfolding asked clock
asked_past [] i = omega arith
asked_past (e ∷ es) i = split (asks e i) (asked_past es i)
  where
    split : (b : Bool) → asked es i ≤ clock es → cond b (clock (e ∷ es)) (asked es i) ≤ clock (e ∷ es)
    split true h = omega arith
    split false h = omega arith

soon_few : (T J : ℕ → ℕ) (es : List Event) → soon T J es ≤ length es
unfolding soon
soon_few T J [] = omega arith
soon_few T J (e ∷ es) = split (early T J e es) (soon_few T J es)
  where
    split : (b : Bool) → soon T J es ≤ length es → soon T J es + when b 1 ≤ length (e ∷ es)
    split true h = omega arith
    split false h = omega arith

pub ago_is : (later earlier : ℕ) → earlier ≤ later → later < 2 ^ 64 → ago later earlier ≡ later - earlier
unfolding ago
ago_is later earlier h l = omega arith

-- ---- What is kept

-- what a run has of stream i
abbrev pub of_stream : List ℕ → ℕ → ℕ
of_stream run i = get_or run (i - 1) 0

abbrev latest : List Event → ℕ
latest [] = 0
latest (e ∷ es) = e.stamp

pub record Keeps (T J : List ℕ) (es : List Event) (s : Seen) : Type 0 where
  pub clock_is : s.watch.clock ≡ clock es
  pub stamp_is : s.watch.stamp ≡ latest es
  pub broken_is : s.watch.broken ≡ broken es
  pub soon_is : s.watch.soon ≡ soon (of_stream T) (of_stream J) es
  pub whose_is : s.watch.whose ≡ whose (of_stream T) (of_stream J) es
  pub long : length s.asked ≡ most
  pub leads : length s.lead ≡ most
  pub asked_is : (i : ℕ) → 1 ≤ i → i ≤ most → of_stream s.asked i ≡ asked es i
  pub lead_is : (i : ℕ) → 1 ≤ i → i ≤ most → of_stream s.lead i ≡ lead (of_stream T) (of_stream J) es i

step_is : (w : Watch) (e : Event) (es : List Event) → w.clock ≡ clock es → w.stamp ≡ latest es → step_of w e.stamp ≡ step e es
unfolding step_of step clock
step_is w e [] c s = rw (eq-eqb w.clock 0 c) refl
step_is w e (f ∷ es) c s = rw (ne_eqb w.clock 0 (λ z. omega (arith, begun f es, c, z)), s) refl

far_is : (w : Watch) (e : Event) (es : List Event) → w.clock ≡ clock es → w.stamp ≡ latest es → far_of w e.stamp ≡ far e es
unfolding far_of far step
far_is w e [] c s = ap (leb (2 ^ 31)) (step_is w e [] c s)
far_is w e (f ∷ es) c s = ap (leb (2 ^ 31)) (step_is w e (f ∷ es) c s)

-- one record more
module _ {T J : List ℕ} {es : List Event} {s : Seen} (k : Keeps T J es s) (e : Event) (from : 1 ≤ e.stream) (to : e.stream ≤ most)
    (short : clock (e ∷ es) < 2 ^ 64) (few : length (e ∷ es) < 2 ^ 64) where
  tick_is : tick s.watch e.stamp ≡ clock (e ∷ es)
  unfolding tick clock
  tick_is = omega (arith, step_is s.watch e es k.clock_is k.stamp_is, k.clock_is)

  -- a stream that has a place asks wherever its kind does
  request_is : request e ≡ eqb e.kind 16
  unfolding request
  request_is = rw (range_within 1 e.stream most record { least = from; most = to }) (and-true (eqb e.kind 16))

  -- the lead of a request of stream i here
  abbrev lead_here : ℕ → ℕ
  lead_here i = lead_behind (of_stream T i) (asked es i) (lead (of_stream T) (of_stream J) es i) (clock (e ∷ es) - asked es i)

  abbrev new : ℕ
  new = lead_of s.watch e (get_or T (spot e) 0) (get_or s.asked (spot e) 0) (get_or s.lead (spot e) 0)

  new_is : new ≡ lead_here e.stream
  unfolding lead_of
  new_is =
      rw (k.asked_is e.stream from to, k.lead_is e.stream from to, tick_is, ago_is (clock (e ∷ es)) (asked es e.stream) (omega (arith, asked_past es e.stream, grows e es)) short) refl

  early_is : request e && ltb (get_or J (spot e) 0) new ≡ early (of_stream T) (of_stream J) e es
  unfolding early
  early_is = rw (request_is, new_is) refl

  -- a run with x written at the request's place: what stood there of every other stream, and of this one what x is
  run_more : (run : List ℕ) (was then : ℕ → ℕ) (x : ℕ) → length run ≡ most → ((i : ℕ) → 1 ≤ i → i ≤ most → of_stream run i ≡ was i) → x ≡ then e.stream
      → (i : ℕ) → 1 ≤ i → i ≤ most → of_stream (cond (request e) (set run (spot e) x) run) i ≡ cond (asks e i) (then i) (was i)
  unfolding asks
  run_more run was then x long is q i lo hi = rw request_is (split (eqb e.kind 16) (ℕ_discrete e.stream i))
    where
      split : (b : Bool) → Dec (e.stream ≡ i) → get_or (cond b (set run (spot e) x) run) (i - 1) 0 ≡ cond (b && eqb e.stream i) (then i) (was i)
      split true (yes p) =
          rw (eq-eqb e.stream i p, ← p) (get_or-set_same run (spot e) x 0 (omega (arith, long)) ∙ q)
      split true (no p) =
          rw (ne_eqb e.stream i p) (get_or-set_other run (spot e) (i - 1) x 0 (λ z. p (omega arith)) ∙ is i lo hi)
      split false d = is i lo hi

  keeps_more : Keeps T J (e ∷ es) (seen_with T J s e)
  unfolding seen_with watch_with broken asked lead soon whose
  keeps_more = record {
    clock_is = tick_is;
    stamp_is = refl;
    broken_is = rw (k.broken_is, far_is s.watch e es k.clock_is k.stamp_is) refl;
    soon_is = rw (early_is, k.soon_is) (omega (arith, few, soon_few (of_stream T) (of_stream J) (e ∷ es)));
    whose_is = rw (early_is, k.whose_is) refl;
    long = asked_long T J s e ∙ k.long;
    leads = lead_long T J s e ∙ k.leads;
    asked_is = run_more s.asked (asked es) (λ i. clock (e ∷ es)) _ k.long k.asked_is tick_is;
    lead_is = run_more s.lead (lead (of_stream T) (of_stream J) es) (λ i. kept_lead (of_stream J i) (lead_here i)) _ k.leads k.lead_is (ap (kept_lead (get_or J (spot e) 0)) new_is);
  }

-- from runs of zeros, before the first record
module _ (T J zeros : List ℕ) (long : length zeros ≡ most) (each : (i : ℕ) → i < most → get_or zeros i 0 ≡ 0) where
  pub kept_means : {es : List Event} → Placed es → clock es < 2 ^ 64 → length es < 2 ^ 64 → Keeps T J es (followed T J (seen began zeros zeros) es)
  unfolding followed clock broken soon whose asked lead
  kept_means none short few = record {
    clock_is = refl;
    stamp_is = refl;
    broken_is = refl;
    soon_is = refl;
    whose_is = refl;
    long = long;
    leads = long;
    asked_is = λ i lo hi. each (i - 1) (omega arith);
    lead_is = λ i lo hi. each (i - 1) (omega arith);
  }
  kept_means (and {e} {es} from to p) short few =
      keeps_more (kept_means p (omega (arith, grows e es)) (omega arith)) e from to short few

-- 1 for a stream with a request open for longer than its bound
pub overdue_means : {T J : List ℕ} {es : List Event} {s : Seen} → Keeps T J es s → clock es < 2 ^ 64 → (bound left : List ℕ)
    → ((i : ℕ) → i < most → get_or left i 0 ≡ Log.left fresh es (i + 1)) → (i : ℕ) → i < most
    → get_or (overdue_run s.watch.clock bound left s.asked) i 0 ≡ when (beyond (get_or bound i 0) es (i + 1)) 1
unfolding overdue_run overdue_at beyond
overdue_means {T} {J} {es} {s} k short bound left is i l =
    let one : i + 1 - 1 ≡ i = omega arith in
    let a : get_or s.asked i 0 ≡ asked es (i + 1) = ap (λ (x : ℕ). get_or s.asked x 0) (sym one) ∙ k.asked_is (i + 1) (omega arith) (omega arith) in
    get_d_tab (overdue_at s.watch.clock bound left s.asked) most i l
    ∙ rw (is i l, a, k.clock_is, ago_is (clock es) (asked es (i + 1)) (asked_past es (i + 1)) short) refl
