-- Whatever the simulator records is what a run of the bus does. Assumes nothing.
use Prim.Native.Nat.{ℕ, zero, suc, ◌+◌, ◌-◌, ◌≤◌, ◌<◌}
use mathlib.Core.Path.{◌≡◌, refl, ap, sym, ◌∙◌, subst, fun_ext}
use mathlib.Core.Bool.{true, false, ◌&&◌, and-true}
use mathlib.Core.Logic.{◌≢◌, ⊎_elim}
use mathlib.Core.List.Memᴰ
use mathlib.Core.List.{List, [], ◌∷◌, map, Memᴰ}
use native.Mathlib.Decide.{ℕ_discrete, dec_le}
use native.Mathlib.Omega.{arith}
use lib.Dec.{eqb}
use lib.ListN.{length, get_or, set, length-set}
use lib.Seq.{get_or-set_same, get_or-set_other}
use borrow.Author.Tests.{eq-eqb}
use Rattle.common.specs.Sums.{first_of}
use Rattle.common.specs.Runs.{filled}
use Rattle.common.proofs.Firsts.{First, first_is}
use Rattle.common.proofs.Runs.{filled_at, length_filled}
use Rattle.pnet_rules.specs.Segment.{Segment, owns}
use Rattle.pnet_run.specs.Run.{Answer, answer, Queues, put, toward, next, Run, travel, skip}
use Rattle.pnet_run.proofs.Keeping.{put_same, put_other}
use Rattle.pnet_run.proofs.Ring.{next_in_ring}
use Rattle.pnet_run.proofs.Picked.{picked, picked_same, picked_none, picked_first}
use Rattle.pnet_run.proofs.Slowest.{asked, asked_to, all_asked, asked_each, asked_at_0, asked_apart, slowest}
use Rattle.pnet_simulate.specs.Simulated.{Bus, waits, oldest_of, visited, visited_times, begun, simulated, sound}
use Rattle.pnet_simulate.specs.Told.{segment_by, Told}
use Rattle.pnet_simulate.proofs.Waits.{waits_elsewhere, waits_no_more, waits_then, waits_other}
use Rattle.pnet_simulate.proofs.Visits.{visited_used, visited_unused}
use Rattle.pnet_simulate.proofs.Sound.{sound_then}

-- the place of stream suc p
place : (p : ℕ) → suc p - 1 ≡ p
place p = omega arith

module _ (n : ℕ) (owner cycle : List ℕ) (some : (p : ℕ) → p < length owner → 1 ≤ get_or cycle p 0) where
  abbrev S : Segment
  S = segment_by n owner cycle

  -- the queues while these requests wait
  abbrev left : List ℕ → Queues
  left answered y = map asked (picked (λ i. waits owner answered y (i - 1)) (length owner))

  record Holds (b : Bus) : Type 0 where
    went : List Answer
    run : Run S b.now (toward b.master 0) (left b.answered) (asked_to (length owner)) went
    long : length owner ≤ length b.answered
    recorded : (i : ℕ) → 1 ≤ i → i ≤ length owner → 1 ≤ get_or b.answered (i - 1) 0 → Memᴰ (answer (asked i) (get_or b.answered (i - 1) 0)) went
    completed : (a : Answer) → Memᴰ a went → (get_or b.answered (a.to.of - 1) 0 ≡ a.at) × (1 ≤ a.at)

  -- ---- The start

  holds_begun : (k : ℕ) (old : List ℕ) → 1 ≤ k → k ≤ n → length owner ≤ length old → Holds (begun n owner k old)
  unfolding begun waits owns
  holds_begun k old a b c = record {
    went = [];
    run = travel {d = 0} 40 (subst (λ (q : Queues). Run S 0 (toward (next n k) 40) q (asked_to (length owner)) []) (fun_ext λ y. ap (map asked) (picked_same _ _ (length owner) (λ i lo hi. all y i lo hi))) (all_asked S ring.0 ring.1 (omega arith)));
    long = omega (arith, length_filled (λ p. 0) (length owner) old c);
    recorded = λ i lo hi l. absurd (omega (arith, zero_at (i - 1) (omega arith)));
    completed = λ w j. absurd (Memᴰ.not-nil j);
  }
    where
      ring : (1 ≤ next n k) × (next n k ≤ n)
      ring = next_in_ring n k (omega arith) b

      zero_at : (p : ℕ) → p < length owner → get_or (filled (λ q. 0) (length owner) old) p 0 ≡ 0
      zero_at p h = filled_at (λ q. 0) (length owner) p old h

      all : (y i : ℕ) → 1 ≤ i → i ≤ length owner → eqb (get_or owner (i - 1) 0) y ≡ (eqb (get_or owner (i - 1) 0) y && eqb (get_or (filled (λ q. 0) (length owner) old) (i - 1) 0) 0)
      all y i lo hi = sym (rw (eq-eqb _ 0 (zero_at (i - 1) (omega arith))) (and-true (eqb (get_or owner (i - 1) 0) y)))

  -- ---- A visit

  module _ (b : Bus) (h : Holds b) where
    abbrev m : ℕ
    m = b.master

    abbrev old : List ℕ
    old = b.answered

    -- nobody waits
    holds_unused : length owner ≤ oldest_of owner old m → Holds (record { now = b.now + 10; master = next n m; answered = old })
    unfolding oldest_of
    holds_unused l = record {
      went = h.went;
      run = skip {d = 0} 10 h.run (ap (map asked) (picked_none _ (length owner) (λ i lo hi. f.fails (i - 1) (omega arith) (omega arith)))) (omega arith) (omega arith);
      long = h.long;
      recorded = h.recorded;
      completed = h.completed;
    }
      where
        f : First (waits owner old m) (length owner) 0 (first_of (waits owner old m) (length owner) 0)
        f = first_is (waits owner old m) (length owner) 0

    -- the request of the stream at place p is the oldest that waits
    module _ (p : ℕ) (l : p < length owner) (mine : waits owner old m p ≡ true) (before : (q : ℕ) → q < p → waits owner old m q ≡ false) where
      abbrev end : ℕ
      end = b.now + 7 + get_or cycle p 0

      abbrev new : List ℕ
      new = set old p end

      is : (get_or owner p 0 ≡ m) × (get_or old p 0 ≡ 0)
      is = waits_then owner old m p mine

      at_p : get_or new p 0 ≡ end
      at_p = get_or-set_same old p end 0 (omega (arith, h.long))

      -- a stream of another place
      apart : (i : ℕ) → 1 ≤ i → i ≢ suc p → i - 1 ≢ p
      apart i lo z e = z (omega arith)

      first : left old m ≡ asked (suc p) ∷ left new m
      first =
          ap (map asked)
          (picked_first _ _ (length owner) (suc p) (omega arith) (omega arith) (rw (place p) mine)
          (rw (place p) (waits_no_more owner new m p is.0 (λ e. omega (arith, at_p))))
          (λ i lo hi. before (i - 1) (omega arith)) (λ i lo z. waits_other owner old m (i - 1) p end (apart i lo z)))

      others : (y : ℕ) → y ≢ m → left old y ≡ left new y
      others y z = ap (map asked) (picked_same _ _ (length owner) (λ i lo hi. at i lo (ℕ_discrete i (suc p))))
        where
          not_its : get_or owner p 0 ≢ y
          not_its e = z (sym e ∙ is.0)

          at : (i : ℕ) → 1 ≤ i → Dec (i ≡ suc p) → waits owner old y (i - 1) ≡ waits owner new y (i - 1)
          at i lo (yes e) = rw (e, place p) (waits_elsewhere owner old y p not_its ∙ sym (waits_elsewhere owner new y p not_its))
          at i lo (no w) = waits_other owner old y (i - 1) p end (apart i lo w)

      queues : put (left old) m (left new m) ≡ left new
      queues = fun_ext λ y. at y (ℕ_discrete y m)
        where
          at : (y : ℕ) → Dec (y ≡ m) → put (left old) m (left new m) y ≡ left new y
          at y (yes e) = rw e (put_same (left old) m (left new m))
          at y (no z) = put_other (left old) m (left new m) y z ∙ others y z

      served : Run S end (toward (next n m) 40) (left new) (asked_to (length owner)) (answer (asked (suc p)) end ∷ h.went)
      served =
          subst (λ (q : Queues). Run S end (toward (next n m) 40) q (asked_to (length owner)) (answer (asked (suc p)) end ∷ h.went)) queues
          (subst (λ (u : ℕ). Run S u (toward (next n m) 40) (put (left old) m (left new m)) (asked_to (length owner)) (answer (asked (suc p)) u ∷ h.went)) time
          (slowest h.run first (rw (place p) (some p l))))
        where
          time : b.now + (7 + get_or cycle (suc p - 1) 0) ≡ end
          time = rw (place p) (omega arith)

      holds_used : Holds (record { now = end + 40; master = next n m; answered = new })
      holds_used = record {
        went = answer (asked (suc p)) end ∷ h.went;
        run = travel {d = 0} 40 served;
        long = rw length-set h.long;
        recorded = λ i lo hi. recorded' i lo hi (ℕ_discrete i (suc p));
        completed = λ a j. ⊎_elim (λ (e : a ≡ answer (asked (suc p)) end). rw e (rw (place p) at_p, omega arith)) (λ (c : Memᴰ a h.went). earlier a c (ℕ_discrete (a.to.of - 1) p)) (Memᴰ.cases_cons j);
      }
        where
          recorded' : (i : ℕ) → 1 ≤ i → i ≤ length owner → Dec (i ≡ suc p) → 1 ≤ get_or new (i - 1) 0
              → Memᴰ (answer (asked i) (get_or new (i - 1) 0)) (answer (asked (suc p)) end ∷ h.went)
          recorded' i lo hi (yes e) x = rw (e, place p, at_p) (Memᴰ.head refl)
          recorded' i lo hi (no z) x =
              let q = get_or-set_other old p (i - 1) end 0 (apart i lo z) in
              rw q (Memᴰ.tail (h.recorded i lo hi (rw q at x)))

          earlier : (a : Answer) → Memᴰ a h.went → Dec (a.to.of - 1 ≡ p) → (get_or new (a.to.of - 1) 0 ≡ a.at) × (1 ≤ a.at)
          earlier a j (yes e) = absurd (omega (arith, h.completed a j, ap (λ (q : ℕ). get_or old q 0) e, is.1))
          earlier a j (no z) = (get_or-set_other old p (a.to.of - 1) end 0 z ∙ (h.completed a j).0, (h.completed a j).1)

    holds_visited : Holds (visited n owner cycle b)
    unfolding oldest_of
    holds_visited = go (dec_le (suc (oldest_of owner old m)) (length owner))
      where
        f : First (waits owner old m) (length owner) 0 (first_of (waits owner old m) (length owner) 0)
        f = first_is (waits owner old m) (length owner) 0

        go : Dec (oldest_of owner old m < length owner) → Holds (visited n owner cycle b)
        go (yes l) = subst Holds (visited_used n owner cycle b (oldest_of owner old m) _ _ refl l refl refl) (holds_used (oldest_of owner old m) l (f.holds (omega arith)) (λ q d. f.fails q (omega arith) d))
        go (no l) = subst Holds (visited_unused n owner cycle b (oldest_of owner old m) _ refl (omega arith) refl) (holds_unused (omega arith))

  -- ---- All visits

  holds_times : (b : Bus) → Holds b → (v : ℕ) → Holds (visited_times n owner cycle b v)
  unfolding visited_times
  holds_times b h zero = h
  holds_times b h (suc v) = holds_visited (visited_times n owner cycle b v) (holds_times b h v)

  told : (b : Bus) → Holds b → Told S b
  told b h = record {
    queues = left b.answered;
    came = asked_to (length owner);
    went = h.went;
    run = h.run;
    each_asks = λ i lo hi. asked_each (length owner) i lo hi;
    at_0 = asked_at_0 (length owner);
    once = λ d i. asked_apart d i (length owner);
    recorded = h.recorded;
    completed = λ a j. (h.completed a j).0;
  }

pub simulated_told : (n : ℕ) (owner cycle : List ℕ) (k visits : ℕ) (old : List ℕ) → sound n owner cycle k (length old) ≡ true
    → Told (segment_by n owner cycle) (simulated n owner cycle k visits old)
unfolding simulated
simulated_told n owner cycle k visits old e =
    let s = sound_then n owner cycle k (length old) e in
    rw e (told n owner cycle s.some _ (holds_times n owner cycle s.some _ (holds_begun n owner cycle s.some k old s.k_from s.k_to s.places) visits))
