-- Page 02, 'Ask 4': a path is answered with a number and a place exactly if the page's words give them, and with a cost exactly if they give
-- none. Assumes nothing.
use mathlib.Core.Path.{◌≡◌, refl, sym, ap, ◌∙◌, subst}
use mathlib.Core.Bool.{Bool, true, false, not, ◌||◌, or-true}
use mathlib.Core.List.{List}
use mathlib.Core.Logic.{◌↔◌}
use Prim.Native.Nat.{ℕ, zero, suc, ◌+◌, ◌-◌, ◌≤◌, ◌<◌}
use native.Mathlib.Nat.{zero-add, add-zero}
use native.Mathlib.Decide.{ℕ_discrete}
use native.Mathlib.Omega.{arith}
use borrow.Author.Tests.{ltb-true, ltb-false, leb-true, leb-false, eqb-true, eqb-false, not-true, not-false, lt-ltb, le-ltb, le-leb, lt-leb, eq-eqb, ne_eqb}
use lib.Dec.{leb, ltb, eqb}
use Rattle.common.specs.Checks.{Check, Verdict, verdict, unless}
use Rattle.common.specs.Checks.Verdict.{Passed, Refused}
use Rattle.common.specs.Sums.{first_of}
use Rattle.common.proofs.Checks.{Applies, Clear, refused_if, refused_then, passed_if, passed_then}
use Rattle.common.proofs.Checks.Applies.{here, later}
use Rattle.common.proofs.Checks.Clear.{none, and}
use Rattle.common.proofs.Firsts.{First, first_is}
use Rattle.sheet_record.specs.Kinds.{within}
use Rattle.sheet_ranges.proofs.Ranges.{within_range, range_within}
use Rattle.sheet_rules.specs.Sheets.{Sheet}
use Rattle.sheet_rules.specs.Whole.{Outcome}
use Rattle.sheet_rules.specs.Whole.Outcome.{Read, Not}
use Rattle.sheet_rules.proofs.Known.{both_fail}
use Rattle.pnet_rules.specs.Segment.{Segment, segment_of, count}
use Rattle.units.specs.Units.{bp}
use Rattle.units.specs.declared.BitPeriods.{BitPeriods}
use Rattle.pnet_crossing.specs.Cost.{is_too_long, path_checks, crossing_by}
use Rattle.pnet_crossing.proofs.Laws.{Searched, searched_here, searched_end}
use Rattle.pnet_path.specs.Path.{Path, gateways, sheet_at, bound_at, forwarding_at, absent_in, absent_from, absent_at, refused_or, crossed_from, crossed}
use Rattle.pnet_path.specs.Refusals.{Between, Each, FirstBad, Taken, Untaken, Few, Short, Long, Dated, Present, Absent, Sender, total, Sheets, Times, Senders, Given, Accepted}
use Rattle.pnet_path.specs.Refusals.Absent.{not_there, no_streams}
use Rattle.pnet_path.specs.Refusals.Given.{own, not_few, too_long, undated, no_sender, too_late}
use Rattle.std.specs.declared.result.Result.TheVariants.{Ok, Err}
use Rattle.common.specs.Checks.{refusal}
use Rattle.common.proofs.Answered.{same_refusal}
use Rattle.std.specs.declared.result.Result.{Result}
use Rattle.common.specs.declared.Refusal.{Refusal}

-- ---- Tests

-- a test fails where something is good, and holds where it is bad
record Tells (b : Bool) (Good Bad : Type 0) : Type 0 where
  good : b ≡ false → Good
  bad : b ≡ true → Bad
  if_good : Good → b ≡ false
  if_bad : Bad → b ≡ true

between_tells : (lo x hi : ℕ) → Tells (not (within lo x hi)) (Between lo x hi) (Between lo x hi → ⊥)
between_tells lo x hi =
    record {
      good = λ e. then (not-false _ e);
      bad = λ e b. both (not-true _ e) (back b);
      if_good = λ b. ap not (back b);
      if_bad = λ n. by (within lo x hi) refl n;
    }
  where
    then : within lo x hi ≡ true → Between lo x hi
    then e = let r = within_range lo x hi e in record { least = r.least; most = r.most }

    back : Between lo x hi → within lo x hi ≡ true
    back b = range_within lo x hi (record { least = b.least; most = b.most })

    both : within lo x hi ≡ false → within lo x hi ≡ true → ⊥
    both e f = let z : ◌≡◌ {A = ℕ} 0 1 = cc in omega arith

    by : (b : Bool) → within lo x hi ≡ b → (Between lo x hi → ⊥) → not b ≡ true
    by true e n = absurd (n (then e))
    by false e n = refl

above_tells : (x hi : ℕ) → Tells (ltb hi x) (x ≤ hi) (hi < x)
above_tells x hi = record { good = ltb-false hi x; bad = ltb-true hi x; if_good = le-ltb hi x; if_bad = lt-ltb hi x }

-- the first of 1..n at which a test holds that tells at each
module _ {Good Bad : ℕ → Type 0} (f : ℕ → Bool) (n : ℕ) (tells : (j : ℕ) → 1 ≤ j → j ≤ n → Tells (f j) (Good j) (Bad j)) where
  abbrev at : ℕ
  at = first_of f n 1

  first : First f n 1 at
  first = first_is f n 1

  -- all before i are good
  searched : (i : ℕ) → 1 ≤ i → i ≤ n + 1 → ((j : ℕ) → 1 ≤ j → j < i → Good j) → Searched f i
  searched i from to g =
      record { fails = λ j l. (tells (j + 1) (omega arith) (omega arith)).if_good (g (j + 1) (omega arith) (omega arith)) }

  first_tells : Tells (leb at n) (Each Good n) (FirstBad Good Bad n at)
  first_tells = record { good = good; bad = λ e. bad (leb-true at n e); if_good = if_good; if_bad = λ b. le-leb at n b.to }
    where
      good : leb at n ≡ false → Each Good n
      good e j lo hi = (tells j lo hi).good (first.fails j lo (omega (arith, leb-false at n e)))

      bad : at ≤ n → FirstBad Good Bad n at
      bad l =
          record {
            from = first.from;
            to = l;
            before = λ j lo hi. (tells j lo (omega arith)).good (first.fails j lo hi);
            itself = (tells at first.from l).bad (first.holds (omega arith));
          }

      if_good : Each Good n → leb at n ≡ false
      if_good g =
          let e = searched_end f (n + 1) (searched (n + 1) (omega arith) (omega arith) (λ j lo hi. g j lo (omega arith))) (omega arith) n (omega arith) in
          lt-leb at n (omega (arith, e))

  -- no other number is the first
  one_first : {i : ℕ} → FirstBad Good Bad n i → i ≡ at
  one_first {i} b =
      searched_here f i (searched i b.from (omega (arith, b.to)) b.before) b.from n b.to ((tells i b.from b.to).if_bad b.itself)

-- ---- Senders

module _ (S : Segment) (k : ℕ) where
  -- it is out of range, and without streams
  abbrev out : Bool
  out = not (within 1 k S.masters)

  abbrev silent : Bool
  silent = eqb (count S k) 0

  there : Tells out (Between 1 k S.masters) (Between 1 k S.masters → ⊥)
  there = between_tells 1 k S.masters

  absent_tells : Tells (absent_in S k) (Present S k) (Absent S k)
  unfolding absent_in
  absent_tells = record { good = good; bad = λ e. bad out refl e; if_good = if_good; if_bad = if_bad }
    where
      good : (out || silent) ≡ false → Present S k
      good e =
          let b = both_fail out silent e in
          record { there = there.good b.0; streams = omega (arith, eqb-false (count S k) 0 b.1) }

      bad : (b : Bool) → out ≡ b → (b || silent) ≡ true → Absent S k
      bad true e q = not_there (there.bad e)
      bad false e q = no_streams (eqb-true (count S k) 0 q)

      if_good : Present S k → (out || silent) ≡ false
      if_good p = rw (there.if_good p.there) (ne_eqb (count S k) 0 (λ e. omega (arith, p.streams)))

      if_bad : Absent S k → (out || silent) ≡ true
      if_bad (not_there n) = ap (λ (b : Bool). b || silent) (there.if_bad n)
      if_bad (no_streams e) = simp (eq-eqb (count S k) 0 e, or-true)

-- on a segment whose sheet is accepted
sender_tells : (P : Path) (i : ℕ) → Taken P i → Tells (absent_at P i) (Sender Present P i) (Sender Absent P i)
unfolding absent_at
sender_tells P i t =
    record {
      good = λ e. record { sheet = t.sheet; reads = t.reads; is = (tells t.sheet).good (sym (same t) ∙ e) };
      bad = λ e. record { sheet = t.sheet; reads = t.reads; is = (tells t.sheet).bad (sym (same t) ∙ e) };
      if_good = λ s. same (read s) ∙ (tells s.sheet).if_good s.is;
      if_bad = λ s. same (read s) ∙ (tells s.sheet).if_bad s.is;
    }
  where
    k : ℕ
    k = (P.hop i).sender

    tells : (H : Sheet) → Tells (absent_in (segment_of H) k) (Present (segment_of H) k) (Absent (segment_of H) k)
    tells H = absent_tells (segment_of H) k

    read : {What : Segment → ℕ → Type 0} → Sender What P i → Taken P i
    read s = record { sheet = s.sheet; reads = s.reads }

    same : (u : Taken P i) → absent_from (sheet_at P i) k ≡ absent_in (segment_of u.sheet) k
    same u = ap (λ (o : Outcome). absent_from o k) u.reads

-- ---- The sheets

module _ (P : Path) where
  -- n sheets are accepted, and m are still to come
  pub behind : (n m : ℕ) → n + m ≡ P.segments → Each (Taken P) n → crossed P ≡ crossed_from P m (suc n)
  unfolding crossed crossed_from
  behind zero m e t = ap (λ (x : ℕ). crossed_from P x 1) (sym (sym (zero-add m) ∙ e))
  behind (suc n) m e t =
      behind n (suc m) (omega arith) (λ j lo hi. t j lo (omega arith))
      ∙ ap (λ (o : Outcome). refused_or o (crossed_from P m (suc (suc n)))) (t (suc n) (omega arith) (omega arith)).reads

  -- the first that is refused, for itself
  pub refused_own : {i n p : ℕ} → FirstBad (Taken P) (Untaken n p P) P.segments i → crossed P ≡ Err (refusal n p)
  unfolding crossed_from
  refused_own {i = zero} b = absurd (omega (arith, b.from))
  refused_own {i = suc i} b =
      let rest = P.segments - suc i in
      behind i (suc rest) (omega (arith, b.to)) (λ j lo hi. b.before j lo (omega arith))
      ∙ ap (λ (o : Outcome). refused_or o (crossed_from P rest (suc (suc i)))) b.itself

  -- of the first n either all are accepted or one is the first that is not
  pub data Looked (n : ℕ) : Type 0 where
    all : Each (Taken P) n → Looked n
    up_to : {i x p : ℕ} → FirstBad (Taken P) (Untaken x p P) n i → Looked n

  pub looked : (n : ℕ) → Looked n
  looked zero = all (λ j lo hi. absurd (omega arith))
  looked (suc n) = more (looked n) (sheet_at P (suc n)) refl
    where
      more : Looked n → (o : Outcome) → sheet_at P (suc n) ≡ o → Looked (suc n)
      more (up_to b) o e = up_to (record { from = b.from; to = omega (arith, b.to); before = b.before; itself = b.itself })
      more (all t) (Not x p) e = up_to {i = suc n} (record { from = omega arith; to = omega arith; before = λ j lo hi. t j lo (omega arith); itself = e })
      more (all t) (Read H) e = all (λ j lo hi. last j lo hi (ℕ_discrete j (suc n)))
        where
          last : (j : ℕ) → 1 ≤ j → j ≤ suc n → Dec (j ≡ suc n) → Taken P j
          last j lo hi (yes q) = record { sheet = H; reads = ap (sheet_at P) q ∙ e }
          last j lo hi (no q) = t j lo (omega (arith, q))

  -- ---- The list, where all are accepted

  abbrev g : ℕ
  g = gateways P

  abbrev checks : List Check
  checks = path_checks (bound_at P) (forwarding_at P) (absent_at P) g P.deadline

  few : Tells (not (within 1 g 10)) (Few P) (Few P → ⊥)
  few = between_tells 1 g 10

  time : (j : ℕ) → 1 ≤ j → j ≤ g → Tells (is_too_long (forwarding_at P) j) (Short P j) (Long P j)
  unfolding is_too_long
  time j lo hi = above_tells (forwarding_at P j) 1000000

  abbrev first_long : ℕ
  first_long = first_of (is_too_long (forwarding_at P)) g 1

  times : Tells (leb first_long g) (Times P) (FirstBad (Short P) (Long P) g first_long)
  times = first_tells (is_too_long (forwarding_at P)) g time

  dated : Tells (not (within 1 P.deadline 1000000000)) (Dated P) (Dated P → ⊥)
  dated = between_tells 1 P.deadline 1000000000

  in_time : Tells (ltb P.deadline (total P)) (total P ≤ P.deadline) (P.deadline < total P)
  in_time = above_tells (total P) P.deadline

  module _ (t : Sheets P) where
    -- the list decides, and a line that applies is the answer
    answered : crossed P ≡ unless (verdict checks) (bp (total P))
    unfolding crossed_from crossing_by
    answered = behind P.segments 0 (add-zero P.segments) t

    listed : {n p : ℕ} → Applies checks n p → crossed P ≡ Err (refusal n p)
    listed a = answered ∙ ap (λ (v : Verdict). unless v (bp (total P))) (refused_if a)

    abbrev first_absent : ℕ
    first_absent = first_of (absent_at P) (g + 1) 1

    -- there are g + 1 segments
    module _ (f : Few P) where
      number : g + 1 ≡ P.segments
      number = omega (arith, f.least)

      sender : (j : ℕ) → 1 ≤ j → j ≤ g + 1 → Tells (absent_at P j) (Sender Present P j) (Sender Absent P j)
      sender j lo hi = sender_tells P j (t j lo (omega (arith, number)))

      senders : Tells (leb first_absent (g + 1)) (Senders P) (FirstBad (Sender Present P) (Sender Absent P) P.segments first_absent)
      senders =
          subst (λ (n : ℕ). Tells (leb first_absent (g + 1)) (Each (Sender Present P) n) (FirstBad (Sender Present P) (Sender Absent P) n first_absent)) number
          (first_tells (absent_at P) (g + 1) sender)

      absent_first : {i : ℕ} → FirstBad (Sender Present P) (Sender Absent P) P.segments i → i ≡ first_absent
      absent_first {i} b =
          one_first (absent_at P) (g + 1) sender (subst (λ (n : ℕ). FirstBad (Sender Present P) (Sender Absent P) n i) (sym number) b)

    -- the first line that applies, or none
    line : {n p : ℕ} → Applies checks n p → Given P n p
    unfolding path_checks
    line (here a) = not_few t (few.bad a)
    line (later a (here b)) = too_long t (few.good a) (times.bad b)
    line (later a (later b (here c))) = undated t (few.good a) (times.good b) (dated.bad c)
    line (later a (later b (later c (here d)))) =
        let f = few.good a in
        no_sender t f (times.good b) (dated.good c) ((senders f).bad d)
    line (later a (later b (later c (later d (here e))))) =
        let f = few.good a in
        too_late t f (times.good b) (dated.good c) ((senders f).good d) (in_time.bad e)
    line (later a (later b (later c (later d (later _ past))))) = elim past [ ]

    no_line : Clear checks → Accepted P (total P)
    unfolding path_checks
    no_line (and a (and b (and c (and d (and e none))))) =
        let f = few.good a in
        record {
          sheets = t;
          few = f;
          times = times.good b;
          dated = dated.good c;
          senders = (senders f).good d;
          cost = refl;
          in_time = in_time.good e;
        }

  -- ---- Exactly if

  given_if : (n p : ℕ) → Given P n p → crossed P ≡ Err (refusal n p)
  unfolding path_checks
  given_if n p (own b) = refused_own b
  given_if n p (not_few t f) = listed t (here (few.if_bad f))
  given_if n p (too_long t f b) =
      let e = one_first (is_too_long (forwarding_at P)) g time b in
      rw e (listed t (later (few.if_good f) (here (times.if_bad (rw e at b)))))
  given_if n p (undated t f b c) = listed t (later (few.if_good f) (later (times.if_good b) (here (dated.if_bad c))))
  given_if n p (no_sender t f b c d) =
      let e = absent_first t f d in
      rw e (listed t (later (few.if_good f) (later (times.if_good b) (later (dated.if_good c) (here ((senders t f).if_bad (rw e at d)))))))
  given_if n p (too_late t f b c d e) =
      listed t
      (later (few.if_good f) (later (times.if_good b) (later (dated.if_good c) (later ((senders t f).if_good d) (here (in_time.if_bad e))))))

  accepted_if : (c : ℕ) → Accepted P c → crossed P ≡ Ok (bp c)
  unfolding path_checks
  accepted_if c a =
      let t = a.sheets in
      let clear : Clear checks =
      and (few.if_good a.few)
      (and (times.if_good a.times)
      (and (dated.if_good a.dated)
      (and ((senders t a.few).if_good a.senders) (and (in_time.if_good (omega (arith, a.cost, a.in_time))) none)))) in
      answered t ∙ (ap (λ (v : Verdict). unless v (bp (total P))) (passed_if clear) ∙ ap (λ (x : ℕ). Ok (bp x)) (sym a.cost))

  -- each answer is one that the words give
  data Told : Result BitPeriods Refusal → Type 0 where
    refused : {n p : ℕ} → Given P n p → Told (Err (refusal n p))
    accepted : {c : ℕ} → Accepted P c → Told (Ok (bp c))

  told : Told (crossed P)
  told = split (looked P.segments)
    where
      by : (t : Sheets P) (v : Verdict) → verdict checks ≡ v → Told (unless v (bp (total P)))
      by t Passed q = accepted (no_line t (passed_then checks q))
      by t (Refused n p) q = refused (line t (refused_then checks n p q))

      split : Looked P.segments → Told (crossed P)
      split (all t) = rw (answered t) (by t (verdict checks) refl)
      split (up_to b) = rw (refused_own b) (refused (own b))

  given_then : (n p : ℕ) → crossed P ≡ Err (refusal n p) → Given P n p
  given_then n p e = by (subst Told e told)
    where
      by : Told (Err (refusal n p)) → Given P n p
      by (refused g) = g

  accepted_then : (c : ℕ) → crossed P ≡ Ok (bp c) → Accepted P c
  accepted_then c e = by (subst Told e told)
    where
      by : Told (Ok (bp c)) → Accepted P c
      by (accepted a) = a

  -- a number with a place exactly if the words give it
  pub refused_exactly : (n p : ℕ) → (crossed P ≡ Err (refusal n p)) ↔ Given P n p
  refused_exactly n p = (given_then n p, given_if n p)

  -- a cost exactly if they give none
  pub accepted_exactly : (c : ℕ) → (crossed P ≡ Ok (bp c)) ↔ Accepted P c
  accepted_exactly c = (accepted_then c, accepted_if c)

  -- so one number and place at most is given
  pub given_once : (n p m q : ℕ) → Given P n p → Given P m q → (n ≡ m) × (p ≡ q)
  given_once n p m q a b =
      same_refusal (sym (given_if n p a) ∙ given_if m q b)
