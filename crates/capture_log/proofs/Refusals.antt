-- Page 02, 'Ask 1': a capture is heard with a number and a place exactly if the page's words give them, and passes exactly if they give
-- none. What is left open of a stream is 1 exactly if a request of it is open. Assumes nothing.
use Rattle.std.proofs.Common.{◌≡◌, ℕ, zero, suc, ◌+◌, ◌*◌, ◌<◌, ◌≤◌, Bool, true, false, cond, not, ◌&&◌, ◌||◌, eqb, ltb, ◌⊎◌, ◌↔◌, List, length, sym, refl, ap, ◌∙◌, inl, inr, arith, ltb-false, ltb-true, le-ltb, lt-ltb, eq-eqb, eqb-true}
use native.Mathlib.Decide.{ℕ_discrete}
use borrow.Author.Tests.{not-true, not-false}
use Rattle.common.specs.Checks.{Verdict}
use Rattle.common.specs.Checks.Verdict.{Passed, Refused}
use Rattle.common.specs.Sums.{up}
use Rattle.common.proofs.Checks.{Applies, Clear, refused_if, refused_then, passed_if, passed_then}
use Rattle.common.proofs.Checks.Applies.{here, later}
use Rattle.common.proofs.Checks.Clear.{none, and}
use Rattle.common.proofs.Firsts.{First, first_is, found_first, found_none}
use Rattle.sheet_record.specs.Kinds.{within}
use Rattle.sheet_ranges.proofs.Ranges.{within_range, range_within}
use Rattle.sheet_record.proofs.Tables.{both_true}
use Rattle.capture_log.specs.declared.Event.{Event}
use Rattle.capture_log.specs.Log.{fresh, asks, answers, left}
use Rattle.capture_log.specs.Records.{size, events_in, known, event_checks, judge, is_refused, records, taken, heard}
use Rattle.capture_log.specs.Refusals.{record_at, KnownKind, Whole, OnSheet, Open, Unasked, AskedTwice, RefusedWith, Taken, Given, AllTaken}
use Rattle.capture_log.specs.Refusals.RefusedWith.{unknown, cut, not_on_sheet, unasked, asked_twice}
use Rattle.capture_log.specs.Refusals.Given.{at_record}

-- ---- Tests

-- a test that shows P and is shown by it fails exactly where P does not hold
fails_if : {b : Bool} {P : Type 0} → (b ≡ true) ↔ P → (P → ⊥) → b ≡ false
fails_if {b = true} t n = absurd (n (t.0 refl))
fails_if {b = false} t n = refl

fails_then : {b : Bool} {P : Type 0} → (b ≡ true) ↔ P → b ≡ false → P → ⊥
fails_then t e p = let f = t.1 p in let z : ◌≡◌ {A = ℕ} 0 1 = cc in omega arith

-- two numbers are two others
both_equal : (a x b y : ℕ) → (eqb a x && eqb b y ≡ true) ↔ ((a ≡ x) × (b ≡ y))
both_equal a x b y = (
  λ e. let t = both_true (eqb a x) (eqb b y) e in (eqb-true a x t.0, eqb-true b y t.1),
  λ e. rw (eq-eqb a x e.0, eq-eqb b y e.1),
)

-- ---- What is open

-- of stream i behind the first j records, as the records say it: a request is open and 1 is left, or none is and 0 is left
pub data Stands (c : List ℕ) (j i : ℕ) : ℕ → Type 0 where
  waits : Open c j i → Stands c j i 1
  rests : (Open c j i → ⊥) → Stands c j i 0

module _ (c : List ℕ) (i : ℕ) where
  -- one record more
  module _ (j : ℕ) where
    -- it asks
    open_request : (record_at c j).kind ≡ 16 → (record_at c j).stream ≡ i → Open c (suc j) i
    open_request k s = record { k = j; before = omega arith; asks = k; own = s; unanswered = λ m lo hi a b. omega arith }

    -- it answers
    closed : (record_at c j).kind ≡ 17 → (record_at c j).stream ≡ i → Open c (suc j) i → ⊥
    closed k s o = by (ℕ_discrete o.k j)
      where
        by : Dec (o.k ≡ j) → ⊥
        by (yes e) = let f : (record_at c o.k).kind ≡ 17 = ap (λ (m : ℕ). (record_at c m).kind) e ∙ k in omega (arith, f, o.asks)
        by (no e) = o.unanswered j (omega (arith, e, o.before)) (omega arith) k s

    -- it does neither
    open_on : ((record_at c j).kind ≡ 17 → (record_at c j).stream ≡ i → ⊥) → Open c j i → Open c (suc j) i
    open_on not-it o =
        record {
          k = o.k;
          before = omega (arith, o.before);
          asks = o.asks;
          own = o.own;
          unanswered = λ m lo hi a b. by m lo hi a b (ℕ_discrete m j);
        }
      where
        by : (m : ℕ) → o.k < m → m < suc j → (record_at c m).kind ≡ 17 → (record_at c m).stream ≡ i → Dec (m ≡ j) → ⊥
        by m lo hi a b (yes e) =
            not-it (ap (λ (x : ℕ). (record_at c x).kind) (sym e) ∙ a) (ap (λ (x : ℕ). (record_at c x).stream) (sym e) ∙ b)
        by m lo hi a b (no e) = o.unanswered m lo (omega (arith, e)) a b

    open_back : ((record_at c j).kind ≡ 16 → (record_at c j).stream ≡ i → ⊥) → Open c (suc j) i → Open c j i
    open_back not-it o = by (ℕ_discrete o.k j)
      where
        by : Dec (o.k ≡ j) → Open c j i
        by (yes e) =
            absurd (not-it (ap (λ (x : ℕ). (record_at c x).kind) (sym e) ∙ o.asks) (ap (λ (x : ℕ). (record_at c x).stream) (sym e) ∙ o.own))
        by (no e) =
            record {
              k = o.k;
              before = omega (arith, e, o.before);
              asks = o.asks;
              own = o.own;
              unanswered = λ m lo hi a b. o.unanswered m lo (omega arith) a b;
            }

    stands_on : (w : ℕ) → ((record_at c j).kind ≡ 16 → (record_at c j).stream ≡ i → ⊥) → ((record_at c j).kind ≡ 17 → (record_at c j).stream ≡ i → ⊥)
        → Stands c j i w → Stands c (suc j) i w
    stands_on w a b (waits o) = waits (open_on b o)
    stands_on w a b (rests n) = rests (λ o. n (open_back a o))

  -- what is left behind the first j records is 1 or 0, as a request is open or none is
  pub left_stands : (j : ℕ) → Stands c j i (left fresh (events_in c j) i)
  unfolding left events_in asks answers
  left_stands zero = rests (λ o. omega (arith, o.before))
  left_stands (suc j) = by (asks (record_at c j) i) (answers (record_at c j) i) refl refl (left_stands j)
    where
      e : Event
      e = record_at c j

      by : {w : ℕ} (a b : Bool) → asks e i ≡ a → answers e i ≡ b → Stands c j i w → Stands c (suc j) i (cond a 1 (cond b 0 w))
      by true b p q s = let t = (both_equal e.kind 16 e.stream i).0 p in waits (open_request j t.0 t.1)
      by false true p q s = let t = (both_equal e.kind 17 e.stream i).0 q in rests (closed j t.0 t.1)
      by {w} false false p q s =
          stands_on j w (λ x y. fails_then (both_equal e.kind 16 e.stream i) p (x, y))
          (λ x y. fails_then (both_equal e.kind 17 e.stream i) q (x, y)) s

  module _ (j : ℕ) where
    pub left_open : (left fresh (events_in c j) i ≡ 1) ↔ Open c j i
    left_open = by (left_stands j)
      where
        by : {w : ℕ} → Stands c j i w → (w ≡ 1) ↔ Open c j i
        by (waits o) = (λ e. o, λ o. refl)
        by (rests n) = (λ e. absurd (omega arith), λ o. absurd (n o))

    pub left_none : (left fresh (events_in c j) i ≡ 0) ↔ (Open c j i → ⊥)
    left_none = by (left_stands j)
      where
        by : {w : ℕ} → Stands c j i w → (w ≡ 0) ↔ (Open c j i → ⊥)
        by (waits o) = (λ e. absurd (omega arith), λ n. absurd (n o))
        by (rests n) = (λ e. n, λ n. refl)

-- ---- A record

module _ (c : List ℕ) (n j : ℕ) where
  abbrev kind : ℕ
  kind = (record_at c j).kind

  abbrev stream : ℕ
  stream = (record_at c j).stream

  -- requests of its stream that are open
  abbrev waiting : ℕ
  waiting = left fresh (events_in c j) stream

  -- each test holds exactly if the words do
  pub known_exactly : (known kind ≡ true) ↔ KnownKind c j
  unfolding known
  known_exactly = (λ e. by (eqb kind 16) refl e, λ k. back k.either)
    where
      by : (b : Bool) → eqb kind 16 ≡ b → (b || eqb kind 17) ≡ true → KnownKind c j
      by true p e = record { either = inl (eqb-true kind 16 p) }
      by false p e = record { either = inr (eqb-true kind 17 e) }

      back : (kind ≡ 16) ⊎ (kind ≡ 17) → (eqb kind 16 || eqb kind 17) ≡ true
      back (inl e) = rw e
      back (inr e) = rw e

  cut_if : (Whole c j → ⊥) → ltb (length c) (size * j + size) ≡ true
  cut_if w =
      let f : (size * j + size ≤ length c → ⊥) = λ h. w (record { ends = h }) in
      lt-ltb (length c) (size * j + size) (omega (arith, f))

  cut_then : ltb (length c) (size * j + size) ≡ true → Whole c j → ⊥
  cut_then e w = omega (arith, ltb-true (length c) (size * j + size) e, w.ends)

  on_exactly : (within 1 stream n ≡ true) ↔ OnSheet c n j
  on_exactly = (
    λ e. let r = within_range 1 stream n e in record { from = r.least; to = r.most },
    λ o. range_within 1 stream n (record { least = o.from; most = o.to }),
  )

  unasked_exactly : (eqb kind 17 && eqb waiting 0 ≡ true) ↔ Unasked c j
  unasked_exactly = (
    λ e. let t = (both_equal kind 17 waiting 0).0 e in record { answer = t.0; none_open = (left_none c stream j).0 t.1 },
    λ u. (both_equal kind 17 waiting 0).1 (u.answer, (left_none c stream j).1 u.none_open),
  )

  twice_exactly : (eqb kind 16 && not (eqb waiting 0) ≡ true) ↔ AskedTwice c j
  twice_exactly = (λ e. to (both_true (eqb kind 16) (not (eqb waiting 0)) e) (left_stands c stream j), λ a. back a)
    where
      to : {w : ℕ} → (eqb kind 16 ≡ true) × (not (eqb w 0) ≡ true) → Stands c j stream w → AskedTwice c j
      to t (waits o) = record { request = eqb-true kind 16 t.0; is_open = o }
      to t (rests n) = let z : ◌≡◌ {A = ℕ} 0 1 = ap (λ (b : Bool). cond b 1 0) t.1 in absurd (omega arith)

      back : AskedTwice c j → eqb kind 16 && not (eqb waiting 0) ≡ true
      back a = rw (eq-eqb kind 16 a.request, (left_open c stream j).1 a.is_open)

  -- refused with a number exactly if that is the verdict
  refused_with : (x p : ℕ) → judge c n fresh j ≡ Refused x p → (p ≡ size * j) × RefusedWith c n j x
  unfolding judge event_checks
  refused_with x p e = line (refused_then _ x p e)
    where
      line : {m q : ℕ} → Applies (event_checks (length c) n waiting (size * j) (record_at c j)) m q → (q ≡ size * j) × RefusedWith c n j m
      line (here a) = (refl, unknown (fails_then known_exactly (not-true _ a)))
      line (later a (here b)) = (refl, cut (known_exactly.0 (not-false _ a)) (cut_then b))
      line (later a (later b (here d))) =
          (refl, not_on_sheet (known_exactly.0 (not-false _ a)) (record { ends = ltb-false _ _ b }) (fails_then on_exactly (not-true _ d)))
      line (later a (later b (later d (here f)))) =
          (refl, unasked (known_exactly.0 (not-false _ a)) (record { ends = ltb-false _ _ b }) (on_exactly.0 (not-false _ d)) (unasked_exactly.0 f))
      line (later a (later b (later d (later f (here g))))) = (
        refl,
        asked_twice (known_exactly.0 (not-false _ a)) (record { ends = ltb-false _ _ b }) (on_exactly.0 (not-false _ d)) (fails_then unasked_exactly f)
            (twice_exactly.0 g),
      )
      line {m = m} {q = q} (later a (later b (later d (later f (later _ x31))))) = elim x31 [ ]

  applies_for : {x : ℕ} → RefusedWith c n j x → Applies (event_checks (length c) n waiting (size * j) (record_at c j)) x (size * j)
  unfolding event_checks
  applies_for (unknown k) = here (ap not (fails_if known_exactly k))
  applies_for (cut k w) = later (ap not (known_exactly.1 k)) (here (cut_if w))
  applies_for (not_on_sheet k w o) = later (ap not (known_exactly.1 k)) (later (le-ltb _ _ w.ends) (here (ap not (fails_if on_exactly o))))
  applies_for (unasked k w o u) =
      later (ap not (known_exactly.1 k)) (later (le-ltb _ _ w.ends) (later (ap not (on_exactly.1 o)) (here (unasked_exactly.1 u))))
  applies_for (asked_twice k w o u t) =
      later (ap not (known_exactly.1 k))
      (later (le-ltb _ _ w.ends) (later (ap not (on_exactly.1 o)) (later (fails_if unasked_exactly u) (here (twice_exactly.1 t)))))

  refused_for : {x : ℕ} → RefusedWith c n j x → judge c n fresh j ≡ Refused x (size * j)
  unfolding judge
  refused_for r = refused_if (applies_for r)

  -- taken exactly if it passes
  pub taken_then : judge c n fresh j ≡ Passed → Taken c n j
  unfolding judge event_checks
  taken_then e = no_line (passed_then _ e)
    where
      no_line : Clear (event_checks (length c) n waiting (size * j) (record_at c j)) → Taken c n j
      no_line (and a (and b (and d (and f (and g none))))) =
          record {
            is_known = known_exactly.0 (not-false _ a);
            is_whole = record { ends = ltb-false _ _ b };
            on_sheet = on_exactly.0 (not-false _ d);
            not_unasked = fails_then unasked_exactly f;
            not_twice = fails_then twice_exactly g;
          }

  pub taken_if : Taken c n j → judge c n fresh j ≡ Passed
  unfolding judge event_checks
  taken_if t =
      passed_if
      (and (ap not (known_exactly.1 t.is_known))
      (and (le-ltb _ _ t.is_whole.ends)
      (and (ap not (on_exactly.1 t.on_sheet)) (and (fails_if unasked_exactly t.not_unasked) (and (fails_if twice_exactly t.not_twice) none)))))

-- ---- The whole capture

passed_when : (v : Verdict) → is_refused v ≡ false → v ≡ Passed
passed_when Passed e = refl
passed_when (Refused x p) e = let z : ◌≡◌ {A = ℕ} 0 1 = ap (λ (b : Bool). cond b 1 0) (sym e) in absurd (omega arith)

module _ (c : List ℕ) (n : ℕ) where
  -- record j starts within the capture exactly if there are more than j
  among : (j : ℕ) → (j < records c) ↔ (size * j < length c)
  unfolding records up
  among j = (λ l. omega arith, λ l. omega arith)

  abbrev refused_at : ℕ → Bool
  refused_at j = is_refused (judge c n fresh j)

  first : First refused_at (records c) 0 (taken c n fresh)
  unfolding taken
  first = first_is refused_at (records c) 0

  -- records before the first that is refused are taken
  taken_before : (j : ℕ) → j < taken c n fresh → Taken c n j
  taken_before j l = taken_then c n j (passed_when _ (first.fails j (omega arith) l))

  -- each number that is given is one that the words give
  given_then : (x p : ℕ) → heard c n fresh ≡ Refused x p → Given c n x p
  unfolding heard
  given_then x p e = by (ltb (taken c n fresh) (records c)) refl e
    where
      by : (b : Bool) → ltb (taken c n fresh) (records c) ≡ b → cond b (judge c n fresh (taken c n fresh)) Passed ≡ Refused x p → Given c n x p
      by true q r =
          let t = refused_with c n (taken c n fresh) x p r in
          let l = (among (taken c n fresh)).0 (ltb-true _ _ q) in
          at_record (record { starts = t.0; inside = omega (arith, t.0, l); before = taken_before }) t.1
      by false q r = let z : ◌≡◌ {A = ℕ} 0 1 = cc in absurd (omega arith)

  given_if : (x p : ℕ) → Given c n x p → heard c n fresh ≡ Refused x p
  unfolding heard taken
  given_if x p (at_record {j} h r) =
      let v : judge c n fresh j ≡ Refused x p = refused_for c n j r ∙ ap (Refused x) (sym h.starts) in
      let l : j < records c = (among j).1 (omega (arith, h.starts, h.inside)) in
      let t : j ≡ taken c n fresh =
      found_first refused_at (records c) j (λ i k. ap is_refused (taken_if c n i (h.before i k))) (ap is_refused v) l in
      rw (← t, lt-ltb j (records c) l) v

  -- a number with a place exactly if the words give it
  pub given_exactly : (x p : ℕ) → (heard c n fresh ≡ Refused x p) ↔ Given c n x p
  given_exactly x p = (given_then x p, given_if x p)

  all_then : heard c n fresh ≡ Passed → AllTaken c n
  unfolding heard
  all_then e = record { each = λ j l. by j l (ltb (taken c n fresh) (records c)) refl e }
    where
      by : (j : ℕ) → size * j < length c → (b : Bool) → ltb (taken c n fresh) (records c) ≡ b
          → cond b (judge c n fresh (taken c n fresh)) Passed ≡ Passed → Taken c n j
      by j l true q r =
          let hit : refused_at (taken c n fresh) ≡ true = first.holds (omega (arith, ltb-true (taken c n fresh) (records c) q)) in
          let z : ◌≡◌ {A = ℕ} 0 1 = ap (λ (b : Bool). cond b 1 0) (sym (ap is_refused r) ∙ hit) in
          absurd (omega arith)
      by j l false q r = taken_before j (omega (arith, ltb-false (taken c n fresh) (records c) q, (among j).1 l))

  all_if : AllTaken c n → heard c n fresh ≡ Passed
  unfolding heard taken
  all_if a =
      let t : records c ≡ taken c n fresh =
      found_none refused_at (records c) (records c) (λ i k. ap is_refused (taken_if c n i (a.each i ((among i).0 k)))) refl in
      rw (← t, le-ltb (records c) (records c) (omega arith)) refl

  -- it passes exactly if no line applies to any record
  pub passed_exactly : (heard c n fresh ≡ Passed) ↔ AllTaken c n
  passed_exactly = (all_then, all_if)

  -- or: if the words give no number
  pub none_given_exactly : (heard c n fresh ≡ Passed) ↔ ((x p : ℕ) → Given c n x p → ⊥)
  none_given_exactly = (
    λ e x p g.
        let f : Passed ≡ Refused x p = sym e ∙ given_if x p g in
        let z : ◌≡◌ {A = ℕ} 0 1 = cc in
        omega arith,
    λ h. by (heard c n fresh) refl h,
  )
    where
      by : (v : Verdict) → heard c n fresh ≡ v → ((x p : ℕ) → Given c n x p → ⊥) → v ≡ Passed
      by Passed e h = refl
      by (Refused x p) e h = absurd (h x p (given_then x p e))

  -- so one number and place at most is given
  pub given_once : (x p y q : ℕ) → Given c n x p → Given c n y q → (x ≡ y) × (p ≡ q)
  given_once x p y q g h =
      let e : Refused x p ≡ Refused y q = sym (given_if x p g) ∙ given_if y q h in
      (cc, cc)
