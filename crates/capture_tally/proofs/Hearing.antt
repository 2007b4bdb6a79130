-- The records of a piece, taken one by one: what the runs hold behind the first of them. Assumes nothing.
use Rattle.std.proofs.Common.{◌≡◌, ℕ, suc, ◌+◌, ◌*◌, ◌%◌, ◌^◌, ◌<◌, ◌≤◌, min, max, Bool, true, false, cond, ◌||◌, eqb, ltb, ◌≢◌, ◌⊎◌, List, ◌∷◌, length, get_or, set, sym, refl, ap, ◌∙◌, subst, inl, inr, arith, length-set, get_or-set_other, get_or-set_same, le-ltb, lt-ltb, eq-eqb, ne_eqb, eqb-true}
use native.Mathlib.Decide.{ℕ_discrete}
use Rattle.common.specs.Checks.{verdict}
use Rattle.common.specs.Checks.Verdict.{Passed, Refused}
use Rattle.common.specs.Runs.{tab}
use Rattle.common.specs.Sums.{when, up}
use Rattle.common.proofs.Firsts.{found_first, found_none}
use Rattle.common.proofs.Runs.{tab_places}
use Rattle.sheet_ranges.proofs.Ranges.{within_range}
use Rattle.capture_log.specs.declared.Event.{Event}
use Rattle.capture_log.specs.Log as Log
use Rattle.capture_log.specs.Log.{Before, shown}
use Rattle.capture_log.specs.Records.{size, event_at, events_in, known, met_at, event_checks, judge, is_refused, records, events, taken, heard}
use Rattle.capture_log.proofs.Laws as laws
use Rattle.capture_log.proofs.Records.{met_whole}
use Rattle.capture_tally.specs.Pieces.{most, before, left_after, since_after, answers_after, largest_after, above_after}
use Rattle.capture_tally.specs.Steps.{no_of, spot, left_with, since_with, answers_with, shown_by, largest_with, above_with}
use Rattle.capture_tally.proofs.Judged.{Whole, passed_by, refused_by, whole_if}

-- ---- Runs of 800 places

-- place i holds f i
pub record Holds (f : ℕ → ℕ) (run : List ℕ) : Type 0 where
  pub long : length run ≡ most
  pub each : (i : ℕ) → i < most → get_or run i 0 ≡ f i

module _ {f : ℕ → ℕ} {run : List ℕ} (h : Holds f run) where
  pub holds_same : (g : ℕ → ℕ) → ((i : ℕ) → g i ≡ f i) → Holds g run
  holds_same g e = record { long = h.long; each = λ i l. h.each i l ∙ sym (e i) }

  -- one place is stored anew
  pub holds_set : (g : ℕ → ℕ) (k v : ℕ) → k < most → v ≡ g k → ((i : ℕ) → i ≢ k → g i ≡ f i) → Holds g (set run k v)
  holds_set g k v l e other = record {
    long = length-set run k v ∙ h.long;
    each = λ i m. at i m (ℕ_discrete i k);
  }
    where
      at : (i : ℕ) → i < most → Dec (i ≡ k) → get_or (set run k v) i 0 ≡ g i
      at i m (yes p) = rw p (get_or-set_same run k v 0 (omega (arith, h.long)) ∙ e)
      at i m (no p) = get_or-set_other run k i v 0 p ∙ (h.each i m ∙ sym (other i p))

  pub holds_tab : run ≡ tab f most
  holds_tab = tab_places f run most h.long h.each

-- ---- What is kept

pub record Kept : Type 0 where
  pub left : List ℕ
  pub since : List ℕ
  pub answers : List ℕ
  pub largest : List ℕ
  pub above : List ℕ

abbrev pub kept : List ℕ → List ℕ → List ℕ → List ℕ → List ℕ → Kept
kept left since answers largest above = record { left = left; since = since; answers = answers; largest = largest; above = above }

abbrev pub kept_with : List ℕ → Kept → Event → Kept
kept_with bound K e =
    record {
      left = left_with K.left e;
      since = since_with K.since e;
      answers = answers_with K.answers e;
      largest = largest_with K.since K.largest e;
      above = above_with bound K.since K.above e;
    }

-- behind the records es, where the runs were K₀ before them
pub record Keeps (bound : List ℕ) (K₀ : Kept) (b : Before) (es : List Event) (K : Kept) : Type 0 where
  pub left_is : Holds (λ i. Log.left b es (i + 1)) K.left
  pub since_is : Holds (λ i. Log.since b es (i + 1)) K.since
  pub answers_is : Holds (λ i. (get_or K₀.answers i 0 + Log.answered es (i + 1)) % 2 ^ 64) K.answers
  pub largest_is : Holds (λ i. max (get_or K₀.largest i 0) (Log.largest b es (i + 1))) K.largest
  pub above_is : Holds (λ i. (get_or K₀.above i 0 + Log.above b (get_or bound i 0) es (i + 1)) % 2 ^ 64) K.above

-- a count that goes on, of 64 bits
more : (x a v w : ℕ) {y z : ℕ} → y ≡ (x + a) % 2 ^ 64 → v ≡ w → z ≡ w + a → (y + v) % 2 ^ 64 ≡ (x + z) % 2 ^ 64
more x a v w {y} {z} p q r = omega (arith, p, q, r)

-- the two kinds of a capture
kinds : (kind : ℕ) → known kind ≡ true → (kind ≡ 16) ⊎ (kind ≡ 17)
unfolding known
kinds kind h = split (eqb kind 16) (eqb kind 17) refl refl h
  where
    split : (x y : Bool) → eqb kind 16 ≡ x → eqb kind 17 ≡ y → (x || y) ≡ true → (kind ≡ 16) ⊎ (kind ≡ 17)
    split true y p q e = inl (eqb-true kind 16 p)
    split false true p q e = inr (eqb-true kind 17 q)
    split false false p q e = let z : ◌≡◌ {A = ℕ} 0 1 = ap (λ (t : Bool). cond t 1 0) e in absurd (omega arith)

-- one record more, of a stream that has a place
module _ {bound : List ℕ} {K₀ : Kept} {b : Before} {es : List Event} {K : Kept} (h : Keeps bound K₀ b es K) (e : Event)
    (from : 1 ≤ e.stream) (to : e.stream ≤ most) where
  own : e.stream ≡ spot e + 1
  own = omega arith

  inside : spot e < most
  inside = omega arith

  strange : (i : ℕ) → i ≢ spot e → e.stream ≡ i + 1 → ⊥
  strange i p q = p (omega arith)

  -- a request
  module _ (is : e.kind ≡ 16) where
    k : eqb e.kind 16 ≡ true
    k = eq-eqb e.kind 16 is

    keeps_request : Keeps bound K₀ b (e ∷ es) (kept_with bound K e)
    unfolding left_with since_with answers_with largest_with above_with
    keeps_request = rw k record {
      left_is = holds_set h.left_is _ (spot e) 1 inside (sym (laws.left_request b es e _ is own)) (λ i p. laws.left_other b es e _ (strange i p));
      since_is = holds_set h.since_is _ (spot e) e.stamp inside (sym (laws.since_request b es e _ is own)) (λ i p. laws.since_other b es e _ (strange i p));
      answers_is = holds_same h.answers_is _ (λ i. ap (λ (x : ℕ). (get_or K₀.answers i 0 + x) % 2 ^ 64) (laws.answered_request b es e (i + 1) is));
      largest_is = holds_same h.largest_is _ (λ i. ap (max (get_or K₀.largest i 0)) (laws.largest_request b es e (i + 1) is));
      above_is = holds_same h.above_is _ (λ i. ap (λ (x : ℕ). (get_or K₀.above i 0 + x) % 2 ^ 64) (laws.above_request b es e (i + 1) is (get_or bound i 0)));
    }

  -- an answer
  module _ (is : e.kind ≡ 17) where
    z : eqb e.kind 16 ≡ false
    z = ne_eqb e.kind 16 (λ q. omega (arith, is, q))

    -- the response that the runs show is that of the records
    shows : shown_by K.since e ≡ shown b es e
    unfolding shown_by shown
    shows = ap (Log.around e.stamp) (h.since_is.each (spot e) inside ∙ ap (Log.since b es) (sym own))

    keeps_answer : Keeps bound K₀ b (e ∷ es) (kept_with bound K e)
    unfolding left_with since_with answers_with largest_with above_with
    keeps_answer = rw z record {
      left_is = holds_set h.left_is _ (spot e) 0 inside (sym (laws.left_answer b es e _ is own)) (λ i p. laws.left_other b es e _ (strange i p));
      since_is = holds_same h.since_is _ (λ i. laws.since_answer b es e (i + 1) is);
      answers_is = holds_set h.answers_is _ (spot e) _ inside
          (omega (arith, h.answers_is.each (spot e) inside, laws.answered_answer b es e (spot e + 1) is own))
          (λ i p. ap (λ (x : ℕ). (get_or K₀.answers i 0 + x) % 2 ^ 64) (laws.answered_other b es e (i + 1) (strange i p)));
      largest_is = holds_set h.largest_is _ (spot e) _ inside
          (omega (arith, shows, h.largest_is.each (spot e) inside, laws.largest_answer b es e (spot e + 1) is own))
          (λ i p. ap (max (get_or K₀.largest i 0)) (laws.largest_other b es e (i + 1) (strange i p)));
      above_is = holds_set h.above_is _ (spot e) _ inside
          (more (get_or K₀.above (spot e) 0) _ _ _ (h.above_is.each (spot e) inside) (ap (λ (x : ℕ). when (ltb (get_or bound (spot e) 0) x) 1) shows)
          (laws.above_answer b es e (spot e + 1) is own (get_or bound (spot e) 0)))
          (λ i p. ap (λ (x : ℕ). (get_or K₀.above i 0 + x) % 2 ^ 64) (laws.above_other b es e (i + 1) (strange i p) (get_or bound i 0)));
    }

  pub keeps_more : known e.kind ≡ true → Keeps bound K₀ b (e ∷ es) (kept_with bound K e)
  keeps_more q = either (kinds e.kind q)
    where
      either : (e.kind ≡ 16) ⊎ (e.kind ≡ 17) → Keeps bound K₀ b (e ∷ es) (kept_with bound K e)
      either (inl is) = keeps_request is
      either (inr is) = keeps_answer is

-- ---- The walk over a piece

abbrev before_of : Kept → Before
before_of K = before K.left K.since

-- behind place `at`, with no record refused so far
pub record Hearing (c : List ℕ) (n : ℕ) (bound : List ℕ) (K₀ K : Kept) (at : ℕ) : Type 0 where
  pub j : ℕ
  pub place : at ≡ size * j
  pub inside : at ≤ length c
  pub passed : (m : ℕ) → m < j → is_refused (judge c n (before_of K₀) m) ≡ false
  pub keeps : Keeps bound K₀ (before_of K₀) (events_in c j) K

-- runs of 800 places, their counts of 64 bits
pub record Sized (K : Kept) : Type 0 where
  pub left_long : length K.left ≡ most
  pub since_long : length K.since ≡ most
  pub answers_long : length K.answers ≡ most
  pub largest_long : length K.largest ≡ most
  pub above_long : length K.above ≡ most
  pub answers_small : (i : ℕ) → get_or K.answers i 0 < 2 ^ 64
  pub above_small : (i : ℕ) → get_or K.above i 0 < 2 ^ 64

pub hearing_none : (c : List ℕ) (n : ℕ) (bound : List ℕ) (K : Kept) → Sized K → Hearing c n bound K K 0
unfolding events_in Log.left Log.since Log.answered Log.largest Log.above
hearing_none c n bound K s = record {
  j = 0;
  place = refl;
  inside = omega arith;
  passed = λ m h. absurd (omega (arith, h));
  keeps = record {
    left_is = record { long = s.left_long; each = λ i l. ap (λ (x : ℕ). get_or K.left x 0) (omega arith) };
    since_is = record { long = s.since_long; each = λ i l. ap (λ (x : ℕ). get_or K.since x 0) (omega arith) };
    answers_is = record { long = s.answers_long; each = λ i l. omega (arith, s.answers_small i) };
    largest_is = record { long = s.largest_long; each = λ i l. omega arith };
    above_is = record { long = s.above_long; each = λ i l. omega (arith, s.above_small i) };
  };
}

-- a record that passes, whose stream has a place
pub record Next (c : List ℕ) (at : ℕ) : Type 0 where
  pub is_known : known (event_at c at).kind ≡ true
  pub ends : at + size ≤ length c
  pub from : 1 ≤ (event_at c at).stream
  pub to : (event_at c at).stream ≤ most

-- as the code reads it
pub next_read : {c : List ℕ} {at : ℕ} → Next c at → met_at c at ≡ event_at c at
unfolding event_at
next_read {c} {at} x = met_whole c at x.ends x.is_known

module _ {c : List ℕ} {n : ℕ} {bound : List ℕ} {K₀ K : Kept} {at : ℕ} (h : Hearing c n bound K₀ K at) (top : n ≤ most) where
  -- what the code finds open of the next record's stream
  waiting_is : 1 ≤ (event_at c at).stream → (event_at c at).stream ≤ most
      → Log.left (before_of K₀) (events_in c h.j) (event_at c at).stream ≡ get_or K.left (spot (event_at c at)) 0
  waiting_is from to =
      let e : spot (event_at c at) + 1 ≡ (event_at c at).stream = omega arith in
      sym (h.keeps.left_is.each (spot (event_at c at)) (omega arith) ∙ ap (Log.left (before_of K₀) (events_in c h.j)) e)

  judge_here : judge c n (before_of K₀) h.j ≡ verdict (event_checks (length c) n (Log.left (before_of K₀) (events_in c h.j) (event_at c at).stream) at (event_at c at))
  unfolding judge
  judge_here =
      ap (λ (p : ℕ). verdict (event_checks (length c) n (Log.left (before_of K₀) (events_in c h.j) (event_at c p).stream) p (event_at c p))) (sym h.place)

  -- the number that the code finds is the next record's
  pub number_is : (r : ℕ) → ((w : ℕ) → (1 ≤ (event_at c at).stream → (event_at c at).stream ≤ most → w ≡ get_or K.left (spot (event_at c at)) 0)
      → r ≡ no_of (verdict (event_checks (length c) n w at (event_at c at)))) → r ≡ no_of (judge c n (before_of K₀) h.j)
  number_is r f = f (Log.left (before_of K₀) (events_in c h.j) (event_at c at).stream) waiting_is ∙ ap no_of (sym judge_here)

  -- the next record passes
  module _ (no-refusal : no_of (judge c n (before_of K₀) h.j) ≡ 0) where
    whole : Whole c n (before_of K₀) h.j
    whole = whole_if c n (before_of K₀) h.j (passed_by c n (before_of K₀) h.j no-refusal)

    pub next_is : Next c at
    next_is =
        let s = within_range 1 _ n whole.on in
        subst (Next c) (sym h.place) record { is_known = whole.is_known; ends = whole.ends; from = s.least; to = omega (arith, s.most) }

    pub hearing_more : Hearing c n bound K₀ (kept_with bound K (event_at c at)) (at + size)
    unfolding events_in
    hearing_more = record {
      j = suc h.j;
      place = omega (arith, h.place);
      inside = next_is.ends;
      passed = λ m l. below m l (ℕ_discrete m h.j);
      keeps = subst (λ (e : Event). Keeps bound K₀ (before_of K₀) (e ∷ events_in c h.j) (kept_with bound K (event_at c at))) (ap (event_at c) h.place)
          (keeps_more h.keeps (event_at c at) next_is.from next_is.to next_is.is_known);
    }
      where
        below : (m : ℕ) → m < suc h.j → Dec (m ≡ h.j) → is_refused (judge c n (before_of K₀) m) ≡ false
        below m l (yes p) = rw (p, passed_by c n (before_of K₀) h.j no-refusal) refl
        below m l (no p) = h.passed m (omega (arith, p))

    -- as the code reads it, r, and keeps it
    pub hearing_next : (r : Event) → r ≡ met_at c at → (l s a g o : List ℕ) → l ≡ left_with K.left r → s ≡ since_with K.since r
        → a ≡ answers_with K.answers r → g ≡ largest_with K.since K.largest r → o ≡ above_with bound K.since K.above r
        → Hearing c n bound K₀ (kept l s a g o) (at + size)
    hearing_next r e l s a g o pl ps pa pg po =
        let is : r ≡ event_at c at = e ∙ next_read next_is in
        rw (pl, ps, pa, pg, po) (subst (λ (v : Event). Hearing c n bound K₀ (kept_with bound K v) (at + size)) (sym is) hearing_more)

  -- it is refused
  pub hearing_refused : at < length c → (no_of (judge c n (before_of K₀) h.j) ≡ 0 → ⊥)
      → heard c n (before_of K₀) ≡ Refused (no_of (judge c n (before_of K₀) h.j)) at
  unfolding taken heard records up
  hearing_refused l r =
      let v : judge c n (before_of K₀) h.j ≡ Refused (no_of (judge c n (before_of K₀) h.j)) at =
      refused_by c n (before_of K₀) h.j r ∙ ap (Refused (no_of (judge c n (before_of K₀) h.j))) (sym h.place) in
      let few : h.j < records c = omega (arith, h.place, l) in
      let t : h.j ≡ taken c n (before_of K₀) =
      found_first (λ j. is_refused (judge c n (before_of K₀) j)) (records c) h.j h.passed (ap is_refused v) few in
      rw (← t, lt-ltb h.j (records c) few) v

  -- the piece ends
  module _ (end : length c ≤ at) where
    all : h.j ≡ records c
    unfolding records up
    all = omega (arith, h.place, h.inside, end)

    pub hearing_all : heard c n (before_of K₀) ≡ Passed
    unfolding taken heard
    hearing_all =
        let t : h.j ≡ taken c n (before_of K₀) = found_none (λ j. is_refused (judge c n (before_of K₀) j)) (records c) h.j h.passed all in
        rw (← t, le-ltb h.j (records c) (omega (arith, all))) refl

    -- the runs then
    pub hearing_kept : (K.left ≡ left_after c (before_of K₀)) × ((K.since ≡ since_after c (before_of K₀))
        × ((K.answers ≡ answers_after c K₀.answers) × ((K.largest ≡ largest_after c (before_of K₀) K₀.largest)
        × (K.above ≡ above_after c (before_of K₀) bound K₀.above))))
    unfolding left_after since_after answers_after largest_after above_after events
    hearing_kept =
        let k : Keeps bound K₀ (before_of K₀) (events_in c (records c)) K = subst (λ (x : ℕ). Keeps bound K₀ (before_of K₀) (events_in c x) K) all h.keeps in
        (holds_tab k.left_is, (holds_tab k.since_is, (holds_tab k.answers_is, (holds_tab k.largest_is, holds_tab k.above_is))))
