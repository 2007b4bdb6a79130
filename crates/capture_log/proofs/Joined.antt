-- Two pieces of a capture, the first of which ends with a record: what the second says behind the first is what the whole says.
-- Assumes nothing.
use Rattle.std.proofs.Common.{◌≡◌, ℕ, zero, suc, ◌+◌, ◌*◌, ◌<◌, ◌≤◌, max, Bool, true, false, not, ◌&&◌, eqb, ltb, List, [], ◌∷◌, ◌++◌, length, get_or, sym, refl, ap, ◌∙◌, arith, length-append, get_or-append-add, ltb-false, ltb-true, le-ltb, lt-ltb, eqb-true}
use lib.ListN.{get_or-append}
use Rattle.common.specs.Checks.{check, Verdict, verdict}
use Rattle.common.specs.Checks.Verdict.{Passed, Refused}
use Rattle.common.specs.Sums.{when, up}
use Rattle.sheet_record.specs.Numbers.{be}
use Rattle.sheet_record.specs.Kinds.{within}
use Rattle.sheet_record.proofs.Numbers.{be_same}
use Rattle.sheet_ranges.proofs.Ranges.{within_range}
use Rattle.sheet_record.proofs.Tables.{both_true}
use Rattle.capture_log.specs.declared.Event.{Event}
use Rattle.capture_log.specs.Log.{Before, around, answers, left, since, shown, answered, largest, above}
use Rattle.capture_log.specs.Records.{size, event_at, events_in, known, event_checks, judge, records}

-- ---- What records say behind others

-- b' says of the streams 1 to top what the records es leave behind b
pub record Leaves (top : ℕ) (b : Before) (es : List Event) (b' : Before) : Type 0 where
  pub waiting_is : (i : ℕ) → 1 ≤ i → i ≤ top → left b es i ≡ b'.waiting i
  pub stamp_is : (i : ℕ) → 1 ≤ i → i ≤ top → since b es i ≡ b'.stamp i

-- what counts under a test alone
under : (f : Bool → ℕ → ℕ) → ((x y : ℕ) → f false x ≡ f false y) → (t : Bool) (x y : ℕ) → (t ≡ true → x ≡ y) → f t x ≡ f t y
under f z true x y e = ap (f true) (e refl)
under f z false x y e = z x y

module _ {top : ℕ} {b b' : Before} {es : List Event} (h : Leaves top b es b') (i : ℕ) (from : 1 ≤ i) (to : i ≤ top) where
  pub left_joined : (fs : List Event) → left b (fs ++ es) i ≡ left b' fs i
  unfolding left
  left_joined [] = h.waiting_is i from to
  left_joined (e ∷ fs) = rw (left_joined fs) refl

  pub since_joined : (fs : List Event) → since b (fs ++ es) i ≡ since b' fs i
  unfolding since
  since_joined [] = h.stamp_is i from to
  since_joined (e ∷ fs) = rw (since_joined fs) refl

  shown_joined : (fs : List Event) (e : Event) → answers e i ≡ true → shown b (fs ++ es) e ≡ shown b' fs e
  unfolding shown answers
  shown_joined fs e t =
      let own : e.stream ≡ i = eqb-true e.stream i (both_true (eqb e.kind 17) (eqb e.stream i) t).1 in
      ap (around e.stamp) (ap (since b (fs ++ es)) own ∙ since_joined fs ∙ ap (since b' fs) (sym own))

  pub largest_joined : (fs : List Event) → largest b (fs ++ es) i ≡ max (largest b' fs i) (largest b es i)
  unfolding largest
  largest_joined [] = omega arith
  largest_joined (e ∷ fs) =
      omega (arith, largest_joined fs, under (λ t x. when t x) (λ x y. refl) (answers e i) (shown b (fs ++ es) e) (shown b' fs e) (shown_joined fs e))

  pub above_joined : (R : ℕ) (fs : List Event) → above b R (fs ++ es) i ≡ above b' R fs i + above b R es i
  unfolding above
  above_joined R [] = omega arith
  above_joined R (e ∷ fs) =
      omega (
        arith,
        above_joined R fs,
        under (λ t x. when (t && ltb R x) 1) (λ x y. refl) (answers e i) (shown b (fs ++ es) e) (shown b' fs e) (shown_joined fs e),
      )

pub answered_joined : (es : List Event) (i : ℕ) (fs : List Event) → answered (fs ++ es) i ≡ answered fs i + answered es i
unfolding answered
answered_joined es i [] = omega arith
answered_joined es i (e ∷ fs) = omega (arith, answered_joined es i fs)

-- ---- Verdicts

-- the same verdict, at a place d bytes further on
abbrev pub later : ℕ → Verdict → Verdict
later d Passed = Passed
later d (Refused r q) = Refused r (d + q)

-- what is open counts for a stream of the sheet alone, s
five : (a b s x y x' y' : Bool) (d at : ℕ) → (s ≡ true → x ≡ x') → (s ≡ true → y ≡ y')
    → verdict (check 2 a (d + at) ∷ check 1 b (d + at) ∷ check 14 (not s) (d + at) ∷ check 15 x (d + at) ∷ check 16 y (d + at) ∷ [])
    ≡ later d (verdict (check 2 a at ∷ check 1 b at ∷ check 14 (not s) at ∷ check 15 x' at ∷ check 16 y' at ∷ []))
unfolding verdict
five true b s x y x' y' d at ex ey = refl
five false true s x y x' y' d at ex ey = refl
five false false false x y x' y' d at ex ey = refl
five false false true x y x' y' d at ex ey = rw (ex refl, ey refl) (two x' y')
  where
    two : (x y : Bool) → verdict (check 15 x (d + at) ∷ check 16 y (d + at) ∷ []) ≡ later d (verdict (check 15 x at ∷ check 16 y at ∷ []))
    two true y = refl
    two false true = refl
    two false false = refl

-- with d bytes more before it
checks_moved : (d k n w w' at : ℕ) (e : Event) → (within 1 e.stream n ≡ true → w ≡ w')
    → verdict (event_checks (d + k) n w (d + at) e) ≡ later d (verdict (event_checks k n w' at e))
unfolding event_checks
checks_moved d k n w w' at e same =
    rw (cut (ltb k (at + size)) refl)
    (five (not (known e.kind)) (ltb k (at + size)) (within 1 e.stream n) (eqb e.kind 17 && eqb w 0) (eqb e.kind 16 && not (eqb w 0))
    (eqb e.kind 17 && eqb w' 0) (eqb e.kind 16 && not (eqb w' 0)) d at
    (λ s. ap (λ (x : ℕ). eqb e.kind 17 && eqb x 0) (same s)) (λ s. ap (λ (x : ℕ). eqb e.kind 16 && not (eqb x 0)) (same s)))
  where
    cut : (x : Bool) → ltb k (at + size) ≡ x → ltb (d + k) (d + at + size) ≡ x
    cut true q = lt-ltb (d + k) (d + at + size) (omega (arith, ltb-true k (at + size) q))
    cut false q = le-ltb (d + k) (d + at + size) (omega (arith, ltb-false k (at + size) q))

-- where the record ends in both
checks_whole : (k k' n w at : ℕ) (e : Event) → at + size ≤ k → at + size ≤ k' → verdict (event_checks k n w at e) ≡ verdict (event_checks k' n w at e)
unfolding event_checks
checks_whole k k' n w at e l l' = rw (le-ltb k (at + size) l, le-ltb k' (at + size) l') refl

-- ---- The records of two pieces

pub records_whole : (c : List ℕ) (m : ℕ) → length c ≡ size * m → records c ≡ m
unfolding records up
records_whole c m whole = omega arith

module _ (c p : List ℕ) where
  pub event_front : (at : ℕ) → at + size ≤ length c → event_at (c ++ p) at ≡ event_at c at
  unfolding event_at
  event_front at h =
      let same : (i : ℕ) → i < length c → get_or (c ++ p) i 0 ≡ get_or c i 0 = λ i l. get_or-append c p 0 i l in
      rw (
        same at (omega arith),
        be_same (c ++ p) c (at + 1) 2 (λ i lo hi. same i (omega arith)),
        be_same (c ++ p) c (at + 3) 4 (λ i lo hi. same i (omega arith)),
      ) refl

  be_behind : (at w : ℕ) → be (c ++ p) (length c + at) w ≡ be p at w
  unfolding be
  be_behind at zero = refl
  be_behind at (suc w) =
      let e : length c + at + w ≡ length c + (at + w) = omega arith in
      omega (arith, be_behind at w, ap (λ (i : ℕ). get_or (c ++ p) i 0) e, get_or-append-add c p (at + w) 0)

  pub event_behind : (at : ℕ) → event_at (c ++ p) (length c + at) ≡ event_at p at
  unfolding event_at
  event_behind at =
      let one : length c + at + 1 ≡ length c + (at + 1) = omega arith in
      let three : length c + at + 3 ≡ length c + (at + 3) = omega arith in
      rw (get_or-append-add c p at 0, one, be_behind (at + 1) 2, three, be_behind (at + 3) 4) refl

  events_front : (j : ℕ) → size * j ≤ length c → events_in (c ++ p) j ≡ events_in c j
  unfolding events_in
  events_front zero h = refl
  events_front (suc j) h = rw (event_front (size * j) (omega arith), events_front j (omega arith)) refl

  -- the first ends with a record
  module _ (m : ℕ) (whole : length c ≡ size * m) where
    place : (j : ℕ) → size * (m + j) ≡ length c + size * j
    place j = omega arith

    pub events_behind : (j : ℕ) → events_in (c ++ p) (m + j) ≡ events_in p j ++ events_in c m
    unfolding events_in
    events_behind zero = let e : m + 0 ≡ m = omega arith in rw e (events_front m (omega arith))
    events_behind (suc j) =
        let e : m + suc j ≡ suc (m + j) = omega arith in
        rw (e, place j, event_behind (size * j), events_behind j) refl

    pub records_joined : records (c ++ p) ≡ m + records p
    unfolding records up
    records_joined = rw length-append (omega arith)

    -- ---- Their verdicts

    pub judge_front : (n : ℕ) (b : Before) (j : ℕ) → j < m → judge (c ++ p) n b j ≡ judge c n b j
    unfolding judge
    judge_front n b j l =
        let at = size * j in
        let here = event_at c at in
        let k = length (c ++ p) in
        ap (λ (x : Event). verdict (event_checks k n (left b (events_in (c ++ p) j) x.stream) at x)) (event_front at (omega arith))
        ∙ (ap (λ (x : List Event). verdict (event_checks k n (left b x here.stream) at here)) (events_front j (omega arith))
        ∙ checks_whole k (length c) n (left b (events_in c j) here.stream) at here (omega (arith, length-append c p)) (omega arith))

    pub judge_behind : {top : ℕ} {b b' : Before} → Leaves top b (events_in c m) b' → (n : ℕ) → n ≤ top → (j : ℕ)
        → judge (c ++ p) n b (m + j) ≡ later (length c) (judge p n b' j)
    unfolding judge
    judge_behind {top} {b} {b'} h n few j =
        let here = event_at p (size * j) in
        let k = length (c ++ p) in
        let es = events_in (c ++ p) (m + j) in
        ap (λ (x : ℕ). verdict (event_checks k n (left b es (event_at (c ++ p) x).stream) x (event_at (c ++ p) x))) (place j)
        ∙ (ap (λ (x : Event). verdict (event_checks k n (left b es x.stream) (length c + size * j) x)) (event_behind (size * j))
        ∙ (ap (λ (x : ℕ). verdict (event_checks x n (left b es here.stream) (length c + size * j) here)) (length-append c p)
        ∙ checks_moved (length c) (length p) n (left b es here.stream) (left b' (events_in p j) here.stream) (size * j) here waits))
      where
        waits : within 1 (event_at p (size * j)).stream n ≡ true
            → left b (events_in (c ++ p) (m + j)) (event_at p (size * j)).stream ≡ left b' (events_in p j) (event_at p (size * j)).stream
        waits on =
            let i = (event_at p (size * j)).stream in
            let s = within_range 1 i n on in
            ap (λ (x : List Event). left b x i) (events_behind j) ∙ left_joined h i s.least (omega (arith, s.most)) (events_in p j)
