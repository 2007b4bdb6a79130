-- How a capture is heard: to its first refusal, and piece by piece. Assumes nothing.
use Rattle.std.proofs.Common.{◌≡◌, ℕ, ◌+◌, ◌-◌, ◌*◌, ◌<◌, ◌≤◌, Bool, true, false, cond, ltb, List, ◌++◌, length, sym, refl, ap, ◌∙◌, arith, ltb-false, ltb-true, le-ltb, lt-ltb}
use Rattle.common.specs.Checks.{Verdict}
use Rattle.common.specs.Checks.Verdict.{Passed, Refused}
use Rattle.common.proofs.Firsts.{First, first_is, found_first, found_none}
use Rattle.capture_log.specs.Log.{Before}
use Rattle.capture_log.specs.Records.{size, events_in, is_refused, judge, records, taken, heard}
use Rattle.capture_log.proofs.Joined.{Leaves, later, records_whole, records_joined, judge_front, judge_behind}

-- ---- To the first refusal

module _ (c : List ℕ) (n : ℕ) (b : Before) where
  first_refused : First (λ j. is_refused (judge c n b j)) (records c) 0 (taken c n b)
  unfolding taken
  first_refused = first_is (λ j. is_refused (judge c n b j)) (records c) 0

  heard_at : taken c n b < records c → heard c n b ≡ judge c n b (taken c n b)
  unfolding heard
  heard_at l = rw (lt-ltb (taken c n b) (records c) l) refl

  heard_none : records c ≤ taken c n b → heard c n b ≡ Passed
  unfolding heard
  heard_none l = rw (le-ltb (taken c n b) (records c) l) refl

  -- where none is refused, all are taken
  pub all_taken : heard c n b ≡ Passed → taken c n b ≡ records c
  all_taken h = split (ltb (taken c n b) (records c)) refl
    where
      split : (x : Bool) → ltb (taken c n b) (records c) ≡ x → taken c n b ≡ records c
      split true p =
          let l = ltb-true (taken c n b) (records c) p in
          let hit : is_refused (judge c n b (taken c n b)) ≡ true = first_refused.holds (omega arith) in
          let z : ◌≡◌ {A = ℕ} 0 1 = ap (λ (x : Bool). cond x 1 0) (ap is_refused (sym h ∙ heard_at l) ∙ hit) in
          absurd (omega arith)
      split false p = omega (arith, ltb-false (taken c n b) (records c) p, first_refused.to)

  -- else the record behind those that are taken is refused
  pub record Stops (r q : ℕ) : Type 0 where
    pub inside : taken c n b < records c
    pub refusal : judge c n b (taken c n b) ≡ Refused r q

  pub stops : (r q : ℕ) → heard c n b ≡ Refused r q → Stops r q
  stops r q h = split (ltb (taken c n b) (records c)) refl
    where
      split : (x : Bool) → ltb (taken c n b) (records c) ≡ x → Stops r q
      split true p = let l = ltb-true (taken c n b) (records c) p in record { inside = l; refusal = sym (heard_at l) ∙ h }
      split false p =
          let g : Passed ≡ Refused r q = sym (heard_none (ltb-false (taken c n b) (records c) p)) ∙ h in
          let z : ◌≡◌ {A = ℕ} 0 1 = cc in
          absurd (omega arith)

-- ---- Two pieces, the first of which ends with a record

refused_later : (d : ℕ) (v : Verdict) → is_refused (later d v) ≡ is_refused v
refused_later d Passed = refl
refused_later d (Refused r q) = refl

module _ (c p : List ℕ) (m : ℕ) (whole : length c ≡ size * m) (n : ℕ) where
  -- the first is refused
  module _ (b : Before) (r q : ℕ) (h : heard c n b ≡ Refused r q) where
    s : Stops c n b r q
    s = stops c n b r q h

    l : taken c n b < m
    l = omega (arith, s.inside, records_whole c m whole)

    taken_front : taken (c ++ p) n b ≡ taken c n b
    unfolding taken
    taken_front =
        sym (found_first (λ j. is_refused (judge (c ++ p) n b j)) (records (c ++ p)) (taken c n b)
        (λ j i. ap is_refused (judge_front c p m whole n b j (omega (arith, l))) ∙ (first_refused c n b).fails j (omega arith) i)
        (ap is_refused (judge_front c p m whole n b (taken c n b) l ∙ s.refusal))
        (omega (arith, l, records_joined c p m whole)))

    pub heard_front : heard (c ++ p) n b ≡ Refused r q
    heard_front =
        heard_at (c ++ p) n b (omega (arith, l, taken_front, records_joined c p m whole))
        ∙ (ap (judge (c ++ p) n b) taken_front ∙ (judge_front c p m whole n b (taken c n b) l ∙ s.refusal))

  -- the first is taken, and b' is what it leaves
  module _ {top : ℕ} {b b' : Before} (h : heard c n b ≡ Passed) (leaves : Leaves top b (events_in c m) b') (few : n ≤ top) where
    all : taken c n b ≡ m
    all = all_taken c n b h ∙ records_whole c m whole

    judge_later : (j : ℕ) → judge (c ++ p) n b (m + j) ≡ later (length c) (judge p n b' j)
    judge_later = judge_behind c p m whole leaves n few

    same : (j : ℕ) → is_refused (judge (c ++ p) n b (m + j)) ≡ is_refused (judge p n b' j)
    same j = ap is_refused (judge_later j) ∙ refused_later (length c) (judge p n b' j)

    passes : (j : ℕ) → j < m + taken p n b' → is_refused (judge (c ++ p) n b j) ≡ false
    passes j l = split (ltb j m) refl
      where
        split : (x : Bool) → ltb j m ≡ x → is_refused (judge (c ++ p) n b j) ≡ false
        split true y =
            let i : j < m = ltb-true j m y in
            ap is_refused (judge_front c p m whole n b j i) ∙ (first_refused c n b).fails j (omega arith) (omega (arith, all))
        split false y =
            let i : m ≤ j = ltb-false j m y in
            let e : j ≡ m + (j - m) = omega arith in
            ap (λ (x : ℕ). is_refused (judge (c ++ p) n b x)) e
            ∙ (same (j - m) ∙ (first_refused p n b').fails (j - m) (omega arith) (omega arith))

    taken_behind : taken (c ++ p) n b ≡ m + taken p n b'
    unfolding taken
    taken_behind = split (ltb (taken p n b') (records p)) refl
      where
        split : (x : Bool) → ltb (taken p n b') (records p) ≡ x → taken (c ++ p) n b ≡ m + taken p n b'
        split true y =
            let i : taken p n b' < records p = ltb-true (taken p n b') (records p) y in
            sym (found_first (λ j. is_refused (judge (c ++ p) n b j)) (records (c ++ p)) (m + taken p n b') passes
            (same (taken p n b') ∙ (first_refused p n b').holds (omega arith)) (omega (arith, records_joined c p m whole)))
        split false y =
            sym (found_none (λ j. is_refused (judge (c ++ p) n b j)) (records (c ++ p)) (m + taken p n b') passes
            (omega (arith, ltb-false (taken p n b') (records p) y, (first_refused p n b').to, records_joined c p m whole)))

    pub heard_behind : heard (c ++ p) n b ≡ later (length c) (heard p n b')
    heard_behind = split (ltb (taken p n b') (records p)) refl
      where
        split : (x : Bool) → ltb (taken p n b') (records p) ≡ x → heard (c ++ p) n b ≡ later (length c) (heard p n b')
        split true y =
            let i : taken p n b' < records p = ltb-true (taken p n b') (records p) y in
            heard_at (c ++ p) n b (omega (arith, taken_behind, records_joined c p m whole))
            ∙ (ap (judge (c ++ p) n b) taken_behind ∙ (judge_later (taken p n b') ∙ ap (later (length c)) (sym (heard_at p n b' i))))
        split false y =
            let i : records p ≤ taken p n b' = ltb-false (taken p n b') (records p) y in
            heard_none (c ++ p) n b (omega (arith, taken_behind, records_joined c p m whole)) ∙ ap (later (length c)) (sym (heard_none p n b' i))
