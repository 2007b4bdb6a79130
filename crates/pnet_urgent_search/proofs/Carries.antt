-- Laws of the runs in which the walks are kept: places are written one after the other, and those behind keep what they had. Assumes nothing.
use mathlib.Core.Path.{◌≡◌, refl, ◌∙◌}
use mathlib.Core.List.{List}
use Prim.Native.Nat.{ℕ, ◌+◌, ◌/◌, ◌≤◌, ◌<◌, max}
use native.Mathlib.Nat.{div-lt_iff_lt-mul}
use native.Mathlib.Decide.{ℕ_discrete}
use native.Mathlib.Omega.{arith}
use lib.ListN.{length, set, length-set}
use lib.Seq.{get_or-set_same, get_or-set_other}
use Rattle.pnet_turn.specs.Turn.{at}
use Rattle.pnet_urgent_search.specs.Walks.{blocked_at}
use Rattle.pnet_urgent_search.specs.Steps.{Shows, Walk, Apart, Started, Carried}

pub apart_none : (j : ℕ) (slots rounds : List ℕ) → Apart j slots rounds slots rounds
apart_none j slots rounds = record { slots_long = refl; rounds_long = refl; slots_kept = λ i l. refl; rounds_kept = λ i l. refl }

module _ {j : ℕ} {slots rounds slots' rounds' : List ℕ} (x y : ℕ) (on : Apart j slots rounds slots' rounds') where
  apart_more : Apart (j + 1) slots rounds (set slots' j x) (set rounds' j y)
  apart_more =
      record {
        slots_long = length-set slots' j x ∙ on.slots_long;
        rounds_long = length-set rounds' j y ∙ on.rounds_long;
        slots_kept = λ i l. get_or-set_other slots' j i x 0 (λ e. omega arith) ∙ on.slots_kept i (omega arith);
        rounds_kept = λ i l. get_or-set_other rounds' j i y 0 (λ e. omega arith) ∙ on.rounds_kept i (omega arith);
      }

  -- what holds of each place before, and of x and y at place j
  each_more : (P : ℕ → ℕ → ℕ → Type 0) → j < length slots → j < length rounds → ((i : ℕ) → i < j → P i (at slots' i) (at rounds' i)) → P j x y
      → (i : ℕ) → i < j + 1 → P i (at (set slots' j x) i) (at (set rounds' j y) i)
  each_more P s r each new i l = by (ℕ_discrete i j)
    where
      by : Dec (i ≡ j) → P i (at (set slots' j x) i) (at (set rounds' j y) i)
      by (yes q) = rw (q, get_or-set_same slots' j x 0 (omega (arith, on.slots_long)), get_or-set_same rounds' j y 0 (omega (arith, on.rounds_long))) new
      by (no q) = rw (get_or-set_other slots' j i x 0 q, get_or-set_other rounds' j i y 0 q) (each i (omega (arith, q)))

-- ---- The walks have started

-- of all
pub started_all : {V' walks j : ℕ} {Ds slots rounds slots' rounds' : List ℕ} → Started V' Ds walks j slots rounds slots' rounds' → (n : ℕ) → j ≡ n
    → Started V' Ds walks n slots rounds slots' rounds'
started_all on n e = rw e at on

-- ---- They are carried through a block

-- no D holds more slots
pub most_small : (D V' : ℕ) → D ≤ 1000000000 → 48 ≤ V' → D / V' ≤ 20833333
most_small D V' d v =
    let l : D / V' < 20833334 = (div-lt_iff_lt-mul {k = V'} {x = D} {y = 20833334} (omega arith)).1 (omega arith) in
    omega arith

module _ (V' : ℕ) (Ds : List ℕ) (L : ℕ) (table : List ℕ) (a : ℕ) where
  -- what is promised of the walk at place i, which was at n and m and is at x and y, for a constant
  abbrev Goes : ℕ → ℕ → ℕ → ℕ → ℕ → ℕ → Type 0
  Goes i c n m x y = (f : ℕ → ℕ) → Shows f table a c (at Ds i / V') → Walk f (at Ds i / V') a n m → Walk f (at Ds i / V') (a + 512) x y

  pub carried_more : {j last : ℕ} {slots rounds slots' rounds' : List ℕ} (c x y z : ℕ) → Carried V' Ds L table a j slots rounds slots' rounds' last
      → j < length slots → j < length rounds → c ≡ 1 + blocked_at L j + j → x ≤ 20833333 → z ≡ max last x → Goes j c (at slots' j) (at rounds' j) x y
      → Carried V' Ds L table a (j + 1) slots rounds (set slots' j x) (set rounds' j y) z
  carried_more {j} {last} {slots} {rounds} {slots'} {rounds'} c x y z on s r own small e new =
      let kept = rw (own, on.apart.slots_kept j (omega arith), on.apart.rounds_kept j (omega arith)) at new in
      record {
        apart = apart_more x y on.apart;
        walked = each_more x y on.apart (λ i n m. Goes i (1 + blocked_at L i + i) (at slots i) (at rounds i) n m) s r on.walked kept;
        past_none = each_more x y on.apart (λ i n m. n ≤ z) s r (λ i l. omega (arith, on.past_none i l, e)) (omega (arith, e));
        early = omega (arith, e, on.early);
      }

-- as many streams as there are D
pub carried_of : {V' a j last : ℕ} {Ds table slots rounds slots' rounds' : List ℕ} → Carried V' Ds (length Ds) table a j slots rounds slots' rounds' last
    → (L : ℕ) → length Ds ≡ L → Carried V' Ds L table a j slots rounds slots' rounds' last
carried_of on L e = rw e at on
