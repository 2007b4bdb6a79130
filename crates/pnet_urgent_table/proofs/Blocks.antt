-- The streams of a master, one after the other: what is kept of each, how a block is counted, and how it is added up. Assumes nothing.
use mathlib.Core.Path.{◌≡◌, refl, ap, ◌∙◌}
use mathlib.Core.List.{List}
use Prim.Native.Nat.{ℕ, zero, suc, ◌+◌, ◌*◌, ◌≤◌, ◌<◌, zero-le}
use native.Mathlib.Decide.{ℕ_discrete}
use native.Mathlib.Numerals.{add-one}
use native.Mathlib.Omega.{arith}
use lib.ListN.{length, set, length-set}
use lib.Seq.{get_or-set_same, get_or-set_other}
use Rattle.common.specs.Sums.{sum}
use Rattle.pnet_turn.specs.Turn.{at}
use Rattle.pnet_urgent_table.specs.Table.{beyond_once, queued, Slow, Due, Laid}
use Rattle.pnet_urgent_table.specs.Tally.{Asking, Tallied, Risen}
use Rattle.pnet_urgent_table.proofs.Releases.{no_more_than_slots}

-- ---- What is kept of each stream

module _ {V' : ℕ} {Ts Js : List ℕ} {K a : ℕ} {nexts rests : List ℕ} where
  due_at : Due V' Ts Js K a nexts rests → (j : ℕ) → j < K → Asking V' (at Ts j) (at Js j) a (at nexts j) (at rests j)
  due_at due j l = record { from = due.from j l; to = due.to j l; rest_to = due.rest_to j l; asks = due.asks j l; still = due.still j l }

  due_each : K ≤ length nexts → K ≤ length rests → ((j : ℕ) → j < K → Asking V' (at Ts j) (at Js j) a (at nexts j) (at rests j)) → Due V' Ts Js K a nexts rests
  due_each n r each =
      record {
        nexts_long = n;
        rests_long = r;
        from = λ j l. (each j l).from;
        to = λ j l. (each j l).to;
        rest_to = λ j l. (each j l).rest_to;
        asks = λ j l. (each j l).asks;
        still = λ j l. (each j l).still;
      }

-- none yet
due_none : (V' : ℕ) (Ts Js : List ℕ) (a : ℕ) (nexts rests : List ℕ) → Due V' Ts Js 0 a nexts rests
due_none V' Ts Js a nexts rests = due_each zero-le zero-le (λ j l. absurd (omega arith))

-- one more
pub due_more : {V' : ℕ} {Ts Js : List ℕ} {j a : ℕ} {nexts rests : List ℕ} → Due V' Ts Js j a nexts rests → j < length nexts → j < length rests
    → (x y : ℕ) → Asking V' (at Ts j) (at Js j) a x y → Due V' Ts Js (j + 1) a (set nexts j x) (set rests j y)
due_more {V'} {Ts} {Js} {j} {a} {nexts} {rests} due n r x y on =
    due_each (omega (arith, length-set nexts j x)) (omega (arith, length-set rests j y)) (λ i l. by i l (ℕ_discrete i j))
  where
    by : (i : ℕ) → i < j + 1 → Dec (i ≡ j) → Asking V' (at Ts i) (at Js i) a (at (set nexts j x) i) (at (set rests j y) i)
    by i l (yes e) = rw (e, get_or-set_same nexts j x 0 n, get_or-set_same rests j y 0 r) on
    by i l (no e) = rw (get_or-set_other nexts j i x 0 e, get_or-set_other rests j i y 0 e) (due_at due i (omega (arith, e)))

-- ---- Sums

pub sum_more : (f : ℕ → ℕ) (n : ℕ) → sum f (n + 1) ≡ sum f n + f n
unfolding sum
sum_more f n = rw add-one refl

module _ (V' : ℕ) (Ts Js : List ℕ) where
  queued_none : (n : ℕ) → queued V' Ts Js 0 n ≡ 0
  unfolding queued sum
  queued_none n = refl

  queued_more : (j n : ℕ) → queued V' Ts Js (j + 1) n ≡ queued V' Ts Js j n + beyond_once V' (at Ts j) (at Js j) n
  unfolding queued
  queued_more j n = sum_more (λ i. beyond_once V' (at Ts i) (at Js i) n) j

-- no count is greater than the slots of the longest deadline and a block
module _ {V' : ℕ} {Ts Js : List ℕ} {K : ℕ} (slow : Slow V' Ts Js K) (n : ℕ) (near : n ≤ 20833845) where
  queued_most : (j : ℕ) → j ≤ K → queued V' Ts Js j n ≤ 20833845 * j
  unfolding queued sum
  queued_most zero h = zero-le
  queued_most (suc j) h =
      omega (arith, queued_most j (omega arith), no_more_than_slots V' (at Ts j) (at Js j) (slow.longer j h) (slow.jitter_to j h) n)

  pub queued_small : (j : ℕ) → j ≤ K → queued V' Ts Js j n < 4294967295
  queued_small j h = omega (arith, queued_most j h, slow.few)

-- ---- A block, stream by stream

-- the first j streams are counted; of the others is kept what was
pub record Going (V' : ℕ) (Ts Js : List ℕ) (K a : ℕ) (firsts first-rests : List ℕ) (j : ℕ) (nexts rests table : List ℕ) : Type 0 where
  pub due : Due V' Ts Js j (a + 512) nexts rests
  pub nexts_long : length nexts ≡ length firsts
  pub rests_long : length rests ≡ length first-rests
  pub nexts_left : (i : ℕ) → j ≤ i → at nexts i ≡ at firsts i
  pub rests_left : (i : ℕ) → j ≤ i → at rests i ≡ at first-rests i
  pub long : length table ≡ 512
  pub risen : Risen V' Ts Js j a table

pub going_none : (V' : ℕ) (Ts Js : List ℕ) (K a : ℕ) (nexts rests table : List ℕ) → length table ≡ 512 → ((t : ℕ) → t < 512 → at table t ≡ 0)
    → Going V' Ts Js K a nexts rests 0 nexts rests table
going_none V' Ts Js K a nexts rests table long none =
    record {
      due = due_none V' Ts Js (a + 512) nexts rests;
      nexts_long = refl;
      rests_long = refl;
      nexts_left = λ i h. refl;
      rests_left = λ i h. refl;
      long = long;
      risen = record { by = λ t l. omega (arith, none t l, queued_none V' Ts Js (a + t), queued_none V' Ts Js (a + t + 1)) };
    }

module _ {V' : ℕ} {Ts Js : List ℕ} {K a : ℕ} {firsts first-rests : List ℕ} {j : ℕ} {nexts rests table : List ℕ}
    (on : Going V' Ts Js K a firsts first-rests j nexts rests table) (due : Due V' Ts Js K a firsts first-rests) (less : j < K) where
  -- what is kept of the next stream
  pub going_next : Asking V' (at Ts j) (at Js j) a (at nexts j) (at rests j)
  going_next = rw (on.nexts_left j (omega arith), on.rests_left j (omega arith)) (due_at due j less)

  next_inside : j < length nexts
  next_inside = omega (arith, on.nexts_long, due.nexts_long)

  rest_inside : j < length rests
  rest_inside = omega (arith, on.rests_long, due.rests_long)

  -- it is counted
  pub going_more : (x y : ℕ) (new : List ℕ) → Asking V' (at Ts j) (at Js j) (a + 512) x y → Tallied V' (at Ts j) (at Js j) a table new → length new ≡ 512
      → Going V' Ts Js K a firsts first-rests (j + 1) (set nexts j x) (set rests j y) new
  going_more x y new asking tallied long =
      record {
        due = due_more on.due next_inside rest_inside x y asking;
        nexts_long = length-set nexts j x ∙ on.nexts_long;
        rests_long = length-set rests j y ∙ on.rests_long;
        nexts_left = λ i h. get_or-set_other nexts j i x 0 (λ e. omega arith) ∙ on.nexts_left i (omega arith);
        rests_left = λ i h. get_or-set_other rests j i y 0 (λ e. omega arith) ∙ on.rests_left i (omega arith);
        long = long;
        risen = record { by = λ t l. omega (arith, tallied t l, on.risen.by t l, queued_more V' Ts Js j (a + t), queued_more V' Ts Js j (a + t + 1)) };
      }

  -- there is room for one more at each place
  pub going_room : Slow V' Ts Js K → a ≤ 20833333 → (t : ℕ) → t < 512 → at table t < 4294967295
  going_room slow near t l = omega (arith, on.risen.by t l, queued_small slow (a + t + 1) (omega arith) j (omega arith))

-- ---- A block, added up

-- the first t places are: each has what is in front of the block and all up to itself
pub record Adding (base : ℕ) (old : List ℕ) (total t : ℕ) (table : List ℕ) : Type 0 where
  pub total_is : total ≡ base + sum (at old) t
  pub long : length table ≡ 512
  pub done : (i : ℕ) → i < t → at table i ≡ base + sum (at old) (i + 1)
  pub ahead : (i : ℕ) → t ≤ i → at table i ≡ at old i

pub adding_none : (base total : ℕ) (old : List ℕ) → total ≡ base → length old ≡ 512 → Adding base old total 0 old
unfolding sum
adding_none base total old e long = record { total_is = omega arith; long = long; done = λ i l. absurd (omega arith); ahead = λ i h. refl }

module _ {base : ℕ} {old : List ℕ} {total t : ℕ} {table : List ℕ} (on : Adding base old total t table) where
  -- the total with the next place
  pub adding_next : total + at table t ≡ base + sum (at old) (t + 1)
  adding_next = omega (arith, on.total_is, on.ahead t (omega arith), sum_more (at old) t)

  pub adding_more : t < 512 → Adding base old (total + at table t) (t + 1) (set table t (total + at table t))
  adding_more less =
      record {
        total_is = adding_next;
        long = length-set table t (total + at table t) ∙ on.long;
        done = λ i l. by i l (ℕ_discrete i t);
        ahead = λ i h. get_or-set_other table t i (total + at table t) 0 (λ e. omega arith) ∙ on.ahead i (omega arith);
      }
    where
      by : (i : ℕ) → i < t + 1 → Dec (i ≡ t) → at (set table t (total + at table t)) i ≡ base + sum (at old) (i + 1)
      by i l (yes e) = rw (e, get_or-set_same table t (total + at table t) 0 (omega (arith, on.long))) adding_next
      by i l (no e) = get_or-set_other table t i (total + at table t) 0 e ∙ on.done i (omega (arith, e))

-- what rises slot by slot adds up to Q
module _ {V' : ℕ} {Ts Js : List ℕ} {K a : ℕ} {table : List ℕ} (on : Risen V' Ts Js K a table) where
  pub risen_sum : (t : ℕ) → t ≤ 512 → queued V' Ts Js K a + sum (at table) t ≡ queued V' Ts Js K (a + t)
  unfolding sum
  risen_sum zero h = let e : a + 0 ≡ a = omega arith in omega (arith, ap (queued V' Ts Js K) e)
  risen_sum (suc t) h =
      let e : a + t + 1 ≡ a + suc t = omega arith in
      omega (arith, risen_sum t (omega arith), on.by t (omega arith), ap (queued V' Ts Js K) e)

  pub risen_laid : (base : ℕ) (new : List ℕ) → base ≡ queued V' Ts Js K a → length new ≡ 512 → ((t : ℕ) → t < 512 → at new t ≡ base + sum (at table) (t + 1)) → Laid V' Ts Js K a new
  risen_laid base new from long each = record { long = long; holds = holds }
    where
      holds : (t : ℕ) → t < 512 → at new t ≡ queued V' Ts Js K (a + t + 1)
      holds t l =
          let e : a + (t + 1) ≡ a + t + 1 = omega arith in
          omega (arith, each t l, risen_sum (t + 1) (omega arith), ap (queued V' Ts Js K) e)
