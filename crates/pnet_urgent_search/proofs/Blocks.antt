-- Laws of the search over the blocks: the table shows the right side of each walk, so every walk is its stream's search from block to block. Assumes nothing.
use mathlib.Core.Path.{◌≡◌, ap, ◌∙◌}
use mathlib.Core.List.{List}
use Prim.Native.Nat.{ℕ, ◌+◌, ◌/◌, ◌≤◌, ◌<◌, min}
use native.Mathlib.Decide.{dec_le}
use native.Mathlib.Omega.{arith}
use lib.ListN.{length}
use Rattle.pnet_turn.specs.Turn.{at}
use Rattle.pnet_urgent_table.specs.Table.{queued, Slow, Due, Laid}
use Rattle.pnet_urgent_search.specs.Walks.{blocked_at, slots_for, Urgency, Found}
use Rattle.pnet_urgent_search.specs.Steps.{Loaded, Shows, Walk, Block, Sound, Apart, Started, Carried, Walking, Ended}
use Rattle.pnet_urgent_search.proofs.Loads.{loaded_none, load_part, loaded_slow}
use Rattle.pnet_urgent_search.proofs.Alike.{slots_rise, slots_some, queued_none, queued_small, alike}
use Rattle.pnet_urgent_search.proofs.Walks.{walk_sound, walk_found, walk_starts, starts_none}
use Rattle.pnet_urgent_search.proofs.Carries.{apart_none, most_small}

-- two changes of the runs, one after the other
pub apart_twice : {i j : ℕ} {slots rounds slots' rounds' slots'' rounds'' : List ℕ} (n : ℕ) → Apart i slots rounds slots' rounds' → Apart j slots' rounds' slots'' rounds''
    → i ≤ n → j ≤ n → Apart n slots rounds slots'' rounds''
apart_twice n on more l h =
    record {
      slots_long = more.slots_long ∙ on.slots_long;
      rounds_long = more.rounds_long ∙ on.rounds_long;
      slots_kept = λ i k. more.slots_kept i (omega arith) ∙ on.slots_kept i (omega arith);
      rounds_kept = λ i k. more.rounds_kept i (omega arith) ∙ on.rounds_kept i (omega arith);
    }

-- before the block behind slot a, of L streams, K of which are laid out; the runs were slots₀ and rounds₀
pub record Passing (V' : ℕ) (Ts Js Ds : List ℕ) (L K walks : ℕ) (slots₀ rounds₀ : List ℕ) (a base last : ℕ) (nexts rests table slots rounds : List ℕ) : Type 0 where
  pub walking : Walking V' Ts Js Ds L walks a slots rounds
  pub apart : Apart walks slots₀ rounds₀ slots rounds
  pub due : Due V' Ts Js K a nexts rests
  pub base_is : base ≡ queued V' Ts Js K a
  pub table_long : length table ≡ 512
  pub past_none : (i : ℕ) → i < walks → at slots i ≤ last
  pub early : last ≤ 20833333

module _ {V' L K : ℕ} {Ts Js Ds : List ℕ} (u : Urgency V' Ts Js Ds L) (loaded : Loaded V' Ts L K) where
  turn_some : 0 < V'
  turn_some = omega (arith, u.turn_from)

  -- what is laid out can be
  pub slow : Slow V' Ts Js K
  slow =
      record {
        turn_from = u.turn_from;
        turn_to = u.turn_to;
        few = omega (arith, u.few, loaded.to);
        spacings = omega (arith, u.spacings, loaded.to);
        jitters = omega (arith, u.jitters, loaded.to);
        longer = λ j l. loaded_slow V' Ts K loaded.below j l (u.spacing_from j (omega (arith, loaded.to)));
        spacing_to = λ j l. u.spacing_to j (omega (arith, loaded.to));
        jitter_to = λ j l. u.jitter_to j (omega (arith, loaded.to));
      }

  -- behind more than K streams there is no solution
  pub behind_none : (i : ℕ) → K < i → i < L → (w : ℕ) → w ≡ slots_for V' Ts Js L i w → ⊥
  behind_none i l h =
      loaded_none V' Ts Js turn_some L i (λ j k. u.spacing_from j (omega arith))
      (omega (arith, loaded.full (omega arith), load_part V' Ts (K + 1) i (omega arith)))

  module _ {walks : ℕ} (walks-few : walks ≡ min (K + 1) L) where
    -- ---- The start

    module _ {slots rounds slots' rounds' : List ℕ} (started : Started V' Ds walks L slots rounds slots' rounds') where
      start_walk : (i : ℕ) → i < L → Walk (slots_for V' Ts Js L i) (at Ds i / V') 0 (at slots' i) (at rounds' i)
      start_walk i l =
          walk_starts turn_some (slots_some V' Ts Js L i) (λ h. behind_none i (omega (arith, walks-few)) l) (started.starts i l) (started.none i l)

      pub walking_none : Walking V' Ts Js Ds L walks 0 slots' rounds'
      walking_none = record { each = λ i l. start_walk i (omega (arith, walks-few)) }

      -- the end: those behind were done at the start
      pub ended_all : {ends turns : List ℕ} → Apart walks slots' rounds' ends turns → Ended V' Ts Js Ds L walks ends turns → Ended V' Ts Js Ds L L ends turns
      ended_all {ends} {turns} apart ended = record { each = λ i l. by i l (dec_le walks i) }
        where
          by : (i : ℕ) → i < L → Dec (walks ≤ i) → Found (slots_for V' Ts Js L i) (at Ds i / V') (at ends i) (at turns i)
          by i l (yes q) = rw (apart.slots_kept i q, apart.rounds_kept i q) (walk_found (omega (arith, starts_none q (started.starts i l))) (start_walk i l))
          by i l (no q) = ended.each i (omega (arith, q))

    -- ---- From block to block

    -- a walk's numbers fit 32 bits
    pub walking_sound : {a : ℕ} {slots rounds : List ℕ} → Walking V' Ts Js Ds L walks a slots rounds
        → (i : ℕ) → i < walks → (at Ds i ≤ 1000000000) × Sound (at Ds i / V') a (at slots i) (at rounds i)
    walking_sound walking i l = (
      (let h : i < L = omega (arith, walks-few) in omega (arith, u.deadline_to i h, u.spacing_to i h)),
      walk_sound (slots_rise V' Ts Js L i) (slots_some V' Ts Js L i) (walking.each i l),
    )

    module _ {a : ℕ} {table : List ℕ} (laid : Laid V' Ts Js K a table) where
      pub laid_block : a ≤ 20833333 → Block table a
      laid_block l =
          record {
            early = l;
            long = laid.long;
            small = λ t h. omega (arith, laid.holds t h, queued_small slow (a + t + 1) (omega arith));
          }

      -- the table shows the right side of each walk
      laid_shows : (i : ℕ) → i < walks → Shows (slots_for V' Ts Js L i) table a (1 + blocked_at L i + i) (at Ds i / V')
      laid_shows i l =
          record {
            rises = slots_rise V' Ts Js L i;
            some = slots_some V' Ts Js L i;
            right = λ t h fits.
                ap (λ (q : ℕ). 1 + blocked_at L i + i + q) (laid.holds t h)
                ∙ alike u (a + t + 1) (omega arith) i K (omega (arith, walks-few)) loaded.to fits;
          }

      pub passing_more : {slots₀ rounds₀ nexts rests old slots rounds nexts' rests' slots' rounds' : List ℕ} {base last : ℕ} (base' last' : ℕ)
          → Passing V' Ts Js Ds L K walks slots₀ rounds₀ a base last nexts rests old slots rounds → Due V' Ts Js K (a + 512) nexts' rests'
          → Carried V' Ds L table a walks slots rounds slots' rounds' last' → base' ≡ at table 511
          → Passing V' Ts Js Ds L K walks slots₀ rounds₀ (a + 512) base' last' nexts' rests' table slots' rounds'
      passing_more base' last' on due carried e =
          let q : a + 511 + 1 ≡ a + 512 = omega arith in
          record {
            walking = record { each = λ i l. carried.walked i l (slots_for V' Ts Js L i) (laid_shows i l) (on.walking.each i l) };
            apart = apart_twice walks on.apart carried.apart (omega arith) (omega arith);
            due = due;
            base_is = e ∙ (laid.holds 511 (omega arith) ∙ ap (queued V' Ts Js K) q);
            table_long = laid.long;
            past_none = carried.past_none;
            early = carried.early;
          }

    -- before the first block no walk is past the slots that the longest D holds
    pub passing_none : {nexts rests table slots rounds : List ℕ} → Walking V' Ts Js Ds L walks 0 slots rounds → Due V' Ts Js K 0 nexts rests → length table ≡ 512
        → Passing V' Ts Js Ds L K walks slots rounds 0 0 20833333 nexts rests table slots rounds
    passing_none {slots = slots} {rounds} walking due long =
        record {
          walking = walking;
          apart = apart_none walks slots rounds;
          due = due;
          base_is = queued_none slow;
          table_long = long;
          past_none = λ i l.
              let s = walking_sound walking i l in
              omega (arith, s.1.fits, most_small (at Ds i) V' s.0 u.turn_from);
          early = omega arith;
        }
