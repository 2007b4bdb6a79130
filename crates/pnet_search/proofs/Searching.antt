-- Laws of what a search keeps of each master: it is right at W = 0, it stays right as W grows, and a look anew makes it right again.
-- Assumes nothing.
use mathlib.Core.Path.{◌≡◌, sym, ap, ◌∙◌}
use mathlib.Core.List.{List}
use Prim.Native.Nat.{ℕ, ◌+◌, ◌-◌, ◌*◌, ◌≤◌, ◌<◌, min}
use native.Mathlib.Nat.{mul-le-mul, sub_self, zero-mul}
use native.Mathlib.Decide.{ℕ_discrete, dec_le}
use native.Mathlib.Omega.{arith}
use lib.ListN.{length, set, length-set}
use lib.Seq.{get_or-set_same, get_or-set_other}
use Rattle.common.proofs.Sums.{upto_term}
use Rattle.pnet_turn.specs.Turn.{at}
use Rattle.pnet_search.specs.Arrays.{asked_at, turn_in, saved_in, Kept, Slack, Opens, Fresh}
use Rattle.pnet_search.proofs.Looks.{asked_each, asked_once}
use Rattle.pnet_search.proofs.Arrays.{saved_own, saved_other, left_same}

-- ---- At W = 0

-- what the masters before m open with
pub record Opened (counts charges slacks : List ℕ) (turn k m : ℕ) (saved until : List ℕ) : Type 0 where
  pub saved_long : length saved ≡ 33
  pub until_long : length until ≡ 33
  pub each : (y : ℕ) → 1 ≤ y → y < m → Opens counts charges slacks turn k y (at saved y) (at until y)

module _ {counts charges ends pairs : List ℕ} {N turn : ℕ} (kept : Kept N turn counts charges ends pairs) (y v : ℕ) (lo : 1 ≤ y) (hi : y ≤ N) where
  turn_some : 1 ≤ turn
  unfolding turn_in
  turn_some = omega (arith, kept.turn_is, (kept.each y lo hi).charge_from, upto_term (at charges) N y lo hi)

  -- the window of a master that has a stream is not empty, as V is not
  window_some : 1 ≤ at counts y → 1 ≤ v + at counts y * turn
  window_some some = omega (arith, mul-le-mul {n₁ = 1} {m₁ = 1} {n₂ = at counts y} {m₂ = turn} some turn_some)

  -- so each of a master's streams asks at least once
  at_each : at counts y ≤ asked_at counts ends pairs turn y v
  unfolding asked_at
  at_each = asked_each pairs (at ends y - at counts y) (v + at counts y * turn) (at counts y) (kept.each y lo hi).spaced window_some

  module _ {slacks : List ℕ} (short : Slack N turn counts ends slacks pairs) where
    -- and just once until the slack of y is passed
    at_once : v ≤ at slacks y - at counts y * turn → asked_at counts ends pairs turn y v ≡ at counts y
    unfolding asked_at
    at_once l =
        asked_once pairs (at ends y - at counts y) (v + at counts y * turn) (at counts y) (kept.each y lo hi).spaced window_some (at slacks y)
        (omega (arith, short.covers y lo hi)) (λ j h. short.above_none y j lo hi h)

    -- what a search opens with is right
    opens_right : (k saved until : ℕ) → v ≤ until → Opens counts charges slacks turn k y saved until → saved ≡ saved_in counts charges ends pairs turn k v y
    opens_right k saved until l o = own (ℕ_discrete y k)
      where
        -- where y asks for m of k's visits
        other : (y ≡ k → ⊥) → (m : ℕ) → m ≡ min (at counts k) (asked_at counts ends pairs turn y v) → saved ≡ (at counts k - m) * (at charges y - 10)
            → saved ≡ saved_in counts charges ends pairs turn k v y
        other z m e q = q ∙ (left_same (at counts k) (at charges y) e ∙ saved_other counts charges ends pairs turn k v y z)

        many : (y ≡ k → ⊥) → Dec (at counts k ≤ at counts y) → saved ≡ saved_in counts charges ends pairs turn k v y
        many z (yes h) =
            let e : (at counts k - at counts k) * (at charges y - 10) ≡ 0 = rw sub_self (zero-mul (at charges y - 10)) in
            other z (at counts k) (omega (arith, at_each)) ((o.never h).0 ∙ sym e)
        many z (no h) =
            let q = o.once (omega (arith, h)) in
            other z (at counts y) (omega (arith, h, at_once (omega (arith, q.1)))) q.0

        own : Dec (y ≡ k) → saved ≡ saved_in counts charges ends pairs turn k v y
        own (yes q) = (o.never (omega (arith, ap (at counts) q))).0 ∙ saved_own counts charges ends pairs turn k v y q
        own (no z) = many z (dec_le (at counts k) (at counts y))

pub fresh_opens : {counts charges ends slacks pairs : List ℕ} {N turn k : ℕ} {saved until : List ℕ}
    → Kept N turn counts charges ends pairs → Slack N turn counts ends slacks pairs → 1 ≤ k → k ≤ N → length saved ≡ 33 → length until ≡ 33
    → ((y : ℕ) → 1 ≤ y → y ≤ N → Opens counts charges slacks turn k y (at saved y) (at until y)) → Fresh counts charges ends pairs N turn k 0 saved until
fresh_opens {k = k} {saved} {until} kept short lo hi a b opens =
    record {
      saved_long = a;
      until_long = b;
      own = omega (arith, ((opens k lo hi).never (omega arith)).1);
      right = λ y v from to _ l. opens_right kept y v from to short k (at saved y) (at until y) l (opens y from to);
    }

-- ---- From W on

module _ {counts charges ends pairs : List ℕ} {N turn k w : ℕ} {saved until : List ℕ} (fresh : Fresh counts charges ends pairs N turn k w saved until) where
  pub fresh_later : (x : ℕ) → w ≤ x → Fresh counts charges ends pairs N turn k x saved until
  fresh_later x l =
      record {
        saved_long = fresh.saved_long;
        until_long = fresh.until_long;
        own = fresh.own;
        right = λ y v lo hi a b. fresh.right y v lo hi (omega arith) b;
      }

  -- what holds no longer is not k's own
  passed_other : (y : ℕ) → w ≤ 4083200 → at until y < w → y ≡ k → ⊥
  passed_other y l h e = omega (arith, fresh.own, ap (at until) e)

  -- a look anew at y
  module _ (y x u : ℕ) (inside : y ≤ 32) (other : y ≡ k → ⊥)
      (right : (v : ℕ) → w ≤ v → v ≤ u → x ≡ (at counts k - min (at counts k) (asked_at counts ends pairs turn y v)) * (at charges y - 10)) where
    again_right : (z v : ℕ) → Dec (z ≡ y) → 1 ≤ z → z ≤ N → w ≤ v → v ≤ at (set until y u) z → at (set saved y x) z ≡ saved_in counts charges ends pairs turn k v z
    again_right z v (yes q) lo hi a b =
        ap (at (set saved y x)) q
        ∙ (get_or-set_same saved y x 0 (omega (arith, fresh.saved_long))
        ∙ (right v a (omega (arith, ap (at (set until y u)) q, get_or-set_same until y u 0 (omega (arith, fresh.until_long))))
        ∙ (saved_other counts charges ends pairs turn k v y other ∙ ap (saved_in counts charges ends pairs turn k v) (sym q))))
    again_right z v (no q) lo hi a b = get_or-set_other saved y z x 0 q ∙ fresh.right z v lo hi a (omega (arith, get_or-set_other until y z u 0 q))

    fresh_again : Fresh counts charges ends pairs N turn k w (set saved y x) (set until y u)
    fresh_again =
        record {
          saved_long = length-set saved y x ∙ fresh.saved_long;
          until_long = length-set until y u ∙ fresh.until_long;
          own = omega (arith, fresh.own, get_or-set_other until y k u 0 (λ e. other (sym e)));
          right = λ z v. again_right z v (ℕ_discrete z y);
        }

-- at W: what is kept is right from W on, and of y it reaches W
pub record Renewed (counts charges ends pairs : List ℕ) (N turn k w y : ℕ) (saved until : List ℕ) : Type 0 where
  pub fresh : Fresh counts charges ends pairs N turn k w saved until
  pub reaches : w ≤ at until y

-- it did so before, or y is looked at anew
module _ {counts charges ends pairs : List ℕ} {N turn k w : ℕ} {saved until : List ℕ} (fresh : Fresh counts charges ends pairs N turn k w saved until)
    (y : ℕ) (saved' until' : List ℕ) where
  pub renewed_still : w ≤ at until y → saved' ≡ saved → until' ≡ until → Renewed counts charges ends pairs N turn k w y saved' until'
  renewed_still l e q = rw (e, q) (record { fresh = fresh; reaches = l })

  pub renewed_anew : (x u : ℕ) → y ≤ 32 → w ≤ 4083200 → at until y < w
      → (w ≤ u) × ((v : ℕ) → w ≤ v → v ≤ u → x ≡ (at counts k - min (at counts k) (asked_at counts ends pairs turn y v)) * (at charges y - 10))
      → saved' ≡ set saved y x → until' ≡ set until y u → Renewed counts charges ends pairs N turn k w y saved' until'
  renewed_anew x u inside small passed right e q =
      rw (e, q)
      (record {
        fresh = fresh_again fresh y x u inside (passed_other fresh y small passed) right.1;
        reaches = omega (arith, right.0, get_or-set_same until y u 0 (omega (arith, fresh.until_long)));
      })
