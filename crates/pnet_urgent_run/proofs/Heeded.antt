-- The streams that a request of stream i has to wait for, i itself among them: how many of their requests a list has, and how many of them can come within x.
-- Assumes nothing.
use Prim.Native.Nat.{ℕ, suc, ◌+◌, ◌*◌, ◌≤◌, ◌<◌}
use mathlib.Core.Path.{◌≡◌, refl, sym, ap, ◌∙◌}
use mathlib.Core.Bool.{Bool, true, false, ◌&&◌, ◌||◌, false≢true}
use mathlib.Core.Logic.{◌≢◌, inl, inr, ⊎_elim}
use mathlib.Core.List.Memᴰ
use mathlib.Core.List.{List, [], ◌∷◌, ◌++◌, Memᴰ}
use native.Mathlib.Nat.{zero-add}
use native.Mathlib.Omega.{arith}
use lib.Dec.{eqb, leb}
use lib.ListN.{length}
use borrow.Author.Tests.{eq-eqb, ne_eqb, eqb-true}
use Rattle.common.specs.Sums.{when, upto, up}
use Rattle.common.proofs.Sums.{upto_mono, upto_add, upto_only, upto_but_one, upto_term, up_covers}
use Rattle.pnet_rules.specs.Segment.{Segment}
use Rattle.pnet_rules.specs.Limits.{Declared}
use Rattle.pnet_urgent_rules.specs.Urgent.{ahead, behind, blocked, ahead_in}
use Rattle.pnet_urgent_rules.proofs.Order.{ahead_then, ahead_either, ahead_through}
use Rattle.pnet_run.specs.Run.{Belongs, Request, request}
use Rattle.pnet_run.proofs.Counts.{came_since}
use Rattle.pnet_run.proofs.Spacing.{InOrder}
use Rattle.pnet_run.proofs.Window.{window_with_jitter}
use Rattle.pnet_urgent_run.specs.Stack.{Taken, here, further}
use Rattle.pnet_urgent_run.specs.Promise.{UpTo, SpacedUpTo}

-- ---- Which they are

module _ (S : Segment) (i : ℕ) where
  unfoldable pub heeded : ℕ → Bool
  heeded j = eqb j i || ahead S i j

  pub heeded_then : (j : ℕ) → heeded j ≡ true → UpTo S i j
  unfolding heeded
  heeded_then j = by (eqb j i) (ahead S i j) refl refl
    where
      by : (a b : Bool) → eqb j i ≡ a → ahead S i j ≡ b → (a || b) ≡ true → UpTo S i j
      by true b e f h = inl (eqb-true j i e)
      by false true e f h = inr f
      by false false e f h = absurd (false≢true h)

  pub heeded_itself : heeded i ≡ true
  unfolding heeded
  heeded_itself = rw (eq-eqb i i refl)

  pub heeded_master : (j : ℕ) → heeded j ≡ true → (S.stream j).master ≡ (S.stream i).master
  heeded_master j e =
      ⊎_elim (λ (a : j ≡ i). ap (λ (u : ℕ). (S.stream u).master) a) (λ (a : ahead S i j ≡ true). (ahead_then S i j a).one_master) (heeded_then j e)

  -- each other stream of the master is behind i
  pub behind_it : (j : ℕ) → (S.stream j).master ≡ (S.stream i).master → heeded j ≡ false → ahead S j i ≡ true
  unfolding heeded
  behind_it j m h = ahead_either S i j m (λ e. false≢true (sym h ∙ rw (← e, eq-eqb i i refl))) (second (eqb j i) (ahead S i j) h)
    where
      second : (a b : Bool) → (a || b) ≡ false → b ≡ false
      second true b g = absurd (false≢true (sym g))
      second false b g = g

  -- and so behind all of them
  pub behind_all : (j p : ℕ) → (S.stream j).master ≡ (S.stream i).master → heeded j ≡ false → heeded p ≡ true → ahead S j p ≡ true
  behind_all j p m h e =
      ⊎_elim (λ (a : p ≡ i). rw a (behind_it j m h)) (λ (a : ahead S i p ≡ true). ahead_through S j i p (behind_it j m h) a) (heeded_then p e)

  -- so where there is one, b is 1
  pub then_blocked : (j : ℕ) → Belongs S (S.stream i).master j → heeded j ≡ false → blocked S i ≡ 1
  unfolding blocked behind
  then_blocked j own h =
      let some = upto_term (λ u. when (ahead S u i) 1) S.number j own.from_one own.to_last in
      let one : 1 ≤ upto (λ u. when (ahead S u i) 1) S.number = omega (arith, rw (behind_it j own.own h) at some) in
      rw (ne_eqb (upto (λ u. when (ahead S u i) 1) S.number) 0 (λ e. omega arith))

-- ---- Requests of theirs in a list

-- of the streams for which the test holds
unfoldable pub tally : (ℕ → Bool) → List Request → ℕ
tally f [] = 0
tally f (r ∷ l) = when (f r.of) 1 + tally f l

module _ (f : ℕ → Bool) where
  pub tally_none : tally f [] ≡ 0
  unfolding tally
  tally_none = refl

  pub tally_first : (r : Request) (l : List Request) → tally f (r ∷ l) ≡ when (f r.of) 1 + tally f l
  unfolding tally
  tally_first r l = refl

  pub tally_behind : (l : List Request) (r : Request) → tally f (l ++ (r ∷ [])) ≡ tally f l + when (f r.of) 1
  unfolding tally
  tally_behind [] r = omega arith
  tally_behind (p ∷ l) r = omega (arith, tally_behind l r)

  pub tally_taken : {r : Request} {l rest : List Request} → Taken r l rest → tally f l ≡ when (f r.of) 1 + tally f rest
  unfolding tally
  tally_taken here = refl
  tally_taken (further out) = omega (arith, tally_taken out)

  pub tally_most : (l : List Request) → tally f l ≤ length l
  unfolding tally
  tally_most [] = omega arith
  tally_most (r ∷ l) = go (f r.of) (tally_most l)
    where
      go : (b : Bool) → tally f l ≤ length l → when b 1 + tally f l ≤ suc (length l)
      go true m = omega arith
      go false m = omega arith

  pub tally_in : (l : List Request) (p : Request) → Memᴰ p l → f p.of ≡ true → 1 ≤ tally f l
  unfolding tally
  tally_in [] p j e = absurd (Memᴰ.not-nil j)
  tally_in (r ∷ l) p j e =
      ⊎_elim (λ (a : p ≡ r). rw (← a, e) (omega arith)) (λ (c : Memᴰ p l). omega (arith, tally_in l p c e)) (Memᴰ.cases_cons j)

  pub tally_some : (l : List Request) → 1 ≤ tally f l → (p : Request) × Memᴰ p l × (f p.of ≡ true)
  unfolding tally
  tally_some [] n = absurd (omega arith)
  tally_some (r ∷ l) n = go (f r.of) refl n (tally_some l)
    where
      go : (b : Bool) → f r.of ≡ b → 1 ≤ when b 1 + tally f l → (1 ≤ tally f l → (p : Request) × Memᴰ p l × (f p.of ≡ true))
          → (p : Request) × Memᴰ p (r ∷ l) × (f p.of ≡ true)
      go true e m rest = (r, Memᴰ.head refl, e)
      go false e m rest = let p = rest (omega arith) in (p.0, Memᴰ.tail p.1, p.2)

-- ---- Requests of theirs that came since lo

-- of those of streams 1..n for which the test holds
unfoldable pub arrived : (ℕ → Bool) → ℕ → ℕ → List Request → ℕ
arrived f n lo came = upto (λ j. when (f j) (came_since j lo came)) n

-- one more
pub arrived_more : (f : ℕ → Bool) (n lo : ℕ) (r : Request) (came : List Request) → 1 ≤ r.of → r.of ≤ n
    → arrived f n lo (r ∷ came) ≡ when (f r.of && leb lo r.since) 1 + arrived f n lo came
unfolding arrived came_since
arrived_more f n lo r came a b = omega (arith, upto_but_one before after n r.of a b others, own (f r.of) (leb lo r.since) (came_since r.of lo came))
  where
    before : ℕ → ℕ
    before j = when (f j) (came_since j lo came)

    after : ℕ → ℕ
    after j = when (f j) (when (eqb r.of j && leb lo r.since) 1 + came_since j lo came)

    others : (j : ℕ) → j ≢ r.of → before j ≡ after j
    others j e = rw (ne_eqb r.of j (λ z. e (sym z)), zero-add)

    own : (x y : Bool) (c : ℕ) → when x (when (eqb r.of r.of && y) 1 + c) ≡ when (x && y) 1 + when x c
    own true y c = rw (eq-eqb r.of r.of refl)
    own false y c = refl

-- where those streams keep their spacing, at most 1 of i itself and x/T of each ahead come within x
module _ (S : Segment) (declared : Declared S) (i x : ℕ) (from : 1 ≤ i) (to : i ≤ S.number) (in_time : x ≤ (S.stream i).deadline) where
  pub arrived_most : (lo : ℕ) (came : List Request) → SpacedUpTo S i came → InOrder came → ((r : Request) → Memᴰ r came → r.since < lo + x)
      → arrived (heeded S i) S.number lo came ≤ 1 + ahead_in S i x
  unfolding arrived heeded ahead_in
  arrived_most lo came spaced order before =
      omega (
        arith,
        upto_mono (λ j. when (eqb j i || ahead S i j) (came_since j lo came)) (λ j. when (eqb j i) 1 + share j) S.number
            (λ j a b. each j a b (eqb j i) (ahead S i j) refl refl),
        upto_add (λ j. when (eqb j i) 1) share S.number,
        upto_only 1 i S.number from to,
      )
    where
      share : ℕ → ℕ
      share j = when (ahead S i j) (up (x + (S.stream j).jitter) (S.stream j).spacing)

      -- a window of x and J
      some : (n j : ℕ) → 1 ≤ j → j ≤ S.number → UpTo S i j → x + (S.stream j).jitter ≤ n * (S.stream j).spacing → came_since j lo came ≤ n
      some n j a b u short =
          window_with_jitter lo (lo + x) n (declared.ranges j a b).jitter_to (omega arith) order (spaced j u a b).1 (λ at m. before (request j at) m) (omega arith)

      each : (j : ℕ) → 1 ≤ j → j ≤ S.number → (own earlier : Bool) → eqb j i ≡ own → ahead S i j ≡ earlier
          → when (own || earlier) (came_since j lo came) ≤ when own 1 + when earlier (up (x + (S.stream j).jitter) (S.stream j).spacing)
      each j a b true earlier e f =
          let is : j ≡ i = eqb-true j i e in
          let r = declared.ranges j a b in
          omega (arith, some 1 j a b (inl is) (omega (arith, r.deadline_to, r.jitter_to, ap (λ (u : ℕ). (S.stream u).deadline) is)))
      each j a b false true e f =
          let enough = up_covers (x + (S.stream j).jitter) (S.stream j).spacing (declared.ranges j a b).spacing_from in
          omega (arith, some (up (x + (S.stream j).jitter) (S.stream j).spacing) j a b (inr f) enough)
      each j a b false false e f = omega arith
