-- No run is ever stuck, whichever masters hand down the most urgent first: each goes on to a later instant, with no further arrival. So the promises of Figures are about
-- runs that last as long as one likes. Assumes nothing.
use Prim.Native.Nat.{ℕ, zero, suc, ◌+◌, ◌≤◌, ◌<◌}
use mathlib.Core.Path.{◌≡◌, refl, sym, ap, ◌∙◌}
use mathlib.Core.Bool.{Bool, true, false, true≢false}
use mathlib.Core.Logic.{inl, ⊎_elim}
use mathlib.Core.List.Memᴰ
use mathlib.Core.List.{List, [], ◌∷◌, Memᴰ}
use native.Mathlib.Omega.{arith}
use lib.ListN.{length}
use Rattle.pnet_rules.specs.Segment.{Segment}
use Rattle.pnet_rules.specs.Limits.{Declared}
use Rattle.pnet_urgent_rules.specs.Urgent.{ahead}
use Rattle.pnet_urgent_rules.proofs.Order.{ahead_itself, ahead_through}
use Rattle.pnet_run.specs.Run.{
  Belongs,
  Request,
  Answer,
  put,
  Token,
  toward,
  serving,
  on_way,
  RunBy,
  start,
  complete,
  arrive,
  move,
  travel,
  work,
  serve,
  skip,
}
use Rattle.pnet_run.proofs.Charges.{some_cycle}
use Rattle.pnet_run.proofs.Keeping.{put_same, put_relates, owned_by}
use Rattle.pnet_urgent_run.specs.Stack.{Held, held, Taken, here, further, MostUrgent, Sends, stacked}
use Rattle.pnet_urgent_run.proofs.Kept.{stacked_keeps, length_snoc}

-- ---- Of those that wait, one is most urgent

module _ (S : Segment) (r : Request) where
  pub most_none : MostUrgent S r []
  most_none p j = absurd (Memᴰ.not-nil j)

  pub most_and : {a : Request} {l : List Request} → ahead S r.of a.of ≡ false → MostUrgent S r l → MostUrgent S r (a ∷ l)
  most_and {a} {l} e m p j = ⊎_elim (λ (q : p ≡ a). rw q e) (λ (c : Memᴰ p l). m p c) (Memᴰ.cases_cons j)

  pub alone : MostUrgent S r (r ∷ [])
  alone = most_and (ahead_itself S r.of) most_none

pub record Picked (S : Segment) (l : List Request) : Type 0 where
  pub picked : Request
  pub rest : List Request
  pub out : Taken picked l rest
  pub most : MostUrgent S picked l

pub pick : (S : Segment) (r : Request) (l : List Request) → Picked S (r ∷ l)
pick S r [] = record {
  picked = r;
  rest = [];
  out = here;
  most = λ p j. ⊎_elim (λ (e : p ≡ r). rw e (ahead_itself S r.of)) (λ (c : Memᴰ p []). absurd (Memᴰ.not-nil c)) (Memᴰ.cases_cons j);
}
pick S r (s ∷ l) = better (pick S s l)
  where
    better : Picked S (s ∷ l) → Picked S (r ∷ s ∷ l)
    better x = go (ahead S x.picked.of r.of) refl
      where
        behind : ahead S x.picked.of r.of ≡ true → (p : Request) → Memᴰ p (s ∷ l) → (b : Bool) → ahead S r.of p.of ≡ b → b ≡ false
        behind e p c true f = absurd (true≢false (sym (ahead_through S x.picked.of r.of p.of e f) ∙ x.most p c))
        behind e p c false f = refl

        go : (b : Bool) → ahead S x.picked.of r.of ≡ b → Picked S (r ∷ s ∷ l)
        go true e = record {
          picked = r;
          rest = s ∷ l;
          out = here;
          most = λ p j. ⊎_elim (λ (q : p ≡ r). rw q (ahead_itself S r.of)) (λ (c : Memᴰ p (s ∷ l)). behind e p c (ahead S r.of p.of) refl) (Memᴰ.cases_cons j);
        }
        go false e = record {
          picked = x.picked;
          rest = r ∷ x.rest;
          out = further x.out;
          most = λ p j. ⊎_elim (λ (q : p ≡ r). rw q e) (λ (c : Memᴰ p (s ∷ l)). x.most p c) (Memᴰ.cases_cons j);
        }

-- ---- A master that serves has a request in its stack

abbrev pub Full : Token → (ℕ → Held) → Type 0
Full (toward m d) q = Unit {0}
Full (serving m c) q = 1 ≤ length (q m).stack

still_full : (y : Token) (q : ℕ → Held) (o : ℕ) (l : Held) → length (q o).stack ≤ length l.stack → Full y q → Full y (put q o l)
still_full (toward m d) q o l more f = tt
still_full (serving m c) q o l more f =
    put_relates (λ z a b. 1 ≤ length a.stack → 1 ≤ length b.stack) q o l (λ s. omega arith) (λ z a s. s) m f

module _ (S : Segment) (U : ℕ → Type 0) where
  pub full : {t : ℕ} {y : Token} {q : ℕ → Held} {came : List Request} {went : List Answer} → RunBy (stacked S U) S t y q came went → Full y q
  full (start a b c) = tt
  full (complete z p) = tt
  full (arrive {m = m} {y = y} {q = q} z o d) = still_full y q m _ (omega arith) (full z)
  full (move {m = m} {y = y} {q = q} {left = left} z o p) =
      still_full y q m left (omega (arith, ap length p.1.into, length_snoc (q m).stack p.1.handed)) (full z)
  full (travel e z) = tt
  full (work e z) = full z
  full (serve e x c z p a b d f g o) = omega (arith, ap length p.sent)
  full (skip e z p a b) = tt

  -- ---- One bp more

  pub record Later (t : ℕ) (came : List Request) : Type 0 where
    pub now : ℕ
    pub later : t < now
    pub token : Token
    pub kept : ℕ → Held
    pub went : List Answer
    pub run : RunBy (stacked S U) S now token kept came went

  one_bp : {t : ℕ} {y : Token} {q : ℕ → Held} {came : List Request} {went : List Answer} → RunBy (stacked S U) S (t + 1) y q came went → Later t came
  one_bp {t} {y} {q} {came} {went} z = record { now = t + 1; later = omega arith; token = y; kept = q; went = went; run = z }

  one_more : (d : ℕ) → suc d ≡ 1 + d
  one_more d = omega arith

  module _ (declared : Declared S) where
    -- what is in the stack is sent
    sends : {t m : ℕ} {q : ℕ → Held} {r : Request} {l came : List Request} {went : List Answer} → RunBy (stacked S U) S t (toward m 0) q came went
        → (q m).stack ≡ r ∷ l → Later t came
    sends {m = m} {q = q} {r = r} {l = l} z e =
        let p : Sends (q m) r (held l (q m).waiting) = record { sent = e; others = refl } in
        let own : Belongs S m r.of = owned_by (stacked_keeps S U) z m r (inl (rw e (Memᴰ.head refl))) in
        one_bp (serve {c = 2} 1 2 1 z p (omega arith) (omega arith) (omega arith) (some_cycle declared own) (omega arith) (omega arith))

    -- the most urgent is handed down first, if the stack is empty
    hands : {t m : ℕ} {q : ℕ → Held} {r : Request} {l came : List Request} {went : List Answer} → RunBy (stacked S U) S t (toward m 0) q came went
        → (q m).stack ≡ [] → (q m).waiting ≡ r ∷ l → Later t came
    hands {m = m} {q = q} {r = r} {l = l} z e w =
        sends {r = x.picked} {l = []}
        (move {m = m} {left = held (x.picked ∷ []) x.rest} z on_way
        (omega (arith, ap length e), record { handed = x.picked; out = rw w x.out; into = rw e refl; picked = λ u. rw w x.most }))
        (ap (λ (s : Held). s.stack) (put_same q m (held (x.picked ∷ []) x.rest)))
      where
        x : Picked S (r ∷ l)
        x = pick S r l

    at_master : {t m : ℕ} {q : ℕ → Held} {came : List Request} {went : List Answer} → RunBy (stacked S U) S t (toward m 0) q came went → (s w : List Request)
        → (q m).stack ≡ s → (q m).waiting ≡ w → Later t came
    at_master z (r ∷ s) w e f = sends z e
    at_master z [] (r ∷ w) e f = hands z e f
    at_master z [] [] e f = one_bp (skip {d = 9} 1 z (record { no_stack = e; none_waits = f }) (omega arith) (omega arith))

    on_its_way : {t m : ℕ} (d : ℕ) {q : ℕ → Held} {came : List Request} {went : List Answer} → RunBy (stacked S U) S t (toward m d) q came went → Later t came
    on_its_way {m = m} zero {q} z = at_master z (q m).stack (q m).waiting refl refl
    on_its_way (suc d) z = one_bp (travel {d = d} 1 (rw (one_more d) at z))

    ends : {t m : ℕ} {q : ℕ → Held} {came : List Request} {went : List Answer} → RunBy (stacked S U) S t (serving m 0) q came went → (s : List Request)
        → (q m).stack ≡ s → Later t came
    ends {m = m} {q = q} z [] e = absurd (omega (arith, full z, ap length e))
    ends {m = m} {q = q} z (r ∷ s) e = on_its_way _ (complete {r = r} {rest = held s (q m).waiting} z (record { sent = e; others = refl }))

    pub no_run_is_stuck : {t : ℕ} (y : Token) {q : ℕ → Held} {came : List Request} {went : List Answer} → RunBy (stacked S U) S t y q came went → Later t came
    no_run_is_stuck (toward m d) z = on_its_way d z
    no_run_is_stuck (serving m zero) {q} z = ends z (q m).stack refl
    no_run_is_stuck (serving m (suc c)) z = one_bp (work {c = c} 1 (rw (one_more c) at z))
