-- The page's runs, which serve the oldest first, are among those of a stack whose masters hand down what they like: same arrivals, same answers, same instants. A master whose
-- stack is empty when the token comes hands down its oldest then. Assumes nothing.
use Prim.Native.Nat.{ℕ, ◌≤◌}
use mathlib.Core.Path.{◌≡◌, refl, sym, ap, ◌∙◌}
use mathlib.Core.List.{List, [], ◌∷◌, ◌++◌, append_assoc}
use native.Mathlib.Decide.{ℕ_discrete}
use native.Mathlib.Omega.{arith}
use lib.ListN.{length}
use Rattle.pnet_rules.specs.Segment.{Segment}
use Rattle.pnet_run.specs.Run.{
  Request,
  request,
  Answer,
  Queues,
  put,
  Token,
  toward,
  on_way,
  RunBy,
  Run,
  start,
  complete,
  arrive,
  move,
  travel,
  work,
  serve,
  skip,
}
use Rattle.pnet_run.proofs.Keeping.{put_same, put_other}
use Rattle.pnet_urgent_run.specs.Stack.{Held, held, here, Sends, stacked}
use Rattle.pnet_urgent_run.proofs.Kept.{one_in_stack}
use Rattle.pnet_urgent_run.proofs.Progress.{full}

-- no master has to hand down the most urgent
abbrev pub Nobody : ℕ → Type 0
Nobody m = ⊥

-- in the stack and above it, the oldest first
abbrev in_order : Held → List Request
in_order now = now.stack ++ now.waiting

pub record Mirror (S : Segment) (t : ℕ) (y : Token) (q : Queues) (came : List Request) (went : List Answer) : Type 0 where
  pub kept : ℕ → Held
  pub run : RunBy (stacked S Nobody) S t y kept came went
  pub same : (m : ℕ) → q m ≡ in_order (kept m)

-- one master's queue changes on both sides
same_put : (q : Queues) (s : ℕ → Held) (m : ℕ) (l : List Request) (now : Held) → l ≡ in_order now → ((y : ℕ) → q y ≡ in_order (s y))
    → (y : ℕ) → put q m l y ≡ in_order (put s m now y)
same_put q s m l now e same y = go (ℕ_discrete y m)
  where
    go : Dec (y ≡ m) → put q m l y ≡ in_order (put s m now y)
    go (yes z) = rw (z, put_same q m l, put_same s m now) e
    go (no n) = rw (put_other q m l y n, put_other s m now y n) (same y)

-- the one in a full stack is the oldest
oldest : {r : Request} {rest : List Request} (s w : List Request) → r ∷ rest ≡ s ++ w → 1 ≤ length s → length s ≤ 1 → (s ≡ r ∷ []) × (rest ≡ w)
oldest [] w e a b = absurd (omega arith)
oldest (p ∷ []) w e a b = (cc, cc)
oldest (p ∷ u ∷ s) w e a b = absurd (omega arith)

-- nothing in order is nothing at all
none : (s w : List Request) → [] ≡ s ++ w → (s ≡ []) × (w ≡ [])
none [] w e = (refl, sym e)
none (p ∷ s) w e = let z : ◌≡◌ {A = ℕ} 0 1 = cc in absurd (omega arith)

module _ (S : Segment) where
  -- what is oldest is in the stack before it is served
  ready : {t m : ℕ} {q : Queues} {r : Request} {rest came : List Request} {went : List Answer} → q m ≡ r ∷ rest → (x : Mirror S t (toward m 0) q came went)
      → (s w : List Request) → (x.kept m).stack ≡ s → (x.kept m).waiting ≡ w → (x : Mirror S t (toward m 0) q came went) × Sends (x.kept m) r (held [] rest)
  ready {m = m} {q = q} {r = r} {rest = rest} p x [] w e f = (
    record {
      kept = put x.kept m (held (r ∷ []) rest);
      run = move {m = m} {left = held (r ∷ []) rest} x.run on_way
          (rw e (omega arith), record { handed = r; out = rw waits here; into = rw e refl; picked = λ never. absurd never });
      same = λ y. go y (ℕ_discrete y m);
    },
    record { sent = ap (λ (now : Held). now.stack) after; others = sym (ap (λ (now : Held). now.waiting) after) },
  )
    where
      waits : (x.kept m).waiting ≡ r ∷ rest
      waits = sym (sym p ∙ x.same m ∙ ap (λ (l : List Request). l ++ (x.kept m).waiting) e)

      after : put x.kept m (held (r ∷ []) rest) m ≡ held (r ∷ []) rest
      after = put_same x.kept m (held (r ∷ []) rest)

      go : (y : ℕ) → Dec (y ≡ m) → q y ≡ in_order (put x.kept m (held (r ∷ []) rest) y)
      go y (yes z) = rw (z, after) p
      go y (no n) = rw (put_other x.kept m (held (r ∷ []) rest) y n) (x.same y)
  ready {m = m} {r = r} {rest = rest} p x (a ∷ s) w e f =
      let o = oldest (x.kept m).stack (x.kept m).waiting (sym p ∙ x.same m) (omega (arith, ap length e)) (one_in_stack x.run m) in
      (x, record { sent = o.0; others = o.1 })

  pub first_come_is_among_them : {t : ℕ} {y : Token} {q : Queues} {came : List Request} {went : List Answer} → Run S t y q came went → Mirror S t y q came went
  first_come_is_among_them (start {d = d} a b c) = record { kept = λ y. held [] []; run = start {d = d} a b c; same = λ m. refl }
  first_come_is_among_them (complete {m = m} {q = q} {r = r} {rest = rest} z p) =
      let x = first_come_is_among_them z in
      let o = oldest (x.kept m).stack (x.kept m).waiting (sym p ∙ x.same m) (full S Nobody x.run) (one_in_stack x.run m) in
      record {
        kept = put x.kept m (held [] rest);
        run = complete x.run (record { sent = o.0; others = o.1 });
        same = same_put q x.kept m rest (held [] rest) refl x.same;
      }
  first_come_is_among_them (arrive {t = t} {m = m} {i = i} {q = q} z o d) =
      let x = first_come_is_among_them z in
      record {
        kept = put x.kept m (held (x.kept m).stack ((x.kept m).waiting ++ (request i t ∷ [])));
        run = arrive x.run o d;
        same = same_put q x.kept m (q m ++ (request i t ∷ [])) (held (x.kept m).stack ((x.kept m).waiting ++ (request i t ∷ [])))
            (rw (x.same m) (append_assoc (x.kept m).stack (x.kept m).waiting (request i t ∷ []))) x.same;
      }
  first_come_is_among_them (move _ _ never) = elim never [ ]
  first_come_is_among_them (travel e z) = let x = first_come_is_among_them z in record { kept = x.kept; run = travel e x.run; same = x.same }
  first_come_is_among_them (work e z) = let x = first_come_is_among_them z in record { kept = x.kept; run = work e x.run; same = x.same }
  first_come_is_among_them (serve {m = m} {c = left} e u v z p a b c d f g) =
      let x = first_come_is_among_them z in
      let w = ready p x (x.kept m).stack (x.kept m).waiting refl refl in
      record { kept = w.0.kept; run = serve {c = left} e u v w.0.run w.1 a b c d f g; same = w.0.same }
  first_come_is_among_them (skip {m = m} {d = left} e z p a b) =
      let x = first_come_is_among_them z in
      let n = none (x.kept m).stack (x.kept m).waiting (sym p ∙ x.same m) in
      record { kept = x.kept; run = skip {d = left} e x.run (record { no_stack = n.0; none_waits = n.1 }) a b; same = x.same }
