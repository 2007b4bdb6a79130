-- A stack with a queue above it loses no request and makes none up, and `stacked` never has more than one in the stack. Assumes nothing.
use Prim.Native.Nat.{ℕ, suc, ◌≤◌}
use mathlib.Core.Path.{◌≡◌, refl, ap}
use mathlib.Core.Logic.{◌⊎◌, inl, inr, ⊎_elim}
use mathlib.Core.List.Memᴰ
use mathlib.Core.List.{List, [], ◌∷◌, ◌++◌, Memᴰ}
use native.Mathlib.Omega.{arith}
use lib.ListN.{length, length-append}
use Rattle.pnet_rules.specs.Segment.{Segment}
use Rattle.pnet_run.specs.Run.{Request, Answer, Token, RunBy, start, complete, arrive, move, travel, work, serve, skip}
use Rattle.pnet_run.proofs.Keeping.{Keeps, put_relates}
use Rattle.pnet_run.proofs.Queues.{behind_last, behind_last_too}
use Rattle.pnet_urgent_run.specs.Stack.{Held, held, Taken, here, further, HandsDown, Sends, stack_of, one, stacked}

-- ---- What is taken out of a list, and what is left

pub taken_cases : {r : Request} {l rest : List Request} → Taken r l rest → (p : Request) → Memᴰ p l → (p ≡ r) ⊎ Memᴰ p rest
taken_cases here p j = Memᴰ.cases_cons j
taken_cases {r} (further {p = s} {l = l} {rest = rest} out) p j =
    ⊎_elim (λ (e : p ≡ s). inr (Memᴰ.head e))
    (λ (c : Memᴰ p l). ⊎_elim (λ (e : p ≡ r). inl e) (λ (d : Memᴰ p rest). inr (Memᴰ.tail d)) (taken_cases out p c))
    (Memᴰ.cases_cons j)

pub taken_was : {r : Request} {l rest : List Request} → Taken r l rest → Memᴰ r l
taken_was here = Memᴰ.head refl
taken_was (further out) = Memᴰ.tail (taken_was out)

pub left_was : {r : Request} {l rest : List Request} → Taken r l rest → (p : Request) → Memᴰ p rest → Memᴰ p l
left_was here p j = Memᴰ.tail j
left_was (further {p = s} {l = l} {rest = rest} out) p j =
    ⊎_elim (λ (e : p ≡ s). Memᴰ.head e) (λ (c : Memᴰ p rest). Memᴰ.tail (left_was out p c)) (Memᴰ.cases_cons j)

-- ---- None is lost

-- p is in the stack, or waits
abbrev pub InHeld : Held → Request → Type 0
InHeld now p = Memᴰ p now.stack ⊎ Memᴰ p now.waiting

pub join_in : (now : Held) (r p : Request) → InHeld (held now.stack (now.waiting ++ (r ∷ []))) p → (p ≡ r) ⊎ InHeld now p
join_in now r p =
    ⊎_elim (λ (j : Memᴰ p now.stack). inr (inl j))
    (λ (j : Memᴰ p (now.waiting ++ (r ∷ []))).
    ⊎_elim (λ (e : p ≡ r). inl e) (λ (c : Memᴰ p now.waiting). inr (inr c)) (behind_last now.waiting r p j))

pub join_out : (now : Held) (r p : Request) → (p ≡ r) ⊎ InHeld now p → InHeld (held now.stack (now.waiting ++ (r ∷ []))) p
join_out now r p =
    ⊎_elim (λ (e : p ≡ r). inr (behind_last_too now.waiting r p (inl e)))
    (⊎_elim (λ (j : Memᴰ p now.stack). inl j) (λ (j : Memᴰ p now.waiting). inr (behind_last_too now.waiting r p (inr j))))

pub down_in : {S : Segment} {U : Type 0} (now after : Held) → HandsDown S U now after → (p : Request) → InHeld after p → InHeld now p
down_in now after d p =
    ⊎_elim
    (λ (j : Memᴰ p after.stack).
    ⊎_elim (λ (e : p ≡ d.handed). inr (rw e (taken_was d.out))) (λ (c : Memᴰ p now.stack). inl c)
    (behind_last now.stack d.handed p (rw d.into at j)))
    (λ (j : Memᴰ p after.waiting). inr (left_was d.out p j))

pub down_out : {S : Segment} {U : Type 0} (now after : Held) → HandsDown S U now after → (p : Request) → InHeld now p → InHeld after p
down_out now after d p =
    ⊎_elim (λ (j : Memᴰ p now.stack). inl (rw d.into (behind_last_too now.stack d.handed p (inr j))))
    (λ (j : Memᴰ p now.waiting).
    ⊎_elim (λ (e : p ≡ d.handed). inl (rw d.into (behind_last_too now.stack d.handed p (inl e)))) (λ (c : Memᴰ p after.waiting). inr c)
    (taken_cases d.out p j))

pub send_in : (now after : Held) (r : Request) → Sends now r after → (p : Request) → InHeld now p → (p ≡ r) ⊎ InHeld after p
send_in now after r s p =
    ⊎_elim
    (λ (j : Memᴰ p now.stack). ⊎_elim (λ (e : p ≡ r). inl e) (λ (c : Memᴰ p after.stack). inr (inl c)) (Memᴰ.cases_cons (rw s.sent at j)))
    (λ (j : Memᴰ p now.waiting). inr (inr (rw s.others j)))

pub send_out : (now after : Held) (r : Request) → Sends now r after → (p : Request) → (p ≡ r) ⊎ InHeld after p → InHeld now p
send_out now after r s p =
    ⊎_elim (λ (e : p ≡ r). inl (rw s.sent (Memᴰ.head e)))
    (⊎_elim (λ (j : Memᴰ p after.stack). inl (rw s.sent (Memᴰ.tail j))) (λ (j : Memᴰ p after.waiting). inr (rw s.others at j)))

abbrev pub stack_keeps : (size : ℕ → Token → ℕ) (S : Segment) (U : ℕ → Type 0) → Keeps (stack_of size S U)
stack_keeps size S U = record {
  In = InHeld;
  none = λ p. ⊎_elim (λ (j : Memᴰ p []). Memᴰ.not-nil j) (λ (j : Memᴰ p []). Memᴰ.not-nil j);
  joins = λ now r p. (join_in now r p, join_out now r p);
  moves = λ m y now after d p. (down_in now after d.1 p, down_out now after d.1 p);
  serves = λ now after r s p. (send_in now after r s p, send_out now after r s p);
}

abbrev pub stacked_keeps : (S : Segment) (U : ℕ → Type 0) → Keeps (stacked S U)
stacked_keeps = stack_keeps one

-- ---- One request in the stack at most

pub length_snoc : (l : List Request) (r : Request) → length (l ++ (r ∷ [])) ≡ suc (length l)
length_snoc l r = omega (arith, length-append l (r ∷ []))

pub one_in_stack : {S : Segment} {U : ℕ → Type 0} {t : ℕ} {y : Token} {q : ℕ → Held} {came : List Request} {went : List Answer}
    → RunBy (stacked S U) S t y q came went → (m : ℕ) → length (q m).stack ≤ 1
one_in_stack (start a b c) m = omega arith
one_in_stack (complete {m = o} {q = q} {rest = rest} z p) m =
    put_relates (λ w a b. length a.stack ≤ 1 → length b.stack ≤ 1) q o rest (λ l. omega (arith, ap length p.sent)) (λ w a l. l) m (one_in_stack z m)
one_in_stack (arrive {t = t} {m = o} {i = i} {q = q} z s d) m =
    put_relates (λ w a b. length a.stack ≤ 1 → length b.stack ≤ 1) q o (held (q o).stack _) (λ l. l) (λ w a l. l) m (one_in_stack z m)
one_in_stack (move {m = o} {q = q} {left = left} z s p) m =
    put_relates (λ w a b. length a.stack ≤ 1 → length b.stack ≤ 1) q o left
    (λ l. omega (arith, p.0, ap length p.1.into, length_snoc (q o).stack p.1.handed)) (λ w a l. l) m (one_in_stack z m)
one_in_stack (travel e z) m = one_in_stack z m
one_in_stack (work e z) m = one_in_stack z m
one_in_stack (serve e x c z p a b d f g o) m = one_in_stack z m
one_in_stack (skip e z p a b) m = one_in_stack z m
