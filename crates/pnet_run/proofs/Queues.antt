-- Queues that serve the oldest first lose no request and make none up: what Keeping has of every such discipline, for the page's runs. Assumes nothing.
use Prim.Native.Nat.{ℕ, ◌≤◌}
use mathlib.Core.Path.{◌≡◌}
use mathlib.Core.Logic.{◌⊎◌, inl, inr, ⊎_elim}
use mathlib.Core.List.Memᴰ
use mathlib.Core.List.{
  List,
  [],
  ◌∷◌,
  Memᴰ,
}
use Rattle.pnet_rules.specs.Segment.{Segment}
use Rattle.pnet_run.specs.Run.{Belongs, Request, Answer, Queues, put, join, Token, first_come, Run}
use Rattle.pnet_run.proofs.Keeping.{Keeps, came_past, joined_cases, rest_kept, owned_by, kept_came, answered_own}

-- behind the last of l waits r, and what waited before
pub behind_last : (l : List Request) (r p : Request) → Memᴰ p (first_come.joined l r) → (p ≡ r) ⊎ Memᴰ p l
behind_last l r p j =
    ⊎_elim (λ (c : Memᴰ p l). inr c) (λ (c : Memᴰ p (r ∷ [])). inl (Memᴰ.eq_of_singleton c)) (Memᴰ.append_cases l j)

pub behind_last_too : (l : List Request) (r p : Request) → (p ≡ r) ⊎ Memᴰ p l → Memᴰ p (first_come.joined l r)
behind_last_too l r p = ⊎_elim (λ (e : p ≡ r). Memᴰ.append_right l (Memᴰ.head e)) (λ (c : Memᴰ p l). Memᴰ.append_left (r ∷ []) c)

abbrev pub first_come_keeps : Keeps first_come
first_come_keeps = record {
  In = λ l p. Memᴰ p l;
  none = λ p j. Memᴰ.not-nil j;
  joins = λ l r p. (behind_last l r p, behind_last_too l r p);
  moves = λ m y l left never p. absurd never;
  serves = λ l rest r e p. (
    λ j. Memᴰ.cases_cons (rw e at j),
    λ c. rw e (⊎_elim (λ (f : p ≡ r). Memᴰ.head f) (λ (i : Memᴰ p rest). Memᴰ.tail i) c),
  );
}

-- what waits when the first has left waited before
pub put_rest : (q : Queues) (m y : ℕ) {r s : Request} {rest : List Request} → q m ≡ r ∷ rest → Memᴰ s (put q m rest y) → Memᴰ s (q y)
put_rest q m y {r} {s} {rest} p j = rest_kept first_come_keeps q m y rest r s p j

-- what waits when r has joined is r, or waited before
pub join_cases : (q : Queues) (m y : ℕ) (r : Request) {s : Request} → Memᴰ s (join q m r y) → ((y ≡ m) × (s ≡ r)) ⊎ Memᴰ s (q y)
join_cases q m y r {s} j = joined_cases first_come_keeps q m y r s j

-- ---- Whose requests a queue holds, and whose were answered

module _ {S : Segment} {t : ℕ} {y : Token} {q : Queues} {came : List Request} {went : List Answer} (z : Run S t y q came went) where
  pub owned : (m : ℕ) (r : Request) → Memᴰ r (q m) → Belongs S m r.of
  owned = owned_by first_come_keeps z

  pub queue_came : (m : ℕ) (r : Request) → Memᴰ r (q m) → Memᴰ r came
  queue_came = kept_came first_come_keeps z

  pub queue_past : (m : ℕ) (r : Request) → Memᴰ r (q m) → r.since ≤ t
  queue_past m r j = came_past z r (queue_came m r j)

  pub went_own : (a : Answer) → Memᴰ a went → (m : ℕ) × Belongs S m a.to.of
  went_own = answered_own first_come_keeps z
