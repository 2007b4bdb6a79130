-- No run is ever stuck: each goes on to a later instant, with no further arrival. Assumes nothing.
use Prim.Native.Nat.{ℕ, zero, suc, ◌+◌, ◌≤◌, ◌<◌}
use mathlib.Core.Path.{◌≡◌, refl, ap, ◌∙◌}
use mathlib.Core.List.Memᴰ
use mathlib.Core.List.{List, [], ◌∷◌, ◌++◌}
use native.Mathlib.Decide.{ℕ_discrete}
use native.Mathlib.Omega.{arith}
use Rattle.pnet_rules.specs.Segment.{Segment}
use Rattle.pnet_run.specs.Run.{Belongs, Request, request, Answer, Queues, join, Token, toward, serving, Run, start, complete, arrive, move, travel, work, serve, skip}
use Rattle.pnet_run.proofs.Keeping.{put_same, put_other}
use Rattle.pnet_run.proofs.Queues.{owned}

-- ---- A master that serves has a request to serve

pub record Some (q : Queues) (m : ℕ) : Type 0 where
  pub oldest : Request
  pub rest : List Request
  pub is : q m ≡ oldest ∷ rest

abbrev pub Serves : Token → Queues → Type 0
Serves (toward m d) q = Unit {0}
Serves (serving m c) q = Some q m

some_join : (q : Queues) (m o : ℕ) (r : Request) → Some q m → Some (join q o r) m
some_join q m o r s = go (ℕ_discrete m o)
  where
    go : Dec (m ≡ o) → Some (join q o r) m
    go (yes e) = record { oldest = s.oldest; rest = s.rest ++ (r ∷ []); is = rw (e, put_same q o (q o ++ (r ∷ []))) (ap (λ (l : List Request). l ++ (r ∷ [])) (rw e at s.is)) }
    go (no n) = record { oldest = s.oldest; rest = s.rest; is = put_other q o (q o ++ (r ∷ [])) m n ∙ s.is }

serves_join : (y : Token) (q : Queues) (o : ℕ) (r : Request) → Serves y q → Serves y (join q o r)
serves_join (toward m d) q o r s = tt
serves_join (serving m c) q o r s = some_join q m o r s

pub serves : {S : Segment} {t : ℕ} {y : Token} {q : Queues} {came : List Request} {went : List Answer} → Run S t y q came went → Serves y q
serves (start a b c) = tt
serves (complete z p) = tt
serves (arrive {t = t} {m = m} {i = i} {y = y} {q = q} z o d) = serves_join y q m (request i t) (serves z)
serves (move _ _ never) = elim never [ ]
serves (travel e z) = tt
serves (work e z) = serves z
serves (serve {r = r} {rest = rest} e x c z p a b d f g o) = record { oldest = r; rest = rest; is = p }
serves (skip e z p a b) = tt

-- ---- One bp more

pub record Later (S : Segment) (t : ℕ) (came : List Request) : Type 0 where
  pub now : ℕ
  pub later : t < now
  pub token : Token
  pub queues : Queues
  pub went : List Answer
  pub run : Run S now token queues came went

module _ (S : Segment) (long : (m i : ℕ) → Belongs S m i → 1 ≤ (S.stream i).cycle) where
  one_bp : {t : ℕ} {y : Token} {q : Queues} {came : List Request} {went : List Answer} → Run S (t + 1) y q came went → Later S t came
  one_bp {t} {y} {q} {came} {went} z = record { now = t + 1; later = omega arith; token = y; queues = q; went = went; run = z }

  one_more : (d : ℕ) → suc d ≡ 1 + d
  one_more d = omega arith

  at_master : {t m : ℕ} {q : Queues} {came : List Request} {went : List Answer} → Run S t (toward m 0) q came went → (l : List Request) → q m ≡ l → Later S t came
  at_master z [] p = one_bp (skip {d = 9} 1 z p (omega arith) (omega arith))
  at_master {t} {m} z (r ∷ l) p =
      one_bp (serve {c = 2} 1 2 1 z p (omega arith) (omega arith) (omega arith) (long m r.of (owned z m r (rw p (Memᴰ.head refl)))) (omega arith) (omega arith))

  on_its_way : {t m : ℕ} (d : ℕ) {q : Queues} {came : List Request} {went : List Answer} → Run S t (toward m d) q came went → Later S t came
  on_its_way {m = m} zero {q} z = at_master z (q m) refl
  on_its_way (suc d) z = one_bp (travel {d = d} 1 (rw (one_more d) at z))

  pub goes_on : {t : ℕ} (y : Token) {q : Queues} {came : List Request} {went : List Answer} → Run S t y q came went → Later S t came
  goes_on (toward m d) z = on_its_way d z
  goes_on (serving m zero) z = on_its_way _ (complete z (serves z).is)
  goes_on (serving m (suc c)) z = one_bp (work {c = c} 1 (rw (one_more c) at z))
