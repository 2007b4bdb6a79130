-- Steps of a run on the sheet of Three, whatever T and J stream 1 has, by a stack of any size. Every reaction is 7 bp and every message 203, so a lap takes 250. Assumes nothing.
use Prim.Native.Nat.{ℕ, ◌+◌, ◌≤◌, ◌<◌}
use mathlib.Core.Path.{◌≡◌, refl, subst}
use mathlib.Core.List.{List, [], ◌∷◌, ◌++◌}
use native.Mathlib.Omega.{arith}
use lib.ListN.{length}
use Rattle.pnet_rules.specs.Segment.{Segment, segment_of}
use Rattle.pnet_run.specs.Run.{Request, Answer, answer, put, Token, toward, Settled, on_way, next, RunBy, start, move, travel}
use Rattle.pnet_run.proofs.Keeping.{put_same}
use Rattle.pnet_run.proofs.Slowest.{slowest}
use Rattle.pnet_urgent_run.specs.Stack.{Held, held, Taken, MostUrgent, Everyone, stack_of}
use Rattle.pnet_urgent_run.proofs.Three.{three_of}

module _ (size : ℕ → Token → ℕ) (T J : ℕ) where
  abbrev S : Segment
  S = three_of T J

  abbrev pub By : ℕ → Token → (ℕ → Held) → List Request → List Answer → Type 0
  By = RunBy (stack_of size S Everyone) S

  pub starts : {d : ℕ} → d ≤ 40 → By 0 (toward 1 d) (λ y. held [] []) [] []
  unfolding segment_of
  starts l = start {m = 1} (omega arith) (omega arith) l

  -- r is handed down
  pub down : {t : ℕ} {y : Token} {q : ℕ → Held} {l came : List Request} {went : List Answer} (stack : List Request) (r : Request) (rest : List Request)
      → By t y q came went → Settled y → length stack < size 1 y → q 1 ≡ held stack l → Taken r l rest → MostUrgent S r l
      → By t y (put q 1 (held (stack ++ (r ∷ [])) rest)) came went
  down stack r rest z settled fits is out most =
      move {m = 1} {left = held (stack ++ (r ∷ [])) rest} z settled
      (rw is fits, record { handed = r; out = rw is out; into = rw is refl; picked = λ u. rw is most })

  -- the first in the stack is answered when the token comes next
  pub lap : {t : ℕ} {q : ℕ → Held} {came : List Request} {went : List Answer} (r : Request) (stack rest : List Request)
      → By t (toward 1 40) q came went → q 1 ≡ held (r ∷ stack) rest → (S.stream r.of).cycle ≡ 203
      → By (t + 250) (toward 1 40) (put q 1 (held stack rest)) came (answer r (t + 250) ∷ went)
  unfolding segment_of next
  lap {t} {q} {came} {went} r stack rest z is long =
      subst (λ (u : ℕ). By u (toward 1 40) (put q 1 (held stack rest)) came (answer r u ∷ went)) (omega arith)
      (slowest {rest = held stack rest} (travel {d = 0} 40 z) (record { sent = rw is refl; others = rw is refl }) (omega arith))

  -- both
  pub served : {t : ℕ} {q : ℕ → Held} {l came : List Request} {went : List Answer} (r : Request) (rest : List Request)
      → By t (toward 1 40) q came went → 1 ≤ size 1 (toward 1 40) → q 1 ≡ held [] l → Taken r l rest → MostUrgent S r l → (S.stream r.of).cycle ≡ 203
      → By (t + 250) (toward 1 40) (put (put q 1 (held (r ∷ []) rest)) 1 (held [] rest)) came (answer r (t + 250) ∷ went)
  served {q = q} r rest z fits is out most long = lap r [] rest (down [] r rest z on_way fits is out most) (put_same q 1 (held (r ∷ []) rest)) long
