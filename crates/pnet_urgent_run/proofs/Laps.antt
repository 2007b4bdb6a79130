-- Two runs on the sheet of Three, lap by lap, whatever T and J stream 1 has: it asks at 0 and at 500, the other two at 0. The token has just left the master at 0 and is 40 bp
-- away; every reaction is 7 bp and every message 203, so a lap takes 250. In the first run stream 3's request is in the stack when the others ask; in the second it
-- waits behind all others. Assumes nothing.
use Prim.Native.Nat.{ℕ, ◌+◌}
use mathlib.Core.Path.{◌≡◌, refl}
use mathlib.Core.Bool.{false}
use mathlib.Core.List.Memᴰ
use mathlib.Core.List.{List, [], ◌∷◌}
use native.Mathlib.Omega.{arith}
use Rattle.pnet_rules.specs.Segment.{Segment, segment_of}
use Rattle.pnet_urgent_rules.specs.Urgent.{ahead}
use Rattle.pnet_run.specs.Run.{Request, request, Answer, answer, put, toward, on_way, RunBy, arrive}
use Rattle.pnet_run.specs.Promise.{Kept, quiet, other, asks}
use Rattle.pnet_urgent_run.specs.Stack.{Held, held, Taken, here, further, MostUrgent, Everyone, one, stacked}
use Rattle.pnet_urgent_run.proofs.Three.{three_of, stream_1, stream_2, stream_3}
use Rattle.pnet_urgent_run.proofs.Progress.{most_none, most_and, alone}
use Rattle.pnet_urgent_run.proofs.Steps.{starts, down, lap, served}

-- ---- What comes and what is answered

abbrev pub blocked_came : List Request
blocked_came = request 1 500 ∷ request 2 0 ∷ request 1 0 ∷ request 3 0 ∷ []

abbrev pub blocked_went : List Answer
blocked_went = answer (request 2 0) 1000 ∷ answer (request 1 500) 750 ∷ answer (request 1 0) 500 ∷ answer (request 3 0) 250 ∷ []

abbrev pub last_came : List Request
last_came = request 1 500 ∷ request 3 0 ∷ request 2 0 ∷ request 1 0 ∷ []

abbrev pub last_went : List Answer
last_went = answer (request 3 0) 1000 ∷ answer (request 1 500) 750 ∷ answer (request 2 0) 500 ∷ answer (request 1 0) 250 ∷ []

module _ (T J : ℕ) where
  abbrev S : Segment
  S = three_of T J

  -- ---- Who is handed down

  first_of_two : MostUrgent S (request 1 0) (request 1 0 ∷ request 2 0 ∷ [])
  unfolding segment_of ahead
  first_of_two = most_and S (request 1 0) refl (most_and S (request 1 0) refl (most_none S (request 1 0)))

  first_of_three : MostUrgent S (request 1 0) (request 1 0 ∷ request 2 0 ∷ request 3 0 ∷ [])
  unfolding segment_of ahead
  first_of_three = most_and S (request 1 0) refl (most_and S (request 1 0) refl (most_and S (request 1 0) refl (most_none S (request 1 0))))

  second_of_two : MostUrgent S (request 2 0) (request 2 0 ∷ request 3 0 ∷ [])
  unfolding segment_of ahead
  second_of_two = most_and S (request 2 0) refl (most_and S (request 2 0) refl (most_none S (request 2 0)))

  -- the second request of stream 1, before the one that waits already
  again : (i : ℕ) → ahead S 1 i ≡ false → MostUrgent S (request 1 500) (request i 0 ∷ request 1 500 ∷ [])
  unfolding segment_of ahead
  again i e = most_and S (request 1 500) e (most_and S (request 1 500) refl (most_none S (request 1 500)))

  -- ---- Stream 3's request is in the stack when the others ask

  abbrev By : ℕ → (ℕ → Held) → List Request → List Answer → Type 0
  By t q came went = RunBy (stacked S Everyone) S t (toward 1 40) q came went

  from : By 0 (λ y. held [] []) [] []
  from = starts one T J (omega arith)

  -- r is handed down and answered
  goes : {t : ℕ} {q : ℕ → Held} {l came : List Request} {went : List Answer} (r : Request) (rest : List Request)
      → By t q came went → q 1 ≡ held [] l → Taken r l rest → MostUrgent S r l → (S.stream r.of).cycle ≡ 203
      → By (t + 250) (put (put q 1 (held (r ∷ []) rest)) 1 (held [] rest)) came (answer r (t + 250) ∷ went)
  goes r rest z is out most long = served one T J r rest z (omega arith) is out most long

  pub blocked_run : (q : ℕ → Held) × By 1000 q blocked_came blocked_went
  unfolding segment_of ahead put
  blocked_run =
      let third : By 0 _ _ [] = down one T J [] (request 3 0) [] (arrive from on_way (stream_3 T J)) on_way (omega arith) refl here (alone S (request 3 0)) in
      let asking : By 0 _ _ [] = arrive (arrive third on_way (stream_1 T J)) on_way (stream_2 T J) in
      let at-250 : By 250 _ _ _ = lap one T J (request 3 0) [] (request 1 0 ∷ request 2 0 ∷ []) asking refl refl in
      let at-500 : By 500 _ _ _ = goes (request 1 0) (request 2 0 ∷ []) at-250 refl here first_of_two refl in
      let once_more : By 500 _ blocked_came _ = arrive at-500 on_way (stream_1 T J) in
      let at-750 : By 750 _ blocked_came _ = goes (request 1 500) (request 2 0 ∷ []) once_more refl (further here) (again 2 refl) refl in
      (_, goes (request 2 0) [] at-750 refl here (alone S (request 2 0)) refl)

  -- ---- Stream 3 waits behind all others

  pub last_run : (q : ℕ → Held) × By 1000 q last_came last_went
  unfolding segment_of ahead put
  last_run =
      let asking : By 0 _ _ [] = arrive (arrive (arrive from on_way (stream_1 T J)) on_way (stream_2 T J)) on_way (stream_3 T J) in
      let at-250 : By 250 _ _ _ = goes (request 1 0) (request 2 0 ∷ request 3 0 ∷ []) asking refl here first_of_three refl in
      let at-500 : By 500 _ _ _ = goes (request 2 0) (request 3 0 ∷ []) at-250 refl here second_of_two refl in
      let once_more : By 500 _ last_came _ = arrive at-500 on_way (stream_1 T J) in
      let at-750 : By 750 _ last_came _ = goes (request 1 500) (request 3 0 ∷ []) once_more refl (further here) (again 3 refl) refl in
      (_, goes (request 3 0) [] at-750 refl here (alone S (request 3 0)) refl)

-- ---- The spacing of what asks once

-- in the second run streams 2 and 3 keep their spacing, since they ask once
pub second_keeps : Kept 100000 0 2 last_came (0 ∷ [])
second_keeps =
    other {r = request 1 500} (λ e. omega arith)
    (other {r = request 3 0} (λ e. omega arith)
    (asks {r = request 2 0} 0 refl (omega arith) (omega arith) (λ v j. absurd (Memᴰ.not-nil j)) (other {r = request 1 0} (λ e. omega arith) quiet)))

pub third_keeps : Kept 100000 0 3 last_came (0 ∷ [])
third_keeps =
    other {r = request 1 500} (λ e. omega arith)
    (asks {r = request 3 0} 0 refl (omega arith) (omega arith) (λ v j. absurd (Memᴰ.not-nil j))
    (other {r = request 2 0} (λ e. omega arith) (other {r = request 1 0} (λ e. omega arith) quiet)))
