-- When the stack has none, step by step on one sheet (Three). Streams 2 and 3 ask at 0, and stream 1 at 1, when stream 2's request is under way. By a stack that takes
-- stream 3's request meanwhile, stream 1 waits for both, 709 bp: so its figure, 500, is no promise there (EarlyUnsafe). By one that takes its next when the answer is complete, it
-- waits for one: 459 bp. Assumes nothing.
use Prim.Native.Nat.{ℕ, ◌≤◌}
use mathlib.Core.Path.{◌≡◌, refl}
use mathlib.Core.List.Memᴰ
use mathlib.Core.List.{List, [], ◌∷◌}
use native.Mathlib.Omega.{arith}
use Rattle.pnet_rules.specs.Segment.{segment_of}
use Rattle.pnet_urgent_rules.specs.Urgent.{ahead}
use Rattle.pnet_run.specs.Run.{Request, request, Answer, answer, put, Token, toward, serving, on_way, at_work, next, complete, arrive, work, serve}
use Rattle.pnet_run.specs.Promise.{Kept, quiet, other, asks, Spaced}
use Rattle.pnet_run.proofs.Few.{each}
use Rattle.pnet_urgent_run.specs.Stack.{Held, held, here, further, MostUrgent, Sends, besides, one}
use Rattle.pnet_urgent_run.proofs.Three.{three, stream_1, stream_2, stream_3}
use Rattle.pnet_urgent_run.proofs.Progress.{most_none, most_and, alone}
use Rattle.pnet_urgent_run.proofs.Steps.{By, starts, down, lap, served}

-- ---- Who is most urgent

-- stream 2 before stream 3, by sheet order; stream 1 before stream 3, by D
second_first : MostUrgent three (request 2 0) (request 2 0 ∷ request 3 0 ∷ [])
unfolding segment_of ahead
second_first = most_and three (request 2 0) refl (most_and three (request 2 0) refl (most_none three (request 2 0)))

first_first : MostUrgent three (request 1 1) (request 3 0 ∷ request 1 1 ∷ [])
unfolding segment_of ahead
first_first = most_and three (request 1 1) refl (most_and three (request 1 1) refl (most_none three (request 1 1)))

-- ---- Stream 2's request is under way at 1

abbrev pub came : List Request
came = request 1 1 ∷ request 3 0 ∷ request 2 0 ∷ []

-- both have come, and stream 2's was handed down
abbrev kept_at_1 : ℕ → Held
kept_at_1 =
    put (put (put (λ y. held [] []) 1 (held [] (request 2 0 ∷ []))) 1 (held [] (request 2 0 ∷ request 3 0 ∷ []))) 1 (held (request 2 0 ∷ []) (request 3 0 ∷ []))

-- the token is at the master at 0
under_way : (size : ℕ → Token → ℕ) → 1 ≤ size 1 (toward 1 0) → By size 500 0 1 (serving 1 209) kept_at_1 (request 3 0 ∷ request 2 0 ∷ []) []
unfolding segment_of put
under_way size fits =
    let asking : By size 500 0 0 (toward 1 0) _ _ [] = arrive (arrive (starts size 500 0 {d = 0} (omega arith)) on_way (stream_2 500 0)) on_way (stream_3 500 0) in
    let second : By size 500 0 0 (toward 1 0) kept_at_1 _ [] = down size 500 0 [] (request 2 0) (request 3 0 ∷ []) asking on_way fits refl here second_first in
    let sent : Sends (kept_at_1 1) (request 2 0) (held [] (request 3 0 ∷ [])) = record { sent = refl; others = refl } in
    serve {c = 209} 1 7 203 second sent (omega arith) (omega arith) (omega arith) (omega arith) (omega arith) (omega arith)

-- ---- A stack that takes the next request while one is under way

-- it holds one while the token is on its way or with another master, and a second while a request of its own master is under way
a_second_under_way : (besides 1 (toward 1 0) ≡ 1) × (besides 1 (serving 2 9) ≡ 1) × (besides 1 (serving 1 9) ≡ 2)
unfolding besides
a_second_under_way = (refl, refl, refl)

abbrev pub went_early : List Answer
went_early = answer (request 1 1) 710 ∷ answer (request 3 0) 460 ∷ answer (request 2 0) 210 ∷ []

pub early_run : (q : ℕ → Held) × By besides 500 0 710 (toward 1 40) q came went_early
unfolding segment_of put next besides
early_run =
    let at_1 : By besides 500 0 1 (serving 1 209) kept_at_1 _ [] = under_way besides (omega arith) in
    let third : By besides 500 0 1 (serving 1 209) _ _ [] =
    down besides 500 0 (request 2 0 ∷ []) (request 3 0) [] at_1 at_work (omega arith) refl here (alone three (request 3 0)) in
    let too_late : By besides 500 0 1 (serving 1 209) _ came [] = arrive third at_work (stream_1 500 0) in
    let sent : Sends (held (request 2 0 ∷ request 3 0 ∷ []) (request 1 1 ∷ [])) (request 2 0) (held (request 3 0 ∷ []) (request 1 1 ∷ [])) = record { sent = refl; others = refl } in
    let at-210 : By besides 500 0 210 (toward 1 40) _ came _ = complete (work {c = 0} 209 too_late) sent in
    let at-460 : By besides 500 0 460 (toward 1 40) _ came _ = lap besides 500 0 (request 3 0) [] (request 1 1 ∷ []) at-210 refl refl in
    (_, served besides 500 0 (request 1 1) [] at-460 (omega arith) refl here (alone three (request 1 1)) refl)

-- ---- The same arrivals by a stack that is free once its answer is complete

abbrev pub went_stacked : List Answer
went_stacked = answer (request 1 1) 460 ∷ answer (request 2 0) 210 ∷ []

pub stacked_run : (q : ℕ → Held) × By one 500 0 460 (toward 1 40) q came went_stacked
unfolding segment_of put next
stacked_run =
    let at_1 : By one 500 0 1 (serving 1 209) kept_at_1 _ [] = under_way one (omega arith) in
    let asked : By one 500 0 1 (serving 1 209) _ came [] = arrive at_1 at_work (stream_1 500 0) in
    let sent : Sends (held (request 2 0 ∷ []) (request 3 0 ∷ request 1 1 ∷ [])) (request 2 0) (held [] (request 3 0 ∷ request 1 1 ∷ [])) = record { sent = refl; others = refl } in
    let at-210 : By one 500 0 210 (toward 1 40) _ came _ = complete (work {c = 0} 209 asked) sent in
    (_, served one 500 0 (request 1 1) (request 3 0 ∷ []) at-210 (omega arith) refl (further here) first_first refl)

-- ---- Every stream keeps its spacing: each asks once

stream_1_keeps : Kept 500 0 1 came (1 ∷ [])
stream_1_keeps =
    asks {r = request 1 1} 1 refl (omega arith) (omega arith) (λ v j. absurd (Memᴰ.not-nil j))
    (other {r = request 3 0} (λ e. omega arith) (other {r = request 2 0} (λ e. omega arith) quiet))

stream_2_keeps : Kept 100000 0 2 came (0 ∷ [])
stream_2_keeps =
    other {r = request 1 1} (λ e. omega arith)
    (other {r = request 3 0} (λ e. omega arith) (asks {r = request 2 0} 0 refl (omega arith) (omega arith) (λ v j. absurd (Memᴰ.not-nil j)) quiet))

stream_3_keeps : Kept 100000 0 3 came (0 ∷ [])
stream_3_keeps =
    other {r = request 1 1} (λ e. omega arith)
    (asks {r = request 3 0} 0 refl (omega arith) (omega arith) (λ v j. absurd (Memᴰ.not-nil j)) (other {r = request 2 0} (λ e. omega arith) quiet))

pub every_stream_keeps_its_spacing : (k : ℕ) → Spaced three k came
unfolding segment_of
every_stream_keeps_its_spacing k i b =
    each (λ n. (due : List ℕ) × Kept (three.stream n).spacing (three.stream n).jitter n came due) (1 ∷ [], stream_1_keeps) (0 ∷ [], stream_2_keeps)
    (0 ∷ [], stream_3_keeps) i b.from_one b.to_last
