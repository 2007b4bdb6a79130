-- By a stack that takes its next request early, stream 1 of the sheet waits 709 bp (Early): so its figure, 500, is not safe there. Assumes nothing.
use Prim.Native.Nat.{ℕ, ◌+◌, ◌≤◌}
use mathlib.Core.Path.{refl}
use mathlib.Core.List.{List, Memᴰ}
use native.Mathlib.Omega.{arith}
use Rattle.units.specs.Units.{bp}
use Rattle.pnet_urgent_rules.specs.Urgent.{figure}
use Rattle.pnet_run.specs.Run.{Request, request, Answer, answer, Token, toward, RunBy}
use Rattle.pnet_run.specs.Promise.{Spaced}
use Rattle.pnet_urgent_run.specs.Stack.{Held, early, Everyone}
use Rattle.pnet_urgent_run.specs.Promise.{AnsweredOf}
use Rattle.pnet_urgent_run.proofs.Three.{three, figures_are}
use Rattle.pnet_urgent_run.proofs.Early.{came, went_early, early_run, every_stream_keeps_its_spacing}

pub not_by_an_early_stack :
    ((t : ℕ) (y : Token) (q : ℕ → Held) (came : List Request) (went : List Answer) → RunBy (early three Everyone) three t y q came went
    → ((k : ℕ) → Spaced three k came) → AnsweredOf (bp (figure three 1)) 1 t y came went)
    → ⊥
not_by_an_early_stack safe =
    let answered = safe 710 (toward 1 40) early_run.0 came went_early early_run.1 every_stream_keeps_its_spacing in
    let l : 710 ≤ 1 + figure three 1 = answered.in_time (answer (request 1 1) 710) (Memᴰ.head refl) refl in
    omega (arith, figures_are.0)
