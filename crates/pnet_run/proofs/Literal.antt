-- The order within one instant, told as the page tells it: completions, then arrivals, then the token's arrival, then one bp passes.
-- The runs are the same as those of specs/Run, where the token's arrival goes together with the first bp behind it. Assumes nothing.
use Prim.Native.Nat.{ℕ, zero, suc, ◌+◌, ◌≤◌}
use mathlib.Core.Path.{◌≡◌, sym, ◌∙◌, subst}
use mathlib.Core.List.{List, [], ◌∷◌}
use native.Mathlib.Nat.{add-zero, zero-add, add-suc, suc-add}
use native.Mathlib.Numerals.{add-one}
use native.Mathlib.Omega.{arith}
use Rattle.pnet_rules.specs.Segment.{Segment}
use Rattle.pnet_run.specs.Run.{
  Belongs,
  Request,
  request,
  Answer,
  answer,
  Queues,
  put,
  join,
  Token,
  toward,
  serving,
  Settled,
  on_way,
  at_work,
  next,
  Run,
  start,
  complete,
  arrive,
  move,
  travel,
  work,
  serve,
  skip,
}

-- ---- An instant in four phases

pub data Phase : Type 0 where
  completions : Phase
  arrivals : Phase
  token : Phase
  over : Phase

-- the token is not due at a master at this instant
pub data Away : Token → Type 0 where
  far : {m d : ℕ} → Away (toward m (suc d))
  with_a_master : {m c : ℕ} → Away (serving m c)

pub data Literal (S : Segment) : ℕ → Phase → Token → Queues → List Request → List Answer → Type 0 where
  begin : {m d : ℕ} → 1 ≤ m → m ≤ S.masters → d ≤ 40 → Literal S 0 completions (toward m d) (λ y. []) [] []
  -- completions come first
  completes : {t m : ℕ} {q : Queues} {r : Request} {rest came : List Request} {went : List Answer}
      → Literal S t completions (serving m 0) q came went → q m ≡ r ∷ rest
      → Literal S t completions (toward (next S.masters m) 40) (put q m rest) came (answer r t ∷ went)
  all_complete : {t : ℕ} {y : Token} {q : Queues} {came : List Request} {went : List Answer}
      → Literal S t completions y q came went → Settled y → Literal S t arrivals y q came went
  -- then arrivals, several in any order
  arrives : {t m i : ℕ} {y : Token} {q : Queues} {came : List Request} {went : List Answer}
      → Literal S t arrivals y q came went → Belongs S m i → Literal S t arrivals y (join q m (request i t)) (request i t ∷ came) went
  all_arrived : {t : ℕ} {y : Token} {q : Queues} {came : List Request} {went : List Answer}
      → Literal S t arrivals y q came went → Literal S t token y q came went
  -- then the token's arrival: the oldest is served, or the token goes on
  takes : {t m : ℕ} {q : Queues} {r : Request} {rest came : List Request} {went : List Answer} (reaction message : ℕ)
      → Literal S t token (toward m 0) q came went → q m ≡ r ∷ rest
      → 2 ≤ reaction → reaction ≤ 7 → 1 ≤ message → message ≤ (S.stream r.of).cycle
      → Literal S t over (serving m (reaction + message)) q came went
  passes : {t m : ℕ} {q : Queues} {came : List Request} {went : List Answer}
      → Literal S t token (toward m 0) q came went → q m ≡ [] → Literal S t over (toward (next S.masters m) 10) q came went
  away : {t : ℕ} {y : Token} {q : Queues} {came : List Request} {went : List Answer}
      → Literal S t token y q came went → Away y → Literal S t over y q came went
  -- one bp
  nearer : {t m d : ℕ} {q : Queues} {came : List Request} {went : List Answer}
      → Literal S t over (toward m (suc d)) q came went → Literal S (suc t) completions (toward m d) q came went
  further : {t m c : ℕ} {q : Queues} {came : List Request} {went : List Answer}
      → Literal S t over (serving m (suc c)) q came went → Literal S (suc t) completions (serving m c) q came went

-- where a run stands between its steps: a completion that is due comes next, else arrivals may
abbrev pub phase_of : Token → Phase
phase_of (toward m d) = arrivals
phase_of (serving m zero) = completions
phase_of (serving m (suc c)) = arrivals

-- ---- Each such run is a run

module _ (S : Segment) where
  -- once an instant is over, a run can go on to any later part of what is left
  abbrev Onward : ℕ → Token → Queues → List Request → List Answer → Type 0
  Onward t (toward m x) q came went = (e d : ℕ) → 1 ≤ e → e + d ≡ x → Run S (t + e) (toward m d) q came went
  Onward t (serving m x) q came went = (e c : ℕ) → 1 ≤ e → e + c ≡ x → Run S (t + e) (serving m c) q came went

  abbrev Stands : ℕ → Phase → Token → Queues → List Request → List Answer → Type 0
  Stands t completions y q came went = Run S t y q came went
  Stands t arrivals y q came went = Run S t y q came went × Settled y
  Stands t token y q came went = Run S t y q came went × Settled y
  Stands t over y q came went = Onward t y q came went

  onward : {t : ℕ} (y : Token) {q : Queues} {came : List Request} {went : List Answer} → Run S t y q came went → Onward t y q came went
  onward {t} (toward m x) {q} {came} {went} z = λ e d l s. travel e (subst (λ (u : ℕ). Run S t (toward m u) q came went) (sym s) z)
  onward {t} (serving m x) {q} {came} {went} z = λ e c l s. work e (subst (λ (u : ℕ). Run S t (serving m u) q came went) (sym s) z)

  stands : {t : ℕ} {p : Phase} {y : Token} {q : Queues} {came : List Request} {went : List Answer} → Literal S t p y q came went → Stands t p y q came went
  stands (begin a b c) = start a b c
  stands (completes z p) = complete (stands z) p
  stands (all_complete z s) = (stands z, s)
  stands (arrives z b) = let r = stands z in (arrive r.0 r.1 b, r.1)
  stands (all_arrived z) = stands z
  stands (takes reaction message z p a b c d) = λ e x l s. serve {c = x} e reaction message (stands z).0 p (omega arith) b (omega arith) d l s
  stands (passes z p) = λ e x l s. skip {d = x} e (stands z).0 p (omega arith) s
  stands (away {y = y} z a) = onward y (stands z).0
  stands (nearer {d = d} z) = rw add-one at (stands z 1 d (omega arith) (omega arith))
  stands (further {c = c} z) = rw add-one at (stands z 1 c (omega arith) (omega arith))

  pub literal_is_run : {t : ℕ} (y : Token) {q : Queues} {came : List Request} {went : List Answer} → Literal S t (phase_of y) y q came went → Run S t y q came went
  literal_is_run (toward m d) z = (stands z).0
  literal_is_run (serving m zero) z = stands z
  literal_is_run (serving m (suc c)) z = (stands z).0

  -- ---- Each run is such a run

  module _ {q : Queues} {came : List Request} {went : List Answer} where
    -- a token that has bp left, on its way or with a master: both let them pass alike
    module _ (left : ℕ → Token) (settled : (x : ℕ) → Settled (left (suc x))) (busy : (x : ℕ) → Away (left (suc x)))
        (bp : (t x : ℕ) → Literal S t over (left (suc x)) q came went → Literal S (suc t) completions (left x) q came went) where
      stays : {t : ℕ} (x : ℕ) → Literal S t arrivals (left (suc x)) q came went → Literal S t over (left (suc x)) q came went
      stays x z = away (all_arrived z) (busy x)

      one_on : (e x t : ℕ) → Literal S t over (left (suc (suc e + x))) q came went → Literal S (suc t) over (left (suc (e + x))) q came went
      one_on e x t z = stays (e + x) (all_complete (rw suc-add at (bp t (suc e + x) z)) (settled (e + x)))

      none_on : (x t : ℕ) → Literal S t over (left (suc (zero + x))) q came went → Literal S (t + suc zero) completions (left x) q came went
      none_on x t z = rw add-one (rw zero-add at (bp t (zero + x) z))

      -- e bp, and one more
      pass : (e x t : ℕ) → Literal S t over (left (suc (e + x))) q came went → Literal S (t + suc e) completions (left x) q came went
      pass zero x t z = none_on x t z
      pass (suc e) x t z = rw add-suc (rw suc-add at (pass e x (suc t) (one_on e x t z)))

    settle : {t : ℕ} (y : Token) → Literal S t completions y q came went → Literal S t (phase_of y) y q came went
    settle (toward m d) z = all_complete z on_way
    settle (serving m zero) z = z
    settle (serving m (suc c)) z = all_complete z at_work

    to_master : (m e d t : ℕ) → Literal S t over (toward m (suc (e + d))) q came went → Literal S (t + suc e) arrivals (toward m d) q came went
    to_master m e d t z = settle (toward m d) (pass (toward m) (λ x. on_way) (λ x. far) (λ u x w. nearer w) e d t z)

    to_end : (m e c t : ℕ) → Literal S t over (serving m (suc (e + c))) q came went → Literal S (t + suc e) (phase_of (serving m c)) (serving m c) q came went
    to_end m e c t z = settle (serving m c) (pass (serving m) (λ x. at_work) (λ x. with_a_master) (λ u x w. further w) e c t z)

    -- ---- Step by step

    more_arrive : {t m i : ℕ} {y : Token} → Settled y → Belongs S m i → Literal S t (phase_of y) y q came went
        → Literal S t (phase_of y) y (join q m (request i t)) (request i t ∷ came) went
    more_arrive on_way b z = arrives z b
    more_arrive at_work b z = arrives z b

    travels : (m e d t : ℕ) → Literal S t arrivals (toward m (e + d)) q came went → Literal S (t + e) arrivals (toward m d) q came went
    travels m zero d t z = rw add-zero (rw zero-add at z)
    travels m (suc e) d t z = to_master m e d t (away (all_arrived (rw suc-add at z)) far)

    works : (m e c t : ℕ) → Literal S t (phase_of (serving m (e + c))) (serving m (e + c)) q came went → Literal S (t + e) (phase_of (serving m c)) (serving m c) q came went
    works m zero c t z = rw add-zero (rw zero-add at z)
    works m (suc e) c t z =
        to_end m e c t (away (all_arrived (subst (λ (x : ℕ). Literal S t (phase_of (serving m x)) (serving m x) q came went) (suc-add e c) z)) with_a_master)

    serves : (m e c x t : ℕ) → 1 ≤ e → e + c ≡ x → Literal S t over (serving m x) q came went → Literal S (t + e) (phase_of (serving m c)) (serving m c) q came went
    serves m zero c x t l s z = absurd (omega arith)
    serves m (suc e) c x t l s z = to_end m e c t (rw (sym s ∙ suc-add e c) at z)

    skips : (m e d x t : ℕ) → 1 ≤ e → e + d ≡ x → Literal S t over (toward m x) q came went → Literal S (t + e) arrivals (toward m d) q came went
    skips m zero d x t l s z = absurd (omega arith)
    skips m (suc e) d x t l s z = to_master m e d t (rw (sym s ∙ suc-add e d) at z)

  pub run_is_literal : {t : ℕ} {y : Token} {q : Queues} {came : List Request} {went : List Answer} → Run S t y q came went → Literal S t (phase_of y) y q came went
  run_is_literal (start a b c) = all_complete (begin a b c) on_way
  run_is_literal (complete z p) = all_complete (completes (run_is_literal z) p) on_way
  run_is_literal (arrive z s b) = more_arrive s b (run_is_literal z)
  run_is_literal (move _ _ never) = elim never [ ]
  run_is_literal (travel {t = t} {m = m} {d = d} e z) = travels m e d t (run_is_literal z)
  run_is_literal (work {t = t} {m = m} {c = c} e z) = works m e c t (run_is_literal z)
  run_is_literal (serve {t = t} {m = m} {c = x} e reaction message z p a b c d l s) =
      serves m e x (reaction + message) t l s (takes reaction message (all_arrived (run_is_literal z)) p (omega arith) b (omega arith) d)
  run_is_literal (skip {t = t} {m = m} {d = d} e z p l s) = skips (next S.masters m) e d 10 t (omega arith) s (passes (all_arrived (run_is_literal z)) p)
