-- The slowest turns of the token, under edition 1 and where each master's own streams are equally long: every other master that has streams asks once in each turn, just when the token
-- comes to it, and master k sends what is in its stack. Such a turn takes exactly V. Assumes nothing.
use Prim.Native.Nat.{ℕ, zero, suc, ◌+◌, ◌≤◌}
use mathlib.Core.Path.{◌≡◌, refl, ap, sym, ◌∙◌, subst}
use mathlib.Core.Logic.{◌≢◌, inl, ⊎_elim}
use mathlib.Core.Bool.{true}
use mathlib.Core.List.{List, [], ◌∷◌, ◌++◌, Memᴰ}
use native.Mathlib.Decide.{ℕ_discrete, dec_le}
use native.Mathlib.Omega.{arith}
use Rattle.common.specs.Sums.{upto}
use Rattle.pnet_rules.specs.Segment.{Segment, count, hold, turn, turn_by}
use Rattle.pnet_rules.specs.Limits.{Declared}
use Rattle.pnet_rules.proofs.Holds.{hold_none, charged_first}
use Rattle.pnet_urgent_rules.specs.Urgent.{ahead}
use Rattle.pnet_urgent_rules.proofs.Order.{ahead_then}
use Rattle.pnet_run.specs.Run.{Belongs, Request, request, Answer, answer, put, Token, toward, on_way, next, RunBy, arrive, move, travel, skip}
use Rattle.pnet_run.specs.Promise.{other}
use Rattle.pnet_run.proofs.Charges.{belongs_count, in_ring, some_cycle, hold_alike}
use Rattle.pnet_run.proofs.Keeping.{put_same, put_other, owned_by}
use Rattle.pnet_run.proofs.Ring.{next_in_ring, gap, gap_own, gap_next, gap_lap, gap_apart}
use Rattle.pnet_run.proofs.Slowest.{slowest}
use Rattle.pnet_urgent_run.specs.Stack.{Held, held, Taken, here, MostUrgent, Everyone, stacked}
use Rattle.pnet_urgent_run.specs.Promise.{UpTo, SpacedUpTo}
use Rattle.pnet_urgent_run.proofs.Kept.{stacked_keeps}
use Rattle.pnet_urgent_run.proofs.Progress.{alone}

-- a stream up to i is of i's master
pub up_to_master : (S : Segment) (i j : ℕ) → UpTo S i j → (S.stream j).master ≡ (S.stream i).master
up_to_master S i j = ⊎_elim (λ (e : j ≡ i). ap (λ (n : ℕ). (S.stream n).master) e) (λ (e : ahead S i j ≡ true). (ahead_then S i j e).one_master)

module _ (S : Segment) (declared : Declared S) (first_edition : S.edition ≡ 1)
    (alike : (m a b : ℕ) → Belongs S m a → Belongs S m b → (S.stream a).cycle ≡ (S.stream b).cycle) (i : ℕ) (from : 1 ≤ i) (to : i ≤ S.number) where
  abbrev k : ℕ
  k = (S.stream i).master

  abbrev N : ℕ
  N = S.masters

  mine : Belongs S k i
  mine = record { from_one = from; to_last = to; own = refl }

  1≤k : 1 ≤ k
  1≤k = (in_ring declared mine).0

  k≤n : k ≤ N
  k≤n = (in_ring declared mine).1

  next_in : {m : ℕ} → m ≤ N → (1 ≤ next N m) × (next N m ≤ N)
  next_in {m} l = next_in_ring N m (omega (arith, 1≤k, k≤n)) l

  -- ---- A stage: what master k keeps, nothing with any other master

  pub record Stage (t : ℕ) (y : Token) (now : Held) (went : List Answer) : Type 0 where
    pub kept : ℕ → Held
    pub came : List Request
    pub run : RunBy (stacked S Everyone) S t y kept came went
    pub own : kept k ≡ now
    pub others : (m : ℕ) → m ≢ k → kept m ≡ held [] []
    pub spaced : SpacedUpTo S i came
    pub asked : Memᴰ (request i 0) came

  at : {t u : ℕ} {y : Token} {now : Held} {went : List Answer} → t ≡ u → Stage t y now went → Stage u y now went
  at {y = y} {now = now} {went = went} e g = subst (λ (x : ℕ). Stage x y now went) e g

  passed : {t m d : ℕ} {now : Held} {went : List Answer} (e : ℕ) → Stage t (toward m (e + d)) now went → Stage (t + e) (toward m d) now went
  passed e g = record { kept = g.kept; came = g.came; run = travel e g.run; own = g.own; others = g.others; spaced = g.spaced; asked = g.asked }

  record Later (t : ℕ) (y : Token) (now : Held) : Type 0 where
    went : List Answer
    stage : Stage t y now went

  -- ---- On from a master other than k

  hold_served : {m : ℕ} (j : ℕ) → Belongs S m j → 7 + (S.stream j).cycle + 40 ≡ hold S m
  hold_served {m} j d = omega (arith, hold_alike d (λ a e. alike m a j e d))

  -- one of its streams asks as the token comes
  module _ {t m j : ℕ} {now : Held} {went : List Answer} (n : m ≢ k) (b : Belongs S m j) (g : Stage t (toward m 0) now went) where
    abbrev new : Request
    new = request j t

    abbrev joined : Held
    joined = held (g.kept m).stack ((g.kept m).waiting ++ (new ∷ []))

    abbrev come : ℕ → Held
    come = put g.kept m joined

    abbrev handed : ℕ → Held
    handed = put come m (held (new ∷ []) [])

    is_come : come m ≡ held [] (new ∷ [])
    is_come = put_same g.kept m joined ∙ ap (λ (s : Held). held s.stack (s.waiting ++ (new ∷ []))) (g.others m n)

    is_handed : handed m ≡ held (new ∷ []) []
    is_handed = put_same come m (held (new ∷ []) [])

    given : RunBy (stacked S Everyone) S t (toward m 0) handed (new ∷ g.came) went
    given =
        move {m = m} {left = held (new ∷ []) []} (arrive g.run on_way b) on_way
        (rw is_come (omega arith), record { handed = new; out = rw is_come here; into = rw is_come refl; picked = λ u. rw is_come (alone S new) })

    -- at any other master all is as it was
    apart : (y : ℕ) → y ≢ m → put handed m (held [] []) y ≡ g.kept y
    apart y z = put_other handed m (held [] []) y z ∙ put_other come m (held (new ∷ []) []) y z ∙ put_other g.kept m joined y z

    nothing_left : (y : ℕ) → y ≢ k → Dec (y ≡ m) → put handed m (held [] []) y ≡ held [] []
    nothing_left y z (yes e) = rw e (put_same handed m (held [] []))
    nothing_left y z (no w) = apart y w ∙ g.others y z

    answered : Stage (t + (7 + (S.stream j).cycle)) (toward (next N m) 40) now (answer new (t + (7 + (S.stream j).cycle)) ∷ went)
    answered = record {
      kept = put handed m (held [] []);
      came = new ∷ g.came;
      run = slowest {rest = held [] []} given
          (record { sent = ap (λ (s : Held). s.stack) is_handed; others = sym (ap (λ (s : Held). s.waiting) is_handed) }) (some_cycle declared b);
      own = apart k (λ e. n (sym e)) ∙ g.own;
      others = λ y z. nothing_left y z (ℕ_discrete y m);
      spaced = λ u up a c.
          let before = g.spaced u up a c in
          (before.0, other {r = new} (λ e. n (sym b.own ∙ ap (λ (v : ℕ). (S.stream v).master) e ∙ up_to_master S i u up)) before.1);
      asked = Memᴰ.tail g.asked;
    }

    asks_now : Later (t + hold S m) (toward (next N m) 0) now
    asks_now = record { went = _; stage = at (omega (arith, hold_served j b)) (passed {d = 0} 40 answered) }

  -- or it has none, and its visit goes unused
  skipped : {t m : ℕ} {now : Held} {went : List Answer} → m ≢ k → count S m ≡ 0 → Stage t (toward m 0) now went → Later (t + hold S m) (toward (next N m) 0) now
  skipped {m = m} {went = went} n silent g = record {
    went = went;
    stage = record {
      kept = g.kept;
      came = g.came;
      run = rw (hold_none S m silent)
          (skip {d = 0} 10 g.run (record { no_stack = ap (λ (s : Held). s.stack) (g.others m n); none_waits = ap (λ (s : Held). s.waiting) (g.others m n) }) (omega arith)
          refl);
      own = g.own;
      others = g.others;
      spaced = g.spaced;
      asked = g.asked;
    };
  }

  visit : {t m : ℕ} {now : Held} {went : List Answer} → m ≢ k → Stage t (toward m 0) now went → Later (t + hold S m) (toward (next N m) 0) now
  visit {m = m} n g = elim (dec_le 1 (count S m)) [ yes s ↦ asks_now n (belongs_count S m s).1 g | no s ↦ skipped n (omega (arith, s)) g ]

  -- ---- On to k

  -- how many masters there are from m on to k
  abbrev far : ℕ → ℕ
  far m = gap (λ z. 1) N k m

  record Arrived (m t : ℕ) (now : Held) : Type 0 where
    when_at : ℕ
    went : List Answer
    stage : Stage when_at (toward k 0) now went
    time : when_at + hold S k ≡ t + (hold S m + gap (hold S) N k m)

  walk : {m t : ℕ} {now : Held} {went : List Answer} (x : ℕ) → far m ≡ x → 1 ≤ m → m ≤ N → Stage t (toward m 0) now went → Arrived m t now
  walk {m} {t} {now} {went} zero e a b g =
      let is : m ≡ k = gap_apart N k a b 1≤k k≤n (e ∙ sym (gap_own (λ z. 1) N k)) in
      record {
        when_at = t;
        went = went;
        stage = subst (λ (u : ℕ). Stage t (toward u 0) now went) is g;
        time = omega (arith, ap (hold S) is, gap_own (hold S) N k, ap (gap (hold S) N k) is);
      }
  walk {m} {t} {now} (suc x) e a b g = on (walk {m = next N m} x (omega (arith, closer)) (next_in b).0 (next_in b).1 (visit n g).stage)
    where
      n : m ≢ k
      n z = omega (arith, ap far z, gap_own (λ z. 1) N k)

      closer : far m ≡ suc (far (next N m))
      closer = omega (arith, gap_next (λ z. 1) N k 1≤k k≤n m b n)

      on : Arrived (next N m) (t + hold S m) now → Arrived m t now
      on r = record { when_at = r.when_at; went = r.went; stage = r.stage; time = omega (arith, r.time, gap_next (hold S) N k 1≤k k≤n m b n) }

  -- ---- One turn

  turn_first : turn S ≡ upto (hold S) N
  unfolding turn turn_by
  turn_first = ap (λ (h : ℕ → ℕ). upto h N) (charged_first S (λ e. omega (arith, first_edition)))

  -- k's request is answered V after the token left k
  pub turned : {t : ℕ} {r : Request} {w : List Request} {went : List Answer} → Stage t (toward (next N k) 40) (held (r ∷ []) w) went
      → (before : List Answer) × Stage (t + turn S) (toward (next N k) 40) (held [] w) (answer r (t + turn S) ∷ before)
  turned {t} {r} {w} g = (x.went, rw time at served)
    where
      x : Arrived (next N k) (t + 40) (held (r ∷ []) w)
      x = walk (far (next N k)) refl (next_in k≤n).0 (next_in k≤n).1 (passed {d = 0} 40 g)

      its : Belongs S k r.of
      its = owned_by (stacked_keeps S Everyone) x.stage.run k r (inl (rw x.stage.own (Memᴰ.head refl)))

      served : Stage (x.when_at + (7 + (S.stream r.of).cycle)) (toward (next N k) 40) (held [] w) (answer r (x.when_at + (7 + (S.stream r.of).cycle)) ∷ x.went)
      served = record {
        kept = put x.stage.kept k (held [] w);
        came = x.stage.came;
        run = slowest {rest = held [] w} x.stage.run
            (record { sent = ap (λ (s : Held). s.stack) x.stage.own; others = sym (ap (λ (s : Held). s.waiting) x.stage.own) }) (some_cycle declared its);
        own = put_same x.stage.kept k (held [] w);
        others = λ m n. put_other x.stage.kept k (held [] w) m n ∙ x.stage.others m n;
        spaced = x.stage.spaced;
        asked = x.stage.asked;
      }

      time : x.when_at + (7 + (S.stream r.of).cycle) ≡ t + turn S
      time = omega (arith, x.time, hold_served r.of its, gap_lap (hold S) N k 1≤k k≤n, turn_first)

  -- one of those that wait is handed down
  pub handed_down : {t m d : ℕ} {r : Request} {l rest : List Request} {went : List Answer} → Stage t (toward m d) (held [] l) went → Taken r l rest → MostUrgent S r l
      → Stage t (toward m d) (held (r ∷ []) rest) went
  handed_down {r = r} {rest = rest} g out most = record {
    kept = put g.kept k (held (r ∷ []) rest);
    came = g.came;
    run = move {m = k} {left = held (r ∷ []) rest} g.run on_way
        (rw g.own (omega arith), record { handed = r; out = rw g.own out; into = rw g.own refl; picked = λ u. rw g.own most });
    own = put_same g.kept k (held (r ∷ []) rest);
    others = λ m n. put_other g.kept k (held (r ∷ []) rest) m n ∙ g.others m n;
    spaced = g.spaced;
    asked = g.asked;
  }
