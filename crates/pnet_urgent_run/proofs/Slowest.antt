-- Some run takes exactly V·(1 + b + the number of streams ahead), under edition 1 and where each master's own streams are equally long. So where no stream ahead of i can ask twice
-- within x, no figure lower than x would be true (NoLower). Assumes nothing.
--
-- The run: the token has just left i's master. A request behind i is in the stack, if there is a stream behind it; stream i and all ahead of it ask. From then on each turn
-- takes V and answers one request, the one in the stack first and i's last.
use Prim.Native.Nat.{ℕ, zero, suc, ◌+◌, ◌*◌, ◌≤◌}
use mathlib.Core.Path.{◌≡◌, refl, ap, sym, ◌∙◌}
use mathlib.Core.Bool.{Bool, true, false, cond, false≢true, true≢false}
use mathlib.Core.Logic.{◌≢◌, ◌⊎◌, ⊎_elim}
use mathlib.Core.List.Memᴰ
use mathlib.Core.List.{List, [], ◌∷◌, ◌++◌, Memᴰ}
use native.Mathlib.Nat.{zero-add}
use native.Mathlib.Decide.{ℕ_discrete, dec_le}
use native.Mathlib.Omega.{arith}
use lib.Dec.{eqb}
use borrow.Author.Tests.{ne_eqb, eqb-false}
use Rattle.common.specs.Sums.{when, upto, up}
use Rattle.common.proofs.Sums.{upto_same, upto_only, up_at_most, up_covers}
use Rattle.units.specs.declared.BitPeriods.{BitPeriods}
use Rattle.units.specs.Units.{bp}
use Rattle.pnet_rules.specs.Segment.{Segment, turn}
use Rattle.pnet_rules.specs.Limits.{Declared}
use Rattle.pnet_urgent_rules.specs.Urgent.{ahead, rank, behind, blocked, ahead_in}
use Rattle.pnet_urgent_rules.proofs.Order.{ahead_then, ahead_itself, ahead_one_way}
use Rattle.pnet_run.specs.Run.{Belongs, Request, request, Answer, answer, put, toward, on_way, next, RunBy, start, arrive, move}
use Rattle.pnet_run.specs.Promise.{Kept, quiet, other, asks}
use Rattle.pnet_run.proofs.Charges.{in_ring}
use Rattle.pnet_run.proofs.Keeping.{put_same, put_other}
use Rattle.pnet_run.proofs.Queues.{behind_last}
use Rattle.pnet_run.proofs.Ring.{next_in_ring}
use Rattle.pnet_run.proofs.Spacing.{came_of}
use Rattle.pnet_urgent_run.specs.Stack.{Held, held, here, Everyone, stacked}
use Rattle.pnet_urgent_run.specs.Promise.{UpTo, SpacedUpTo, SafeFor, ReachedFor}
use Rattle.pnet_urgent_run.proofs.Kept.{taken_was, left_was}
use Rattle.pnet_urgent_run.proofs.Heeded.{heeded, heeded_then, tally, tally_none, tally_behind, tally_taken, tally_in, tally_some}
use Rattle.pnet_urgent_run.proofs.Progress.{Picked, pick, alone}
use Rattle.pnet_urgent_run.proofs.Turns.{up_to_master, Stage, turned, handed_down}

-- where a sum of tests is not 0, one of them holds
some_of : (f : ℕ → Bool) (n : ℕ) → upto (λ j. when (f j) 1) n ≢ 0 → (j : ℕ) × (1 ≤ j) × (j ≤ n) × (f j ≡ true)
unfolding upto
some_of f zero e = absurd (e refl)
some_of f (suc n) e = go (some_of f n) (f (suc n)) refl e
  where
    Found : ℕ → Type 0
    Found m = (j : ℕ) × (1 ≤ j) × (j ≤ m) × (f j ≡ true)

    go : (upto (λ j. when (f j) 1) n ≢ 0 → Found n) → (b : Bool) → f (suc n) ≡ b → upto (λ j. when (f j) 1) n + when b 1 ≢ 0 → Found (suc n)
    go before true h z = (suc n, omega arith, omega arith, h)
    go before false h z = let x = before (λ q. z (omega arith)) in (x.0, x.1, omega (arith, x.2), x.3)

module _ (S : Segment) (declared : Declared S) (first_edition : S.edition ≡ 1)
    (alike : (m a b : ℕ) → Belongs S m a → Belongs S m b → (S.stream a).cycle ≡ (S.stream b).cycle) (i : ℕ) (from : 1 ≤ i) (to : i ≤ S.number) where
  abbrev k : ℕ
  k = (S.stream i).master

  abbrev after_k : ℕ
  after_k = next S.masters k

  abbrev At : ℕ → Held → List Answer → Type 0
  At t now went = Stage S declared first_edition alike i from to t (toward after_k 40) now went

  abbrev itself : ℕ → Bool
  itself j = eqb j i

  -- ---- Those that wait are answered, i's last

  record Done (u : ℕ) : Type 0 where
    waiting : List Request
    before : List Answer
    stage : At u (held [] waiting) (answer (request i 0) u ∷ before)

  done_at : {u v : ℕ} {p : Request} {w : List Request} {before : List Answer} → p ≡ request i 0 → u ≡ v → At u (held [] w) (answer p u ∷ before) → Done v
  done_at {w = w} {before = before} e f g = record { waiting = w; before = before; stage = rw (e, f) at g }

  Each : List Request → Type 0
  Each w = (p : Request) → Memᴰ p w → UpTo S i p.of × (p.since ≡ 0)

  -- one is most urgent
  most_urgent : (w : List Request) → tally itself w ≡ 1 → Picked S w
  most_urgent [] own = absurd (omega (arith, tally_none itself))
  most_urgent (r ∷ l) own = pick S r l

  one_turn : {t : ℕ} {w : List Request} {went : List Answer} (x : Picked S w) → At t (held [] w) went
      → (before : List Answer) × At (t + turn S) (held [] x.rest) (answer x.picked (t + turn S) ∷ before)
  one_turn x g = turned S declared first_edition alike i from to (handed_down S declared first_edition alike i from to g x.out x.most)

  -- where none ahead waits, it is i's
  last_one : {t : ℕ} {w : List Request} {went : List Answer} (x : Picked S w) → tally (ahead S i) w ≡ 0 → Each w → At t (held [] w) went → Done (t + 1 * turn S)
  unfolding Each
  last_one {t} {w} x none each g = go (each x.picked (taken_was x.out))
    where
      go : UpTo S i x.picked.of × (x.picked.since ≡ 0) → Done (t + 1 * turn S)
      go u =
          ⊎_elim
          (λ (e : x.picked.of ≡ i). done_at (ap (λ (a : ℕ). request a x.picked.since) e ∙ ap (request i) u.1) (omega arith) (one_turn x g).1)
          (λ (e : ahead S i x.picked.of ≡ true). absurd (omega (arith, tally_in (ahead S i) w x.picked (taken_was x.out) e)))
          u.0

  -- else it is one of these, and one fewer is left
  not_yet : {w : List Request} {n : ℕ} (x : Picked S w) → tally (ahead S i) w ≡ suc n → Each w → ahead S i x.picked.of ≡ true
  unfolding Each
  not_yet {w} {n} x some each =
      ⊎_elim (λ (e : x.picked.of ≡ i). absurd (false≢true (sym (x.most one_ahead.0 one_ahead.1) ∙ rw e one_ahead.2)))
      (λ (e : ahead S i x.picked.of ≡ true). e) (each x.picked (taken_was x.out)).0
    where
      one_ahead : (p : Request) × Memᴰ p w × (ahead S i p.of ≡ true)
      one_ahead = tally_some (ahead S i) w (omega arith)

  still_i : {w : List Request} (x : Picked S w) → tally itself w ≡ 1 → ahead S i x.picked.of ≡ true → tally itself x.rest ≡ 1
  still_i x own e =
      let not_itself : eqb x.picked.of i ≡ false = ne_eqb x.picked.of i (λ q. true≢false (sym (rw q at e) ∙ ahead_itself S i)) in
      omega (arith, rw not_itself at (tally_taken itself x.out))

  one_fewer : {w : List Request} {n : ℕ} (x : Picked S w) → tally (ahead S i) w ≡ suc n → ahead S i x.picked.of ≡ true → tally (ahead S i) x.rest ≡ n
  one_fewer x some e = omega (arith, rw e at (tally_taken (ahead S i) x.out))

  drain : (n : ℕ) (w : List Request) {t : ℕ} {went : List Answer} → tally itself w ≡ 1 → tally (ahead S i) w ≡ n → Each w → At t (held [] w) went → Done (t + suc n * turn S)
  unfolding Each
  drain zero w own some each g = last_one (most_urgent w own) some each g
  drain (suc n) w {t} own some each g =
      let x = most_urgent w own in
      let e = not_yet x some each in
      let time : t + turn S + suc n * turn S ≡ t + suc (suc n) * turn S = omega arith in
      rw time at (drain n x.rest (still_i x own e) (one_fewer x some e) (λ p j. each p (left_was x.out p j)) (one_turn x g).1)

  -- ---- Stream i and those ahead of it ask at 0, in sheet order

  record Asked (stack : List Request) (n : ℕ) : Type 0 where
    kept : ℕ → Held
    came : List Request
    waiting : List Request
    run : RunBy (stacked S Everyone) S 0 (toward after_k 40) kept came []
    own : kept k ≡ held stack waiting
    others : (m : ℕ) → m ≢ k → kept m ≡ held [] []
    one_of_i : tally itself waiting ≡ upto (λ j. when (itself j) 1) n
    all_ahead : tally (ahead S i) waiting ≡ upto (λ j. when (ahead S i j) 1) n
    each : Each waiting
    so_far : (p : Request) → Memᴰ p came → UpTo S i p.of → p.of ≤ n
    spaced : SpacedUpTo S i came
    there : i ≤ n → Memᴰ (request i 0) came

  -- stream n + 1 does
  module _ {stack : List Request} {n : ℕ} (l : suc n ≤ S.number) (g : Asked stack n) (e : heeded S i (suc n) ≡ true) where
    abbrev new : Request
    new = request (suc n) 0

    abbrev joined : Held
    joined = held (g.kept k).stack ((g.kept k).waiting ++ (new ∷ []))

    one_of_them : UpTo S i (suc n)
    one_of_them = heeded_then S i (suc n) e

    its : Belongs S k (suc n)
    its = record { from_one = omega arith; to_last = l; own = up_to_master S i (suc n) one_of_them }

    -- it has not asked before
    far : (j : ℕ) → j ≡ suc n → (T J : ℕ) (due : List ℕ) → Kept T J j g.came due → (v : ℕ) → Memᴰ v due → (0 + T ≤ v) ⊎ (v + T ≤ 0)
    far j is T J due kept v m =
        let a = came_of kept v m in
        absurd (omega (arith, g.so_far (request j a.0) a.1 (rw is one_of_them)))

    keeps : (j : ℕ) → UpTo S i j → 1 ≤ j → j ≤ S.number → Dec (j ≡ suc n)
        → (due : List ℕ) × Kept (S.stream j).spacing (S.stream j).jitter j (new ∷ g.came) due
    keeps j u a b (yes is) =
        let before = g.spaced j u a b in
        (0 ∷ before.0, asks {r = new} 0 (sym is) (omega arith) (omega arith) (far j is (S.stream j).spacing (S.stream j).jitter before.0 before.1) before.1)
    keeps j u a b (no z) = let before = g.spaced j u a b in (before.0, other {r = new} (λ q. z (sym q)) before.1)

    asks_too : Asked stack (suc n)
    unfolding Each upto
    asks_too = record {
      kept = put g.kept k joined;
      came = new ∷ g.came;
      waiting = g.waiting ++ (new ∷ []);
      run = arrive g.run on_way its;
      own = put_same g.kept k joined ∙ ap (λ (s : Held). held s.stack (s.waiting ++ (new ∷ []))) g.own;
      others = λ m z. put_other g.kept k joined m z ∙ g.others m z;
      one_of_i = omega (arith, g.one_of_i, tally_behind itself g.waiting new);
      all_ahead = omega (arith, g.all_ahead, tally_behind (ahead S i) g.waiting new);
      each = λ p j. ⊎_elim (λ (q : p ≡ new). rw q (one_of_them, refl)) (λ (c : Memᴰ p g.waiting). g.each p c) (behind_last g.waiting new p j);
      so_far = λ p j u. ⊎_elim (λ (q : p ≡ new). rw q (omega arith)) (λ (c : Memᴰ p g.came). omega (arith, g.so_far p c u)) (Memᴰ.cases_cons j);
      spaced = λ j u a b. keeps j u a b (ℕ_discrete j (suc n));
      there = λ m. elim (ℕ_discrete i (suc n)) [ yes z ↦ Memᴰ.head (ap (λ (a : ℕ). request a 0) z) | no z ↦ Memᴰ.tail (g.there (omega (arith, z))) ];
    }

  -- or it is neither i nor ahead of it, and does not
  stays_silent : {stack : List Request} {n : ℕ} → Asked stack n → itself (suc n) ≡ false → ahead S i (suc n) ≡ false → Asked stack (suc n)
  unfolding upto
  stays_silent {n = n} g e f = record {
    kept = g.kept;
    came = g.came;
    waiting = g.waiting;
    run = g.run;
    own = g.own;
    others = g.others;
    one_of_i = rw e (omega (arith, g.one_of_i));
    all_ahead = rw f (omega (arith, g.all_ahead));
    each = g.each;
    so_far = λ p j u. omega (arith, g.so_far p j u);
    spaced = g.spaced;
    there = λ m. g.there (omega (arith, eqb-false (suc n) i e));
  }

  next_asked : {stack : List Request} {n : ℕ} → suc n ≤ S.number → Asked stack n → Asked stack (suc n)
  unfolding heeded
  next_asked {stack} {n} l g = go (eqb (suc n) i) (ahead S i (suc n)) refl refl
    where
      go : (a b : Bool) → eqb (suc n) i ≡ a → ahead S i (suc n) ≡ b → Asked stack (suc n)
      go true b e f = asks_too l g (rw e refl)
      go false true e f = asks_too l g (rw (e, f) refl)
      go false false e f = stays_silent g e f

  all_asked : {stack : List Request} (n : ℕ) → n ≤ S.number → Asked stack 0 → Asked stack n
  all_asked zero l g = g
  all_asked (suc n) l g = next_asked l (all_asked n (omega arith) g)

  -- ---- Before that, nothing, or a request behind i that is handed down

  mine : Belongs S k i
  mine = record { from_one = from; to_last = to; own = refl }

  started : RunBy (stacked S Everyone) S 0 (toward after_k 40) (λ y. held [] []) [] []
  started =
      let own = in_ring declared mine in
      let ring = next_in_ring S.masters k (omega (arith, own)) own.1 in
      start {d = 40} ring.0 ring.1 (omega arith)

  none_asked : Asked [] 0
  unfolding Each upto
  none_asked = record {
    kept = λ y. held [] [];
    came = [];
    waiting = [];
    run = started;
    own = refl;
    others = λ m z. refl;
    one_of_i = tally_none itself;
    all_ahead = tally_none (ahead S i);
    each = λ p j. absurd (Memᴰ.not-nil j);
    so_far = λ p j u. absurd (Memᴰ.not-nil j);
    spaced = λ j u a b. ([], quiet);
    there = λ l. absurd (omega (arith, from, l));
  }

  module _ (j : ℕ) (1≤j : 1 ≤ j) (j≤n : j ≤ S.number) (less_urgent : ahead S j i ≡ true) where
    abbrev blocker : Request
    blocker = request j 0

    its_master : Belongs S k j
    its_master = record { from_one = 1≤j; to_last = j≤n; own = sym (ahead_then S j i less_urgent).one_master }

    -- it is not one of those up to i
    not_up : UpTo S i j → ⊥
    not_up =
        ⊎_elim (λ (e : j ≡ i). true≢false (sym (rw e at less_urgent) ∙ ahead_itself S i))
        (λ (e : ahead S i j ≡ true). true≢false (sym e ∙ ahead_one_way S j i less_urgent))

    abbrev come : ℕ → Held
    come = put (λ y. held [] []) k (held [] (blocker ∷ []))

    is_come : come k ≡ held [] (blocker ∷ [])
    is_come = put_same (λ y. held [] []) k (held [] (blocker ∷ []))

    one_asked : Asked (blocker ∷ []) 0
    unfolding Each upto
    one_asked = record {
      kept = put come k (held (blocker ∷ []) []);
      came = blocker ∷ [];
      waiting = [];
      run = move {m = k} {left = held (blocker ∷ []) []} (arrive started on_way its_master) on_way
          (rw is_come (omega arith), record { handed = blocker; out = rw is_come here; into = rw is_come refl; picked = λ u. rw is_come (alone S blocker) });
      own = put_same come k (held (blocker ∷ []) []);
      others = λ m z. put_other come k (held (blocker ∷ []) []) m z ∙ put_other (λ y. held [] []) k (held [] (blocker ∷ [])) m z;
      one_of_i = tally_none itself;
      all_ahead = tally_none (ahead S i);
      each = λ p m. absurd (Memᴰ.not-nil m);
      so_far = λ p m u.
          ⊎_elim (λ (q : p ≡ blocker). absurd (not_up (rw q at u))) (λ (c : Memᴰ p []). absurd (Memᴰ.not-nil c)) (Memᴰ.cases_cons m);
      spaced = λ u up a b. ([], other {r = blocker} (λ q. not_up (rw (← q) at up)) quiet);
      there = λ l. absurd (omega (arith, from, l));
    }

  -- ---- All turns

  stage_of : {stack : List Request} (g : Asked stack S.number) → At 0 (held stack g.waiting) []
  stage_of g = record { kept = g.kept; came = g.came; run = g.run; own = g.own; others = g.others; spaced = g.spaced; asked = g.there to }

  drained : {stack : List Request} {t : ℕ} {went : List Answer} (g : Asked stack S.number) → At t (held [] g.waiting) went → Done (t + suc (rank S i) * turn S)
  unfolding rank
  drained g s = drain (rank S i) g.waiting (g.one_of_i ∙ upto_only 1 i S.number from to) g.all_ahead g.each s

  longest : Done (turn S * (1 + blocked S i + rank S i))
  unfolding blocked behind
  longest = go (eqb (behind S i) 0) refl
    where
      go : (b : Bool) → eqb (behind S i) 0 ≡ b → Done (turn S * (1 + cond b 0 1 + rank S i))
      go true e =
          let g = all_asked S.number (omega arith) none_asked in
          let time : 0 + suc (rank S i) * turn S ≡ turn S * (1 + 0 + rank S i) = omega arith in
          rw time at (drained g (stage_of g))
      go false e =
          let p = some_of (λ j. ahead S j i) S.number (eqb-false (behind S i) 0 e) in
          let g = all_asked S.number (omega arith) (one_asked p.0 p.1 p.2 p.3) in
          let time : 0 + turn S + suc (rank S i) * turn S ≡ turn S * (1 + 1 + rank S i) = omega arith in
          rw time at (drained g (turned S declared first_edition alike i from to (stage_of g)).1)

  pub some_run_takes : ReachedFor (bp (turn S * (1 + blocked S i + rank S i))) S i
  some_run_takes = record {
    now = turn S * (1 + blocked S i + rank S i);
    token = toward after_k 40;
    kept = longest.stage.kept;
    came = longest.stage.came;
    went = answer (request i 0) (turn S * (1 + blocked S i + rank S i)) ∷ longest.before;
    run = longest.stage.run;
    spaced = longest.stage.spaced;
    slow = request i 0;
    own = refl;
    arrived = longest.stage.asked;
    exact = Memᴰ.head (ap (answer (request i 0)) (zero-add (turn S * (1 + blocked S i + rank S i))));
  }

-- ---- No lower figure would be true

-- what a run takes is no more than what is safe
pub reached_is_least : {S : Segment} {i : ℕ} (R Q : BitPeriods) → ReachedFor R S i → SafeFor Q S i → R.0 ≤ Q.0
reached_is_least R Q x safe = omega (arith, (safe.ever {Urgent = Everyone} tt x.run x.spaced).in_time (answer x.slow _) x.exact x.own)

-- no stream ahead of i can ask twice within x
abbrev pub OnceEach : Segment → ℕ → ℕ → Type 0
OnceEach S i x = (j : ℕ) → 1 ≤ j → j ≤ S.number → ahead S i j ≡ true → x + (S.stream j).jitter ≤ (S.stream j).spacing

pub once_is_rank : (S : Segment) → Declared S → (i x : ℕ) → 1 ≤ x → OnceEach S i x → ahead_in S i x ≡ rank S i
unfolding ahead_in rank
once_is_rank S declared i x some once =
    upto_same (λ j. when (ahead S i j) (up (x + (S.stream j).jitter) (S.stream j).spacing)) (λ j. when (ahead S i j) 1) S.number
    (λ j a b. each j a b (ahead S i j) refl)
  where
    one : (y T : ℕ) → 1 ≤ y → y ≤ T → up y T ≡ 1
    one y T lo hi = go (dec_le 1 (up y T))
      where
        go : Dec (1 ≤ up y T) → up y T ≡ 1
        go (yes l) = omega (arith, up_at_most y T 1 (omega arith) (omega arith))
        go (no l) = let z : up y T ≡ 0 = omega (arith, l) in absurd (omega (arith, rw z at (up_covers y T (omega arith))))

    each : (j : ℕ) → 1 ≤ j → j ≤ S.number → (b : Bool) → ahead S i j ≡ b → when b (up (x + (S.stream j).jitter) (S.stream j).spacing) ≡ when b 1
    each j lo hi true e = one (x + (S.stream j).jitter) (S.stream j).spacing (omega arith) (once j lo hi e)
    each j lo hi false e = refl
