-- The capture of a run beside what a master keeps, by any discipline that loses no request and makes none up: where a stream's requests are answered before its next
-- one comes, at most one is kept at a time, and one exactly if the stream is open in the capture, which then has its stamp. So an answer shows what its
-- request took. Assumes nothing.
use Prim.Native.Nat.{ℕ, ◌+◌, ◌-◌, ◌≤◌, ◌<◌, max}
use mathlib.Core.Path.{◌≡◌, refl, sym, ap, ◌∙◌}
use mathlib.Core.Bool.{Bool, true, false, ◌&&◌}
use mathlib.Core.Logic.{◌≢◌, inr, ⊎_elim}
use mathlib.Core.List.{List, [], ◌∷◌}
use native.Mathlib.Decide.{ℕ_discrete, dec_lt}
use native.Mathlib.Omega.{arith}
use lib.Dec.{ltb, eqb}
use borrow.Author.Tests.{eq-eqb, ne_eqb, eqb-true, le-ltb}
use Rattle.common.specs.Sums.{when}
use Rattle.sheet_record.proofs.Tables.{both_true}
use Rattle.pnet_rules.specs.Segment.{Segment}
use Rattle.pnet_run.specs.Run.{
  Belongs,
  Request,
  request,
  Answer,
  put,
  Token,
  serving,
  Settled,
  Discipline,
  RunBy,
  start,
  complete,
  arrive,
  move,
  travel,
  work,
  serve,
  skip,
}
use Rattle.pnet_run.specs.Promise.{Kept, Spaced}
use Rattle.pnet_run.proofs.Keeping.{Keeps, put_same, put_relates, owned_by, kept_came, sent_kept}
use Rattle.pnet_run.proofs.Answering.{NotLate}
use Rattle.pnet_run.proofs.Bound.{apart_latest}
use Rattle.pnet_run.proofs.Spacing.{kept_apart, came_in_order}
use Rattle.capture_log.specs.declared.Event.{Event}
use Rattle.capture_log.specs.Log.{asks, answers, stamp_at, fresh, left, since, shown, largest, above}
use Rattle.capture_log.proofs.Stamps.{true_response}
use Rattle.demands.specs.Logged.{log_of}

-- ---- One more record

-- e is of this kind and of stream i
pub record Is (kind i : ℕ) (e : Event) : Type 0 where
  pub kind_is : e.kind ≡ kind
  pub stream_is : e.stream ≡ i

-- what it says of its own stream
module _ {i : ℕ} {e : Event} (es : List Event) where
  left_asked : Is 16 i e → left fresh (e ∷ es) i ≡ 1
  unfolding left asks
  left_asked f = rw (eq-eqb e.kind 16 f.kind_is, eq-eqb e.stream i f.stream_is)

  since_asked : Is 16 i e → since fresh (e ∷ es) i ≡ e.stamp
  unfolding since asks
  since_asked f = rw (eq-eqb e.kind 16 f.kind_is, eq-eqb e.stream i f.stream_is)

  left_given : Is 17 i e → left fresh (e ∷ es) i ≡ 0
  unfolding left asks answers
  left_given f =
      rw (ne_eqb e.kind 16 (λ z. omega (arith, f.kind_is)), eq-eqb e.kind 17 f.kind_is, eq-eqb e.stream i f.stream_is)

-- nothing of another
module _ {kind i : ℕ} {e : Event} (f : Is kind i e) (j : ℕ) (other : i ≢ j) (es : List Event) where
  and_false : (b : Bool) → b && false ≡ false
  and_false true = refl
  and_false false = refl

  not_same : eqb e.stream j ≡ false
  not_same = ne_eqb e.stream j (λ z. other (sym f.stream_is ∙ z))

  left_other : left fresh (e ∷ es) j ≡ left fresh es j
  unfolding left asks answers
  left_other = rw (not_same, and_false (eqb e.kind 16), and_false (eqb e.kind 17))

  since_other : since fresh (e ∷ es) j ≡ since fresh es j
  unfolding since asks
  since_other = rw (not_same, and_false (eqb e.kind 16))

-- ---- Responses within R

-- each answer of stream i shows R at most
pub data Within (R i : ℕ) : List Event → Type 0 where
  none : Within R i []
  and : {e : Event} {es : List Event} → (Is 17 i e → shown fresh es e ≤ R) → Within R i es → Within R i (e ∷ es)

within_arrive : {R i : ℕ} {e : Event} {es : List Event} → Within R i es → e.kind ≡ 16 → Within R i (e ∷ es)
within_arrive {e = e} w f = and {e = e} (λ g. absurd (omega (arith, f, g.kind_is))) w

answers_is : (e : Event) (i : ℕ) → answers e i ≡ true → Is 17 i e
unfolding answers
answers_is e i t =
    let b = both_true (eqb e.kind 17) (eqb e.stream i) t in
    record { kind_is = eqb-true e.kind 17 b.0; stream_is = eqb-true e.stream i b.1 }

pub above_none : {R i : ℕ} {es : List Event} → Within R i es → above fresh R es i ≡ 0
unfolding above
above_none none = refl
above_none {R} {i} (and {e = e} {es = es} f w) = by (answers e i) (λ t. f (answers_is e i t)) (above_none w)
  where
    by : (b : Bool) → (b ≡ true → shown fresh es e ≤ R) → above fresh R es i ≡ 0 → when (b && ltb R (shown fresh es e)) 1 + above fresh R es i ≡ 0
    by true g z = rw (le-ltb R (shown fresh es e) (g refl)) (omega arith)
    by false g z = omega arith

pub largest_most : {R i : ℕ} {es : List Event} → Within R i es → largest fresh es i ≤ R
unfolding largest
largest_most none = omega arith
largest_most {R} {i} (and {e = e} {es = es} f w) = by (answers e i) (λ t. f (answers_is e i t)) (largest_most w)
  where
    by : (b : Bool) → (b ≡ true → shown fresh es e ≤ R) → largest fresh es i ≤ R → max (when b (shown fresh es e)) (largest fresh es i) ≤ R
    by true g z = omega (arith, g refl)
    by false g z = omega arith

-- ---- What is supposed of a discipline

-- how many requests of each stream a master keeps; two that came at one instant are two
pub record Counts (D : Discipline) (K : Keeps D) : Type 0 where
  pub many : D.State → ℕ → ℕ
  pub none : (i : ℕ) → many D.empty i ≡ 0
  pub joins : (s : D.State) (r : Request) (i : ℕ) → many (D.joined s r) i ≡ when (eqb r.of i) 1 + many s i
  pub moves : (m : ℕ) (y : Token) (s left : D.State) → D.Moves m y s left → (i : ℕ) → many left i ≡ many s i
  pub serves : (s rest : D.State) (r : Request) → D.Serves s r rest → (i : ℕ) → many s i ≡ when (eqb r.of i) 1 + many rest i
  pub counted : (s : D.State) (p : Request) → K.In s p → 1 ≤ many s p.of
  pub some : (s : D.State) (i : ℕ) → 1 ≤ many s i → (p : Request) × K.In s p × (i ≡ p.of)

-- in every run whose arrivals are of some kind, stream i of master k keeps its spacing, and what is kept of it came less than B ago, which fits into its spacing
pub record Punctual (D : Discipline) (K : Keeps D) (S : Segment) (k i B : ℕ) (Kind : List Request → Type 0) : Type 0 where
  pub own : Belongs S k i
  pub short : (S.stream i).jitter < (S.stream i).spacing
  pub fits : B ≤ (S.stream i).spacing - (S.stream i).jitter
  pub small : B ≤ 1000000000
  pub keeps : (came : List Request) → Kind came → (due : List ℕ) × Kept (S.stream i).spacing (S.stream i).jitter i came due
  pub earlier : (r : Request) (came : List Request) → Kind (r ∷ came) → Kind came
  pub waits : (t : ℕ) (y : Token) (q : ℕ → D.State) (came : List Request) (went : List Answer) → RunBy D S t y q came went → Kind came
      → (r : Request) → K.In (q k) r → r.of ≡ i → NotLate B r.since t y

-- so it is where more is asked of the arrivals
pub punctual_if : {D : Discipline} {K : Keeps D} {S : Segment} {k i B : ℕ} {Kind More : List Request → Type 0} → ((came : List Request) → More came → Kind came)
    → ((r : Request) (came : List Request) → More (r ∷ came) → More came) → Punctual D K S k i B Kind → Punctual D K S k i B More
punctual_if less before P = record {
  own = P.own;
  short = P.short;
  fits = P.fits;
  small = P.small;
  keeps = λ came s. P.keeps came (less came s);
  earlier = before;
  waits = λ t y q came went run s. P.waits t y q came went run (less came s);
}

-- a kind of arrivals: every master keeps its spacing
abbrev pub AllSpaced : Segment → List Request → Type 0
AllSpaced S came = (k : ℕ) → Spaced S k came

-- ---- The capture and what is kept

-- a request that is kept at the instant t is its stream's open one behind es, and has the stamp there; the counter began at z
pub record Open (z t : ℕ) (es : List Event) (r : Request) : Type 0 where
  pub not_after : r.since ≤ t
  pub one : left fresh es r.of ≡ 1
  pub stamped : since fresh es r.of ≡ stamp_at z r.since

open_still : {z t kind i : ℕ} {e : Event} {es : List Event} {r : Request} → Is kind i e → i ≢ r.of → Open z t es r → Open z t (e ∷ es) r
open_still {es = es} {r = r} f n o = record {
  not_after = o.not_after;
  one = left_other f r.of n es ∙ o.one;
  stamped = since_other f r.of n es ∙ o.stamped;
}

open_asked : {z t i : ℕ} {e : Event} {es : List Event} → Is 16 i e → e.stamp ≡ stamp_at z t → Open z t (e ∷ es) (request i t)
open_asked {es = es} f x = record { not_after = omega arith; one = left_asked es f; stamped = since_asked es f ∙ x }

module _ {D : Discipline} {K : Keeps D} (C : Counts D K) where
  -- what is kept of stream i in the state s, at the instant t, matches the records es
  pub record Matches (i z t : ℕ) (s : D.State) (es : List Event) : Type 0 where
    pub waiting : (r : Request) → K.In s r → r.of ≡ i → Open z t es r
    pub most : C.many s i ≤ 1
    -- a stream of which none is kept is not open
    pub idle : C.many s i ≡ 0 → left fresh es i ≡ 0

  -- of stream i as many are kept after as before, and these
  record Same (i : ℕ) (before after : D.State) : Type 0 where
    were : (r : Request) → K.In after r → r.of ≡ i → K.In before r
    as_many : C.many after i ≡ C.many before i

  same : (i : ℕ) (s : D.State) → Same i s s
  same i s = record { were = λ r j c. j; as_many = refl }

  matches_on : {i z t u : ℕ} {s : D.State} {es : List Event} → t ≤ u → Matches i z t s es → Matches i z u s es
  matches_on le M = record {
    waiting = λ r j e. let o = M.waiting r j e in record { not_after = omega (arith, o.not_after); one = o.one; stamped = o.stamped };
    most = M.most;
    idle = M.idle;
  }

  matches_moved : {i z t : ℕ} {s after : D.State} {es : List Event} → Same i s after → Matches i z t s es → Matches i z t after es
  matches_moved f M = record {
    waiting = λ r j c. M.waiting r (f.were r j c) c;
    most = omega (arith, f.as_many, M.most);
    idle = λ z. M.idle (sym f.as_many ∙ z);
  }

  module _ {i z t : ℕ} {s after : D.State} {e : Event} {es : List Event} where
    -- a record of another stream
    matches_other : {kind j : ℕ} → Is kind j e → j ≢ i → Same i s after → Matches i z t s es → Matches i z t after (e ∷ es)
    matches_other f n g M = record {
      waiting = λ r j c. open_still f (λ d. n (d ∙ c)) (M.waiting r (g.were r j c) c);
      most = omega (arith, g.as_many, M.most);
      idle = λ c. left_other f i n es ∙ M.idle (sym g.as_many ∙ c);
    }

  -- nothing is left of stream i in such a state
  none_in : {i : ℕ} {s : D.State} → C.many s i ≡ 0 → (r : Request) → K.In s r → r.of ≡ i → ⊥
  none_in {i} {s} nothing r j c = let l : 1 ≤ C.many s i = rw (← c) (C.counted s r j) in omega (arith, nothing)

  module _ {i z t : ℕ} {s : D.State} {e : Event} {es : List Event} (nothing : C.many s i ≡ 0) where
    -- the only one of stream i was answered
    matches_given : Is 17 i e → Matches i z t s (e ∷ es)
    matches_given f = record { waiting = λ r j c. absurd (none_in nothing r j c); most = omega (arith, nothing); idle = λ c. left_given es f }

    -- one of stream i arrives
    matches_asked : Is 16 i e → e.stamp ≡ stamp_at z t → Matches i z t (D.joined s (request i t)) (e ∷ es)
    matches_asked f x = record {
      waiting = λ r j c. ⊎_elim (λ (d : r ≡ request i t). rw d (open_asked f x)) (λ (d : K.In s r). absurd (none_in nothing r d c)) ((K.joins s (request i t) r).0 j);
      most = omega (arith, now);
      idle = λ c. absurd (omega (arith, now, c));
    }
      where
        now : C.many (D.joined s (request i t)) i ≡ 1
        now = C.joins s (request i t) i ∙ rw (eq-eqb i i refl, nothing)

  -- a request of another stream comes, or leaves
  other_joins : {i : ℕ} (s : D.State) (r : Request) → r.of ≢ i → Same i s (D.joined s r)
  other_joins {i} s r n = record {
    were = λ p j c. ⊎_elim (λ (d : p ≡ r). absurd (n (rw d at c))) (λ (d : K.In s p). d) ((K.joins s r p).0 j);
    as_many = C.joins s r i ∙ rw (ne_eqb r.of i n) (omega arith);
  }

  other_leaves : {i : ℕ} (s rest : D.State) (r : Request) → D.Serves s r rest → r.of ≢ i → Same i s rest
  other_leaves {i} s rest r p n = record {
    were = λ w j c. (K.serves s rest r p w).1 (inr j);
    as_many = sym (C.serves s rest r p i ∙ rw (ne_eqb r.of i n) (omega arith));
  }

  -- ---- Every run

  module _ {S : Segment} {k i B : ℕ} {Kind : List Request → Type 0} (P : Punctual D K S k i B Kind) where
    -- whose request is of stream i is master k
    its_master : {m j : ℕ} → Belongs S m j → j ≡ i → m ≡ k
    its_master b e = sym b.own ∙ (ap (λ (x : ℕ). (S.stream x).master) e ∙ P.own.own)

    module _ {t : ℕ} {y : Token} {q : ℕ → D.State} {came : List Request} {went : List Answer} (run : RunBy D S t y q came went) where
      -- none of stream i is kept when its next one comes
      pub alone : {m : ℕ} → Settled y → Belongs S m i → Kind (request i t ∷ came) → C.many (q k) i ≡ 0
      alone settled b s = by (dec_lt 0 (C.many (q k) i))
        where
          none_kept : (r : Request) → K.In (q k) r → i ≡ r.of → ⊥
          none_kept r j e =
              let apart = kept_apart P.short (came_in_order (arrive run settled b)) (P.keeps (request i t ∷ came) s).1 in
              let in_time = (P.waits t y q came went run (P.earlier (request i t) came s) r j (sym e)).before settled in
              omega (arith, P.fits, in_time, apart_latest apart refl r.since (rw e (kept_came K run k r j)))

          by : Dec (0 < C.many (q k) i) → C.many (q k) i ≡ 0
          by (yes l) = let p = C.some (q k) i l in absurd (none_kept p.0 p.1 p.2)
          by (no l) = omega (arith, l)

      matches_move : {z m : ℕ} {es : List Event} {after : D.State} → D.Moves m y (q m) after → Matches i z t (q k) es → Matches i z t (put q m after k) es
      matches_move {m = m} {after = after} p M =
          let moves : Same i (q m) after = record { were = λ r j c. (K.moves m y (q m) after p r).0 j; as_many = C.moves m y (q m) after p i } in
          matches_moved (put_relates (λ y a b. Same i a b) q m after moves (λ y a. same i a) k) M

      module _ {z : ℕ} {e : Event} {es : List Event} (M : Matches i z t (q k) es) where
        matches_complete : {m : ℕ} {r : Request} {rest : D.State} → Is 17 r.of e → D.Serves (q m) r rest → Matches i z t (put q m rest k) (e ∷ es)
        matches_complete {m} {r} {rest} f p = by (ℕ_discrete r.of i)
          where
            by : Dec (r.of ≡ i) → Matches i z t (put q m rest k) (e ∷ es)
            by (yes c) =
                let here : m ≡ k = its_master (owned_by K run m r (sent_kept K q m rest r p)) c in
                let one_less : C.many (q m) i ≡ 1 + C.many rest i = C.serves (q m) rest r p i ∙ rw (eq-eqb r.of i c) in
                let before : C.many (q m) i ≤ 1 = rw here M.most in
                rw (here, put_same q k rest) (matches_given (omega (arith, one_less, before)) (rw c at f))
            by (no n) = matches_other f n (put_relates (λ y a b. Same i a b) q m rest (other_leaves (q m) rest r p n) (λ y a. same i a) k) M

        matches_arrive : {m j : ℕ} → Is 16 j e → e.stamp ≡ stamp_at z t → Settled y → Belongs S m j → Kind (request j t ∷ came)
            → Matches i z t (put q m (D.joined (q m) (request j t)) k) (e ∷ es)
        matches_arrive {m} {j} f x settled b s = by (ℕ_discrete j i)
          where
            by : Dec (j ≡ i) → Matches i z t (put q m (D.joined (q m) (request j t)) k) (e ∷ es)
            by (yes c) =
                rw (its_master b c, c, put_same q k (D.joined (q k) (request i t)))
                (matches_asked (alone settled (rw c at b) (rw c at s)) (rw c at f) x)
            by (no n) =
                let joins : Same i (q m) (D.joined (q m) (request j t)) = other_joins (q m) (request j t) n in
                matches_other f n (put_relates (λ y a b. Same i a b) q m (D.joined (q m) (request j t)) joins (λ y a. same i a) k) M

    pub matches : {t : ℕ} {y : Token} {q : ℕ → D.State} {came : List Request} {went : List Answer} (z : ℕ) (run : RunBy D S t y q came went) → Kind came
        → Matches i z t (q k) (log_of z run)
    unfolding log_of left
    matches z (start a b c) s = record { waiting = λ r j e. absurd (K.none r j); most = omega (arith, C.none i); idle = λ e. refl }
    matches z (complete run p) s = matches_complete run (matches z run s) (omega arith) p
    matches z (arrive run o b) s = matches_arrive run (matches z run (P.earlier _ _ s)) (omega arith) (omega arith) o b s
    matches z (move run o p) s = matches_move run p (matches z run s)
    matches z (travel e run) s = matches_on (omega arith) (matches z run s)
    matches z (work e run) s = matches_on (omega arith) (matches z run s)
    matches z (serve e x c run p a b d f g o) s = matches_on (omega arith) (matches z run s)
    matches z (skip e run p a b) s = matches_on (omega arith) (matches z run s)

    -- ---- Responses

    -- the request that is sent is answered at the instant t, by the record e
    within_complete : {t m : ℕ} {q : ℕ → D.State} {r : Request} {rest : D.State} {came : List Request} {went : List Answer} {e : Event} (z : ℕ)
        (run : RunBy D S t (serving m 0) q came went) → D.Serves (q m) r rest → Kind came → Within B i (log_of z run) → Is 17 r.of e → e.stamp ≡ stamp_at z t
        → Within B i (e ∷ log_of z run)
    unfolding shown
    within_complete {t} {m} {q} {r} {rest} {came} {went} {e} z run p s w f x = and {e = e} it w
      where
        there : K.In (q m) r
        there = sent_kept K q m rest r p

        it : Is 17 i e → shown fresh (log_of z run) e ≤ B
        it g =
            let mine : r.of ≡ i = sym f.stream_is ∙ g.stream_is in
            let kept : K.In (q k) r = rw (← its_master (owned_by K run m r there) mine) there in
            let o = (matches z run s).waiting r kept mine in
            let soon : t ≤ r.since + B = (P.waits t (serving m 0) q came went run s r kept mine).by_then in
            rw (f.stream_is, x, o.stamped, true_response z r.since t o.not_after (omega (arith, P.small))) (omega arith)

    pub all_within : {t : ℕ} {y : Token} {q : ℕ → D.State} {came : List Request} {went : List Answer} (z : ℕ) (run : RunBy D S t y q came went) → Kind came
        → Within B i (log_of z run)
    unfolding log_of
    all_within z (start a b c) s = none
    all_within z (complete run p) s = within_complete z run p s (all_within z run s) (omega arith) (omega arith)
    all_within z (arrive run o b) s = within_arrive (all_within z run (P.earlier _ _ s)) (omega arith)
    all_within z (move run o p) s = all_within z run s
    all_within z (travel e run) s = all_within z run s
    all_within z (work e run) s = all_within z run s
    all_within z (serve e x c run p a b f g h o) s = all_within z run s
    all_within z (skip e run p a b) s = all_within z run s
