-- The log of a run, where successive records are less than 2^31 bp apart, is a capture whose clock, ages and gaps are true
-- (crates/capture_ages/proofs/True.antt). So by the clock each request is as old as it is in the run, and as far behind its stream's
-- previous one. Assumes nothing.
use Prim.Native.Nat.{ℕ, ◌+◌, ◌-◌, ◌≤◌, ◌<◌}
use mathlib.Core.Path.{◌≡◌, refl, sym, ap, ◌∙◌}
use mathlib.Core.Bool.{Bool, true, false, not, ◌&&◌, and-false}
use mathlib.Core.Logic.{◌≢◌, inr, ⊎_elim}
use mathlib.Core.List.{List, [], ◌∷◌, Memᴰ}
use native.Mathlib.Decide.{ℕ_discrete, dec_lt}
use native.Mathlib.Omega.{arith}
use lib.Dec.{ltb, eqb}
use borrow.Author.Tests.{eq-eqb, le-ltb, ltb-false}
use Rattle.common.specs.Sums.{when}
use Rattle.pnet_rules.specs.Segment.{Segment}
use Rattle.pnet_rules.specs.Limits.{Declared}
use Rattle.pnet_run.specs.Run.{Belongs, Request, request, Answer, Token, Settled, Discipline, RunBy, start, complete, arrive, move, travel, work, serve, skip}
use Rattle.pnet_run.specs.Promise.{Kept, quiet, other as another, asks, Spaced}
use Rattle.pnet_run.proofs.Keeping.{Keeps, came_past, kept_came}
use Rattle.pnet_run.proofs.Bound.{apart_latest}
use Rattle.pnet_run.proofs.Spacing.{spaced_before, came_in_order, due_apart}
use Rattle.capture_log.specs.declared.Event.{Event}
use Rattle.capture_log.specs.Log.{stamp_at, fresh, left}
use Rattle.capture_ages.specs.Ages.{clock, broken, asked, lead_behind, lead, early, soon, whose, beyond}
use Rattle.capture_ages.specs.Timed.{Timed, UpTo}
use Rattle.capture_ages.specs.Timed.Timed.{one as begin, next}
use Rattle.capture_ages.specs.Timed.UpTo.{here, later}
use Rattle.capture_watch.proofs.Means.{grows, asked_past}
use Rattle.capture_ages.proofs.Leads.{kept_at_most, kept_in_time, lead_first, lead_next, lead_at_most, asked_here, lead_here, asked_there, lead_there}
use Rattle.capture_ages.proofs.True.{in_order, not_broken, true_clock, asks_not, true_age}
use Rattle.demands.specs.Logged.{log_of, instants_of, first, Close, none, one, and}
use Rattle.demands.proofs.Matching.{Is, Counts, Punctual, matches}

-- ---- The log is timed

-- the records es of a run that has come to t, made at the instants ts: none, or timed from the first of these instants to the latest
pub data Recorded (z t : ℕ) : List ℕ → List Event → Type 0 where
  nothing : Recorded z t [] []
  up_to : {s : ℕ} {ts : List ℕ} {e : Event} {es : List Event} → Timed z (e ∷ es) (first (s ∷ ts)) s → s ≤ t → Recorded z t (s ∷ ts) (e ∷ es)

pub timed : {z t s : ℕ} {ts : List ℕ} {es : List Event} → Recorded z t (s ∷ ts) es → Timed z es (first (s ∷ ts)) s
timed (up_to r past) = r

recorded_on : {z t u : ℕ} {ts : List ℕ} {es : List Event} → t ≤ u → Recorded z t ts es → Recorded z u ts es
recorded_on le nothing = nothing
recorded_on le (up_to r past) = up_to r (omega arith)

recorded_next : {z t : ℕ} {ts : List ℕ} {e : Event} {es : List Event} → e.stamp ≡ stamp_at z t → Recorded z t ts es → Close (t ∷ ts)
    → Recorded z t (t ∷ ts) (e ∷ es)
unfolding first
recorded_next x nothing close = up_to (begin x) (omega arith)
recorded_next x (up_to r past) (and near close) = up_to (next r past (omega arith) x) (omega arith)

close_before : {t : ℕ} {ts : List ℕ} → Close (t ∷ ts) → Close ts
close_before one = none
close_before (and near close) = close

pub recorded : {D : Discipline} {S : Segment} {t : ℕ} {y : Token} {q : ℕ → D.State} {came : List Request} {went : List Answer} (z : ℕ) (run : RunBy D S t y q came went)
    → Close (instants_of run) → Recorded z t (instants_of run) (log_of z run)
unfolding log_of instants_of
recorded z (start a b c) close = nothing
recorded z (complete run p) close = recorded_next refl (recorded z run (close_before close)) close
recorded z (arrive run o d) close = recorded_next refl (recorded z run (close_before close)) close
recorded z (move run o p) close = recorded z run close
recorded z (travel e run) close = recorded_on (omega arith) (recorded z run close)
recorded z (work e run) close = recorded_on (omega arith) (recorded z run close)
recorded z (serve e x c run p a b d f g o) close = recorded_on (omega arith) (recorded z run close)
recorded z (skip e run p a b) close = recorded_on (omega arith) (recorded z run close)

pub unbroken : {z t : ℕ} {ts : List ℕ} {es : List Event} → Recorded z t ts es → broken es ≡ false
unfolding broken
unbroken nothing = refl
unbroken (up_to r past) = not_broken r

-- the clock is at most 1 and what has passed of the run
pub clock_within : {z t : ℕ} {ts : List ℕ} {es : List Event} → Recorded z t ts es → clock es ≤ 1 + t
unfolding clock
clock_within nothing = omega arith
clock_within (up_to r past) = omega (arith, true_clock r)

-- ---- The last request of a stream

-- stream i has had no request; or its last came at a, and fs are the records up to it. The first record was made at f
pub data Last (z f i : ℕ) (came : List Request) (es : List Event) : Type 0 where
  never : ((b : ℕ) → Memᴰ (request i b) came → ⊥) → asked es i ≡ 0 → Last z f i came es
  last : {a : ℕ} {fs : List Event} → Memᴰ (request i a) came → ((b : ℕ) → Memᴰ (request i b) came → b ≤ a) → UpTo i es fs → Timed z fs f a
      → Last z f i came es

-- one record more, at t: the first stays the first
last_begun : {z t i : ℕ} {ts : List ℕ} {came : List Request} {es : List Event} → Recorded z t ts es → Last z (first ts) i came es
    → Last z (first (t ∷ ts)) i came es
unfolding first
last_begun nothing (never n x) = never n x
last_begun nothing (last _ _ of_nothing _) = elim of_nothing [ ]
last_begun (up_to r past) p = p

-- a record that is no request of stream i
last_still : {z f i : ℕ} {came : List Request} {es : List Event} {e : Event} → (e.kind ≡ 16 → e.stream ≡ i → ⊥) → Last z f i came es
    → Last z f i came (e ∷ es)
unfolding asked
last_still {i = i} {e = e} other (never n x) = never n (rw (asks_not e i other) x)
last_still other (last j m q r) = last j m (later other q) r

-- the record e says that a request of stream o came at t
module _ {z f t o i : ℕ} {came : List Request} {e : Event} {es : List Event} (says : Is 16 o e) where
  last_other : o ≢ i → Last z f i came es → Last z f i (request o t ∷ came) (e ∷ es)
  last_other differs p = last_still (λ k s. differs (sym says.stream_is ∙ s)) (by p)
    where
      before : {b : ℕ} → Memᴰ (request i b) (request o t ∷ came) → Memᴰ (request i b) came
      before {b} j =
          ⊎_elim (λ (c : request i b ≡ request o t). absurd (differs (sym (ap (λ (r : Request). r.of) c)))) (λ (c : Memᴰ (request i b) came). c)
          (mathlib.Core.List.Memᴰ.cases_cons j)

      by : Last z f i came es → Last z f i (request o t ∷ came) es
      by (never n x) = never (λ b j. n b (before j)) x
      by (last j m q r) = last (mathlib.Core.List.Memᴰ.tail j) (λ b k. m b (before k)) q r

  last_arrive : Timed z (e ∷ es) f t → ((r : Request) → Memᴰ r (request o t ∷ came) → r.since ≤ t) → Last z f i came es
      → Last z f i (request o t ∷ came) (e ∷ es)
  last_arrive r past p = by (ℕ_discrete o i)
    where
      by : Dec (o ≡ i) → Last z f i (request o t ∷ came) (e ∷ es)
      by (yes c) =
          last (mathlib.Core.List.Memᴰ.head (ap (λ (x : ℕ). request x t) (sym c))) (λ b j. past (request i b) j) (here says.kind_is (says.stream_is ∙ c)) r
      by (no n) = last_other n p

pub last_request : {D : Discipline} {S : Segment} {t : ℕ} {y : Token} {q : ℕ → D.State} {came : List Request} {went : List Answer} (z : ℕ) (run : RunBy D S t y q came went)
    → Close (instants_of run) → (i : ℕ) → Last z (first (instants_of run)) i came (log_of z run)
unfolding log_of instants_of asked
last_request z (start a b c) close i = never (λ b j. mathlib.Core.List.Memᴰ.not-nil j) refl
last_request z (complete run p) close i =
    let before = close_before close in
    last_still (λ k s. omega arith) (last_begun (recorded z run before) (last_request z run before i))
last_request z (arrive run o d) close i =
    let before = close_before close in
    let past = recorded z run before in
    last_arrive (record { kind_is = refl; stream_is = refl }) (timed (recorded_next refl past close)) (came_past (arrive run o d))
    (last_begun past (last_request z run before i))
last_request z (move run o p) close i = last_request z run close i
last_request z (travel e run) close i = last_request z run close i
last_request z (work e run) close i = last_request z run close i
last_request z (serve e x c run p a b d f g o) close i = last_request z run close i
last_request z (skip e run p a b) close i = last_request z run close i

-- ---- Requests that come too soon

-- none of the records is one, where T i and J i are the spacing and the jitter of stream i
pub data Timely (T J : ℕ → ℕ) : List Event → Type 0 where
  nothing_yet : Timely T J []
  also : {e : Event} {es : List Event} → early T J e es ≡ false → Timely T J es → Timely T J (e ∷ es)

pub soon_none : {T J : ℕ → ℕ} {es : List Event} → Timely T J es → soon T J es ≡ 0
unfolding soon
soon_none nothing_yet = refl
soon_none (also x p) = rw (x, soon_none p)

pub whose_none : {T J : ℕ → ℕ} {es : List Event} → Timely T J es → whose T J es ≡ 0
unfolding whose
whose_none nothing_yet = refl
whose_none (also x p) = rw (x, whose_none p)

pub none_soon : (T J : ℕ → ℕ) (es : List Event) → soon T J es ≡ 0 → Timely T J es
unfolding soon
none_soon T J [] z = nothing_yet
none_soon T J (e ∷ es) z = by (early T J e es) refl z (none_soon T J es (omega arith))
  where
    by : (b : Bool) → early T J e es ≡ b → soon T J es + when b 1 ≡ 0 → Timely T J es → Timely T J (e ∷ es)
    by true x z p = absurd (omega arith)
    by false x z p = also x p

-- ---- Where the spacing is kept, none does

-- A lead counts from the earliest instant at which a request can be due, J behind its nominal time. So it reaches no further than the
-- instant at which the request is due by what its master keeps, whatever that is.
module _ (T J : ℕ → ℕ) where
  -- the lead of a request of stream i, at the record e
  abbrev new_lead : Event → List Event → ℕ → ℕ
  new_lead e es i = lead_behind (T i) (asked es i) (lead T J es i) (clock (e ∷ es) - asked es i)

  -- stream i has had no request; or its last one, with its lead, reaches no further than some u of `due`. The first record was made at f, so the
  -- clock is 1 there, and the last request came at f + asked - 1
  pub data Ahead (f i : ℕ) (es : List Event) (due : List ℕ) : Type 0 where
    unasked : asked es i ≡ 0 → Ahead f i es due
    up_to_due : {u : ℕ} → Memᴰ u due → asked es i + f + lead T J es i ≤ u + 1 → Ahead f i es due

  ahead_begun : {z t i : ℕ} {ts due : List ℕ} {es : List Event} → Recorded z t ts es → Ahead (first ts) i es due → Ahead (first (t ∷ ts)) i es due
  unfolding first asked
  ahead_begun nothing p = unasked refl
  ahead_begun (up_to r past) p = p

  ahead_still : {f i : ℕ} {due : List ℕ} {es : List Event} {e : Event} → (e.kind ≡ 16 → e.stream ≡ i → ⊥) → Ahead f i es due → Ahead f i (e ∷ es) due
  ahead_still {i = i} {es = es} {e = e} differs (unasked x) = unasked (asked_there i e es differs ∙ x)
  ahead_still {i = i} {es = es} {e = e} differs (up_to_due j l) = up_to_due j (omega (arith, asked_there i e es differs, lead_there i e es differs T J))

  -- a request of stream i comes at t, due at u, which is d or more behind all of `due`
  module _ {z f t i u d : ℕ} {due : List ℕ} {e : Event} {es : List Event} (says : Is 16 i e) (r : Timed z (e ∷ es) f t) (from : t ≤ u)
      (behind : (v : ℕ) → Memᴰ v due → v + d ≤ u) (least : T i ≤ d) (p : Ahead f i es due) where
    within_due : t + new_lead e es i ≤ u
    within_due = by p
      where
        gap : ℕ
        gap = clock (e ∷ es) - asked es i

        by : Ahead f i es due → t + new_lead e es i ≤ u
        by (unasked x) = omega (arith, lead_first (T i) (asked es i) (lead T J es i) gap x)
        by (up_to_due {u = v} j l) = omega (arith, lead_at_most (T i) (asked es i) (lead T J es i) gap, true_clock r, behind v j)

    ahead_arrive : Ahead f i (e ∷ es) (u ∷ due)
    ahead_arrive =
        up_to_due (mathlib.Core.List.Memᴰ.head refl)
        (omega (arith, asked_here i e es says.kind_is says.stream_is, lead_here i e es says.kind_is says.stream_is T J, kept_at_most (J i) (new_lead e es i), within_due, true_clock r, in_order r))

  -- stream i keeps the spacing d with the jitter j
  module _ {D : Discipline} {S : Segment} {d j i : ℕ} (short : j < d) (least : T i ≤ d) where
    -- what it is due at comes in the order of the requests
    in_turn : {t u : ℕ} {y : Token} {q : ℕ → D.State} {r : Request} {came : List Request} {went : List Answer} {due : List ℕ} → RunBy D S t y q (r ∷ came) went
        → Kept d j i (r ∷ came) (u ∷ due) → r.of ≡ i → (v : ℕ) → Memᴰ v due → v + d ≤ u
    in_turn run kept own v k = apart_latest (due_apart short (came_in_order run) kept) refl v (mathlib.Core.List.Memᴰ.map (request i) k)

    ahead : {t : ℕ} {y : Token} {q : ℕ → D.State} {came : List Request} {went : List Answer} {due : List ℕ} (z : ℕ) (run : RunBy D S t y q came went)
        → Close (instants_of run) → Kept d j i came due → Ahead (first (instants_of run)) i (log_of z run) due
    unfolding log_of instants_of asked
    ahead z (start a b c) close kept = unasked refl
    ahead z (complete run p) close kept =
        let before = close_before close in
        ahead_still (λ k s. omega arith) (ahead_begun (recorded z run before) (ahead z run before kept))
    ahead z (arrive run o b) close (another n kept) =
        let before = close_before close in
        ahead_still (λ k s. n s) (ahead_begun (recorded z run before) (ahead z run before kept))
    ahead z (arrive run o b) close (asks u own from to far kept) =
        let before = close_before close in
        let past = recorded z run before in
        ahead_arrive (record { kind_is = refl; stream_is = own }) (timed (recorded_next refl past close)) from
        (in_turn (arrive run o b) (asks u own from to far kept) own) least (ahead_begun past (ahead z run before kept))
    ahead z (move run o p) close kept = ahead z run close kept
    ahead z (travel e run) close kept = ahead z run close kept
    ahead z (work e run) close kept = ahead z run close kept
    ahead z (serve e x c run p a b k f g o) close kept = ahead z run close kept
    ahead z (skip e run p a b) close kept = ahead z run close kept

    -- so a request of it comes no sooner than J lets it
    in_due_time : {t m : ℕ} {y : Token} {q : ℕ → D.State} {came : List Request} {went : List Answer} {due : List ℕ} (z : ℕ) (run : RunBy D S t y q came went)
        (settled : Settled y) (own : Belongs S m i) → Close (instants_of (arrive run settled own)) → j ≤ J i → Kept d j i (request i t ∷ came) due
        → early T J (record { kind = 16; stream = i; stamp = stamp_at z t }) (log_of z run) ≡ false
    unfolding early instants_of
    in_due_time z run settled own close most (another n kept) = absurd (n refl)
    in_due_time {t = t} z run settled own close most (asks u mine from to far kept) =
        let before = close_before close in
        let past = recorded z run before in
        le-ltb (J i) _
        (omega (
          arith,
          to,
          within_due (record { kind_is = refl; stream_is = refl }) (timed (recorded_next {e = record { kind = 16; stream = i; stamp = stamp_at z t }} refl past close)) from
              (in_turn (arrive run settled own) (asks u mine from to far kept) refl) least (ahead_begun past (ahead z run before kept)),
        ))

-- where T i is at most the spacing of stream i and J i at least its jitter, for each of the segment
module _ {D : Discipline} {S : Segment} (T J : ℕ → ℕ) (declared : Declared S) (least : (k i : ℕ) → Belongs S k i → T i ≤ (S.stream i).spacing)
    (most : (k i : ℕ) → Belongs S k i → (S.stream i).jitter ≤ J i) where
  pub timely : {t : ℕ} {y : Token} {q : ℕ → D.State} {came : List Request} {went : List Answer} (z : ℕ) (run : RunBy D S t y q came went) → Close (instants_of run)
      → ((k : ℕ) → Spaced S k came) → Timely T J (log_of z run)
  unfolding log_of instants_of early
  timely z (start a b c) close spaced = nothing_yet
  timely z (complete run p) close spaced = also refl (timely z run (close_before close) spaced)
  timely z (arrive {m = m} {i = i} run o b) close spaced =
      also
      (in_due_time T J (declared.ranges i b.from_one b.to_last).jitter_to (least m i b) z run o b close (most m i b) (spaced m i b).1)
      (timely z run (close_before close) (λ k. spaced_before (spaced k)))
  timely z (move run o p) close spaced = timely z run close spaced
  timely z (travel e run) close spaced = timely z run close spaced
  timely z (work e run) close spaced = timely z run close spaced
  timely z (serve e x c run p a b d f g o) close spaced = timely z run close spaced
  timely z (skip e run p a b) close spaced = timely z run close spaced

-- ---- Where none comes too soon, the spacing is kept

module _ (T J : ℕ → ℕ) where
  -- each request is due as early as it can be, at `due`, none of which is behind the last request with its lead
  pub record Dues (f i : ℕ) (came : List Request) (es : List Event) : Type 0 where
    pub due : List ℕ
    pub kept : Kept (T i) (J i) i came due
    pub last_is : (v : ℕ) → Memᴰ v due → (1 ≤ asked es i) × (v + 1 ≤ asked es i + f + lead T J es i)

  -- a request of stream i that did not come too soon
  lead_in_time : {o i : ℕ} {e : Event} (es : List Event) → Is 16 o e → o ≡ i → early T J e es ≡ false → new_lead T J e es i ≤ J i
  unfolding early
  lead_in_time {i = i} {e = e} es says c x =
      let mine : e.stream ≡ i = says.stream_is ∙ c in
      let soon_not : ltb (J e.stream) (new_lead T J e es e.stream) ≡ false = rw (eq-eqb e.kind 16 says.kind_is) at x in
      rw (← mine) (ltb-false (J e.stream) (new_lead T J e es e.stream) soon_not)

  dues_begun : {z t i : ℕ} {ts : List ℕ} {came : List Request} {es : List Event} → Recorded z t ts es → Dues (first ts) i came es
      → Dues (first (t ∷ ts)) i came es
  unfolding first asked
  dues_begun nothing p = record { due = p.due; kept = p.kept; last_is = λ v j. absurd (omega (arith, (p.last_is v j).0)) }
  dues_begun (up_to r past) p = p

  -- a record that is no request of stream i
  module _ {f i : ℕ} {came : List Request} (e : Event) {es : List Event} (differs : e.kind ≡ 16 → e.stream ≡ i → ⊥) (p : Dues f i came es) where
    last_still_is : (v : ℕ) → Memᴰ v p.due → (1 ≤ asked (e ∷ es) i) × (v + 1 ≤ asked (e ∷ es) i + f + lead T J (e ∷ es) i)
    last_still_is v j =
        let l = p.last_is v j in
        let a = asked_there i e es differs in
        (omega (arith, l.0, a), omega (arith, l.1, a, lead_there i e es differs T J))

    dues_still : Dues f i came (e ∷ es)
    dues_still = record { due = p.due; kept = p.kept; last_is = last_still_is }

    dues_other : (r : Request) → r.of ≢ i → Dues f i (r ∷ came) (e ∷ es)
    dues_other r n = record { due = p.due; kept = another {r = r} n p.kept; last_is = last_still_is }

  -- a request of stream i comes at t, and not too soon
  module _ {z f t i : ℕ} {came : List Request} {e : Event} {es : List Event} (says : Is 16 i e) (r : Timed z (e ∷ es) f t) (p : Dues f i came es)
      (in_time : new_lead T J e es i ≤ J i) where
    abbrev new_due : ℕ
    new_due = t + new_lead T J e es i

    behind_all : (v : ℕ) → Memᴰ v p.due → v + T i ≤ new_due
    behind_all v j =
        let l = p.last_is v j in
        let new = lead_next (T i) (asked es i) (lead T J es i) (clock (e ∷ es) - asked es i) (λ z. omega (arith, l.0, z)) in
        omega (arith, l.1, new, true_clock r, in_order r, asked_past es i, grows e es)

    dues_arrive : (o : ℕ) → o ≡ i → Dues f i (request o t ∷ came) (e ∷ es)
    dues_arrive o own = record {
      due = new_due ∷ p.due;
      kept = asks {r = request o t} new_due own (omega arith) (omega (arith, in_time)) (λ v j. inr (behind_all v j)) p.kept;
      last_is = λ v j. (omega (arith, asked_now, true_clock r), ⊎_elim (λ (c : v ≡ new_due). at v (omega arith)) (λ (c : Memᴰ v p.due). at v (omega (arith, behind_all v c))) (mathlib.Core.List.Memᴰ.cases_cons j));
    }
      where
        asked_now : asked (e ∷ es) i ≡ clock (e ∷ es)
        asked_now = asked_here i e es says.kind_is says.stream_is

        lead_now : lead T J (e ∷ es) i ≡ new_lead T J e es i
        lead_now = lead_here i e es says.kind_is says.stream_is T J ∙ kept_in_time (J i) _ in_time

        at : (v : ℕ) → v ≤ new_due → v + 1 ≤ asked (e ∷ es) i + f + lead T J (e ∷ es) i
        at v l = omega (arith, l, asked_now, lead_now, true_clock r, in_order r)

  -- of any stream
  dues_next : {z f t o : ℕ} {came : List Request} {e : Event} {es : List Event} → Is 16 o e → Timed z (e ∷ es) f t → early T J e es ≡ false → (i : ℕ)
      → Dues f i came es → Dues f i (request o t ∷ came) (e ∷ es)
  dues_next {f = f} {t = t} {o = o} {came = came} {e = e} {es = es} says r x i p = by (ℕ_discrete o i)
    where
      by : Dec (o ≡ i) → Dues f i (request o t ∷ came) (e ∷ es)
      by (yes c) = dues_arrive (record { kind_is = says.kind_is; stream_is = says.stream_is ∙ c }) r p (lead_in_time es says c x) o c
      by (no n) = dues_other e (λ k s. n (sym says.stream_is ∙ s)) p (request o t) n

  dues : {D : Discipline} {S : Segment} {t : ℕ} {y : Token} {q : ℕ → D.State} {came : List Request} {went : List Answer} (z : ℕ) (run : RunBy D S t y q came went)
      → Close (instants_of run) → Timely T J (log_of z run) → (i : ℕ) → Dues (first (instants_of run)) i came (log_of z run)
  unfolding log_of instants_of early
  dues z (start a b c) close timed_all i = record { due = []; kept = quiet; last_is = λ v j. absurd (mathlib.Core.List.Memᴰ.not-nil j) }
  dues z (complete run p) close (also x timed_all) i =
      let before = close_before close in
      dues_still _ (λ k s. omega arith) (dues_begun (recorded z run before) (dues z run before timed_all i))
  dues z (arrive {i = o} run settled b) close (also x timed_all) i =
      let before = close_before close in
      let past = recorded z run before in
      dues_next (record { kind_is = refl; stream_is = refl }) (timed (recorded_next refl past close)) x i (dues_begun past (dues z run before timed_all i))
  dues z (move run o p) close timed_all i = dues z run close timed_all i
  dues z (travel e run) close timed_all i = dues z run close timed_all i
  dues z (work e run) close timed_all i = dues z run close timed_all i
  dues z (serve e x c run p a b k f g o) close timed_all i = dues z run close timed_all i
  dues z (skip e run p a b) close timed_all i = dues z run close timed_all i

-- of each stream, with the spacing T i and the jitter J i
pub timely_kept : (T J : ℕ → ℕ) {D : Discipline} {S : Segment} {t : ℕ} {y : Token} {q : ℕ → D.State} {came : List Request} {went : List Answer} (z : ℕ) (run : RunBy D S t y q came went)
    → Close (instants_of run) → Timely T J (log_of z run) → (i : ℕ) → (due : List ℕ) × Kept (T i) (J i) i came due
timely_kept T J z run close timed_all i = let p = dues T J z run close timed_all i in (p.due, p.kept)

-- ---- Requests that are open

-- where some request of stream i came at a, R ago or less, so did the last
age_within : {z t a i R : ℕ} {ts : List ℕ} {came : List Request} {es : List Event} → Recorded z t ts es → Last z (first ts) i came es
    → Memᴰ (request i a) came → t ≤ a + R → clock es - asked es i ≤ R
unfolding clock
age_within nothing p j le = omega arith
age_within {a = a} (up_to r past) (never n x) j le = absurd (n a j)
age_within {a = a} (up_to r past) (last k m q l) j le = omega (arith, m a j, true_age q l r)

-- what is open is kept, and what is kept is not late
module _ {D : Discipline} {K : Keeps D} (C : Counts D K) {S : Segment} {k i B : ℕ} {Kind : List Request → Type 0} (P : Punctual D K S k i B Kind) where
  module _ {t : ℕ} {y : Token} {q : ℕ → D.State} {came : List Request} {went : List Answer} (z : ℕ) (run : RunBy D S t y q came went) (close : Close (instants_of run))
      (kind : Kind came) where
    -- r is kept, so it is not B old, and no later one of its stream is
    aged : (r : Request) → K.In (q k) r → i ≡ r.of → clock (log_of z run) - asked (log_of z run) i ≤ B
    aged r j e =
        let then : Memᴰ (request i r.since) came = rw e (kept_came K run k r j) in
        age_within (recorded z run close) (last_request z run close i) then (P.waits t y q came went run kind r j (sym e)).by_then

    pub open_within : beyond B (log_of z run) i ≡ false
    unfolding beyond
    open_within = by (dec_lt 0 (C.many (q k) i))
      where
        es : List Event
        es = log_of z run

        by : Dec (0 < C.many (q k) i) → not (eqb (left fresh es i) 0) && ltb B (clock es - asked es i) ≡ false
        by (yes some) =
            let w = C.some (q k) i some in
            rw (le-ltb B (clock es - asked es i) (aged w.0 w.1 w.2)) (and-false (not (eqb (left fresh es i) 0)))
        by (no none_waits) = let idle = (matches C P z run kind).idle (omega (arith, none_waits)) in rw idle
