-- A capture each of whose records passes behind those before it passes as a whole, and so does the capture of a run, by any discipline, whose streams are punctual. Assumes nothing.
use Prim.Native.Nat.{ℕ, zero, suc, ◌+◌, ◌*◌, ◌≤◌, ◌<◌}
use mathlib.Core.Path.{◌≡◌, refl, sym, ap, ◌∙◌}
use mathlib.Core.Bool.{false, cond, not, ◌&&◌}
use mathlib.Core.List.{List, [], ◌∷◌}
use native.Mathlib.Decide.{ℕ_discrete}
use native.Mathlib.Omega.{arith}
use lib.Dec.{ltb, eqb}
use lib.ListN.{length}
use borrow.Author.Tests.{le-ltb}
use Rattle.common.specs.Checks.{Verdict}
use Rattle.common.specs.Checks.Verdict.{Passed}
use Rattle.common.specs.Sums.{up}
use Rattle.common.proofs.Checks.{Clear, none, and, passed_if}
use Rattle.common.proofs.Firsts.{found_none}
use Rattle.sheet_ranges.proofs.Ranges.{range_within}
use Rattle.pnet_rules.specs.Segment.{Segment}
use Rattle.pnet_run.specs.Run.{Belongs, Request, request, Answer, Settled, Token, Discipline, RunBy, start, complete, arrive, move, travel, work, serve, skip}
use Rattle.pnet_run.proofs.Keeping.{Keeps, owned_by, sent_kept}
use Rattle.capture_log.specs.declared.Event.{Event}
use Rattle.capture_log.specs.Log.{fresh, left}
use Rattle.capture_log.specs.Records.{size, event_at, events_in, known, event_checks, judge, is_refused, records, taken, heard}
use Rattle.demands.specs.Logged.{log_of}
use Rattle.demands.proofs.Matching.{Is, Counts, Punctual, alone, matches}

-- ---- Records

-- the record e passes behind es, on a sheet of n streams
pub data Passes (n : ℕ) (es : List Event) (e : Event) : Type 0 where
  asks : {i : ℕ} → Is 16 i e → 1 ≤ i → i ≤ n → left fresh es i ≡ 0 → Passes n es e
  gives : {i : ℕ} → Is 17 i e → 1 ≤ i → i ≤ n → left fresh es i ≡ 1 → Passes n es e

-- each does
pub data AllPass (n : ℕ) : List Event → Type 0 where
  nothing : AllPass n []
  also : {e : Event} {es : List Event} → Passes n es e → AllPass n es → AllPass n (e ∷ es)

-- lines 2, 15 and 16 of its refusals, for kind k where w requests are open
abbrev Free : ℕ → ℕ → Type 0
Free k w = (not (known k) ≡ false) × (eqb k 17 && eqb w 0 ≡ false) × (eqb k 16 && not (eqb w 0) ≡ false)

free_asks : (k w : ℕ) → k ≡ 16 → w ≡ 0 → Free k w
unfolding known
free_asks k w e f = rw (e, f) (refl, refl, refl)

free_gives : (k w : ℕ) → k ≡ 17 → w ≡ 1 → Free k w
unfolding known
free_gives k w e f = rw (e, f) (refl, refl, refl)

module _ (es : List Event) (e : Event) (n at m : ℕ) (whole : at + size ≤ m) where
  -- what is open of its stream
  abbrev w : ℕ
  w = left fresh es e.stream

  clear_if : {kind i : ℕ} → Is kind i e → 1 ≤ i → i ≤ n → Free e.kind w → Clear (event_checks m n w at e)
  unfolding event_checks
  clear_if f lo hi free =
      let range = range_within 1 e.stream n (record { least = omega (arith, f.stream_is); most = omega (arith, f.stream_is) }) in
      and free.0 (and (le-ltb m (at + size) whole) (and (ap not range) (and free.1 (and free.2 none))))

  clear : Passes n es e → Clear (event_checks m n w at e)
  clear (asks f lo hi o) = clear_if f lo hi (free_asks e.kind w f.kind_is (ap (left fresh es) f.stream_is ∙ o))
  clear (gives f lo hi o) = clear_if f lo hi (free_gives e.kind w f.kind_is (ap (left fresh es) f.stream_is ∙ o))

-- ---- Captures

at_record : (c : List ℕ) (n m : ℕ) → AllPass n (events_in c m) → (j : ℕ) → j < m → Passes n (events_in c j) (event_at c (size * j))
unfolding events_in
at_record c n zero p j l = absurd (omega arith)
at_record c n (suc m) (also here before) j l = by (ℕ_discrete j m) (at_record c n m before j)
  where
    by : Dec (j ≡ m) → (j < m → Passes n (events_in c j) (event_at c (size * j))) → Passes n (events_in c j) (event_at c (size * j))
    by (yes e) f = rw e here
    by (no e) f = f (omega (arith, e))

module _ (c : List ℕ) (n m : ℕ) (long : length c ≡ size * m) (all : AllPass n (events_in c m)) where
  record_passes : (j : ℕ) → j < m → judge c n fresh j ≡ Passed
  unfolding judge
  record_passes j l = passed_if (clear (events_in c j) (event_at c (size * j)) n (size * j) (length c) (omega arith) (at_record c n m all j l))

  all_records : records c ≡ m
  unfolding records up
  all_records = omega arith

  passed_from : (a b : ℕ) → b ≤ a → (v : Verdict) → cond (ltb a b) v Passed ≡ Passed
  passed_from a b l v = rw (le-ltb a b l)

  -- all are taken, and none is refused
  pub all_taken : taken c n fresh ≡ m
  unfolding taken
  all_taken = sym (found_none (λ j. is_refused (judge c n fresh j)) (records c) m (λ j l. ap is_refused (record_passes j l)) (sym all_records))

  pub none_refused : heard c n fresh ≡ Passed
  unfolding heard
  none_refused = passed_from (taken c n fresh) (records c) (omega (arith, all_taken, all_records)) (judge c n fresh (taken c n fresh))

-- ---- Runs

-- each stream is punctual in runs whose arrivals are of some kind
module _ {D : Discipline} {K : Keeps D} (C : Counts D K) {S : Segment} {Kind : List Request → Type 0} (B : ℕ → ℕ)
    (punctual : (m i : ℕ) → Belongs S m i → Punctual D K S m i (B i) Kind) where
  module _ {t m : ℕ} {y : Token} {q : ℕ → D.State} {came : List Request} {went : List Answer} (z : ℕ) (run : RunBy D S t y q came went) {e : Event}
      (before : AllPass S.number (log_of z run)) where
    pass_complete : {r : Request} {rest : D.State} → Is 17 r.of e → D.Serves (q m) r rest → Kind came → AllPass S.number (e ∷ log_of z run)
    pass_complete {r} {rest} f p s =
        let there = sent_kept K q m rest r p in
        let own = owned_by K run m r there in
        also (gives f own.from_one own.to_last ((matches C (punctual m r.of own) z run s).waiting r there refl).one) before

    pass_arrive : {i : ℕ} → Is 16 i e → Settled y → Belongs S m i → Kind (request i t ∷ came) → AllPass S.number (e ∷ log_of z run)
    pass_arrive {i} f o b s =
        let P = punctual m i b in
        also (asks f b.from_one b.to_last ((matches C P z run (P.earlier (request i t) came s)).idle (alone C P run o b s))) before

  pub all_pass : {t : ℕ} {y : Token} {q : ℕ → D.State} {came : List Request} {went : List Answer} (z : ℕ) (run : RunBy D S t y q came went) → Kind came
      → AllPass S.number (log_of z run)
  unfolding log_of
  all_pass z (start a b c) s = nothing
  all_pass z (complete {m = m} run p) s = pass_complete {m = m} z run (all_pass z run s) (omega arith) p s
  all_pass z (arrive {m = m} {i = i} run o b) s = pass_arrive z run (all_pass z run ((punctual m i b).earlier _ _ s)) (omega arith) o b s
  all_pass z (move run o p) s = all_pass z run s
  all_pass z (travel e run) s = all_pass z run s
  all_pass z (work e run) s = all_pass z run s
  all_pass z (serve e x c run p a b d f g o) s = all_pass z run s
  all_pass z (skip e run p a b) s = all_pass z run s
