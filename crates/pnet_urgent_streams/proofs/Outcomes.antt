-- Each stream beside the planner's answer: what is known where a sheet is accepted, and where it is not. Assumes nothing.
use mathlib.Core.Path.{◌≡◌, refl, sym, ap, ◌∙◌, subst}
use mathlib.Core.List.{List}
use Prim.Native.Nat.{ℕ, ◌+◌, ◌-◌, ◌*◌, ◌≤◌, ◌<◌}
use native.Mathlib.Decide.{dec_lt}
use native.Mathlib.Omega.{arith}
use borrow.Author.Tests.{le-ltb, le-leb, lt-leb}
use lib.ListN.{length}
use lib.Dec.{leb, ltb}
use Rattle.common.specs.Runs.{filled}
use Rattle.common.specs.Sums.{when}
use Rattle.common.proofs.Runs.{filled_at}
use Rattle.common.proofs.Firsts.{first_is}
use Rattle.units.specs.Units.{bp}
use Rattle.units.specs.declared.BitPeriods.{BitPeriods}
use Rattle.sheet_record.specs.Kinds.{pnet}
use Rattle.sheet_rules.specs.Whole.{Outcome, reading}
use Rattle.sheet_rules.specs.Whole.Outcome.{Read, Not}
use Rattle.sheet_rules.specs.Ready.{sheet_in, Ready}
use Rattle.pnet_rules.specs.Segment.{Segment, turn, bound, bound_by, late}
use Rattle.pnet_rules.proofs.Holds.{turn_at_most}
use Rattle.pnet_turn.specs.Turn.{at}
use Rattle.pnet_plan.specs.Arrays.{segment_in, Sheeted}
use Rattle.pnet_plan.specs.Planned.{first_late, plan_of, at_place}
use Rattle.pnet_plan.specs.declared.answer.Plan.{Plan}
use Rattle.pnet_plan.proofs.Bytes.{declares, number_is}
use Rattle.pnet_plan.proofs.Cases.{counts_at}
use Rattle.pnet_bounds.specs.Bounded.{bound_of, master_of, spacing_of, jitter_of, stream_run}
use Rattle.pnet_urgent_rules.specs.Urgent.{place, figure, rounds}
use Rattle.pnet_urgent_rules.specs.Planned.{urgent_by, urgently}
use Rattle.pnet_urgent_rules.proofs.Cases.{urgently_passes}
use Rattle.pnet_urgent_streams.specs.Listed.{deadline_of, late_bound, listed_of}
use Rattle.pnet_urgent_streams.specs.declared.answer.Listed.{Listed}
use Rattle.std.specs.declared.result.Result.TheVariants.{Ok, Err}
use Rattle.common.specs.Checks.{refusal}
use Rattle.common.proofs.Answered.{same_refusal}
use Rattle.std.specs.declared.result.Result.{Result}
use Rattle.common.specs.declared.Refusal.{Refusal}

-- ---- From the planner's answer

pub refused_not : (o : Outcome) {n p : ℕ} → plan_of o ≡ Err (refusal n p) → o ≡ Not n p
refused_not (Read H) e = let z : ◌≡◌ {A = ℕ} 0 1 = cc in absurd (omega arith)
refused_not (Not m q) e = let r = same_refusal e in rw (r.0, r.1)

module _ {s : List ℕ} {first n : ℕ} (ready : Ready s pnet first n) where
  -- an accepted sheet is the one that was read
  pub accepted_read : (room : ℕ) {N k : ℕ} → plan_of (urgently s room) ≡ Ok (record { masters = N; streams = k }) → urgently s room ≡ Read (sheet_in s)
  accepted_read room {N} {k} e = by (urgently s room) refl e
    where
      by : (o : Outcome) → urgently s room ≡ o → plan_of o ≡ Ok (record { masters = N; streams = k }) → urgently s room ≡ Read (sheet_in s)
      by (Not m q) p r = let z : ◌≡◌ {A = ℕ} 0 1 = cc in absurd (omega arith)
      by (Read H) p r =
          let h : Read H ≡ Read (sheet_in s) = sym (urgently_passes s room H p).0 ∙ ready.reads in
          p ∙ h

  pub run_read : (f : Segment → ℕ → ℕ) (old run : List ℕ) → run ≡ filled (at_place (f (segment_in s))) n old → run ≡ stream_run (Read (sheet_in s)) f old
  run_read f old run e = e ∙ ap (λ (k : ℕ). filled (at_place (f (segment_in s))) k old) (sym ready.number)

  -- room for the streams is room enough
  pub rooms_alike : (room more : ℕ) → n ≤ room → n ≤ more → urgently s room ≡ urgently s more
  unfolding urgently
  rooms_alike room more l m = same (reading s) ready.reads
    where
      same : (o : Outcome) → o ≡ Read (sheet_in s) → urgent_by o room ≡ urgent_by o more
      same o e =
          let short : ltb room (length (sheet_in s).streams) ≡ ltb more (length (sheet_in s).streams) = le-ltb room _ (omega (arith, ready.number)) ∙ sym (le-ltb more _ (omega (arith, ready.number))) in
          rw e (rw short)

-- ---- For a capture

-- the answer r by an outcome, and the runs a, b, c and d where x, y, z and u were lent
abbrev pub Figured : Outcome → List ℕ → List ℕ → List ℕ → List ℕ → Result Plan Refusal → List ℕ → List ℕ → List ℕ → List ℕ → Type 0
Figured o x y z u r a b c d =
    (r ≡ plan_of o) × (a ≡ stream_run o master_of x) × (b ≡ stream_run o figure y) × (c ≡ stream_run o spacing_of z) × (d ≡ stream_run o jitter_of u)

pub figured_refused : (o : Outcome) (n p : ℕ) → o ≡ Not n p → (x y z u : List ℕ) → Figured o x y z u (Err (refusal n p)) x y z u
figured_refused o n p e x y z u = (
  ap plan_of (sym e),
  ap (λ (k : Outcome). stream_run k master_of x) (sym e),
  ap (λ (k : Outcome). stream_run k figure y) (sym e),
  ap (λ (k : Outcome). stream_run k spacing_of z) (sym e),
  ap (λ (k : Outcome). stream_run k jitter_of u) (sym e),
)

pub planned_refused : (s : List ℕ) (room : ℕ) {r : Result Plan Refusal} → r ≡ plan_of (urgently s room) → {n p : ℕ} → r ≡ Err (refusal n p) → urgently s room ≡ Not n p
planned_refused s room told e = refused_not (urgently s room) (sym told ∙ e)

pub figured_alike : (o k : Outcome) → o ≡ k → (x y z u : List ℕ) {r : Result Plan Refusal} {a b c d : List ℕ} → Figured o x y z u r a b c d → Figured k x y z u r a b c d
figured_alike o k e x y z u {r} {a} {b} {c} {d} h = subst (λ (q : Outcome). Figured q x y z u r a b c d) e h

-- the planner has answered, its shortest run as long as the largest sheet
module _ (s : List ℕ) (room : ℕ) (most : room ≡ 800) {r : Result Plan Refusal} (told : r ≡ plan_of (urgently s room)) (x y z u : List ℕ) {b : List ℕ} (eb : b ≡ stream_run (urgently s room) figure y) where
  pub figured_told : {n p : ℕ} → r ≡ Err (refusal n p) → Figured (urgently s 800) x y z u (Err (refusal n p)) x b z u
  figured_told {n} {p} e =
      let f = figured_refused (urgently s room) n p (planned_refused s room told e) x y z u in
      subst (λ (k : ℕ). Figured (urgently s k) x y z u (Err (refusal n p)) x b z u) most (f.0, f.1, eb, f.3, f.4)

  module _ {first n : ℕ} (ready : Ready s pnet first n) {N k : ℕ} (e : r ≡ Ok (record { masters = N; streams = k })) where
    run_told : (f : Segment → ℕ → ℕ) (old run : List ℕ) → run ≡ filled (at_place (f (segment_in s))) n old → run ≡ stream_run (urgently s room) f old
    run_told f old run q = run_read ready f old run q ∙ ap (λ (o : Outcome). stream_run o f old) (sym (accepted_read ready room (sym told ∙ e)))

    pub figured_read : {a c d : List ℕ} → a ≡ filled (at_place (master_of (segment_in s))) n x → c ≡ filled (at_place (spacing_of (segment_in s))) n z
        → d ≡ filled (at_place (jitter_of (segment_in s))) n u → Figured (urgently s 800) x y z u (Ok (record { masters = N; streams = k })) a b c d
    figured_read {a} {c} {d} ea ec ed =
        subst (λ (m : ℕ). Figured (urgently s m) x y z u (Ok (record { masters = N; streams = k })) a b c d) most
        (sym e ∙ told, run_told master_of x a ea, eb, run_told spacing_of z c ec, run_told jitter_of u d ed)

-- ---- For a report

-- the answer r by an outcome, and the runs a to f where x, y, z, u and v were lent
abbrev pub ListedBy : Outcome → List ℕ → List ℕ → List ℕ → List ℕ → List ℕ → Result Listed Refusal → List ℕ → List ℕ → List ℕ → List ℕ → List ℕ → Type 0
ListedBy o x y z u v r a b c d f =
    (r ≡ listed_of o) × (a ≡ stream_run o master_of x) × (b ≡ stream_run o place y) × (c ≡ stream_run o figure z) × (d ≡ stream_run o rounds u) × (f ≡ stream_run o deadline_of v)

pub listed_refused : (o : Outcome) (n p : ℕ) → o ≡ Not n p → (x y z u v : List ℕ) → ListedBy o x y z u v (Err (refusal n p)) x y z u v
listed_refused o n p e x y z u v = (
  ap listed_of (sym e),
  ap (λ (k : Outcome). stream_run k master_of x) (sym e),
  ap (λ (k : Outcome). stream_run k place y) (sym e),
  ap (λ (k : Outcome). stream_run k figure z) (sym e),
  ap (λ (k : Outcome). stream_run k rounds u) (sym e),
  ap (λ (k : Outcome). stream_run k deadline_of v) (sym e),
)

module _ (s : List ℕ) (room : ℕ) (most : room ≡ 800) {r : Result Plan Refusal} (told : r ≡ plan_of (urgently s room)) (x y z u v : List ℕ) {b c d : List ℕ}
    (eb : b ≡ stream_run (urgently s room) place y) (ec : c ≡ stream_run (urgently s room) figure z) (ed : d ≡ stream_run (urgently s room) rounds u) where
  pub listed_told : {n p : ℕ} → r ≡ Err (refusal n p) → ListedBy (urgently s 800) x y z u v (Err (refusal n p)) x b c d v
  listed_told {n} {p} e =
      let f = listed_refused (urgently s room) n p (planned_refused s room told e) x y z u v in
      subst (λ (k : ℕ). ListedBy (urgently s k) x y z u v (Err (refusal n p)) x b c d v) most (f.0, f.1, eb, ec, ed, f.5)

  pub listed_read : {first n : ℕ} → Ready s pnet first n → {N k : ℕ} → r ≡ Ok (record { masters = N; streams = k }) → {l : Result Listed Refusal} {a f : List ℕ}
      → l ≡ listed_of (Read (sheet_in s)) → a ≡ stream_run (Read (sheet_in s)) master_of x → f ≡ stream_run (Read (sheet_in s)) deadline_of v
      → ListedBy (urgently s 800) x y z u v l a b c d f
  listed_read ready e {l} {a} {f} el ea ef =
      let read = sym (accepted_read ready room (sym told ∙ e)) in
      subst (λ (k : ℕ). ListedBy (urgently s k) x y z u v l a b c d f) most
      (el ∙ ap listed_of read, ea ∙ ap (λ (o : Outcome). stream_run o master_of x) read, eb, ec, ed, ef ∙ ap (λ (o : Outcome). stream_run o deadline_of v) read)

-- ---- The first stream that first-come refuses

module _ {s : List ℕ} {N n first : ℕ} {counts longests : List ℕ} (h : Sheeted s N n first counts longests) (V' l : ℕ) (ev : V' ≡ turn (segment_in s))
    (el : l ≡ first_late (segment_in s)) (old masters : List ℕ) (em : masters ≡ filled (at_place (master_of (segment_in s))) n old) where
  abbrev S : Segment
  S = segment_in s

  pub turn_small : V' ≤ 51040
  turn_small = omega (arith, turn_at_most S (declares h.ready))

  pub late_from : 1 ≤ l
  unfolding first_late
  late_from = omega (arith, el, (first_is (late S) S.number 1).from)

  owner_is : l ≤ n → at masters (l - 1) ≡ (S.stream l).master
  owner_is k =
      let back : l - 1 + 1 ≡ l = omega (arith, late_from) in
      ap (λ (t : List ℕ). at t (l - 1)) em ∙ (filled_at (at_place (master_of S)) n (l - 1) old (omega (arith, late_from)) ∙ ap (λ (i : ℕ). (S.stream i).master) back)

  pub owner_small : l ≤ n → at masters (l - 1) ≤ 32
  owner_small k =
      let d = declares h.ready in
      omega (arith, owner_is k, (d.ranges l late_from (omega (arith, number_is h.ready))).master_to, d.masters_to)

  pub counts_few : (y : ℕ) → y ≤ 32 → at counts y ≤ 80
  counts_few y k = omega (arith, counts_at h y k, (declares h.ready).counts y)

  late_bound_is : when (leb l n) (at counts (at masters (l - 1)) * V') ≡ late_bound S
  unfolding late_bound bound_of bound bound_by turn
  late_bound_is = by (dec_lt n l)
    where
      by : Dec (n < l) → when (leb l n) (at counts (at masters (l - 1)) * V') ≡ when (leb (first_late S) S.number) (bound S (S.stream (first_late S)).master)
      by (yes k) = rw (lt-leb l n k, lt-leb (first_late S) S.number (omega (arith, el, number_is h.ready)))
      by (no k) =
          let in_list : l ≤ n = omega (arith, k) in
          rw (le-leb l n in_list, le-leb (first_late S) S.number (omega (arith, el, number_is h.ready)), ← el, owner_is in_list, counts_at h (S.stream l).master (rw (owner_is in_list) at (owner_small in_list)), ev)

  pub listed_is : (b : BitPeriods) → b ≡ bp (when (leb l n) (at counts (at masters (l - 1)) * V')) → Ok (record { streams = n; late = l; bound = b }) ≡ listed_of (Read (sheet_in s))
  listed_is b e =
      let eb : b ≡ bp (late_bound S) = e ∙ ap bp late_bound_is in
      let en : n ≡ length (sheet_in s).streams = sym h.ready.number in
      rw (eb, el) (ap (λ (k : ℕ). Ok (record { streams = k; late = first_late S; bound = bp (late_bound S) })) en)
