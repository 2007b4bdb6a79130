-- The planner's answer is the page's, case by case, and no other is: each refusal is given exactly if its condition holds and that of none
-- before it. Assumes nothing.
use mathlib.Core.Path.{◌≡◌, sym, ap, ◌∙◌}
use mathlib.Core.List.{List}
use Prim.Native.Nat.{ℕ, ◌*◌, ◌≤◌, ◌<◌}
use native.Mathlib.Nat.{div-eq_of_lt, div-lt_iff_lt-mul}
use native.Mathlib.Omega.{arith}
use native.Mathlib.Decide.{ℕ_discrete, dec_lt}
use Rattle.common.specs.Checks.{Verdict, verdict}
use Rattle.sheet_record.specs.Kinds.{worldfip}
use Rattle.sheet_rules.specs.Sheets.{Sheet, bus_in}
use Rattle.sheet_rules.specs.Whole.Outcome.{Read}
use Rattle.sheet_rules.proofs.Known.{Known}
use Rattle.units.specs.Units.{us}
use Rattle.worldfip_rules.specs.Traffic.{Traffic, Declared, microcycle, slots, rows, miss_of, missing_of}
use Rattle.worldfip_rules.specs.Misses.{Named}
use Rattle.worldfip_rules.proofs.Promises.{table_built}
use Rattle.worldfip_rules.proofs.Named.{missing_named, named_miss, named_only}
use Rattle.worldfip_figures.specs.Declares.{traffic_of}
use Rattle.worldfip_figures.proofs.Passing.{declared}
use Rattle.worldfip_plan.specs.declared.answer.Plan.{Plan}
use Rattle.worldfip_plan.specs.Answer.{plan_checks, plan_by, plan_of}
use Rattle.worldfip_plan.specs.Refusals.{Fits, Few, Room, Answers}
use Rattle.worldfip_plan.specs.Refusals.Answers.{another_bus, none_fits, too_many, too_short, misses, table}
use Rattle.worldfip_plan.proofs.Answers.{gives_3, gives_10, gives_11, gives_13, gives_12, gives_none}
use Rattle.std.specs.declared.result.Result.TheVariants.{Ok, Err}
use Rattle.common.specs.Checks.{refusal}
use Rattle.std.specs.declared.result.Result.{Result}
use Rattle.common.specs.declared.Refusal.{Refusal}

-- an exchange fits exactly if there is a slot
module _ (T : Traffic) (D : Declared T) where
  no_slot : microcycle T < T.exchange → slots T ≡ 0
  unfolding slots
  no_slot l = div-eq_of_lt l

  a_slot : Fits T → slots T ≡ 0 → ⊥
  unfolding slots
  a_slot f z =
      let h : microcycle T < 1 * T.exchange = (div-lt_iff_lt-mul D.exchange_in.0).0 (omega (arith, z)) in
      omega (arith, f.exchange)

  nobody : rows T < miss_of T → (i : ℕ) → Named T i → ⊥
  nobody l i N = omega (arith, named_miss T D N)

module _ (s : List ℕ) (S : Sheet) (known : Known s S) (room : ℕ) where
  answered : {v : Verdict} → verdict (plan_checks S room) ≡ v → plan_of (Read S) room ≡ plan_by v (traffic_of S)
  unfolding plan_of
  answered e = ap (λ (x : Verdict). plan_by x (traffic_of S)) e

  only_3 : (bus_in S ≡ worldfip → ⊥) → plan_of (Read S) room ≡ Err (refusal 3 0)
  only_3 h = answered (gives_3 S room h)

  module _ (bus : bus_in S ≡ worldfip) where
    D : Declared (traffic_of S)
    D = declared s S known bus

    -- ---- No other answer is the page's

    only_10 : microcycle (traffic_of S) < (traffic_of S).exchange → plan_of (Read S) room ≡ Err (refusal 10 0)
    only_10 l = answered (gives_10 S room bus (no_slot (traffic_of S) D l))

    only_11 : Fits (traffic_of S) → 4096 < rows (traffic_of S) → plan_of (Read S) room ≡ Err (refusal 11 0)
    only_11 f l = answered (gives_11 S room bus (a_slot (traffic_of S) D f) l)

    only_13 : Few (traffic_of S) → room < rows (traffic_of S) → plan_of (Read S) room ≡ Err (refusal 13 (rows (traffic_of S)))
    only_13 f l = answered (gives_13 S room bus (a_slot (traffic_of S) D f.fits) f.most l)

    only_12 : Room (traffic_of S) room → miss_of (traffic_of S) ≤ rows (traffic_of S) → plan_of (Read S) room ≡ Err (refusal 12 (missing_of (traffic_of S)))
    only_12 f l = answered (gives_12 S room bus (a_slot (traffic_of S) D f.few.fits) f.few.most f.lent l)

    only_table : Room (traffic_of S) room → rows (traffic_of S) < miss_of (traffic_of S)
        → plan_of (Read S) room ≡ Ok (record { microcycle = (us (microcycle (traffic_of S))); slots = (slots (traffic_of S)); rows = (rows (traffic_of S)) })
    only_table f l = answered (gives_none S room bus (a_slot (traffic_of S) D f.few.fits) f.few.most f.lent l)

    -- ---- The planner's is

    by_miss : Room (traffic_of S) room → Dec (rows (traffic_of S) < miss_of (traffic_of S)) → Answers S room (plan_of (Read S) room)
    by_miss f (yes l) = rw (only_table f l) (table bus f (nobody (traffic_of S) D l) (table_built (traffic_of S) D l))
    by_miss f (no l) =
        let m : miss_of (traffic_of S) ≤ rows (traffic_of S) = omega (arith, l) in
        rw (only_12 f m) (misses (missing_of (traffic_of S)) bus f (missing_named (traffic_of S) D m))

    by_room : Few (traffic_of S) → Dec (room < rows (traffic_of S)) → Answers S room (plan_of (Read S) room)
    by_room f (yes l) = rw (only_13 f l) (too_short bus f l)
    by_room f (no l) = by_miss (record { few = f; lent = omega (arith, l) }) (dec_lt (rows (traffic_of S)) (miss_of (traffic_of S)))

    by_rows : Fits (traffic_of S) → Dec (4096 < rows (traffic_of S)) → Answers S room (plan_of (Read S) room)
    by_rows f (yes l) = rw (only_11 f l) (too_many bus f l)
    by_rows f (no l) = by_room (record { fits = f; most = omega (arith, l) }) (dec_lt room (rows (traffic_of S)))

    by_slots : Dec (microcycle (traffic_of S) < (traffic_of S).exchange) → Answers S room (plan_of (Read S) room)
    by_slots (yes l) = rw (only_10 l) (none_fits bus l)
    by_slots (no l) = by_rows (record { exchange = omega (arith, l) }) (dec_lt 4096 (rows (traffic_of S)))

  pub plan_answers : Answers S room (plan_of (Read S) room)
  plan_answers = by_bus (ℕ_discrete (bus_in S) worldfip)
    where
      by_bus : Dec (bus_in S ≡ worldfip) → Answers S room (plan_of (Read S) room)
      by_bus (yes e) = by_slots e (dec_lt (microcycle (traffic_of S)) (traffic_of S).exchange)
      by_bus (no e) = rw (only_3 e) (another_bus e)

  pub answers_only : (p : Result Plan Refusal) → Answers S room p → p ≡ plan_of (Read S) room
  answers_only p (another_bus e) = sym (only_3 e)
  answers_only p (none_fits e l) = sym (only_10 e l)
  answers_only p (too_many e f l) = sym (only_11 e f l)
  answers_only p (too_short e f l) = sym (only_13 e f l)
  answers_only p (misses i e f N) =
      let d = declared s S known e in
      ap (λ k. Err (refusal 12 k)) (named_only (traffic_of S) d N) ∙ sym (only_12 e f (named_miss (traffic_of S) d N))
  answers_only p (table e f none t) = sym (only_table e f (nobody_misses (dec_lt (rows (traffic_of S)) (miss_of (traffic_of S)))))
    where
      nobody_misses : Dec (rows (traffic_of S) < miss_of (traffic_of S)) → rows (traffic_of S) < miss_of (traffic_of S)
      nobody_misses (yes l) = l
      nobody_misses (no l) =
          absurd (none (missing_of (traffic_of S)) (missing_named (traffic_of S) (declared s S known e) (omega (arith, l))))
