-- 3, 10, 11, 13 and 12 in this order, each exactly if its condition holds and that of none before it; and what is answered then.
-- Assumes nothing.
use mathlib.Core.Path.{◌≡◌, refl, sym, ap, ◌∙◌}
use mathlib.Core.Bool.{not, false}
use mathlib.Core.List.{List, ◌++◌}
use Prim.Native.Nat.{ℕ, ◌≤◌, ◌<◌}
use lib.Dec.{eqb}
use lib.ListN.{length}
use borrow.Author.Tests.{eq-eqb, ne_eqb, lt-ltb, le-ltb, le-leb, lt-leb}
use Rattle.common.specs.Checks.{Check, Verdict, verdict}
use Rattle.common.specs.Checks.Verdict.{Passed, Refused}
use Rattle.common.proofs.Checks.{Applies, refused_if, refused_then, passed_if}
use Rattle.common.proofs.Checks.Applies.{here, later}
use Rattle.common.proofs.Checks.Clear.{none, and}
use Rattle.sheet_record.specs.Kinds.{worldfip}
use Rattle.sheet_rules.specs.Sheets.{Sheet, bus_in}
use Rattle.sheet_rules.specs.Whole.{Outcome}
use Rattle.sheet_rules.specs.Whole.Outcome.{Read}
use Rattle.units.specs.declared.Micros.{Micros}
use Rattle.worldfip_rules.specs.Traffic.{slots, rows, miss_of, missing_of}
use Rattle.worldfip_figures.specs.Declares.{traffic_of}
use Rattle.worldfip_figures.specs.Figures.{sheet_checks}
use Rattle.worldfip_figures.proofs.Measured.{Stops}
use Rattle.worldfip_figures.proofs.Measured.Stops.{unread, checked}
use Rattle.worldfip_plan.specs.declared.answer.Plan.{Plan}
use Rattle.worldfip_plan.specs.Answer.{row_checks, plan_checks, plan_by, run_by, plan_of, run_of}
use Rattle.std.specs.declared.result.Result.TheVariants.{Ok, Err}
use Rattle.common.specs.Checks.{refusal}
use Rattle.std.specs.declared.result.Result.{Result}
use Rattle.common.specs.declared.Refusal.{Refusal}

-- ---- The verdict

module _ (S : Sheet) (room : ℕ) where
  pub gives_3 : (bus_in S ≡ worldfip → ⊥) → verdict (plan_checks S room) ≡ Refused 3 0
  unfolding plan_checks
  gives_3 h = refused_if (here (ap not (ne_eqb (bus_in S) worldfip h)))

  module _ (bus : bus_in S ≡ worldfip) where
    this : not (eqb (bus_in S) worldfip) ≡ false
    this = ap not (eq-eqb (bus_in S) worldfip bus)

    pub gives_10 : slots (traffic_of S) ≡ 0 → verdict (plan_checks S room) ≡ Refused 10 0
    unfolding plan_checks
    gives_10 e = refused_if (later this (here (eq-eqb (slots (traffic_of S)) 0 e)))

    module _ (some : slots (traffic_of S) ≡ 0 → ⊥) where
      pub gives_11 : 4096 < rows (traffic_of S) → verdict (plan_checks S room) ≡ Refused 11 0
      unfolding plan_checks
      gives_11 l = refused_if (later this (later (ne_eqb (slots (traffic_of S)) 0 some) (here (lt-ltb 4096 (rows (traffic_of S)) l))))

      module _ (few : rows (traffic_of S) ≤ 4096) where
        pub gives_13 : room < rows (traffic_of S) → verdict (plan_checks S room) ≡ Refused 13 (rows (traffic_of S))
        unfolding plan_checks
        gives_13 l =
            refused_if
            (later this
            (later (ne_eqb (slots (traffic_of S)) 0 some) (later (le-ltb 4096 (rows (traffic_of S)) few) (here (lt-ltb room (rows (traffic_of S)) l)))))

        module _ (lent : rows (traffic_of S) ≤ room) where
          pub gives_12 : miss_of (traffic_of S) ≤ rows (traffic_of S) → verdict (plan_checks S room) ≡ Refused 12 (missing_of (traffic_of S))
          unfolding plan_checks
          gives_12 l =
              refused_if
              (later this
              (later (ne_eqb (slots (traffic_of S)) 0 some)
              (later (le-ltb 4096 (rows (traffic_of S)) few)
              (later (le-ltb room (rows (traffic_of S)) lent) (here (le-leb (miss_of (traffic_of S)) (rows (traffic_of S)) l))))))

          pub gives_none : rows (traffic_of S) < miss_of (traffic_of S) → verdict (plan_checks S room) ≡ Passed
          unfolding plan_checks
          gives_none l =
              passed_if
              (and this
              (and (ne_eqb (slots (traffic_of S)) 0 some)
              (and (le-ltb 4096 (rows (traffic_of S)) few)
              (and (le-ltb room (rows (traffic_of S)) lent) (and (lt-leb (miss_of (traffic_of S)) (rows (traffic_of S)) l) none)))))

-- what applies in front applies
in_front : {cs : List Check} {n p : ℕ} (ds : List Check) → Applies cs n p → Applies (cs ++ ds) n p
in_front ds (here e) = here e
in_front ds (later e a) = later e (in_front ds a)

-- ---- The answer, and the lent run `old` after it

abbrev pub Tells : Outcome → List ℕ → Result Plan Refusal → List ℕ → Type 0
Tells o old p run = (p ≡ plan_of o (length old)) × (run ≡ run_of o old)

pub tells : (S : Sheet) (old : List ℕ) {v : Verdict} → verdict (plan_checks S (length old)) ≡ v → Tells (Read S) old (plan_by v (traffic_of S)) (run_by v (traffic_of S) old)
unfolding plan_of run_of
tells S old e = (sym (ap (λ (x : Verdict). plan_by x (traffic_of S)) e), sym (ap (λ (x : Verdict). run_by x (traffic_of S) old) e))

-- the same figures are the same answer
pub tells_same : {o : Outcome} (S : Sheet) (old : List ℕ) {p p' : Result Plan Refusal} {run run' : List ℕ} → o ≡ Read S → p ≡ p' → run ≡ run' → Tells (Read S) old p' run' → Tells o old p run
tells_same S old e ep er t = (ep ∙ (t.0 ∙ sym (ap (λ (x : Outcome). plan_of x (length old)) e)), er ∙ (t.1 ∙ sym (ap (λ (x : Outcome). run_of x old) e)))

pub accepts : {c c' : Micros} {k k' n n' : ℕ} → c ≡ c' → k ≡ k' → n ≡ n'
    → ◌≡◌ {A = Result Plan Refusal} (Ok (record { microcycle = c; slots = k; rows = n })) (Ok (record { microcycle = c'; slots = k'; rows = n' }))
accepts ec ek en = rw (ec, ek, en)

-- a sheet without figures has no table
stops : (S : Sheet) (room n p : ℕ) → verdict (sheet_checks S) ≡ Refused n p → verdict (plan_checks S room) ≡ Refused n p
unfolding plan_checks
stops S room n p q = refused_if (in_front (row_checks (traffic_of S) room) (refused_then (sheet_checks S) n p q))

pub tells_stop : (o : Outcome) (old : List ℕ) (n p : ℕ) → Stops o n p → Tells o old (Err (refusal n p)) old
unfolding plan_of run_of
tells_stop o old n p (unread e) = (sym (ap (λ (x : Outcome). plan_of x (length old)) e), sym (ap (λ (x : Outcome). run_of x old) e))
tells_stop o old n p (checked S e q) = tells_same S old e refl refl (tells S old (stops S (length old) n p q))
