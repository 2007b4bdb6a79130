-- When a sheet is accepted: exactly if some bus's planner accepts it, since the other two refuse it; and its report says the same.
-- Assumes nothing.
use mathlib.Core.Path.{◌≡◌, refl, sym, ◌∙◌}
use mathlib.Core.List.{List}
use mathlib.Core.Bool.{Bool, true, false, cond, not, ◌||◌}
use Prim.Native.Nat.{ℕ}
use native.Mathlib.Omega.{arith}
use lib.Dec.{eqb}
use borrow.Author.Tests.{eqb-true, eqb-false, ne_eqb}
use Rattle.common.specs.Checks.{verdict, Verdict}
use Rattle.common.specs.Checks.Verdict.{Passed, Refused}
use Rattle.sheet_rules.specs.Sheets.{Sheet, bus_in}
use Rattle.sheet_rules.specs.Whole.{Outcome, reading}
use Rattle.sheet_rules.specs.Whole.Outcome.{Read, Not}
use Rattle.pnet_plan.specs.Planned as pnet
use Rattle.profibus_plan.specs.Planned as profibus
use Rattle.profibus_plan.specs.declared.answer.Plan.{Plan}
use Rattle.worldfip_figures.specs.Declares.{traffic_of}
use Rattle.worldfip_plan.specs.Answer as fip
use Rattle.text.specs.Text.{item}
use Rattle.report_phrases.specs.Phrases.{refused_text, refusal_text}
use Rattle.report_lines.specs.Lines.{ring_text, table_head}
use Rattle.report_sheet.specs.Whole.{segment_report, segment_accepts, ring_report, ring_accepts, table_text, table_of, table_by, table_report, table_accepts, first_bus, report_of, accepts}
use Rattle.report_sheet.proofs.Alike.{own_bus, picks}
use Rattle.std.specs.declared.result.Result.TheVariants.{Ok, Err}
use Rattle.std.specs.declared.result.Result.{Result}
use Rattle.common.specs.declared.Refusal.{Refusal}

-- ---- Another bus's planner refuses it

abbrev segment_takes : Outcome → Bool
segment_takes o = segment_accepts (pnet.plan_of (pnet.planned_by o 32 32 32))

abbrev ring_takes : Outcome → Bool
ring_takes o = ring_accepts (profibus.plan_of o)

abbrev table_takes : Outcome → Bool
table_takes o = table_accepts (fip.plan_of o 4096)

module _ (S : Sheet) where
  no_segment : (bus_in S ≡ 1 → ⊥) → segment_takes (Read S) ≡ false
  unfolding segment_accepts pnet.plan_checks verdict
  no_segment n = simp (ne_eqb (bus_in S) 1 n)

  no_ring : (bus_in S ≡ 3 → ⊥) → ring_takes (Read S) ≡ false
  unfolding ring_accepts profibus.plan_of profibus.plan_by profibus.plan_checks verdict
  no_ring n = simp (ne_eqb (bus_in S) 3 n)

  no_table : (bus_in S ≡ 5 → ⊥) → table_takes (Read S) ≡ false
  unfolding table_accepts fip.plan_of fip.plan_checks verdict
  no_table n = simp (ne_eqb (bus_in S) 5 n)

or_none : (x : Bool) → x ≡ (x || false)
or_none true = refl
or_none false = refl

-- the planner picked by k, which is the sheet's own bus wherever reading does not refuse
taken_by : (k : ℕ) (o : Outcome) → ((S : Sheet) → o ≡ Read S → k ≡ bus_in S)
    → cond (eqb k 3) (ring_takes o) (cond (eqb k 5) (table_takes o) (segment_takes o)) ≡ (ring_takes o || (table_takes o || segment_takes o))
unfolding ring_accepts table_accepts segment_accepts profibus.plan_of fip.plan_of
taken_by k (Not n p) own = picks (eqb k 3) (eqb k 5) false
taken_by k (Read S) own = split (eqb k 3) refl (eqb k 5) refl
  where
    bus : k ≡ bus_in S
    bus = own S refl

    split : (a : Bool) → eqb k 3 ≡ a → (b : Bool) → eqb k 5 ≡ b
        → cond a (ring_takes (Read S)) (cond b (table_takes (Read S)) (segment_takes (Read S))) ≡ (ring_takes (Read S) || (table_takes (Read S) || segment_takes (Read S)))
    split true q b r = let e : k ≡ 3 = eqb-true k 3 q in rw (no_table S (λ f. omega (arith, bus)), no_segment S (λ f. omega (arith, bus))) (or_none (ring_takes (Read S)))
    split false q true r = let e : k ≡ 5 = eqb-true k 5 r in rw (no_ring S (λ f. omega (arith, bus)), no_segment S (λ f. omega (arith, bus))) (or_none (table_takes (Read S)))
    split false q false r = rw (no_ring S (λ f. eqb-false k 3 q (bus ∙ f)), no_table S (λ f. eqb-false k 5 r (bus ∙ f)))

pub accepted_exactly : (s : List ℕ)
    → accepts s ≡ (ring_accepts (profibus.plan_of (reading s)) || (table_accepts (fip.plan_of (reading s) 4096) || segment_accepts (pnet.plan_of (pnet.planned s 32 32 32))))
unfolding accepts pnet.planned
accepted_exactly s = taken_by (first_bus s) (reading s) (own_bus s)

-- ---- The report says the same

-- it starts with no `r`, as a refusal does; that is 114
abbrev pub says_accepted : List ℕ → Bool
says_accepted t = not (eqb (item t 0) 114)

-- the report of an accepted sheet, or of a refused one, which is a refusal's number and place and nothing else
pub data Agrees : Bool → List ℕ → Type 0 where
  accepted : {t : List ℕ} → says_accepted t ≡ true → Agrees true t
  refused : (n p : ℕ) → Agrees false (refusal_text n p)

segment_agrees : (o : Outcome) → Agrees (segment_accepts (pnet.plan_of o)) (segment_report o)
unfolding segment_accepts segment_report
segment_agrees (Read H) = Agrees.accepted refl
segment_agrees (Not n p) = Agrees.refused n p

ring_agrees : (p : Result Plan Refusal) → Agrees (ring_accepts p) (ring_report p)
unfolding ring_accepts ring_report ring_text
ring_agrees (Ok x) = Agrees.accepted refl
ring_agrees (Err r) = Agrees.refused r.no r.place

table_agrees : (o : Outcome) → Agrees (table_accepts (fip.plan_of o 4096)) (table_report o)
unfolding fip.plan_of table_accepts table_report table_of table_text table_head
table_agrees (Not n p) = Agrees.refused n p
table_agrees (Read S) = by (verdict (fip.plan_checks S 4096))
  where
    by : (v : Verdict) → Agrees (table_accepts (fip.plan_by v (traffic_of S))) (table_by v (traffic_of S))
    by Passed = Agrees.accepted refl
    by (Refused n p) = Agrees.refused n p

pub report_agrees : (s : List ℕ) → Agrees (accepts s) (report_of s)
unfolding accepts report_of
report_agrees s = split (eqb (first_bus s) 3) (eqb (first_bus s) 5)
  where
    split : (a b : Bool)
        → Agrees (cond a (ring_accepts (profibus.plan_of (reading s))) (cond b (table_accepts (fip.plan_of (reading s) 4096)) (segment_accepts (pnet.plan_of (pnet.planned s 32 32 32)))))
        (cond a (ring_report (profibus.plan_of (reading s))) (cond b (table_report (reading s)) (segment_report (pnet.planned s 32 32 32))))
    split true b = ring_agrees (profibus.plan_of (reading s))
    split false true = table_agrees (reading s)
    split false false = segment_agrees (pnet.planned s 32 32 32)

-- so the first letter tells
pub first_letter : (s : List ℕ) → accepts s ≡ says_accepted (report_of s)
unfolding refusal_text refused_text
first_letter s = by (report_agrees s)
  where
    by : {a : Bool} {t : List ℕ} → Agrees a t → a ≡ says_accepted t
    by (Agrees.accepted e) = sym e
    by (Agrees.refused n p) = refl
