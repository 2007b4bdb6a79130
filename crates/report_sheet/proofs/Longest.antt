-- No report is longer than `most_text`, whatever the bytes are: so one test of room serves them all. Assumes nothing.
use mathlib.Core.Path.{◌≡◌, refl, sym, ◌∙◌}
use mathlib.Core.List.{List}
use mathlib.Core.Bool.{Bool, true, false, cond}
use Prim.Native.Nat.{ℕ, ◌+◌, ◌-◌, ◌^◌, ◌≤◌, ◌<◌}
use native.Mathlib.Omega.{arith}
use native.Mathlib.Decide.{dec_lt}
use lib.Dec.{eqb, ltb}
use lib.ListN.{length, get_or, get_or-eq_default}
use borrow.Author.Tests.{ltb-false, eqb-true}
use Rattle.common.specs.Sums.{when}
use Rattle.common.specs.Checks.{verdict, Verdict}
use Rattle.common.specs.Checks.Verdict.{Passed, Refused}
use Rattle.sheet_record.specs.Kinds.{is_stream_of, nothing}
use Rattle.sheet_record.proofs.Parts.{variables}
use Rattle.sheet_ranges.proofs.Ranges.{variable_ranges}
use Rattle.sheet_rules.specs.Sheets.{Sheet, bus_in}
use Rattle.sheet_rules.specs.Whole.{Outcome, reading}
use Rattle.sheet_rules.specs.Whole.Outcome.{Read, Not}
use Rattle.sheet_rules.proofs.Known.{Known, reading_read}
use Rattle.pnet_rules.specs.Segment.{segment_of}
use Rattle.pnet_plan.specs.Planned.{planned}
use Rattle.profibus_plan.specs.Planned.{plan_of}
use Rattle.profibus_plan.specs.declared.answer.Plan.{Plan}
use Rattle.worldfip_rules.specs.Traffic.{microcycle, slots, rows, row_of, variable_of, identifier_at}
use Rattle.worldfip_figures.specs.Declares.{variable_at, traffic_of}
use Rattle.worldfip_plan.specs.Answer.{plan_checks}
use Rattle.report_phrases.specs.declared.Reported.{Reported}
use Rattle.report_phrases.specs.declared.Reported.TheVariants as reported
use Rattle.report_phrases.specs.Reports.{told}
use Rattle.std.specs.declared.option.Option.{Option}
use Rattle.std.specs.declared.option.Option.TheVariants.{Some, None}
use Rattle.report_sheet.specs.Whole.{most_text, segment_report, ring_report, table_of, table_by, table_report, first_bus, report_of, accepts, answer_of}
use Rattle.units.specs.Units.{us}
use Rattle.report_sheet.proofs.Lengths.{Small, masters_most, ring_most, table_most, refusal_most}
use Rattle.report_sheet.proofs.Segments.{masters_few}
use Rattle.report_sheet.proofs.Tables.{table_passed}
use Rattle.std.specs.declared.result.Result.TheVariants.{Ok, Err}
use Rattle.std.specs.declared.result.Result.{Result}
use Rattle.common.specs.declared.Refusal.{Refusal}

-- ---- Identifiers have 16 bits

module _ (s : List ℕ) (S : Sheet) (e : reading s ≡ Read S) (k : bus_in S ≡ 5) where
  field_small : (i : ℕ) → (get_or S.streams i nothing).a < 2 ^ 16
  field_small i = split (dec_lt i (length S.streams))
    where
      known : Known s S
      known = reading_read s S e

      split : Dec (i < length S.streams) → (get_or S.streams i nothing).a < 2 ^ 16
      split (yes l) =
          let its : is_stream_of 5 (get_or S.streams i nothing).kind ≡ true = rw k at (known.kinds i l) in
          let six = eqb-true (get_or S.streams i nothing).kind 6 (sym (variables (get_or S.streams i nothing).kind) ∙ its) in
          omega (arith, (variable_ranges _ _ (known.ranged i l) six).identifier.most)
      split (no l) =
          let d : get_or S.streams i nothing ≡ nothing = get_or-eq_default S.streams nothing (omega (arith, l)) in
          rw d (omega arith)

  identifiers_small : Small (identifier_at (traffic_of S))
  unfolding identifier_at traffic_of variable_at
  identifiers_small r = split (ltb r (length S.streams))
    where
      split : (b : Bool) → when b (get_or S.streams (variable_of (traffic_of S) r - 1) nothing).a < 2 ^ 16
      split true = field_small (variable_of (traffic_of S) r - 1)
      split false = omega arith

-- ---- Each bus

segment_longest : (s : List ℕ) (o : Outcome) → planned s 32 32 32 ≡ o → length (segment_report o) ≤ most_text
unfolding segment_report segment_of
segment_longest s (Read H) e =
    let few : H.head.a ≤ 32 = masters_few s H e in
    omega (arith, masters_most (segment_of H))
segment_longest s (Not n p) e = omega (arith, refusal_most n p)

ring_longest : (p : Result Plan Refusal) → length (ring_report p) ≤ most_text
unfolding ring_report
ring_longest (Ok x) = omega (arith, ring_most x.rotation x.stream)
ring_longest (Err r) = omega (arith, refusal_most r.no r.place)

table_longest : (s : List ℕ) (o : Outcome) → reading s ≡ o → length (table_report o) ≤ most_text
unfolding table_report table_of
table_longest s (Not n p) e = omega (arith, refusal_most n p)
table_longest s (Read S) e = by (verdict (plan_checks S 4096)) refl
  where
    by : (v : Verdict) → verdict (plan_checks S 4096) ≡ v → length (table_by v (traffic_of S)) ≤ most_text
    by Passed q =
        let T = traffic_of S in
        let p = table_passed S q in
        table_most (us (microcycle T)) (slots T) (rows T) (row_of T) (identifier_at T) p.1 (identifiers_small s S e p.0)
    by (Refused n p) q = omega (arith, refusal_most n p)

-- ---- Any sheet

pub no_report_longer : (s : List ℕ) → length (report_of s) ≤ most_text
unfolding report_of
no_report_longer s = split (eqb (first_bus s) 3) (eqb (first_bus s) 5)
  where
    split : (a b : Bool) → length (cond a (ring_report (plan_of (reading s))) (cond b (table_report (reading s)) (segment_report (planned s 32 32 32)))) ≤ most_text
    split true b = ring_longest (plan_of (reading s))
    split false true = table_longest s (reading s) refl
    split false false = segment_longest s (planned s 32 32 32) refl

-- how many bytes an answer says
abbrev pub bytes_of : Option Reported → ℕ
bytes_of (Some (reported.Accepted n)) = n
bytes_of (Some (reported.Refused n)) = n
bytes_of None = 0

-- what was written stands within the lent run
pub written_within : (s : List ℕ) (room : ℕ) (r : Option Reported) → r ≡ answer_of s room → bytes_of r ≤ room
unfolding answer_of
written_within s room r e = rw e (split (ltb room most_text) refl (accepts s))
  where
    split : (b : Bool) → ltb room most_text ≡ b → (a : Bool) → bytes_of (cond b None (Some (told a (length (report_of s))))) ≤ room
    split true q a = omega arith
    split false q true = omega (arith, no_report_longer s, ltb-false room most_text q)
    split false q false = omega (arith, no_report_longer s, ltb-false room most_text q)
