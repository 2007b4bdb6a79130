-- Page 01, 'a sheet reader that walks the lent bytes record by record and keeps its place': i steps from the first byte lead to record i, and
-- of an accepted sheet the reader finds the records one after the other, to the last. Assumes nothing.
use mathlib.Core.Path.{◌≡◌, refl, sym, ap, ◌∙◌}
use mathlib.Core.Bool.{true, false}
use mathlib.Core.List.{List}
use Prim.Native.Nat.{ℕ, zero, suc, ◌+◌, ◌≤◌, ◌<◌}
use native.Mathlib.Omega.{arith}
use borrow.Author.Tests.{le-leb, eq-eqb, ne_eqb}
use lib.ListN.{length, get_or}
use Rattle.sheet_record.specs.declared.Record.{Record}
use Rattle.sheet_record.specs.Kinds.{size_of, decode, whole, nothing}
use Rattle.sheet_reader.specs.Walk.{found_of, step_from, place_after, stays_after, count}
use Rattle.sheet_reader.specs.declared.Found.TheVariants as found
use Rattle.sheet_reader.proofs.Walk.{finds_whole, steps_over, step_on, place_within, count_is}
use Rattle.sheet_rules.specs.Sheets.{Sheet}
use Rattle.sheet_rules.specs.Records.{records_in}
use Rattle.sheet_rules.specs.Whole.{place_of, records_of, reading}
use Rattle.sheet_rules.specs.Whole.Outcome.{Read}
use Rattle.sheet_rules.proofs.Walk.{place_next, length_records, record_at}
use Rattle.sheet_rules.proofs.Cases.{PassesAt, Upto, upto_front}
use Rattle.sheet_rules.proofs.Order.{in_order}
use Rattle.sheet_rules.proofs.Known.{ReadsTo, reading_whole}

module _ (s : List ℕ) where
  -- where the first i records stand whole and are of known kinds
  pub steps_lead : (i : ℕ) → ((j : ℕ) → j < i → whole s (place_of s j) ≡ true) → place_after s i ≡ place_of s i
  unfolding place_after place_of
  steps_lead zero w = refl
  steps_lead (suc i) w = ap (step_from s) (steps_lead i (λ j h. w j (omega arith))) ∙ steps_over s (place_of s i) (w i (omega arith))

  passes_whole : (i : ℕ) → PassesAt s i → whole s (place_of s i) ≡ true
  unfolding whole decode
  passes_whole i p = simp (p.is_known, le-leb (place_of s i + size_of (get_or s (place_of s i) 0)) (length s) p.is_whole)

  -- where they pass, even if the sheet is refused later
  pub steps_lead_on : (i : ℕ) → Upto s i → place_after s i ≡ place_of s i
  steps_lead_on i u = steps_lead i (λ j h. passes_whole j (u.passed j h))

  -- ---- An accepted sheet

  module _ (S : Sheet) (e : reading s ≡ Read S) where
    r : ReadsTo s S
    r = reading_whole s S e

    -- its records: the first one, the settings, the streams
    records_are : records_in S ≡ records_of s (suc r.m)
    records_are = ap records_in r.says ∙ in_order s r.m r.upto

    how_many : length (records_in S) ≡ suc r.m
    how_many = ap length records_are ∙ length_records s (suc r.m)

    record_is : (i : ℕ) → i ≤ r.m → get_or (records_in S) i nothing ≡ decode s (place_of s i)
    record_is i h = ap (λ (rs : List Record). get_or rs i nothing) records_are ∙ record_at s (suc r.m) i (omega arith)

    -- each record, and the end
    pub accepted_steps : (i : ℕ) → i ≤ length (records_in S) → place_after s i ≡ place_of s i
    accepted_steps i h = steps_lead_on i (upto_front s (suc r.m) i (omega (arith, how_many)) r.upto)

    -- they are found one after the other
    pub accepted_finds : (i : ℕ) → i < length (records_in S) → found_of s (place_after s i) ≡ found.One (record { found = get_or (records_in S) i nothing; next = place_after s (suc i) })
    unfolding place_of
    accepted_finds i h =
        let l : i ≤ r.m = omega (arith, how_many) in
        let here = accepted_steps i (omega arith) in
        let next = accepted_steps (suc i) (omega arith) in
        let there = finds_whole s (place_of s i) (passes_whole i (r.upto.passed i (omega arith))) in
        let is = record_is i l in
        ap (found_of s) here ∙ (there ∙ (λ k. found.One (record { found = sym is k; next = sym next k })))

    -- the step behind the last record stays
    accepted_end : stays_after s (length (records_in S)) ≡ true
    unfolding stays_after place_after
    accepted_end =
        let n = length (records_in S) in
        let ends : place_after s n ≡ length s = accepted_steps n (omega arith) ∙ (ap (place_of s) how_many ∙ r.ends) in
        eq-eqb (place_after s (suc n)) (place_after s n) (omega (arith, ends, place_within s (suc n), step_on s (place_after s n)))

    -- no record is left out, and none comes behind the last
    pub accepted_count : count s ≡ length (records_in S)
    unfolding stays_after
    accepted_count = sym (count_is s (length (records_in S)) moves accepted_end)
      where
        moves : (j : ℕ) → j < length (records_in S) → stays_after s j ≡ false
        moves j h =
            ne_eqb (place_after s (suc j)) (place_after s j) (λ q. omega (arith, q, accepted_steps j (omega arith), accepted_steps (suc j) (omega arith), place_next s j))
