-- No accepted sheet is longer than 12,804 bytes, and reading looks at the first 12,820 bytes of any sheet only. Assumes nothing.
use mathlib.Core.Path.{◌≡◌, refl, sym, ap, ◌∙◌}
use mathlib.Core.Bool.{Bool, true, false, cond}
use mathlib.Core.List.{List}
use mathlib.Core.Logic.{◌⊎◌, inl, inr}
use Prim.Native.Nat.{ℕ, zero, suc, ◌+◌, ◌*◌, ◌≤◌, zero-le}
use native.Mathlib.Omega.{arith}
use borrow.Author.Tests.{leb-true, leb-false, eqb-true}
use lib.ListN.{length, get_or, take}
use lib.Dec.{leb, eqb}
use lib.Seq.{take_all, length-take-le, get_or-take}
use Rattle.common.specs.Sums.{greatest}
use Rattle.sheet_record.specs.Kinds.{kinds, line_of, fields_of, widths, size_of, bus_of, is_first, is_setting, is_stream_of, decode}
use Rattle.sheet_record.proofs.Tables.{size_at_most}
use Rattle.sheet_record.proofs.Parts.{first_kinds, first_bus, setting_kinds, ring_streams, variables}
use Rattle.sheet_rules.specs.Sheets.{Sheet, most_in_all}
use Rattle.sheet_rules.specs.Whole.{place_of, before, reading}
use Rattle.sheet_rules.specs.Whole.Outcome.{Read}
use Rattle.sheet_rules.specs.Lengths.{longest_record, longest_sheet, enough}
use Rattle.sheet_rules.proofs.Cases.{Upto, Stops, reading_stops}
use Rattle.sheet_rules.proofs.Cases.Stops.{by_record, at_end}
use Rattle.sheet_rules.proofs.Order.{nth}
use Rattle.sheet_rules.proofs.Fronts.{SameFront, refused_by_record}
use Rattle.sheet_rules.proofs.Openings.{edition_here, one_setting, few_settings}
use Rattle.sheet_rules.proofs.Known.{place_bound, first_record, streams_few}

-- ---- The constants

pub longest_record_is : longest_record ≡ 16
unfolding longest_record greatest kinds size_of widths fields_of line_of
longest_record_is = refl

pub longest_sheet_is : longest_sheet ≡ 12804
unfolding longest_sheet longest_record greatest kinds size_of widths fields_of line_of most_in_all
longest_sheet_is = refl

pub enough_is : enough ≡ 12820
unfolding enough longest_sheet longest_record greatest kinds size_of widths fields_of line_of most_in_all
enough_is = refl

-- ---- How far reading goes

-- how long the streams of a bus are
unfoldable longest_of_law : ℕ → ℕ
longest_of_law bus = cond (eqb bus 1) 16 (cond (eqb bus 3) 10 7)

stream_size : (h k : ℕ) → is_first h ≡ true → is_stream_of (bus_of h) k ≡ true → size_of k ≤ longest_of_law (bus_of h)
unfolding longest_of_law bus_of size_of widths fields_of line_of kinds
stream_size h k f its = split (first_bus h f)
  where
    of : (b : ℕ) → bus_of h ≡ b → is_stream_of b k ≡ true
    of b e = rw e at its

    split : bus_of h ≡ 1 ⊎ bus_of h ≡ 3 ⊎ bus_of h ≡ 5 → size_of k ≤ longest_of_law (bus_of h)
    split (inl e) = rw e (omega (arith, size_at_most k))
    split (inr (inl e)) = rw (e, eqb-true k 4 (sym (ring_streams k) ∙ of 3 e)) (omega arith)
    split (inr (inr e)) = rw (e, eqb-true k 6 (sym (variables k) ∙ of 5 e)) (omega arith)

-- and its settings, by the kind of the first record
unfoldable longest_setting : ℕ → ℕ
longest_setting h = cond (eqb h 1) 2 6

setting_size : (h k : ℕ) → (h ≡ 1 → k ≡ 8) → is_setting k ≡ true → size_of k ≤ longest_setting h
unfolding longest_setting size_of widths fields_of line_of kinds
setting_size h k edition e = split (eqb h 1) refl (setting_kinds k e)
  where
    split : (b : Bool) → eqb h 1 ≡ b → k ≡ 8 ⊎ k ≡ 10 → size_of k ≤ cond b 2 6
    split true q o = rw (edition (eqb-true h 1 q)) (omega arith)
    split false q (inl o) = rw o (omega arith)
    split false q (inr o) = rw o (omega arith)

-- behind records that pass, the next one stands within the longest sheet
bound : (h c m : ℕ) → is_first h ≡ true → c ≤ 32 → (h ≡ 1 → c ≤ 1) → m ≤ most_in_all (bus_of h) → size_of h + c * longest_setting h + m * longest_of_law (bus_of h) ≤ longest_sheet
unfolding longest_of_law longest_setting longest_sheet longest_record greatest kinds line_of bus_of size_of widths fields_of most_in_all
bound h c m f few one l = split (first_kinds h f)
  where
    split : h ≡ 1 ⊎ h ≡ 3 ⊎ h ≡ 5 ⊎ h ≡ 9 → size_of h + c * longest_setting h + m * longest_of_law (bus_of h) ≤ longest_sheet
    split (inl e) = let k : m ≤ 800 = rw e at l in rw e (omega (arith, one e))
    split (inr (inl e)) = let k : m ≤ 800 = rw e at l in rw e (omega arith)
    split (inr (inr (inl e))) = let k : m ≤ 64 = rw e at l in rw e (omega arith)
    split (inr (inr (inr e))) = let k : m ≤ 800 = rw e at l in rw e (omega arith)

pub place_at_most : (s : List ℕ) (i : ℕ) → Upto s i → place_of s i ≤ longest_sheet
unfolding place_of
place_at_most s zero u = zero-le
place_at_most s (suc m) u =
    let h = (decode s 0).kind in
    let f = first_record s m u in
    let S = before s (suc m) in
    omega (
      arith,
      place_bound s m u (longest_setting h) (longest_of_law (bus_of h))
          (λ j l e. setting_size h (nth s (suc j)).kind (λ q. edition_here s j (u.passed (suc j) (omega arith)).is_right q e) e)
          (λ k e. stream_size h k f e) m (omega arith),
      bound h (length S.settings) (length S.streams) f (few_settings s m u) (one_setting s m u) (streams_few s m u),
    )

-- no accepted sheet is longer
pub length_at_most : (s : List ℕ) (S : Sheet) → reading s ≡ Read S → length s ≤ longest_sheet
length_at_most s S e = by (reading_stops s)
  where
    by : Stops s (reading s) → length s ≤ longest_sheet
    by (by_record i n p u l j q) = let z : ◌≡◌ {A = ℕ} 0 1 = cc in absurd (omega arith)
    by (at_end i u l q) = omega (arith, place_at_most s i u)

-- ---- A sheet that is cut

-- the first n bytes of a sheet that has as many
cut_front : (s : List ℕ) (n : ℕ) → n ≤ length s → SameFront s (take n s) n
cut_front s n short = record { s_long = short; t_long = omega (arith, length-take-le n s short); same = λ i l. get_or-take n s i 0 l }

-- ---- The first 12,820 bytes are enough

-- a record that reading comes to ends within them
ends_within : (s : List ℕ) (i : ℕ) → Upto s i → place_of s (suc i) ≤ enough
unfolding place_of enough
ends_within s i u = omega (arith, place_at_most s i u, size_at_most (get_or s (place_of s i) 0), longest_record_is)

pub reading_prefix : (s : List ℕ) → reading s ≡ reading (take enough s)
reading_prefix s = split (leb (length s) enough) refl
  where
    stopped : enough ≤ length s → Stops s (reading s) → reading s ≡ reading (take enough s)
    stopped l (by_record i m p u k j q) = q ∙ sym (refused_by_record (cut_front s enough l) i m p u j (ends_within s i u))
    stopped l (at_end i u e q) = absurd (omega (arith, place_at_most s i u, enough_is, longest_sheet_is))

    split : (b : Bool) → leb (length s) enough ≡ b → reading s ≡ reading (take enough s)
    split true e = ap reading (sym (take_all enough s (leb-true (length s) enough e)))
    split false e = let l = leb-false (length s) enough e in stopped (omega arith) (reading_stops s)

-- an accepted sheet stands in them whole
pub accepted_prefix : (s : List ℕ) (S : Sheet) → reading s ≡ Read S → take enough s ≡ s
accepted_prefix s S e = take_all enough s (omega (arith, length_at_most s S e, enough_is, longest_sheet_is))
