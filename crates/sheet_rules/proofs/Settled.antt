-- Page 01, 'Numbered refusals', and page 02, Ask 8: where a record is refused with 2, 3, 4, 20, 5 or 7, the bytes behind it change nothing. `front` is what stands
-- before them, the record included; `behind` and `other` are any two ways in which the sheet may go on. 20 and 6 at the sheet's end are refusals of no record.
-- Assumes nothing.
use mathlib.Core.Path.{◌≡◌, sym, ◌∙◌}
use mathlib.Core.List.{List, ◌++◌}
use mathlib.Core.Logic.{◌⊎◌, inl, inr}
use Prim.Native.Nat.{ℕ, suc, ◌+◌, ◌≤◌, ◌<◌}
use native.Mathlib.Omega.{arith}
use lib.ListN.{length, get_or, length-append, get_or-append}
use Rattle.sheet_record.specs.Kinds.{size_of}
use Rattle.sheet_rules.specs.Whole.{place_of, reading}
use Rattle.sheet_rules.specs.Whole.Outcome.{Not}
use Rattle.sheet_rules.specs.Refusals.{Given}
use Rattle.sheet_rules.specs.Refusals.Given.{empty, at_record, no_message, no_stream}
use Rattle.sheet_record.proofs.Tables.{size_some}
use Rattle.sheet_rules.proofs.Fronts.{SameFront, refused_by_record, refused_by_kind}
use Rattle.sheet_rules.proofs.Refusals.{given_then, refused_at}

module _ (front behind other : List ℕ) where
  goes_on : SameFront (front ++ behind) (front ++ other) (length front)
  goes_on =
      record {
        s_long = omega (arith, length-append front behind);
        t_long = omega (arith, length-append front other);
        same = λ i l. get_or-append front other 0 i l ∙ sym (get_or-append front behind 0 i l);
      }

  -- 2 or 3 at place p: the byte there settles it, and all bytes behind that byte may be others
  pub behind_a_wrong_kind : (n p : ℕ) → n ≡ 2 ⊎ n ≡ 3 → p < length front → reading (front ++ behind) ≡ Not n p → reading (front ++ other) ≡ Not n p
  behind_a_wrong_kind n p its l e = by (given_then (front ++ behind) n p e) (bounds its) (omega arith)
    where
      bounds : n ≡ 2 ⊎ n ≡ 3 → (2 ≤ n) × (n ≤ 3)
      bounds (inl q) = (omega arith, omega arith)
      bounds (inr q) = (omega arith, omega arith)

      by : {m q : ℕ} → Given (front ++ behind) m q → (2 ≤ m) × (m ≤ 3) → q < length front → reading (front ++ other) ≡ Not m q
      by (empty z) b k = absurd (omega (arith, b.0))
      by (no_message o w) b k = absurd (omega (arith, b.1))
      by (no_stream o w) b k = absurd (omega (arith, b.1))
      by (at_record {i} {n = m} {p = q} h r) b k =
          let a = refused_at (front ++ behind) h r in
          refused_by_kind goes_on i m q a.0 a.1 b.0 b.1 (omega (arith, h.starts))

  -- a record that is whole in front ends there
  ends_in_front : (i q : ℕ) → q ≡ place_of (front ++ behind) i → q + size_of (get_or front q 0) ≤ length front → place_of (front ++ behind) (suc i) ≤ length front
  unfolding place_of
  ends_in_front i q e l =
      let same : get_or (front ++ behind) q 0 ≡ get_or front q 0 = get_or-append front behind 0 q (omega (arith, size_some (get_or front q 0))) in
      rw (← e, same) l

  -- any number at place p: where the record there is whole in front, its bytes settle it, and all bytes behind the record may be others
  pub behind_a_wrong_record : (n p : ℕ) → p + size_of (get_or front p 0) ≤ length front → reading (front ++ behind) ≡ Not n p → reading (front ++ other) ≡ Not n p
  behind_a_wrong_record n p l e = by (given_then (front ++ behind) n p e) (omega arith)
    where
      -- no record stands at the end
      past : length (front ++ behind) + size_of (get_or front (length (front ++ behind)) 0) ≤ length front → ⊥
      past k = omega (arith, size_some (get_or front (length (front ++ behind)) 0), length-append front behind)

      by : {m q : ℕ} → Given (front ++ behind) m q → q + size_of (get_or front q 0) ≤ length front → reading (front ++ other) ≡ Not m q
      by (empty z) k = absurd (omega (arith, size_some (get_or front 0 0), length-append front behind))
      by (no_message o w) k = absurd (past k)
      by (no_stream o w) k = absurd (past k)
      by (at_record {i} {n = m} {p = q} h r) k =
          let a = refused_at (front ++ behind) h r in
          refused_by_record goes_on i m q a.0 a.1 (ends_in_front i q h.starts k)
