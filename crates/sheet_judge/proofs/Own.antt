-- The refusal of a record by itself: a law for each answer, and that what is met at a place tells the same as the bytes there. Assumes nothing.
use mathlib.Core.Path.{◌≡◌, refl, ap, ◌∙◌, subst}
use mathlib.Core.Bool.{Bool, true, false, not, ◌&&◌}
use mathlib.Core.List.{List}
use mathlib.Core.Logic.{◌⊎◌, inl, inr}
use Prim.Native.Nat.{ℕ, ◌+◌}
use native.Mathlib.Omega.{arith}
use borrow.Author.Tests.{ne_eqb, eq-eqb}
use lib.ListN.{length, get_or}
use lib.Dec.{eqb, leb}
use Rattle.sheet_record.specs.declared.Met.{Met}
use Rattle.sheet_record.specs.declared.Record.{Record}
use Rattle.sheet_record.specs.declared.Given.{Given}
use Rattle.sheet_record.specs.Kinds.{known, size_of, decode, in_range, whole, met_at, met_of, is_stream_of, stream_met, nothing}
use Rattle.sheet_record.proofs.Tables.{size_some}
use Rattle.sheet_record.proofs.Records.{met_same, stream_same}
use Rattle.sheet_judge.specs.Own.{own_no, as_bus}

-- ---- 2, 3, 1, 4

module _ (isKnown isRight is_whole isRanged : Bool) where
  pub own_unknown : isKnown ≡ false → 2 ≡ own_no isKnown isRight is_whole isRanged
  unfolding own_no
  own_unknown a = rw a

  pub own_wrong : isKnown ≡ true → isRight ≡ false → 3 ≡ own_no isKnown isRight is_whole isRanged
  unfolding own_no
  own_wrong a b = rw (a, b)

  pub own_cut : isKnown ≡ true → isRight ≡ true → is_whole ≡ false → 1 ≡ own_no isKnown isRight is_whole isRanged
  unfolding own_no
  own_cut a b c = rw (a, b, c)

  pub own_out : isKnown ≡ true → isRight ≡ true → is_whole ≡ true → isRanged ≡ false → 4 ≡ own_no isKnown isRight is_whole isRanged
  unfolding own_no
  own_out a b c d = rw (a, b, c, d)

  pub own_none : isKnown ≡ true → isRight ≡ true → is_whole ≡ true → isRanged ≡ true → 0 ≡ own_no isKnown isRight is_whole isRanged
  unfolding own_no
  own_none a b c d = rw (a, b, c, d)

-- the later two tests matter only where the earlier ones passed
pub own_same : (isKnown isRight is_whole isRanged isWhole' isRanged' : Bool) → (isKnown ≡ true → isRight ≡ true → is_whole ≡ isWhole')
    → (isKnown ≡ true → isRight ≡ true → isWhole' ≡ true → isRanged ≡ isRanged')
    → own_no isKnown isRight is_whole isRanged ≡ own_no isKnown isRight isWhole' isRanged'
unfolding own_no
own_same false r w g w' g' ew eg = refl
own_same true false w g w' g' ew eg = refl
own_same true true w g false g' ew eg = rw (ew refl refl)
own_same true true w g true g' ew eg = rw (ew refl refl, eg refl refl refl)

-- the record that is met at a place tells the same as the bytes there
module _ (s : List ℕ) (at : ℕ) where
  pub met_some : whole s at ≡ true → met_at s at ≡ record { found = decode s at; next = at + size_of (get_or s at 0) }
  unfolding met_at
  met_some e = rw e

  pub met_none : whole s at ≡ false → met_at s at ≡ record { found = nothing; next = at }
  unfolding met_at
  met_none e = rw e

  -- it ends elsewhere exactly if it is whole, and then it is the record of the bytes
  next_tells : known (get_or s at 0) ≡ true → not (eqb (met_at s at).next at) ≡ leb (at + size_of (get_or s at 0)) (length s)
  unfolding whole
  next_tells e = split (leb (at + size_of (get_or s at 0)) (length s)) refl
    where
      split : (l : Bool) → leb (at + size_of (get_or s at 0)) (length s) ≡ l → not (eqb (met_at s at).next at) ≡ leb (at + size_of (get_or s at 0)) (length s)
      split true f =
          let w : whole s at ≡ true = rw (e, f) in
          let n : eqb (at + size_of (get_or s at 0)) at ≡ false = ne_eqb (at + size_of (get_or s at 0)) at (λ q. omega (arith, size_some (get_or s at 0))) in
          rw (met_some w, n, f)
      split false f =
          let w : whole s at ≡ false = rw (e, f) in
          rw (met_none w, eq-eqb at at refl, f)

  found_tells : known (get_or s at 0) ≡ true → leb (at + size_of (get_or s at 0)) (length s) ≡ true → (met_at s at).found ≡ decode s at
  unfolding whole
  found_tells e f = let w : whole s at ≡ true = rw (e, f) in ap (λ (m : Met). m.found) (met_some w)

  pub own_met : (isRight : Bool) (g : Given)
      → own_no (known (get_or s at 0)) isRight (not (eqb (met_at s at).next at)) (in_range g (met_at s at).found)
      ≡ own_no (known (get_or s at 0)) isRight (leb (at + size_of (get_or s at 0)) (length s)) (in_range g (decode s at))
  own_met isRight g =
      own_same (known (get_or s at 0)) isRight _ _ _ _ (λ k r. next_tells k) (λ k r w. ap (in_range g) (found_tells k w))

  -- the same where a stream of a bus alone is asked for: any other record is refused before anything else is looked at
  pub own_met_of : (bus : ℕ) (g : Given)
      → own_no (known (get_or s at 0)) (is_stream_of bus (get_or s at 0)) (not (eqb (stream_met s at bus).next at))
      (is_stream_of bus (stream_met s at bus).found.kind && in_range g (stream_met s at bus).found)
      ≡ own_no (known (get_or s at 0)) (is_stream_of bus (get_or s at 0)) (leb (at + size_of (get_or s at 0)) (length s)) (in_range g (decode s at))
  unfolding decode
  own_met_of bus g = own_same (known (get_or s at 0)) (is_stream_of bus (get_or s at 0)) _ _ _ _ ends ranged
    where
      ends : known (get_or s at 0) ≡ true → is_stream_of bus (get_or s at 0) ≡ true
          → not (eqb (stream_met s at bus).next at) ≡ leb (at + size_of (get_or s at 0)) (length s)
      ends k r = ap (λ (m : Met). not (eqb m.next at)) (stream_same s at bus r) ∙ next_tells k

      ranged : known (get_or s at 0) ≡ true → is_stream_of bus (get_or s at 0) ≡ true → leb (at + size_of (get_or s at 0)) (length s) ≡ true
          → (is_stream_of bus (stream_met s at bus).found.kind && in_range g (stream_met s at bus).found) ≡ in_range g (decode s at)
      ranged k r w =
          let e : (stream_met s at bus).found ≡ decode s at = ap (λ (m : Met). m.found) (stream_same s at bus r) ∙ found_tells k w in
          ap (λ (x : Record). is_stream_of bus x.kind && in_range g x) e ∙ ap (λ (b : Bool). b && in_range g (decode s at)) r

  -- and where a record of one kind alone is asked for, and that kind stands there
  own_met_there : (isRight : Bool) (g : Given)
      → own_no (known (get_or s at 0)) isRight (not (eqb (met_of s at (get_or s at 0)).next at))
      (eqb (met_of s at (get_or s at 0)).found.kind (get_or s at 0) && in_range g (met_of s at (get_or s at 0)).found)
      ≡ own_no (known (get_or s at 0)) isRight (leb (at + size_of (get_or s at 0)) (length s)) (in_range g (decode s at))
  unfolding decode
  own_met_there isRight g = own_same (known (get_or s at 0)) isRight _ _ _ _ ends ranged
    where
      same : met_of s at (get_or s at 0) ≡ met_at s at
      same = met_same s at (get_or s at 0) refl

      ends : known (get_or s at 0) ≡ true → isRight ≡ true → not (eqb (met_of s at (get_or s at 0)).next at) ≡ leb (at + size_of (get_or s at 0)) (length s)
      ends k r = ap (λ (m : Met). not (eqb m.next at)) same ∙ next_tells k

      ranged : known (get_or s at 0) ≡ true → isRight ≡ true → leb (at + size_of (get_or s at 0)) (length s) ≡ true
          → (eqb (met_of s at (get_or s at 0)).found.kind (get_or s at 0) && in_range g (met_of s at (get_or s at 0)).found) ≡ in_range g (decode s at)
      ranged k r w =
          let e : (met_of s at (get_or s at 0)).found ≡ decode s at = ap (λ (m : Met). m.found) same ∙ found_tells k w in
          ap (λ (x : Record). eqb x.kind (get_or s at 0) && in_range g x) e ∙ ap (λ (b : Bool). b && in_range g (decode s at)) (eq-eqb (get_or s at 0) (get_or s at 0) refl)

  pub own_met_kind : (kind : ℕ) → get_or s at 0 ≡ kind → (isRight : Bool) (g : Given)
      → own_no (known kind) isRight (not (eqb (met_of s at kind).next at)) (eqb (met_of s at kind).found.kind kind && in_range g (met_of s at kind).found)
      ≡ own_no (known (get_or s at 0)) isRight (leb (at + size_of (get_or s at 0)) (length s)) (in_range g (decode s at))
  own_met_kind kind e isRight g =
      subst (λ (k : ℕ).
      own_no (known k) isRight (not (eqb (met_of s at k).next at)) (eqb (met_of s at k).found.kind k && in_range g (met_of s at k).found)
      ≡ own_no (known (get_or s at 0)) isRight (leb (at + size_of (get_or s at 0)) (length s)) (in_range g (decode s at))) e (own_met_there isRight g)

-- ---- The bus of a number

pub as_last : (bus : ℕ) → (bus ≡ 1 → ⊥) → (bus ≡ 3 → ⊥) → as_bus bus ≡ 5
unfolding as_bus
as_last bus one three = rw (ne_eqb bus 1 one, ne_eqb bus 3 three)

pub as_itself : (bus : ℕ) → bus ≡ 1 ⊎ bus ≡ 3 ⊎ bus ≡ 5 → as_bus bus ≡ bus
unfolding as_bus
as_itself bus (inl e) = rw e
as_itself bus (inr (inl e)) = rw e
as_itself bus (inr (inr e)) = rw e
