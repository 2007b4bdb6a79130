-- Laws of the writer, page 01 'Sheet records': a refusal changes nothing, and a record without one is put. Assumes nothing.
use mathlib.Core.Path.{◌≡◌, refl, ap, ◌∙◌}
use mathlib.Core.Bool.{Bool, true, false, not, ◌&&◌, ◌||◌}
use mathlib.Core.List.{List, [], ◌∷◌, ◌++◌}
use mathlib.Core.Logic.{◌⊎◌, inl, inr}
use Prim.Native.Nat.{ℕ, ◌+◌, ◌≤◌, ◌<◌, ◌^◌}
use borrow.Author.Tests.{lt-ltb, le-ltb, ltb-false, not-false}
use native.Mathlib.Omega.{arith}
use lib.ListN.{length, take, drop, length-append}
use lib.Seq.{length-take-le, take_at, drop_at}
use Rattle.common.proofs.Answered.{unless_passed}
use Rattle.common.specs.Checks.{Check, check, Verdict, verdict, unless}
use Rattle.common.specs.Checks.Verdict.{Passed, Refused}
use Rattle.common.proofs.Checks.{Applies, Clear, refused_if, passed_if, passed_then}
use Rattle.common.proofs.Checks.Applies.{here, later}
use Rattle.common.proofs.Checks.Clear.{none, and}
use Rattle.sheet_record.specs.declared.Record.{Record}
use Rattle.sheet_record.specs.Numbers.{pasted}
use Rattle.sheet_record.specs.Kinds.{Kind, kinds, line_of, fields_of, some, known, written, size_of, encode, decode, whole, in_range}
use Rattle.sheet_write.specs.Writing.{greatest, needed, room_check, write_checks, free_checks, pasted_by, put_answer, put_bytes, free_answer, free_bytes}
use Rattle.sheet_record.proofs.Numbers.{length_pasted, pasted_front}
use Rattle.sheet_record.proofs.Tables.{at_every_line, both_true}
use Rattle.sheet_record.proofs.Parts.{by_kind}
use Rattle.sheet_write.proofs.Trips.{length_encode, decode_encode, whole_encode}
use Rattle.std.specs.declared.result.Result.TheVariants.{Ok, Err}
use Rattle.common.proofs.Answered.{unless_passed}
use Rattle.common.specs.Checks.{refusal}
use Rattle.std.specs.declared.result.Result.{Result}
use Rattle.common.specs.declared.Refusal.{Refusal}

-- what a call answers and leaves in the buffer
abbrev pub Written : List ℕ → ℕ → Record → Result ℕ Refusal → List ℕ → Type 0
Written b at r p b' = (p ≡ put_answer (length b) at r) × (b' ≡ put_bytes b at r)

-- and one that does not look at ranges
abbrev pub Freely : List ℕ → ℕ → Record → Result ℕ Refusal → List ℕ → Type 0
Freely b at r p b' = (p ≡ free_answer (length b) at r) × (b' ≡ free_bytes b at r)

module _ (b : List ℕ) (at : ℕ) (r : Record) where
  refused_free : {n p : ℕ} → Applies (free_checks (length b) at r) n p → Freely b at r (Err (refusal n p)) b
  unfolding free_answer free_bytes
  refused_free a = let e = refused_if a in (rw e, rw e)

  passed_free : Clear (free_checks (length b) at r) → Freely b at r (Ok (at + size_of r.kind)) (pasted b at (encode r))
  unfolding free_answer free_bytes
  passed_free c = let e = passed_if c in (rw e, rw e)

  pub unknown_free : written r.kind ≡ false → Freely b at r (Err (refusal 2 at)) b
  unfolding free_checks
  unknown_free k = refused_free (here (ap not k))

  module _ (k : written r.kind ≡ true) where
    -- no room: 13, with the length that the whole buffer needs
    pub short_free : length b < at + size_of r.kind → (p : ℕ) → needed (at + size_of r.kind) ≡ p → Freely b at r (Err (refusal 13 p)) b
    unfolding free_checks
    short_free h p e =
        let t = lt-ltb (length b) (at + size_of r.kind) h in
        rw (← e) (refused_free (later (ap not k) (here t)))

    pub room_free : at + size_of r.kind ≤ length b → Freely b at r (Ok (at + size_of r.kind)) (pasted b at (encode r))
    unfolding free_checks
    room_free h =
        let t = le-ltb (length b) (at + size_of r.kind) h in
        passed_free (and (ap not k) (and t none))

  pub range_written : (written r.kind && not (in_range greatest r)) ≡ true → Written b at r (Err (refusal 4 at)) b
  unfolding write_checks put_answer put_bytes
  range_written t =
      let h = both_true (written r.kind) (not (in_range greatest r)) t in
      let e = refused_if {cs = write_checks (length b) at r} (later (ap not h.0) (here h.1)) in
      (rw e, rw e)

  -- out of range is refused with 4 only where the writer puts the kind; else ranges make no difference
  same_verdict : (n : ℕ) → (written r.kind && not (in_range greatest r)) ≡ false → verdict (write_checks n at r) ≡ verdict (free_checks n at r)
  unfolding write_checks free_checks verdict
  same_verdict n = split (written r.kind) (in_range greatest r)
    where
      split : (w g : Bool) → (w && not g) ≡ false
          → verdict (check 2 (not w) at ∷ check 4 (not g) at ∷ room_check n at r ∷ []) ≡ verdict (check 2 (not w) at ∷ room_check n at r ∷ [])
      split false g h = refl
      split true true h = refl
      split true false h = let z : ◌≡◌ {A = ℕ} 0 1 = cc in absurd (omega arith)

  pub free_written : {p : Result ℕ Refusal} {b' : List ℕ} → (written r.kind && not (in_range greatest r)) ≡ false → Freely b at r p b' → Written b at r p b'
  unfolding free_answer free_bytes put_answer put_bytes
  free_written e f = let q = same_verdict (length b) e in (f.0 ∙ rw q, f.1 ∙ rw q)

  pub room_written : written r.kind ≡ true → in_range greatest r ≡ true → at + size_of r.kind ≤ length b → Written b at r (Ok (at + size_of r.kind)) (pasted b at (encode r))
  room_written k ok h = free_written (rw (k, ok)) (room_free k h)

-- what the whole buffer needs is counted in 64 bits, or 0
pub needed_is : (n : ℕ) → n < 2 ^ 64 → needed n ≡ n
unfolding needed
needed_is n h = simp (lt-ltb n (2 ^ 64) h)

pub needed_none : (n : ℕ) → 2 ^ 64 ≤ n → needed n ≡ 0
unfolding needed
needed_none n h = simp (le-ltb n (2 ^ 64) h)

-- ---- A record that was written

-- what the writer puts is a known kind
abbrev known_if : Kind → Bool
known_if l = not l.written || some l.fields

pub written_known : (k : ℕ) → written k ≡ true → known k ≡ true
unfolding written known fields_of line_of kinds
written_known k e = split (written k) (known k) e (at_every_line known_if refl refl k)
  where
    split : (w b : Bool) → w ≡ true → (not w || b) ≡ true → b ≡ true
    split true b e t = t
    split false true e t = refl
    split false false e t = e

-- k is none of these, in the form in which the last arm of a `match` with arms for them, the last first, knows it
unfoldable pub NoneIn : List ℕ → ℕ → Type 0
NoneIn [] k = Unit {0}
NoneIn (x ∷ xs) k = NoneIn xs k × (k ≡ x → ⊥)

-- the two that are left of what the writer puts
pub ring_or_message : (k : ℕ) → written k ≡ true → NoneIn (8 ∷ 7 ∷ 6 ∷ 5 ∷ 4 ∷ 2 ∷ 1 ∷ []) k → k ≡ 9 ⊎ k ≡ 10
unfolding written line_of kinds NoneIn
ring_or_message =
    by_kind (λ k. written k ≡ true → NoneIn (8 ∷ 7 ∷ 6 ∷ 5 ∷ 4 ∷ 2 ∷ 1 ∷ []) k → k ≡ 9 ⊎ k ≡ 10)
    (λ e n. never e)
    (λ e n. absurd (n.0.0.0.0.0.0.1 refl))
    (λ e n. absurd (n.0.0.0.0.0.1 refl))
    (λ e n. never e)
    (λ e n. absurd (n.0.0.0.0.1 refl))
    (λ e n. absurd (n.0.0.0.1 refl))
    (λ e n. absurd (n.0.0.1 refl))
    (λ e n. absurd (n.0.1 refl))
    (λ e n. absurd (n.1 refl))
    (λ e n. inl refl)
    (λ e n. inr refl)
    (λ m e n. never e)
  where
    never : {A : Type 0} → false ≡ true → A
    never e = let z : ◌≡◌ {A = ℕ} 0 1 = cc in absurd (omega arith)

-- what the buffer b then holds: the record, up to the place that was answered, and before and after it what it had
pub record Stands (b now : List ℕ) (at : ℕ) (r : Record) (e : ℕ) : Type 0 where
  pub ends : e ≡ at + size_of r.kind
  pub room : e ≤ length b
  pub reads : decode now at ≡ r
  pub is_whole : whole now at ≡ true
  pub same_length : length now ≡ length b
  pub same_before : take at now ≡ take at b
  pub same_after : drop e now ≡ drop e b

pasted_stands : (b : List ℕ) (at : ℕ) (r : Record) → known r.kind ≡ true → in_range greatest r ≡ true → at + size_of r.kind ≤ length b
    → Stands b (pasted b at (encode r)) at r (at + size_of r.kind)
pasted_stands b at r k ok fits =
    let n = length_encode r in
    let end = at + length (encode r) in
    let rest = drop end b in
    let front : length (take at b) ≡ at = length-take-le at b (omega arith) in
    let both : length (take at b ++ encode r) ≡ end = rw (length-append, front) refl in
    record {
      ends = refl;
      room = fits;
      reads = rw front at (decode_encode r ok (take at b) rest);
      is_whole = rw front at (whole_encode r ok (take at b) rest k);
      same_length = length_pasted b at (encode r) (omega arith);
      same_before = take_at (take at b) (encode r ++ rest) at front;
      same_after = rw (← n) (ap (drop end) (pasted_front b at (encode r) (omega arith)) ∙ drop_at (take at b ++ encode r) rest end both);
    }

-- no line applies: the first does not, and none behind it
clear_rest : {c : Check} {cs : List Check} → Clear (c ∷ cs) → (c.given ≡ false) × Clear cs
clear_rest (and e t) = (e, t)

-- a record whose writing answers a place stands there
pub written_stands : (b : List ℕ) (at : ℕ) (r : Record) (e : ℕ) → put_answer (length b) at r ≡ Ok e → Stands b (put_bytes b at r) at r e
unfolding put_answer put_bytes write_checks
written_stands b at r e q =
    let z = at + size_of r.kind in
    let v = unless_passed (verdict (write_checks (length b) at r)) z q in
    let c₁ = clear_rest (passed_then (write_checks (length b) at r) v.0) in
    let c₂ = clear_rest c₁.1 in
    let c₃ = clear_rest c₂.1 in
    let fits = ltb-false (length b) z c₃.0 in
    let same : put_bytes b at r ≡ pasted b at (encode r) = simp v.0 in
    rw (← v.1, same) (pasted_stands b at r (written_known r.kind (not-false (written r.kind) c₁.0)) (not-false (in_range greatest r) c₂.0) fits)

pub refused_kept : (v : Verdict) (end n p : ℕ) (new b : List ℕ) → unless v end ≡ Err (refusal n p) → pasted_by v new b ≡ b
refused_kept Passed end n p new b q = cc
refused_kept (Refused m o) end n p new b q = refl

-- and a refusal changes no byte
pub refused_keeps : (b : List ℕ) (at : ℕ) (r : Record) (n p : ℕ) → put_answer (length b) at r ≡ Err (refusal n p) → put_bytes b at r ≡ b
unfolding put_answer put_bytes
refused_keeps b at r n p q = refused_kept (verdict (write_checks (length b) at r)) (at + size_of r.kind) n p (pasted b at (encode r)) b q
