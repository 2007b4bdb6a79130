-- Laws of the line under way: what a run holds of it says what the whole line says. Assumes nothing.
use Prim.Native.Nat.{ℕ, zero, suc, ◌+◌, ◌≤◌, ◌<◌, min}
use mathlib.Core.Path.{◌≡◌, refl, sym, ap, ◌∙◌}
use mathlib.Core.List.{List, [], ◌∷◌, ◌++◌}
use mathlib.Core.Bool.{Bool, true, false, cond, ◌&&◌, true≢false}
use native.Mathlib.Decide.{dec_le}
use native.Mathlib.Numerals.{add-one}
use native.Mathlib.Omega.{arith}
use borrow.Author.Tests.{eqb-true, eqb-false}
use lib.Dec.{eqb}
use lib.ListN.{length, take, set, length-append, length-set}
use lib.Seq.{set_out, take_all, take-append-le, take-suc-set}
use Rattle.sheet_record.specs.Kinds.{numbers, nothing}
use Rattle.sheet_line.specs.Lines.{line_text, sayable}
use Rattle.sheet_said.specs.Said.{guess, same, record_in}
use Rattle.sheet_said.proofs.Without.{Without}
use Rattle.sheet_said.proofs.Without.Without.{none, more}
use Rattle.sheet_line.proofs.Lines.{Small, line_most}
use Rattle.sheet_said.proofs.Cells.{guess_small}
use Rattle.sheet_said.proofs.Guessed.{has_word_law}
use Rattle.sheet_said.proofs.Laws.{line_read, line_ended, word_some}
use Rattle.sheet_pieces.specs.Steps.{holds, held_more, front_with}

-- ---- What `hold` does

-- what it answers and leaves in the run
abbrev pub HeldOne : List ℕ → ℕ → ℕ → ℕ → List ℕ → Type 0
HeldOne front h b n front' = (n ≡ held_more front h) × (front' ≡ front_with front h b)

module _ (front : List ℕ) (h b : ℕ) where
  pub holds_more : h < length front → HeldOne front h b (h + 1) (set front h b)
  unfolding held_more front_with holds
  holds_more l = let e : min h (length front) ≡ h = omega arith in (omega arith, rw e refl)

  pub holds_all : length front ≤ h → HeldOne front h b (length front) front
  unfolding held_more front_with holds
  holds_all l = let e : min h (length front) ≡ length front = omega arith in (omega arith, rw e (sym (set_out front (length front) b (omega arith))))

  pub held_most : {n : ℕ} {front' : List ℕ} → HeldOne front h b n front' → n ≤ length front
  unfolding held_more
  held_most e = omega (arith, e.0)

-- ---- What is held of a line

-- h bytes in front of a run, in which any line has room, are the first of the bytes o: all of them, if the run is not full
pub record HeldOf (front : List ℕ) (h : ℕ) (o : List ℕ) : Type 0 where
  pub wide : 96 ≤ length front
  pub count : h ≡ min (length o) (length front)
  pub same : take h front ≡ take h o

pub held_none : (front : List ℕ) → 96 ≤ length front → HeldOf front 0 []
held_none front l = record { wide = l; count = omega arith; same = refl }

module _ {front : List ℕ} {h : ℕ} {o : List ℕ} (k : HeldOf front h o) where
  pub held_inside : h ≤ length front
  held_inside = omega (arith, k.count)

  -- a byte more
  pub held_next : (b : ℕ) → HeldOf (front_with front h b) (held_more front h) (o ++ (b ∷ []))
  held_next b = by (dec_le (suc (length o)) (length front))
    where
      long : length (o ++ (b ∷ [])) ≡ suc (length o)
      long = length-append o (b ∷ []) ∙ omega arith

      by : Dec (suc (length o) ≤ length front) → HeldOf (front_with front h b) (held_more front h) (o ++ (b ∷ []))
      by (yes l) =
          let all : h ≡ length o = omega (arith, k.count) in
          let m = holds_more front h b (omega arith) in
          let whole : take h front ≡ o = k.same ∙ take_all h o (omega arith) in
          let stored : take (h + 1) (set front h b) ≡ take h front ++ (b ∷ []) = rw add-one (take-suc-set front h b (omega arith)) in
          rw (← m.0, ← m.1)
          (record {
            wide = omega (arith, k.wide, length-set front h b);
            count = omega (arith, long, length-set front h b);
            same = stored ∙ (ap (λ (q : List ℕ). q ++ (b ∷ [])) whole ∙ sym (take_all (h + 1) (o ++ (b ∷ [])) (omega (arith, long))));
          })
      by (no l) =
          let full : length front ≡ h = omega (arith, k.count) in
          let m = holds_all front h b (omega arith) in
          let front_of : take h front ≡ take h (o ++ (b ∷ [])) = k.same ∙ sym (take-append-le h o (b ∷ []) (omega arith)) in
          rw (← m.0, ← m.1) (record { wide = k.wide; count = omega (arith, long); same = rw full front_of })

-- ---- Lines of no record

small_in : (l : List ℕ) → Small (numbers (record_in l))
unfolding record_in
small_in l = by (sayable (guess l) && same l (line_text (guess l)))
  where
    by : (t : Bool) → Small (numbers (cond t (guess l) nothing))
    by true = guess_small l
    by false = (omega arith, (omega arith, (omega arith, (omega arith, (omega arith, tt)))))

no_record : (l : List ℕ) → (((record_in l).kind ≡ 0 → ⊥) → ⊥) → (record_in l).kind ≡ 0
no_record l never = by (eqb (record_in l).kind 0) refl
  where
    by : (t : Bool) → eqb (record_in l).kind 0 ≡ t → (record_in l).kind ≡ 0
    by true e = eqb-true (record_in l).kind 0 e
    by false e = absurd (never (eqb-false (record_in l).kind 0 e))

-- one that is longer than any
long_none : (l : List ℕ) → 96 < length l → (record_in l).kind ≡ 0
long_none l h = no_record l (λ some. omega (arith, ap length (line_read l some).is_line, line_most (record_in l) (small_in l)))

-- one without an end
without_end : (p : List ℕ) → Without 10 (p ++ (10 ∷ [])) → ⊥
without_end [] (more e w) = true≢false e
without_end (b ∷ p) (more e w) = without_end p w

endless_none : (l : List ℕ) → Without 10 l → (record_in l).kind ≡ 0
endless_none l w = no_record l
    (λ some.
    let s = line_read l some in
    let d = line_ended (record_in l) s.can_be in
    let ends : l ≡ d.front ++ (10 ∷ []) = s.is_line ∙ d.is_front in
    without_end d.front (rw ends at w))

without_take : {c : ℕ} {l : List ℕ} (n : ℕ) → Without c l → Without c (take n l)
without_take zero w = none
without_take (suc n) none = none
without_take (suc n) (more e w) = more e (without_take n w)

-- what says no record is read as `nothing`
none_is : (l : List ℕ) → (record_in l).kind ≡ 0 → record_in l ≡ nothing
unfolding record_in
none_is l = by (sayable (guess l)) (same l (line_text (guess l))) refl
  where
    by : (a b : Bool) → sayable (guess l) ≡ a → (cond (a && b) (guess l) nothing).kind ≡ 0 → cond (a && b) (guess l) nothing ≡ nothing
    by true true e z = absurd (word_some (guess l).kind (has_word_law (guess l) e) z)
    by true false e z = refl
    by false b e z = refl

-- ---- A line that has its end

-- the run holds the whole line, or neither that nor what is held is the line of a record
pub held_says : {front : List ℕ} {h : ℕ} {o : List ℕ} (b : ℕ) → HeldOf front h (o ++ (b ∷ [])) → Without 10 o → record_in (take h front) ≡ record_in (o ++ (b ∷ []))
held_says {front} {h} {o} b k clean = by (dec_le (suc (length o)) (length front))
  where
    long : length (o ++ (b ∷ [])) ≡ suc (length o)
    long = length-append o (b ∷ []) ∙ omega arith

    by : Dec (suc (length o) ≤ length front) → record_in (take h front) ≡ record_in (o ++ (b ∷ []))
    by (yes l) = ap record_in (k.same ∙ take_all h (o ++ (b ∷ [])) (omega (arith, k.count, long)))
    by (no l) =
        let part : take h front ≡ take h o = k.same ∙ take-append-le h o (b ∷ []) (omega (arith, k.count, long)) in
        none_is (take h front) (endless_none (take h front) (rw part (without_take h clean)))
        ∙ sym (none_is (o ++ (b ∷ [])) (long_none (o ++ (b ∷ [])) (omega (arith, k.wide, long))))
