-- A text that is taken byte by byte comes to what it stands for, however it is cut into pieces. Assumes nothing.
use Prim.Native.Nat.{ℕ, suc, ◌+◌, ◌≤◌, ◌<◌, min}
use mathlib.Core.Path.{◌≡◌, refl, ap, ◌∙◌}
use mathlib.Core.List.{List, [], ◌∷◌, ◌++◌}
use mathlib.Core.Bool.{Bool, true, false, cond}
use native.Mathlib.Omega.{arith}
use borrow.Author.Tests.{lt-ltb, le-ltb, eq-eqb, ne_eqb, eqb-true, eqb-false}
use lib.Dec.{eqb}
use lib.ListN.{length, length-append}
use Rattle.sheet_record.specs.declared.Record.{Record}
use Rattle.sheet_record.specs.Kinds.{encode}
use Rattle.sheet_said.specs.Said.{record_in}
use Rattle.sheet_said.proofs.Without.{Without, without_append}
use Rattle.sheet_said.proofs.Without.Without.{none, more}
use Rattle.sheet_said.proofs.Guessed.{has_word_law}
use Rattle.sheet_said.proofs.Laws.{line_read}
use Rattle.sheet_pieces.specs.Texts.{Meaning, meaning_from, meaning}
use Rattle.sheet_pieces.specs.Texts.Meaning.{Stands, Bad}
use Rattle.sheet_pieces.specs.Steps.{State, started, room, next_line, line_ends, held_with, ended_with, stepped, steps, ended_as}
use Rattle.sheet_pieces.specs.Comes.{Comes}
use Rattle.sheet_pieces.specs.Comes.Comes.{stands, bad}
use Rattle.sheet_pieces.proofs.Held.{HeldOf, held_none, held_next, held_says}
use Rattle.sheet_pieces.proofs.Kept.{KeptOf, kept_none, word_written, kept_next, kept_alike, kept_whole}
use Rattle.std.specs.declared.result.Result.TheVariants.{Ok, Err}
use Rattle.common.specs.Checks.{refusal}
use Rattle.std.specs.declared.result.Result.{Result}
use Rattle.common.specs.declared.Refusal.{Refusal}

-- ---- Pieces

pub steps_append : (p q : List ℕ) (st : State) → steps st (p ++ q) ≡ steps (steps st p) q
unfolding steps
steps_append [] q st = refl
steps_append (b ∷ p) q st = steps_append p q (stepped st b)

-- ---- Behind a line that is not of the form

stepped_bad : (st : State) (b : ℕ) → st.taken.bad ≡ true → stepped st b ≡ st
unfolding stepped
stepped_bad st b e = rw e

bad_stays : (t : List ℕ) (st : State) → st.taken.bad ≡ true → steps st t ≡ st
unfolding steps
bad_stays [] st e = refl
bad_stays (b ∷ t) st e = ap (λ (x : State). steps x t) (stepped_bad st b e) ∙ bad_stays t st e

-- a state that is bad at line n comes to that
record BadAt (n : ℕ) (st : State) : Type 0 where
  pub bad : st.taken.bad ≡ true
  pub line : st.taken.line ≡ min n 18446744073709551615

bad_comes : {n : ℕ} {st : State} (t : List ℕ) → BadAt n st → Comes (steps st t) (Bad n)
unfolding ended_as
bad_comes {n} {st} t w = rw (bad_stays t st w.bad) (bad {n = n} (rw w.bad (ap (λ k. Err (refusal 23 k)) w.line)))

-- ---- A line under way

-- line n is under way, of which the bytes o are read, behind the bytes s of a sheet
record Under (n : ℕ) (o s : List ℕ) (st : State) : Type 0 where
  pub going : st.taken.bad ≡ false
  pub line : st.taken.line ≡ min n 18446744073709551615
  pub clean : Without 10 o
  pub held : HeldOf st.front st.taken.held o
  pub kept : KeptOf st.sheet st.taken.kept s

under_start : (front sheet : List ℕ) → 96 ≤ length front → room ≤ length sheet → Under 1 [] [] (record { taken = started; front = front; sheet = sheet })
under_start front sheet w m = record { going = refl; line = refl; clean = none; held = held_none front w; kept = kept_none sheet m }

-- which of two ends a test picks
when_true : {t : Bool} {x : Result ℕ Refusal} (y : Result ℕ Refusal) → t ≡ true → cond t x y ≡ x
when_true y e = rw e

when_false : {t : Bool} (x : Result ℕ Refusal) {y : Result ℕ Refusal} → t ≡ false → cond t x y ≡ y
when_false x e = rw e

module _ {n : ℕ} {o s : List ℕ} {st : State} (u : Under n o s st) where
  -- the text ends
  under_end : Comes st (meaning_from n o s [])
  unfolding meaning_from ended_as
  under_end = by (eqb (length o) 0) refl
    where
      by : (t : Bool) → eqb (length o) 0 ≡ t → Comes st (cond t (Stands s) (Bad n))
      by true e =
          stands {k = st.taken.kept}
          (record {
            ended = rw u.going (when_false (Err (refusal 23 st.taken.line)) (le-ltb _ st.taken.held (omega (arith, u.held.count, eqb-true (length o) 0 e))));
            inside = u.kept.inside;
            alike = kept_alike u.kept;
            whole = kept_whole u.kept;
          })
      by false e =
          let some = eqb-false (length o) 0 e in
          bad {n = n} (rw u.going (when_true (Ok st.taken.kept) (lt-ltb _ st.taken.held (omega (arith, u.held.count, u.held.wide, some))) ∙ ap (λ k. Err (refusal 23 k)) u.line))

  module _ (b : ℕ) where
    -- a byte more of the line
    under_more : eqb b 10 ≡ false → Under n (o ++ (b ∷ [])) s (stepped st b)
    unfolding stepped held_with
    under_more e =
        rw (u.going, e)
        (record { going = refl; line = u.line; clean = without_append u.clean (more e none); held = held_next u.held b; kept = u.kept })

    -- its end
    module _ (e : eqb b 10 ≡ true) where
      abbrev said : Record
      said = record_in (o ++ (b ∷ []))

      -- it says what is held of it
      step_is : stepped st b ≡ line_ends (held_with st b) (held_with st b).taken.held said
      unfolding stepped ended_with held_with
      step_is = rw (u.going, e, held_says b (held_next u.held b) u.clean)

      under_bad : said.kind ≡ 0 → BadAt n (stepped st b)
      unfolding held_with
      under_bad z = rw (step_is, eq-eqb said.kind 0 z) (record { bad = refl; line = u.line })

      under_next : (said.kind ≡ 0 → ⊥) → Under (suc n) [] (s ++ encode said) (stepped st b)
      unfolding held_with next_line
      under_next some =
          rw (step_is, ne_eqb said.kind 0 some)
          (record {
            going = refl;
            line = omega (arith, u.line);
            clean = none;
            held = held_none _ (held_next u.held b).wide;
            kept = kept_next u.kept said (word_written said.kind (has_word_law said (line_read (o ++ (b ∷ [])) some).can_be));
          })

-- ---- The whole text

-- a byte more of a text, if what is left of it comes to what it stands for
step_comes : {n : ℕ} {o s : List ℕ} {st : State} (b : ℕ) (t : List ℕ) → Under n o s st
    → ((m : ℕ) (p q : List ℕ) → Under m p q (stepped st b) → Comes (steps (stepped st b) t) (meaning_from m p q t))
    → Comes (steps (stepped st b) t) (meaning_from n o s (b ∷ t))
unfolding meaning_from
step_comes {n} {o} {s} {st} b t u rest = by (eqb b 10) refl (eqb (record_in (o ++ (b ∷ []))).kind 0) refl
  where
    by : (e : Bool) → eqb b 10 ≡ e → (z : Bool) → eqb (record_in (o ++ (b ∷ []))).kind 0 ≡ z
        → Comes (steps (stepped st b) t)
        (cond e (cond z (Bad n) (meaning_from (suc n) [] (s ++ encode (record_in (o ++ (b ∷ [])))) t)) (meaning_from n (o ++ (b ∷ [])) s t))
    by false e z k = rest n (o ++ (b ∷ [])) s (under_more u b e)
    by true e true k = bad_comes t (under_bad u b e (eqb-true _ 0 k))
    by true e false k = rest (suc n) [] (s ++ encode (record_in (o ++ (b ∷ [])))) (under_next u b e (eqb-false _ 0 k))

under_comes : (t : List ℕ) (st : State) (n : ℕ) (o s : List ℕ) → Under n o s st → Comes (steps st t) (meaning_from n o s t)
unfolding steps
under_comes [] st n o s u = under_end u
under_comes (b ∷ t) st n o s u = step_comes b t u (under_comes t (stepped st b))

-- from the start, in runs that have room for a line and for what decides a sheet
pub comes_to : (t front sheet : List ℕ) → 96 ≤ length front → room ≤ length sheet → Comes (steps (record { taken = started; front = front; sheet = sheet }) t) (meaning t)
unfolding meaning
comes_to t front sheet w m = under_comes t (record { taken = started; front = front; sheet = sheet }) 1 [] [] (under_start front sheet w m)

-- ---- The number of a line

-- a bad line has a byte at least, and so has each line before it
bad_from : (t : List ℕ) (m n : ℕ) (o s : List ℕ) → meaning_from m o s t ≡ Bad n → n < m + length o + length t
unfolding meaning_from
bad_from [] m n o s = by (eqb (length o) 0) refl
  where
    by : (z : Bool) → eqb (length o) 0 ≡ z → cond z (Stands s) (Bad m) ≡ Bad n → n < m + length o + 0
    by true z e = let k : ◌≡◌ {A = ℕ} 0 1 = cc in absurd (omega arith)
    by false z e = let k : m ≡ n = cc in let some = eqb-false (length o) 0 z in omega (arith, some)
bad_from (b ∷ t) m n o s =
    by (eqb b 10) (eqb (record_in (o ++ (b ∷ []))).kind 0) (bad_from t (suc m) n [] (s ++ encode (record_in (o ++ (b ∷ []))))) (bad_from t m n (o ++ (b ∷ [])) s)
  where
    next : Meaning
    next = meaning_from (suc m) [] (s ++ encode (record_in (o ++ (b ∷ [])))) t

    long : length (o ++ (b ∷ [])) ≡ suc (length o)
    long = length-append o (b ∷ []) ∙ omega arith

    by : (e z : Bool) → (next ≡ Bad n → n < suc m + 0 + length t) → (meaning_from m (o ++ (b ∷ [])) s t ≡ Bad n → n < m + length (o ++ (b ∷ [])) + length t)
        → cond e (cond z (Bad m) next) (meaning_from m (o ++ (b ∷ [])) s t) ≡ Bad n → n < m + length o + suc (length t)
    by true true ended going q = let k : m ≡ n = cc in omega arith
    by true false ended going q = omega (arith, ended q)
    by false z ended going q = omega (arith, going q, long)

pub bad_within : (t : List ℕ) (n : ℕ) → meaning t ≡ Bad n → n ≤ length t
unfolding meaning
bad_within t n e = omega (arith, bad_from t 1 n [] [] e)
