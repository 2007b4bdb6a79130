-- Laws of a step as the code takes it: a line that ended, a byte, and byte after byte of a piece. Assumes nothing.
use Prim.Native.Nat.{ℕ, ◌+◌, ◌≤◌, ◌<◌}
use mathlib.Core.Path.{◌≡◌, refl, sym, ap, ◌∙◌}
use mathlib.Core.List.{List, [], ◌∷◌}
use mathlib.Core.Bool.{Bool, true, false}
use native.Mathlib.Omega.{arith}
use borrow.Author.Tests.{eq-eqb, ne_eqb}
use lib.Dec.{eqb}
use lib.ListN.{length, get_or, take, drop}
use Rattle.sheet_record.specs.declared.Record.{Record}
use Rattle.text_entry.proofs.Laws.{left_more, left_none}
use Rattle.sheet_said.specs.Said.{record_in}
use Rattle.sheet_pieces.specs.declared.Taken.{Taken}
use Rattle.sheet_pieces.specs.Steps.{State, next_line, held_with, line_ends, ended_with, stepped, steps}
use Rattle.sheet_pieces.proofs.Held.{HeldOne}
use Rattle.sheet_pieces.proofs.Kept.{KeptOne}

abbrev pub state : Taken → List ℕ → List ℕ → State
state t front sheet = record { taken = t; front = front; sheet = sheet }

-- ---- A line that ended

-- what `end_line` answers, and leaves in the sheet's run
abbrev pub EndedLine : State → Taken → List ℕ → Type 0
EndedLine st t sheet = (t ≡ (ended_with st).taken) × (sheet ≡ (ended_with st).sheet)

module _ (t : Taken) (front sheet : List ℕ) (r : Record) (is : r ≡ record_in (take t.held front)) where
  pub line_bad : r.kind ≡ 0 → EndedLine (state t front sheet) (record { line = t.line; held = t.held; kept = t.kept; bad = true }) sheet
  unfolding ended_with
  line_bad z = let e = eq-eqb r.kind 0 z in (rw (← is, e), rw (← is, e))

  pub line_good : {n k : ℕ} {sheet' : List ℕ} → (r.kind ≡ 0 → ⊥) → n ≡ next_line t.line → KeptOne sheet t.kept r k sheet'
      → EndedLine (state t front sheet) (record { line = n; held = 0; kept = k; bad = false }) sheet'
  unfolding ended_with
  line_good some line kept =
      let e = ne_eqb r.kind 0 some in
      (rw (← is, e, line, kept.0), rw (← is, e, kept.1))

-- the line itself stays where it is
ends_front : (st : State) (h : ℕ) (r : Record) → (line_ends st h r).front ≡ st.front
ends_front st h r = by (eqb r.kind 0) refl
  where
    by : (z : Bool) → eqb r.kind 0 ≡ z → (line_ends st h r).front ≡ st.front
    by true e = rw e
    by false e = rw e

ended_front : (st : State) → (ended_with st).front ≡ st.front
unfolding ended_with
ended_front st = ends_front st st.taken.held (record_in (take st.taken.held st.front))

-- ---- A byte

-- what `step` answers, and leaves in the runs
abbrev pub SteppedTo : State → ℕ → Taken → List ℕ → List ℕ → Type 0
SteppedTo st b t front sheet = (t ≡ (stepped st b).taken) × ((front ≡ (stepped st b).front) × (sheet ≡ (stepped st b).sheet))

module _ (t : Taken) (front sheet : List ℕ) (b : ℕ) where
  pub step_none : t.bad ≡ true → SteppedTo (state t front sheet) b t front sheet
  unfolding stepped
  step_none e = (rw e, (rw e, rw e))

  module _ {n : ℕ} {front' : List ℕ} (going : t.bad ≡ false) (held : HeldOne front t.held b n front') where
    pub step_more : (b ≡ 10 → ⊥) → SteppedTo (state t front sheet) b (record { line = t.line; held = n; kept = t.kept; bad = false }) front' sheet
    unfolding stepped held_with
    step_more other = let e = ne_eqb b 10 other in (rw (going, e, held.0), (rw (going, e, held.1), rw (going, e)))

    held_is : held_with (state t front sheet) b ≡ state (record { line = t.line; held = n; kept = t.kept; bad = false }) front' sheet
    unfolding held_with
    held_is = rw (held.0, held.1)

    end_is : b ≡ 10 → stepped (state t front sheet) b ≡ ended_with (held_with (state t front sheet) b)
    unfolding stepped
    end_is z = rw (going, eq-eqb b 10 z)

    pub step_end : {t' : Taken} {sheet' : List ℕ} → b ≡ 10
        → EndedLine (state (record { line = t.line; held = n; kept = t.kept; bad = false }) front' sheet) t' sheet' → SteppedTo (state t front sheet) b t' front' sheet'
    step_end z ended =
        let more = state (record { line = t.line; held = n; kept = t.kept; bad = false }) front' sheet in
        let after : ended_with more ≡ stepped (state t front sheet) b = sym (end_is z ∙ ap ended_with held_is) in (
          ended.0 ∙ ap (λ (x : State). x.taken) after,
          (sym (ended_front more) ∙ ap (λ (x : State). x.front) after, ended.1 ∙ ap (λ (x : State). x.sheet) after),
        )

-- ---- A piece

-- what `take` answers, and leaves in the runs
abbrev pub TakenAll : List ℕ → State → Taken → List ℕ → List ℕ → Type 0
TakenAll p st t front sheet = (t ≡ (steps st p).taken) × ((front ≡ (steps st p).front) × (sheet ≡ (steps st p).sheet))

-- three parts are a state
whole_state : {x : State} {t : Taken} {front sheet : List ℕ} → t ≡ x.taken → front ≡ x.front → sheet ≡ x.sheet → state t front sheet ≡ x
whole_state e f g = rw (e, f, g)

pub taken_is : (p : List ℕ) (st : State) {t : Taken} {front sheet : List ℕ} → TakenAll p st t front sheet → state t front sheet ≡ steps st p
taken_is p st w = whole_state w.0 w.1.0 w.1.1

-- the first i bytes of a piece are taken
pub record TakenTo (p : List ℕ) (st : State) (i : ℕ) (t : Taken) (front sheet : List ℕ) : Type 0 where
  pub inside : i ≤ length p
  pub rest : steps st p ≡ steps (state t front sheet) (drop i p)

pub take_start : (p : List ℕ) (st : State) → TakenTo p st 0 st.taken st.front st.sheet
take_start p st = record { inside = omega arith; rest = refl }

steps_none : (st : State) → steps st [] ≡ st
unfolding steps
steps_none st = refl

steps_more : (st : State) (b : ℕ) (p : List ℕ) → steps st (b ∷ p) ≡ steps (stepped st b) p
unfolding steps
steps_more st b p = refl

module _ {p : List ℕ} {st : State} {i : ℕ} {t : Taken} {front sheet : List ℕ} (w : TakenTo p st i t front sheet) where
  -- a byte more
  pub take_more : {t' : Taken} {front' sheet' : List ℕ} → i < length p → SteppedTo (state t front sheet) (get_or p i 0) t' front' sheet' → TakenTo p st (i + 1) t' front' sheet'
  take_more more e =
      let now = state t front sheet in
      let b = get_or p i 0 in
      record {
        inside = omega arith;
        rest = w.rest ∙ (ap (steps now) (left_more p i more) ∙ (steps_more now b (drop (i + 1) p) ∙ ap (λ (x : State). steps x (drop (i + 1) p)) (sym (whole_state e.0 e.1.0 e.1.1))));
      }

  -- all of it
  pub take_done : i ≡ length p → TakenAll p st t front sheet
  take_done e =
      let now = state t front sheet in
      let all : now ≡ steps st p = sym (w.rest ∙ (ap (steps now) (left_none p i e) ∙ steps_none now)) in
      (ap (λ (x : State). x.taken) all, (ap (λ (x : State). x.front) all, ap (λ (x : State). x.sheet) all))
