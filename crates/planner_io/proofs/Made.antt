-- Laws of what the program makes of a text: from piece to piece, to what it answers. Assumes nothing.
use Prim.Native.Nat.{ℕ, ◌≤◌, min}
use mathlib.Core.Path.{◌≡◌, refl, sym, ap, ◌∙◌}
use mathlib.Core.List.{List, [], ◌++◌, append-nil, append_assoc}
use mathlib.Core.Bool.{Bool, ◌||◌, not}
use native.Mathlib.Omega.{arith}
use lib.Dec.{eqb}
use lib.ListN.{length, take, drop}
use lib.Seq.{take-append_seam}
use Rattle.std.specs.declared.result.Result.{Result}
use Rattle.std.specs.declared.result.Result.TheVariants.{Ok, Err}
use Rattle.common.specs.declared.Refusal.{Refusal}
use Rattle.common.proofs.Answered.{refuses_alike}
use Rattle.text.specs.Text.{Zeros, Wrote}
use Rattle.text.proofs.Writing.{wrote_front}
use Rattle.sheet_said.specs.Said.{kind_in}
use Rattle.sheet_pieces.specs.Texts.{Meaning, meaning}
use Rattle.sheet_pieces.specs.Steps.{State, started, room, steps, ended_as}
use Rattle.sheet_pieces.specs.Comes.{Comes}
use Rattle.sheet_pieces.specs.Comes.Comes.{stands, bad}
use Rattle.sheet_pieces.specs.declared.Taken.{Taken}
use Rattle.sheet_pieces.proofs.Stepped.{state, TakenAll, taken_is}
use Rattle.sheet_pieces.proofs.Whole.{steps_append, comes_to}
use Rattle.planner_io.specs.declared.input.Unread.{Unread}
use Rattle.planner_io.specs.declared.input.Unread.TheVariants.{BadLine}
use Rattle.planner_io.specs.Made.{Took, Made}
use Rattle.planner_io.specs.Made.Made.{no_text, a_sheet}

-- ---- Pieces

-- the first piece, from the start
pub took_first : (first front sheet : List ℕ) {t₀ t : Taken} {front' sheet' : List ℕ} → t₀ ≡ started → 96 ≤ length front → room ≤ length sheet
    → TakenAll first (state t₀ front sheet) t front' sheet' → Took first (state t front' sheet')
took_first first front sheet {t₀ = t₀} begins w m all =
    record {
      rest = [];
      front = front;
      sheet = sheet;
      wide = w;
      roomy = m;
      state_is = taken_is first (state t₀ front sheet) all ∙ (ap (λ (x : Taken). steps (state x front sheet) first) begins ∙ ap (steps (state started front sheet)) (sym (append-nil first)));
    }

-- a word that was written at the start of a run that holds it, and taken from there
pub took_word : (sheet : List ℕ) {old word run : List ℕ} {n : ℕ} {front : List ℕ} {t₀ t : Taken} {front' sheet' : List ℕ} → Wrote old 0 word run n → length word ≤ length old → t₀ ≡ started
    → Zeros 96 front → room ≡ length sheet → TakenAll (take n run) (state t₀ front sheet) t front' sheet' → Took word (state t front' sheet')
took_word sheet {old} {word} {run} {n} {front} w fits begins f s all =
    let is = wrote_front w fits in
    let same : take n run ≡ word = rw (is.0, is.1) (take-append_seam word (drop (length word) old)) in
    took_first word front sheet begins (omega (arith, f.long)) (omega (arith, s)) (rw same at all)

-- one piece more
pub took_more : {first : List ℕ} {st : State} (p : List ℕ) {t : Taken} {front' sheet' : List ℕ} → Took first st → TakenAll p st t front' sheet' → Took first (state t front' sheet')
took_more {first} {st} p k all =
    record {
      rest = k.rest ++ p;
      front = k.front;
      sheet = k.sheet;
      wide = k.wide;
      roomy = k.roomy;
      state_is =
          taken_is p st all
          ∙ (ap (λ (x : State). steps x p) k.state_is
          ∙ (sym (steps_append (first ++ k.rest) p (state started k.front k.sheet))
          ∙ ap (steps (state started k.front k.sheet)) (append_assoc first k.rest p)));
    }

-- ---- From one state to another, behind some pieces more

pub record Further (from to : State) : Type 0 where
  pub took : (first : List ℕ) → Took first from → Took first to

pub further_none : (st : State) → Further st st
further_none st = record { took = λ first k. k }

pub further_more : {from st : State} (p : List ℕ) {t : Taken} {front' sheet' : List ℕ} → Further from st → TakenAll p st t front' sheet' → Further from (state t front' sheet')
further_more p f all = record { took = λ first k. took_more p (f.took first k) all }

-- ---- The end

abbrev of_line : Refusal → Result ℕ Unread
of_line f = Err (BadLine f.place)

module _ {first : List ℕ} {st : State} (k : Took first st) where
  comes : Comes st (meaning (first ++ k.rest))
  comes = rw k.state_is (comes_to (first ++ k.rest) k.front k.sheet k.wide k.roomy)

  -- a line is not of the form
  pub took_bad : {f : Refusal} → ended_as st.taken ≡ Err f → Made first st.sheet (Err (BadLine f.place))
  took_bad {f} ended = by (meaning (first ++ k.rest)) refl comes
    where
      by : (m : Meaning) → meaning (first ++ k.rest) ≡ m → Comes st m → Made first st.sheet (Err (BadLine f.place))
      by m e (stands w) = let z : ◌≡◌ {A = ℕ} 0 1 = cc w.ended in absurd (omega arith)
      by m e (bad {n = n} q) = no_text k.rest n e (ap of_line (refuses_alike (sym ended ∙ q)))

  -- a sheet, of which n bytes are kept
  pub took_sheet : (n l : ℕ) → ended_as st.taken ≡ Ok l → n ≡ min l (length st.sheet) → Made first st.sheet (Ok n)
  took_sheet n l ended long = by (meaning (first ++ k.rest)) refl comes
    where
      by : (m : Meaning) → meaning (first ++ k.rest) ≡ m → Comes st m → Made first st.sheet (Ok n)
      by m e (stands {s = s} {k = j} w) =
          let same : l ≡ j = cc w.ended in
          let all : n ≡ j = omega (arith, w.inside) in
          a_sheet k.rest s n e refl (rw all w.alike) (rw all w.whole)
      by m e (bad q) = let z : ◌≡◌ {A = ℕ} 0 1 = cc in absurd (omega arith)

-- ---- Bytes or a text

pub taken_for : (as-text : Bool) (line : List ℕ) (k : ℕ) {t : Bool} → k ≡ kind_in line → (as-text || not (eqb k 0)) ≡ t → (as-text || not (eqb (kind_in line) 0)) ≡ t
taken_for as-text line k e q = ap (λ (x : ℕ). as-text || not (eqb x 0)) (sym e) ∙ q
