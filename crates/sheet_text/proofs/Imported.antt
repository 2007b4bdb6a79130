-- Laws of import: from what a text came to, to the answer. Assumes nothing.
use Prim.Native.Nat.{ℕ, ◌≤◌, min}
use mathlib.Core.Path.{◌≡◌, refl, sym, ◌∙◌}
use mathlib.Core.List.{List}
use native.Mathlib.Omega.{arith}
use lib.ListN.{length, take}
use Rattle.text.specs.Text.{Zeros}
use Rattle.sheet_pieces.specs.Texts.{Meaning, meaning}
use Rattle.sheet_pieces.specs.Texts.Meaning.{Stands, Bad}
use Rattle.sheet_pieces.specs.Steps.{State, started, room, ended_as}
use Rattle.sheet_pieces.specs.Comes.{Comes}
use Rattle.sheet_pieces.specs.Comes.Comes.{stands, bad}
use Rattle.sheet_pieces.specs.declared.Taken.{Taken}
use Rattle.sheet_pieces.proofs.Stepped.{state, TakenAll, taken_is}
use Rattle.sheet_pieces.proofs.Whole.{comes_to, bad_within}
use Rattle.sheet_text.specs.Answers.{import_answer, import_bytes, copy_answer, copy_bytes}
use Rattle.sheet_text.proofs.Copied.{CopiedAs, copied_alike}
use Rattle.std.specs.declared.result.Result.TheVariants.{Ok, Err}
use Rattle.common.specs.Checks.{refusal}
use Rattle.std.specs.declared.result.Result.{Result}
use Rattle.common.specs.declared.Refusal.{Refusal}
use Rattle.common.proofs.Answered.{refuses_alike}

-- what `take` leaves of a whole text, from the start and in fresh runs
pub comes_taken : (text front sheet : List ℕ) {t₀ t : Taken} {front' sheet' : List ℕ} → t₀ ≡ started → Zeros 96 front → Zeros room sheet
    → TakenAll text (state t₀ front sheet) t front' sheet' → Comes (state t front' sheet') (meaning text)
comes_taken text front sheet {t₀ = t₀} begins f s w =
    rw (taken_is text (state t₀ front sheet) w, begins) (comes_to text front sheet (omega (arith, f.long)) (omega (arith, s.long)))

-- what is kept lies in the run
pub kept_inside : {st : State} {m : Meaning} {k : ℕ} → Comes st m → ended_as st.taken ≡ Ok k → k ≤ length st.sheet
kept_inside {k = k} (stands {k = l} w) ended = let same : l ≡ k = cc w.ended in omega (arith, w.inside)
kept_inside (bad q) ended = let z : ◌≡◌ {A = ℕ} 0 1 = cc in absurd (omega arith)

-- what `import` answers and leaves in the run
abbrev pub ImportedAs : List ℕ → List ℕ → Result ℕ Refusal → List ℕ → Type 0
ImportedAs old text p now = (p ≡ import_answer (length old) text) × (now ≡ import_bytes old text)

module _ (old text : List ℕ) where
  -- a bad line: there are no more lines than bytes, so its number is told as it is
  pub imported_bad : {st : State} {r : Refusal} → Comes st (meaning text) → length text ≤ 18446744073709551615 → ended_as st.taken ≡ Err r → ImportedAs old text (Err r) old
  unfolding import_answer import_bytes
  imported_bad {st} {r} comes few ended = by (meaning text) refl comes
    where
      by : (m : Meaning) → meaning text ≡ m → Comes st m → ImportedAs old text (Err r) old
      by m e (stands k) = let z : ◌≡◌ {A = ℕ} 0 1 = cc k.ended in absurd (omega arith)
      by m e (bad {n = l} q) =
          let told : r ≡ refusal 23 (min l 18446744073709551615) = refuses_alike (sym ended ∙ q) in
          let same : min l 18446744073709551615 ≡ l = omega (arith, bad_within text l e) in
          (rw (e, told, same), rw e)

  as_copied : {s : List ℕ} {p : Result ℕ Refusal} {now : List ℕ} → meaning text ≡ Stands s → CopiedAs old s p now → ImportedAs old text p now
  unfolding import_answer import_bytes copy_answer copy_bytes
  as_copied e c = (rw e c.0, rw e c.1)

  -- a sheet, which was copied from there
  pub imported_sheet : {st : State} {k : ℕ} {p : Result ℕ Refusal} {now : List ℕ} → Comes st (meaning text) → ended_as st.taken ≡ Ok k
      → CopiedAs old (take k st.sheet) p now → ImportedAs old text p now
  imported_sheet {st} {k} {p} {now} comes ended copied = by (meaning text) refl comes
    where
      by : (m : Meaning) → meaning text ≡ m → Comes st m → ImportedAs old text p now
      by m e (stands {s = s} {k = l} w) =
          let same : k ≡ l = cc w.ended in
          as_copied e (copied_alike old (take l st.sheet) s w.alike w.whole (rw same at copied))
      by m e (bad q) = let z : ◌≡◌ {A = ℕ} 0 1 = cc in absurd (omega arith)
