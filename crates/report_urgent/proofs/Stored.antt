-- A report that is stored in a run with room for every one: its length, what the run then is, and what a program may write of it. Assumes nothing.
use Prim.Native.Nat.{ℕ, ◌≤◌}
use mathlib.Core.Path.{◌≡◌, refl, sym, ap, ◌∙◌}
use mathlib.Core.List.{List}
use mathlib.Core.Bool.{Bool, true, false}
use native.Mathlib.Omega.{arith}
use lib.ListN.{length, take, drop, length-append}
use lib.Seq.{take-append_seam}
use Rattle.text.specs.Text.{word, Wrote, over}
use Rattle.text.proofs.Writing.{wrote_front}
use Rattle.report_phrases.specs.Phrases.{refused_text, refusal_text}
use Rattle.report_phrases.proofs.Lengths.{refused_most}
use Rattle.report_urgent_lines.specs.Lines.{most_urgent}
use Rattle.report_phrases.specs.declared.Reported.{Reported}
use Rattle.report_phrases.specs.declared.Reported.TheVariants as reported
use Rattle.report_phrases.specs.Reports.{told}
use Rattle.report_urgent.specs.Whole.{urgent_report, urgent_accepts}
use Rattle.report_urgent.specs.Stored.{Tells}

pub stored : {t old new : List ℕ} {n : ℕ} → Wrote old 0 t new n → length t ≤ most_urgent → length old ≡ most_urgent → (n ≡ length t) × (new ≡ over t old)
stored w few long = wrote_front w (omega (arith, few, long))

-- a refusal has room
pub refusal_fits : (n p : ℕ) → length (refusal_text n p) ≤ most_urgent
unfolding refusal_text
refusal_fits n p = omega (arith, length-append (refused_text n p) (word "\n"), refused_most n p)

-- ---- The answer for it

pub accepted_stored : (s old : List ℕ) {t new : List ℕ} {m : ℕ} → (t ≡ urgent_report s) × (urgent_accepts s ≡ true) → (m ≡ length t) × (new ≡ over t old)
    → (reported.Accepted m ≡ told (urgent_accepts s) (length (urgent_report s))) × (new ≡ over (urgent_report s) old)
accepted_stored s old e w = rw (e.1, ← e.0) (ap reported.Accepted w.0, w.1)

pub refused_stored : (s old : List ℕ) {t new : List ℕ} {m : ℕ} → (urgent_report s ≡ t) × (urgent_accepts s ≡ false) → (m ≡ length t) × (new ≡ over t old)
    → (reported.Refused m ≡ told (urgent_accepts s) (length (urgent_report s))) × (new ≡ over (urgent_report s) old)
refused_stored s old e w = rw (e.1, e.0) (ap reported.Refused w.0, w.1)

-- ---- What a program may write

front : (t old : List ℕ) {new : List ℕ} {n : ℕ} → n ≡ length t → new ≡ over t old → take n new ≡ t
front t old l w = rw (l, w) (take-append_seam t (drop (length t) old))

module _ (s old new : List ℕ) (r : Reported) (says : (r ≡ told (urgent_accepts s) (length (urgent_report s))) × (new ≡ over (urgent_report s) old)) (n : ℕ) where
  pub accepted_tells : r ≡ reported.Accepted n → Tells s new n true
  accepted_tells e = by (urgent_accepts s) refl (sym e ∙ says.0)
    where
      by : (b : Bool) → urgent_accepts s ≡ b → reported.Accepted n ≡ told b (length (urgent_report s)) → Tells s new n true
      by true f q =
          let l : n ≡ length (urgent_report s) = cc in
          record { text_is = front (urgent_report s) old l says.1; says = sym f }
      by false f q = let z : ◌≡◌ {A = ℕ} 0 1 = cc in absurd (omega arith)

  pub refused_tells : r ≡ reported.Refused n → Tells s new n false
  refused_tells e = by (urgent_accepts s) refl (sym e ∙ says.0)
    where
      by : (b : Bool) → urgent_accepts s ≡ b → reported.Refused n ≡ told b (length (urgent_report s)) → Tells s new n false
      by true f q = let z : ◌≡◌ {A = ℕ} 0 1 = cc in absurd (omega arith)
      by false f q =
          let l : n ≡ length (urgent_report s) = cc in
          record { text_is = front (urgent_report s) old l says.1; says = sym f }
