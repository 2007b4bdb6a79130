-- Page 02, 'Ask 14': export and import give a number with a place exactly if the page's tables give it, and then no byte changes; and a sheet and a text are told
-- apart by their front. Assumes nothing.
use Prim.Native.Nat.{ℕ, ◌<◌}
use mathlib.Core.Path.{◌≡◌, refl, sym, ap, ◌∙◌}
use mathlib.Core.List.{List, [], ◌∷◌}
use mathlib.Core.Bool.{false, not, true≢false}
use mathlib.Core.Logic.{◌↔◌}
use native.Mathlib.Decide.{ℕ_discrete}
use native.Mathlib.Omega.{arith}
use borrow.Author.Tests.{ltb-true, lt-ltb, le-leb, not-true, not-false}
use lib.Dec.{ltb}
use lib.ListN.{length, get_or}
use Rattle.common.specs.Checks.{check}
use Rattle.common.specs.Checks.Verdict.{Refused}
use Rattle.common.proofs.Checks.{Applies, refused_if, refused_then}
use Rattle.common.proofs.Checks.Applies.{here, later}
use Rattle.sheet_record.specs.declared.Record.{Record}
use Rattle.sheet_record.specs.Kinds.{decode}
use Rattle.sheet_record.proofs.Tables.{known_within}
use Rattle.sheet_write.proofs.Writing.{refused_kept}
use Rattle.sheet_rules.specs.Sheets.{Sheet}
use Rattle.sheet_rules.specs.Records.{bytes_of}
use Rattle.sheet_rules.specs.Whole.{Outcome, place_of, reading}
use Rattle.sheet_rules.specs.Whole.Outcome.{Read, Not}
use Rattle.sheet_rules.proofs.Known.{reading_read}
use Rattle.sheet_rules.proofs.Refusals.{given_then, given_if, refused_2}
use Rattle.sheet_line.specs.Lines.{has_word}
use Rattle.sheet_said.specs.Said.{kind_in}
use Rattle.sheet_said.proofs.Guessed.{has_word_law, kind_text}
use Rattle.sheet_said.proofs.Laws.{word_some, headed_unread}
use Rattle.sheet_pieces.specs.Texts.{Meaning, text_of, meaning}
use Rattle.sheet_pieces.specs.Texts.Meaning.{Stands, Bad}
use Rattle.text.specs.Text.{over}
use Rattle.sheet_text.specs.Answers.{text_by, sheet_by, export_checks, export_verdict, export_answer, export_bytes, copy_verdict, import_verdict, import_answer, import_bytes}
use Rattle.sheet_text.specs.Refusals.{AllSayable, StandsFor, ImportRefused, ExportRefused}
use Rattle.sheet_text.specs.Refusals.AllSayable.{none, more}
use Rattle.sheet_text.specs.Refusals.ImportRefused.{bad_line, unread as unread-text, no_room as no-room-text}
use Rattle.sheet_text.specs.Refusals.ExportRefused.{unread, no_word, no_room}
use Rattle.sheet_text.proofs.Meaning.{means_then, means_if, bad_then, bad_if}
use Rattle.sheet_text.proofs.Inverse.{head_word, no_head_word}
use Rattle.std.specs.declared.result.Result.TheVariants.{Ok, Err}
use Rattle.common.specs.Checks.{refusal}
use Rattle.common.proofs.Answered.{unless_refused}

-- ---- Import

module _ (room : ℕ) (t : List ℕ) where
  import_then : (n p : ℕ) → import_answer room t ≡ Err (refusal n p) → ImportRefused t room n p
  unfolding import_answer
  import_then n p e = by (meaning t) refl (unless_refused (import_verdict room (meaning t)) (length (sheet_by (meaning t))) e)
    where
      line : {s : List ℕ} {S : Sheet} {m q : ℕ} → StandsFor t s → reading s ≡ Read S → Applies (check 13 (ltb room (length s)) (length s) ∷ []) m q → ImportRefused t room m q
      line f r (here q) = no-room-text f r (ltb-true _ _ q)
      line {s = s} {S = S} {m = m} {q = q} f r (later _ x10) = elim x10 [ ]

      read : (s : List ℕ) → meaning t ≡ Stands s → (o : Outcome) → reading s ≡ o → copy_verdict room (length s) o ≡ Refused n p → ImportRefused t room n p
      read s m (Read S) q v = line (means_then t s m) q (refused_then _ n p v)
      read s m (Not k o) q v =
          let a : k ≡ n = cc in
          let b : o ≡ p = cc in
          unread-text (means_then t s m) (given_then s n p (rw (a, b) at q))

      by : (m : Meaning) → meaning t ≡ m → import_verdict room m ≡ Refused n p → ImportRefused t room n p
      by (Stands s) m v = read s m (reading s) refl v
      by (Bad k) m v =
          let a : 23 ≡ n = cc in
          let b : k ≡ p = cc in
          rw (← a) (bad_line (bad_then t p (rw b at m)))

  import_if : {n p : ℕ} → ImportRefused t room n p → import_answer room t ≡ Err (refusal n p)
  unfolding import_answer
  import_if (bad_line b) = rw (bad_if b)
  import_if (unread-text {s} f g) = rw (means_if f, given_if s g)
  import_if (no-room-text {s} {S} f r l) = rw (means_if f, r, refused_if {cs = check 13 (ltb room (length s)) (length s) ∷ []} (here (lt-ltb _ _ l)))

  pub import_refused : (n p : ℕ) → (import_answer room t ≡ Err (refusal n p)) ↔ ImportRefused t room n p
  import_refused n p = (import_then n p, import_if)

-- a refusal changes no byte
pub import_keeps : (old t : List ℕ) (n p : ℕ) → import_answer (length old) t ≡ Err (refusal n p) → import_bytes old t ≡ old
unfolding import_answer import_bytes
import_keeps old t n p e = refused_kept (import_verdict (length old) (meaning t)) (length (sheet_by (meaning t))) n p (over (sheet_by (meaning t)) old) old e

-- ---- Export

module _ (room : ℕ) (s : List ℕ) where
  export_then : (n p : ℕ) → export_answer room s ≡ Err (refusal n p) → ExportRefused s room n p
  unfolding export_answer export_checks
  export_then n p e = by (reading s) refl (unless_refused (export_verdict room (reading s)) (length (text_by (reading s))) e)
    where
      three : (S : Sheet) → reading s ≡ Read S → has_word S.head.kind ≡ false → S.head.kind ≡ 3
      three S r w = split (ℕ_discrete S.head.kind 3)
        where
          split : Dec (S.head.kind ≡ 3) → S.head.kind ≡ 3
          split (yes q) = q
          split (no d) = absurd (true≢false (sym (head_word S.head.kind (reading_read s S r).head_first d) ∙ w))

      line : {S : Sheet} {m q : ℕ} → reading s ≡ Read S → Applies (export_checks room S) m q → ExportRefused s room m q
      line {S} r (here w) = no_word r (three S r (not-true _ w))
      line {S} r (later w (here q)) = no_room r (no_head_word S.head.kind (not-false _ w)) (ltb-true _ _ q)
      line {S = S} {m = m} {q = q} r (later w (later _ x15)) = elim x15 [ ]

      by : (o : Outcome) → reading s ≡ o → export_verdict room o ≡ Refused n p → ExportRefused s room n p
      by (Read S) r v = line r (refused_then _ n p v)
      by (Not k o) r v =
          let a : k ≡ n = cc in
          let b : o ≡ p = cc in
          unread (given_then s n p (rw (a, b) at r))

  export_if : {n p : ℕ} → ExportRefused s room n p → export_answer room s ≡ Err (refusal n p)
  unfolding export_answer export_checks has_word
  export_if (unread g) = rw (given_if s g)
  export_if (no_word {S} r e) = rw (r, refused_if {cs = export_checks room S} (here (ap (λ (k : ℕ). not (has_word k)) e)))
  export_if (no_room {S} r d l) =
      let w = head_word S.head.kind (reading_read s S r).head_first d in
      rw (r, refused_if {cs = export_checks room S} (later (ap not w) (here (lt-ltb _ _ l))))

  pub export_refused : (n p : ℕ) → (export_answer room s ≡ Err (refusal n p)) ↔ ExportRefused s room n p
  export_refused n p = (export_then n p, export_if)

pub export_keeps : (old s : List ℕ) (n p : ℕ) → export_answer (length old) s ≡ Err (refusal n p) → export_bytes old s ≡ old
unfolding export_answer export_bytes
export_keeps old s n p e = refused_kept (export_verdict (length old) (reading s)) (length (text_by (reading s))) n p (over (text_by (reading s)) old) old e

-- ---- A sheet or a text

-- bytes that begin with a word and a comma are no sheet: refused with 2 at 0
pub no_text_reads : (s : List ℕ) → (kind_in s ≡ 0 → ⊥) → reading s ≡ Not 2 0
unfolding place_of decode kind_in
no_text_reads s some =
    (refused_2 s 0).1 (
      0,
      record { starts = refl; inside = inside s some; before = λ j l. absurd (omega arith) },
      λ k. true≢false (sym (sym (known_within (get_or s 0 0)) ∙ rw (le-leb 1 (get_or s 0 0) k.least, le-leb (get_or s 0 0) 10 k.most)) ∙ headed_unread s some),
    )
  where
    inside : (l : List ℕ) → (kind_in l ≡ 0 → ⊥) → 0 < length l
    inside [] d = absurd (d refl)
    inside (b ∷ l) d = omega arith

-- and a text that stands for a sheet with a byte at least begins so
pub text_headed : {t s : List ℕ} → StandsFor t s → 0 < length s → kind_in t ≡ 0 → ⊥
unfolding text_of bytes_of
text_headed {t} {s} f some z = by f.records f.each f.is_text f.is_sheet
  where
    by : (rs : List Record) → AllSayable rs → t ≡ text_of rs → s ≡ bytes_of rs → ⊥
    by [] none q b = omega (arith, ap length b)
    by (r ∷ rs) (more e a) q b = word_some r.kind (has_word_law r e) (sym (kind_text r e (text_of rs)) ∙ (ap kind_in (sym q) ∙ z))
