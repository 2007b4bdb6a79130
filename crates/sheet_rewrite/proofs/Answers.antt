-- Page 02, Ask 8: what rewriting answers and leaves in the run, by what reading says. Assumes nothing.
use Prim.Native.Nat.{ℕ, ◌-◌, ◌≤◌, ◌<◌}
use mathlib.Core.Path.{◌≡◌, refl, sym, ap, ◌∙◌, subst}
use mathlib.Core.List.{List, ◌++◌}
use mathlib.Core.Bool.{Bool, true, false}
use native.Mathlib.Nat.{add-zero}
use native.Mathlib.Omega.{arith}
use lib.Dec.{ltb}
use lib.ListN.{length, get_or, take, drop, length-drop}
use lib.Seq.{take_all, take-append_seam}
use Rattle.common.specs.Checks.{verdict}
use Rattle.text.specs.Text.{over}
use Rattle.sheet_record.specs.declared.Record.{Record}
use Rattle.sheet_rules.specs.Sheets.{Sheet, masters_of}
use Rattle.sheet_rules.specs.Whole.{Outcome, place_of, first_stream, reading}
use Rattle.sheet_read.specs.Told.{told, accepted}
use Rattle.sheet_rules.specs.Whole.Outcome.{Read, Not}
use Rattle.sheet_rules.specs.Ready.{sheet_in, stream_place}
use Rattle.sheet_rules.proofs.Lengths.{length_at_most, longest_sheet_is}
use Rattle.sheet_read.proofs.Taken.{Taken, taken, not_taken}
use Rattle.sheet_rewrite.specs.Meaning.{Rewrites}
use Rattle.sheet_rewrite.specs.Meaning.Rewrites.{refused, kept}
use Rattle.sheet_rewrite.specs.Rewriting.{rewritten, front_bytes, rewrite_answer, rewrite_bytes}
use Rattle.sheet_rewrite.proofs.Filled.{FilledAs}
use Rattle.sheet_rewrite.proofs.Rewritten.{keeps, rewritten_alike, rewritten_bytes, first_within, old_ring}
use Rattle.std.specs.declared.result.Result.TheVariants.{Ok, Err}
use Rattle.common.specs.Checks.{refusal}
use Rattle.std.specs.declared.result.Result.{Result}
use Rattle.common.specs.declared.Refusal.{Refusal}

-- what `rewrite` answers and leaves in the run
abbrev pub RewrittenAs : List ℕ → List ℕ → Result ℕ Refusal → List ℕ → Type 0
RewrittenAs old s p now = (p ≡ rewrite_answer (length old) s) × ((now ≡ rewrite_bytes old s) × Rewrites s p now)

-- what the answer promises holds of every sheet and every run
pub rewrites : (old s : List ℕ) → Rewrites s (rewrite_answer (length old) s) (rewrite_bytes old s)
unfolding rewrite_answer rewrite_bytes verdict
rewrites old s = by (reading s) refl
  where
    front : (S : Sheet) → reading s ≡ Read S → Rewrites s (Ok (length (rewritten s S))) (over (rewritten s S) old)
    front S r =
        let k = keeps s S r in
        kept r (ap reading (take-append_seam (rewritten s S) (drop (length (rewritten s S)) old)) ∙ k.reads_as) k.same k.not_old

    room : (S : Sheet) → reading s ≡ Read S → (b : Bool) → ltb (length old) (length (rewritten s S)) ≡ b → Rewrites s (rewrite_answer (length old) s) (rewrite_bytes old s)
    room S r true q = rw (r, q) refused
    room S r false q = rw (r, q) (front S r)

    by : (o : Outcome) → reading s ≡ o → Rewrites s (rewrite_answer (length old) s) (rewrite_bytes old s)
    by (Read S) r = room S r (ltb (length old) (length (rewritten s S))) refl
    by (Not n p) r = rw r refused

-- what stands behind a place, as a part of the sheet is lent
abbrev pub rest : List ℕ → ℕ → List ℕ
rest s at = take (length s - at) (drop at s)

rest_all : (s : List ℕ) (at : ℕ) → rest s at ≡ drop at s
rest_all s at = take_all (length s - at) (drop at s) (omega (arith, length-drop at s))

module _ (old s : List ℕ) where
  promised : {p : Result ℕ Refusal} {now : List ℕ} → p ≡ rewrite_answer (length old) s → now ≡ rewrite_bytes old s → RewrittenAs old s p now
  promised a b = (a, (b, rw (a, b) (rewrites old s)))

  pub rewritten_not : (n p : ℕ) → told s (reading s) ≡ Err (refusal n p) → RewrittenAs old s (Err (refusal n p)) old
  unfolding rewrite_answer rewrite_bytes
  rewritten_not n p e = let q = not_taken s n p e in promised (rw q refl) (rw q refl)

  module _ (head : Record) (m first : ℕ) (e : told s (reading s) ≡ Ok (accepted head m first)) where
    its : Taken s head m first
    its = taken s head m first e

    filled : {p : Result ℕ Refusal} {now : List ℕ} → FilledAs old (rewritten s (sheet_in s)) p now → RewrittenAs old s p now
    unfolding rewrite_answer rewrite_bytes
    filled f = let q = its.reads in promised (rw q f.0) (rw q f.1)

    first_kind : (sheet_in s).head.kind ≡ head.kind
    first_kind = ap (λ (r : Record). r.kind) (sym its.begins)

    -- another first record: the sheet as it is
    pub rewritten_copied : (head.kind ≡ 3 → ⊥) → {p : Result ℕ Refusal} {now : List ℕ} → FilledAs old s p now → RewrittenAs old s p now
    rewritten_copied other {p} {now} f =
        filled (subst (λ (t : List ℕ). FilledAs old t p now) (sym (rewritten_alike s (sheet_in s) (λ z. other (sym first_kind ∙ z)))) f)

    -- kind 3
    module _ (three : head.kind ≡ 3) where
      pub rewritten_masters : head.a ≤ 32
      rewritten_masters = omega (arith, (old_ring s (sheet_in s) its.reads (first_kind ∙ three)).ranges.masters.most, ap (λ (r : Record). r.a) its.begins)

      -- the ring's 10 bytes are within the sheet
      pub rewritten_within : first ≤ length s
      unfolding stream_place
      rewritten_within =
          omega (arith, starts, first_within s (sheet_in s) its.reads (first_kind ∙ three))
        where
          starts : first ≡ place_of s (first_stream (sheet_in s))
          starts = its.starts ∙ ap (place_of s) (add-zero (first_stream (sheet_in s)))

      pub rewritten_short : length (rest s first) ≤ 12804
      rewritten_short = omega (arith, ap length (rest_all s first), length-drop first s, length_at_most s (sheet_in s) its.reads, longest_sheet_is)

      pub rewritten_filled : ((i : ℕ) → get_or s i 0 < 256) → {p : Result ℕ Refusal} {now : List ℕ} → FilledAs old (front_bytes head head.a ++ rest s first) p now → RewrittenAs old s p now
      unfolding stream_place
      rewritten_filled bytes {p} {now} f = filled (subst (λ (t : List ℕ). FilledAs old t p now) (sym (rewritten_bytes s (sheet_in s) bytes its.reads (first_kind ∙ three) ∙ same)) f)
        where
          starts : place_of s (first_stream (sheet_in s)) ≡ first
          starts = sym (its.starts ∙ ap (place_of s) (add-zero (first_stream (sheet_in s))))

          same : front_bytes (sheet_in s).head (masters_of (sheet_in s)) ++ drop (place_of s (first_stream (sheet_in s))) s ≡ front_bytes head head.a ++ rest s first
          same =
              ap (λ (r : Record). front_bytes r r.a ++ drop (place_of s (first_stream (sheet_in s))) s) (sym its.begins)
              ∙ (ap (λ (x : ℕ). front_bytes head head.a ++ drop x s) starts ∙ ap (λ (x : List ℕ). front_bytes head head.a ++ x) (sym (rest_all s first)))
