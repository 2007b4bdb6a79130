-- Page 02, Ask 8: rewriting gives a number with a place exactly if the page's words give it, and then no byte changes. Assumes nothing.
use Prim.Native.Nat.{ℕ, ◌≤◌, ◌<◌}
use mathlib.Core.Path.{◌≡◌, refl, sym, ap, ◌∙◌, subst}
use mathlib.Core.List.{List, [], ◌∷◌}
use mathlib.Core.Logic.{◌↔◌}
use native.Mathlib.Decide.{ℕ_discrete}
use native.Mathlib.Omega.{arith}
use borrow.Author.Tests.{ltb-true, lt-ltb}
use lib.Dec.{ltb}
use lib.ListN.{length}
use Rattle.common.specs.Checks.{check}
use Rattle.common.specs.Checks.Verdict.{Refused}
use Rattle.common.proofs.Checks.{Applies, refused_if, refused_then}
use Rattle.common.proofs.Checks.Applies.{here, later}
use Rattle.text.specs.Text.{over}
use Rattle.sheet_write.proofs.Writing.{refused_kept}
use Rattle.sheet_rules.specs.Sheets.{Sheet}
use Rattle.sheet_rules.specs.Whole.{Outcome, reading}
use Rattle.sheet_rules.specs.Whole.Outcome.{Read, Not}
use Rattle.sheet_rules.proofs.Refusals.{given_then, given_if}
use Rattle.sheet_rewrite.specs.Rewriting.{rewritten, rewritten_by, rewrite_verdict, rewrite_answer, rewrite_bytes}
use Rattle.sheet_rewrite.specs.Refusals.{new_length, RewriteRefused}
use Rattle.sheet_rewrite.specs.Refusals.RewriteRefused.{unread, no_room, no_room_alike}
use Rattle.sheet_rewrite.proofs.Rewritten.{rewritten_alike, renewed_length, rewritten_at_most}
use Rattle.std.specs.declared.result.Result.TheVariants.{Ok, Err}
use Rattle.common.specs.Checks.{refusal}
use Rattle.common.proofs.Answered.{unless_passed, unless_refused}

-- the new length, in the page's words
new_length_law : (s : List ℕ) (S : Sheet) → reading s ≡ Read S → S.head.kind ≡ 3 → length (rewritten s S) ≡ new_length S
unfolding new_length
new_length_law s S r three = renewed_length s S r three

module _ (room : ℕ) (s : List ℕ) where
  rewrite_then : (n p : ℕ) → rewrite_answer room s ≡ Err (refusal n p) → RewriteRefused s room n p
  unfolding rewrite_answer
  rewrite_then n p e = by (reading s) refl (unless_refused (rewrite_verdict room s (reading s)) (length (rewritten_by s (reading s))) e)
    where
      short : (S : Sheet) → reading s ≡ Read S → room < length (rewritten s S) → RewriteRefused s room 13 (length (rewritten s S))
      short S r l = split (ℕ_discrete S.head.kind 3)
        where
          split : Dec (S.head.kind ≡ 3) → RewriteRefused s room 13 (length (rewritten s S))
          split (yes three) =
              let q = new_length_law s S r three in
              subst (RewriteRefused s room 13) (sym q) (no_room r three (omega arith))
          split (no other) =
              let q = ap length (rewritten_alike s S other) in
              subst (RewriteRefused s room 13) (sym q) (no_room_alike r other (omega arith))

      line : {S : Sheet} {m q : ℕ} → reading s ≡ Read S → Applies (check 13 (ltb room (length (rewritten s S))) (length (rewritten s S)) ∷ []) m q → RewriteRefused s room m q
      line {S} r (here w) = short S r (ltb-true _ _ w)
      line {S = S} {m = m} {q = q} r (later _ x10) = elim x10 [ ]

      by : (o : Outcome) → reading s ≡ o → rewrite_verdict room s o ≡ Refused n p → RewriteRefused s room n p
      by (Read S) r v = line r (refused_then _ n p v)
      by (Not k o) r v =
          let a : k ≡ n = cc in
          let b : o ≡ p = cc in
          unread (given_then s n p (rw (a, b) at r))

  -- 13, where the new sheet does not fit
  short_if : (S : Sheet) → reading s ≡ Read S → room < length (rewritten s S) → rewrite_answer room s ≡ Err (refusal 13 (length (rewritten s S)))
  unfolding rewrite_answer
  short_if S r l = rw (r, refused_if {cs = check 13 (ltb room (length (rewritten s S))) (length (rewritten s S)) ∷ []} (here (lt-ltb _ _ l))) refl

  rewrite_if : {n p : ℕ} → RewriteRefused s room n p → rewrite_answer room s ≡ Err (refusal n p)
  unfolding rewrite_answer
  rewrite_if (unread g) = rw (given_if s g)
  rewrite_if (no_room {S} r three l) =
      let q = new_length_law s S r three in
      short_if S r (omega arith) ∙ ap (λ k. Err (refusal 13 k)) q
  rewrite_if (no_room_alike {S} r other l) =
      let q = ap length (rewritten_alike s S other) in
      short_if S r (omega arith) ∙ ap (λ k. Err (refusal 13 k)) q

  pub rewrite_refused : (n p : ℕ) → (rewrite_answer room s ≡ Err (refusal n p)) ↔ RewriteRefused s room n p
  rewrite_refused n p = (rewrite_then n p, rewrite_if)

  -- the lengths that are answered: no one takes them for a refusal behind 2^32 (planner_exports)
  pub rewrite_at_most : (n : ℕ) → rewrite_answer room s ≡ Ok n → n ≤ 12804
  unfolding rewrite_answer
  rewrite_at_most n e = by (reading s) refl (sym (unless_passed (rewrite_verdict room s (reading s)) (length (rewritten_by s (reading s))) e).1)
    where
      by : (o : Outcome) → reading s ≡ o → n ≡ length (rewritten_by s o) → n ≤ 12804
      by (Read S) r q = omega (arith, rewritten_at_most s S r)
      by (Not k o) r q = omega arith

-- a refusal changes no byte
pub rewrite_keeps : (old s : List ℕ) (n p : ℕ) → rewrite_answer (length old) s ≡ Err (refusal n p) → rewrite_bytes old s ≡ old
unfolding rewrite_answer rewrite_bytes
rewrite_keeps old s n p e =
    refused_kept (rewrite_verdict (length old) s (reading s)) (length (rewritten_by s (reading s))) n p (over (rewritten_by s (reading s)) old) old e
