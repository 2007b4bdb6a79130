-- Page 02, Ask 8: 'Kind 3 sheets are still read, mean M for every master and give the same TTR'; 'such a sheet rewritten keeps its meaning, not its bytes'. From the
-- bytes and the lent run. Assumes nothing.
use Prim.Native.Nat.{ℕ, ◌+◌, ◌*◌, ◌≤◌, ◌<◌}
use mathlib.Core.Path.{◌≡◌, refl, sym, ap, ◌∙◌}
use mathlib.Core.List.{List}
use mathlib.Core.Logic.{◌↔◌}
use native.Mathlib.Omega.{arith}
use lib.ListN.{length, get_or, take}
use Rattle.sheet_record.specs.Numbers.{pasted}
use Rattle.sheet_rules.specs.Sheets.{Sheet, masters_of, message_of}
use Rattle.sheet_rules.specs.Whole.{reading}
use Rattle.sheet_rules.specs.Whole.Outcome.{Read}
use Rattle.sheet_rules.specs.Records.{records_in, Writes}
use Rattle.sheet_rules.proofs.Order.{message_of_ring}
use Rattle.sheet_rules.proofs.Writes.{read_writes}
use Rattle.sheet_rewrite.specs.Meaning.{SameMeaning, Rewrites}
use Rattle.sheet_rewrite.specs.Meaning.SameMeaning.{same_sheet, same_ring}
use Rattle.sheet_rewrite.specs.Meaning.Rewrites.{refused, kept}
use Rattle.sheet_rewrite.specs.Rewriting.{rewrite_answer, rewrite_bytes}
use Rattle.sheet_rewrite.specs.Refusals.{RewriteRefused}
use Rattle.sheet_rewrite.proofs.Answers.{rewrites}
use Rattle.sheet_rewrite.proofs.Refusals.{rewrite_refused, rewrite_keeps}
use Rattle.profibus_rules.specs.Ring.{ring_of, messages}
use Rattle.profibus_rules.proofs.Rule.{messages_of_one}
use Rattle.profibus_rules.proofs.Same.{same_rings}
use Rattle.profibus_plan.specs.Planned.{plan_of}
use Rattle.profibus_plan.proofs.Same.{same_plan}
use Rattle.report_sheet.specs.Whole.{report_of, accepts}
use Rattle.report_sheet.proofs.Alike.{read_alike, rings_alike}
use Rattle.std.specs.declared.result.Result.TheVariants.{Ok, Err}
use Rattle.common.specs.Checks.{refusal}
use Rattle.std.specs.declared.result.Result.{Result}
use Rattle.common.specs.declared.Refusal.{Refusal}

-- ---- 'mean M for every master'

module _ (S : Sheet) (old_ring : S.head.kind ≡ 3) where
  pub m_is_every_masters : (y : ℕ) → message_of S y ≡ S.head.c
  m_is_every_masters y = message_of_ring S y (λ nine. omega arith)

  -- so their sum is page 01's n·M, and TTR is what it was
  pub the_sum_is_n_times_M : messages (ring_of S) ≡ masters_of S * S.head.c
  the_sum_is_n_times_M = messages_of_one S old_ring

-- ---- 'rewritten keeps its meaning, not its bytes'

-- two sheets of the same meaning have the same answer: the same TTR, limited by the same stream, or the same refusal
pub the_same_meaning_has_the_same_answer : {S S' : Sheet} → SameMeaning S S' → plan_of (Read S') ≡ plan_of (Read S)
the_same_meaning_has_the_same_answer same_sheet = refl
the_same_meaning_has_the_same_answer {S} (same_ring {S'} r) =
    same_plan S S' (r.again ∙ sym r.a_ring) (same_rings S S' r.masters r.latency r.messages r.streams)

-- what stands at the front of the run once the bytes s were rewritten into it
pub record Renewed (s new : List ℕ) : Type 0 where
  pub before : Sheet
  pub after : Sheet
  pub was_read : reading s ≡ Read before
  pub is_read : reading new ≡ Read after
  pub means_the_same : SameMeaning before after
  pub is_written : after.head.kind ≡ 3 → ⊥

module _ (old s : List ℕ) where
  -- refused exactly as reading refuses, or for want of room, and then no byte changes
  pub rewriting_is_refused_exactly : (n p : ℕ) → (rewrite_answer (length old) s ≡ Err (refusal n p)) ↔ RewriteRefused s (length old) n p
  rewriting_is_refused_exactly = rewrite_refused (length old) s

  pub refused_rewriting_changes_nothing : (n p : ℕ) → rewrite_answer (length old) s ≡ Err (refusal n p) → rewrite_bytes old s ≡ old
  refused_rewriting_changes_nothing = rewrite_keeps old s

  module _ (n : ℕ) (accepted : rewrite_answer (length old) s ≡ Ok n) where
    pub new : List ℕ
    new = take n (rewrite_bytes old s)

    pub rewritten_means_the_same : Renewed s new
    unfolding new
    rewritten_means_the_same = by (rewrites old s) accepted
      where
        by : {p : Result ℕ Refusal} → Rewrites s p (rewrite_bytes old s) → p ≡ Ok n → Renewed s (take n (rewrite_bytes old s))
        by refused e = let z : ◌≡◌ {A = ℕ} 0 1 = cc in absurd (omega arith)
        by (kept {n = m} {S = S} {S' = S'} r r' same other) e =
            let q : m ≡ n = cc in
            record { before = S; after = S'; was_read = r; is_read = ap (λ (x : ℕ). reading (take x (rewrite_bytes old s))) (sym q) ∙ r'; means_the_same = same; is_written = other }

    -- the PROFIBUS planner answers the same, and so it does to any sheet of another bus, which stays as it is
    pub rewritten_keeps_the_answer : plan_of (reading new) ≡ plan_of (reading s)
    rewritten_keeps_the_answer =
        let k = rewritten_means_the_same in
        rw (k.is_read, k.was_read) (the_same_meaning_has_the_same_answer k.means_the_same)

    -- every planner reports it in the same words
    pub rewritten_has_the_same_report : (report_of new ≡ report_of s) × (accepts new ≡ accepts s)
    rewritten_has_the_same_report =
        let k = rewritten_means_the_same in
        by k.before k.after k.was_read k.is_read k.means_the_same
      where
        by : (S S' : Sheet) → reading s ≡ Read S → reading new ≡ Read S' → SameMeaning S S' → (report_of new ≡ report_of s) × (accepts new ≡ accepts s)
        by S S' r r' same_sheet = read_alike s new S S r r' refl
        by S S' r r' (same_ring m) = rings_alike s new S S' r r' m.a_ring m.again rewritten_keeps_the_answer

    -- and the new sheet comes back equal, as every sheet does that is not of kind 3
    pub rewritten_comes_back : ((i : ℕ) → get_or new i 0 < 256) → (b : List ℕ) (at : ℕ) → at + length new ≤ length b
        → Writes b at (records_in rewritten_means_the_same.after) (pasted b at new) (at + length new)
    rewritten_comes_back bytes = let k = rewritten_means_the_same in read_writes new k.after bytes k.is_read k.is_written
