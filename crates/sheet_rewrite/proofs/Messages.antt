-- Page 02, Ask 8: the records of kind 10 that stand for the M of a ring of kind 3, one for each of masters 1..n, ascending. Assumes nothing.
use Prim.Native.Nat.{ℕ, zero, suc, ◌+◌, ◌≤◌, ◌<◌, max}
use mathlib.Core.Path.{◌≡◌, refl, ap, ◌∙◌}
use mathlib.Core.List.{[], ◌∷◌}
use mathlib.Core.Bool.{true, false}
use native.Mathlib.Omega.{arith}
use native.Mathlib.Decide.{ℕ_discrete}
use borrow.Author.Tests.{eq-eqb, ne_eqb}
use lib.Dec.{eqb}
use lib.ListN.{length, get_or, take}
use Rattle.common.specs.Sums.{when}
use Rattle.sheet_record.specs.Kinds.{kinds, line_of, part_of, is_setting, is_stream, nothing}
use Rattle.sheet_rules.specs.Sheets.{Sheet, message_of, having, count_of, longest_of, lacks_of}
use Rattle.sheet_rules.proofs.Walk.{having_append, having_it, not_having, grown_length, grown_at, grown_front}
use Rattle.sheet_rules.proofs.Counts.{count_more, longest_more}
use Rattle.sheet_rewrite.specs.Rewriting.{message_record, message_records}

module _ (S : Sheet) where
  -- ---- One by one

  pub length_messages : (n : ℕ) → length (message_records S n) ≡ n
  unfolding message_records
  length_messages = grown_length (message_records S) (λ n. message_record S (suc n)) refl (λ n. refl)

  pub message_at : (n i : ℕ) → i < n → get_or (message_records S n) i nothing ≡ message_record S (suc i)
  unfolding message_records
  message_at = grown_at (message_records S) (λ n. message_record S (suc n)) refl (λ n. refl)

  pub messages_front : (n i : ℕ) → i ≤ n → take i (message_records S n) ≡ message_records S i
  unfolding message_records
  messages_front = grown_front (message_records S) (λ n. message_record S (suc n)) refl (λ n. refl)

  -- ---- Each is a setting, and none a stream

  message_setting : is_setting 10 ≡ true
  unfolding is_setting part_of line_of kinds
  message_setting = refl

  message_no_stream : is_stream 10 ≡ false
  unfolding is_stream part_of line_of kinds
  message_no_stream = refl

  pub messages_settings : (n : ℕ) → having is_setting (message_records S n) ≡ message_records S n
  unfolding message_records having
  messages_settings zero = refl
  messages_settings (suc n) =
      having_append is_setting (message_records S n) (message_record S (suc n) ∷ [])
      ∙ (rw (messages_settings n, having_it is_setting (message_record S (suc n)) message_setting) refl)

  pub messages_no_streams : (n : ℕ) → having is_stream (message_records S n) ≡ []
  unfolding message_records having
  messages_no_streams zero = refl
  messages_no_streams (suc n) =
      having_append is_stream (message_records S n) (message_record S (suc n) ∷ [])
      ∙ (rw (messages_no_streams n, not_having is_stream (message_record S (suc n)) message_no_stream) refl)

  -- ---- Each master once

  pub none_past : (x n : ℕ) → n < x → count_of x (message_records S n) ≡ 0
  unfolding message_records count_of
  none_past x zero l = refl
  none_past x (suc n) l =
      count_more x (message_records S n) (message_record S (suc n))
      ∙ (rw (none_past x n (omega arith), ne_eqb (suc n) x (λ e. omega arith)) refl)

  pub one_of_each : (x n : ℕ) → 1 ≤ x → x ≤ n → count_of x (message_records S n) ≡ 1
  unfolding message_records
  one_of_each x zero lo hi = absurd (omega arith)
  one_of_each x (suc n) lo hi = count_more x (message_records S n) (message_record S (suc n)) ∙ split (ℕ_discrete (suc n) x) (one_of_each x n lo)
    where
      split : Dec (suc n ≡ x) → (x ≤ n → count_of x (message_records S n) ≡ 1) → count_of x (message_records S n) + when (eqb (suc n) x) 1 ≡ 1
      split (yes e) ih = rw (none_past x n (omega arith), eq-eqb (suc n) x e) refl
      split (no e) ih = rw (ih (omega (arith, e)), ne_eqb (suc n) x e) refl

  -- so none of masters 1..m is without one
  pub none_lacks : (m n : ℕ) → m ≤ n → lacks_of m (message_records S n) ≡ false
  unfolding lacks_of
  none_lacks zero n l = refl
  none_lacks (suc m) n l = rw (none_lacks m n (omega arith), one_of_each (suc m) n (omega arith) l) refl

  -- ---- Its longest message is M

  past_longest : (x n : ℕ) → n < x → longest_of x (message_records S n) ≡ 0
  unfolding message_records longest_of
  past_longest x zero l = refl
  past_longest x (suc n) l =
      longest_more x (message_records S n) (message_record S (suc n))
      ∙ (rw (past_longest x n (omega arith), ne_eqb (suc n) x (λ e. omega arith)) refl)

  pub its_message : (y n : ℕ) → 1 ≤ y → y ≤ n → longest_of y (message_records S n) ≡ message_of S y
  unfolding message_records
  its_message y zero lo hi = absurd (omega arith)
  its_message y (suc n) lo hi = longest_more y (message_records S n) (message_record S (suc n)) ∙ split (ℕ_discrete (suc n) y) (its_message y n lo)
    where
      split : Dec (suc n ≡ y) → (y ≤ n → longest_of y (message_records S n) ≡ message_of S y)
          → max (longest_of y (message_records S n)) (when (eqb (suc n) y) (message_of S (suc n))) ≡ message_of S y
      split (yes e) ih = rw (past_longest y n (omega arith), eq-eqb (suc n) y e) (omega (arith, ap (message_of S) e))
      split (no e) ih = rw (ih (omega (arith, e)), ne_eqb (suc n) y e) (omega arith)
