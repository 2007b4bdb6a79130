-- What counts for each master, filled in place. Assumes nothing.
use mathlib.Core.Path.{◌≡◌, refl, ap, ◌∙◌, subst}
use mathlib.Core.List.{List, ◌∷◌, ◌++◌}
use Prim.Native.Nat.{ℕ, zero, suc, ◌+◌, ◌≤◌, ◌<◌}
use native.Mathlib.Omega.{arith}
use borrow.Author.Tests.{lt-ltb, le-ltb}
use lib.ListN.{length, get_or, drop, set}
use lib.Seq.{drop-cons, get_or-append_seam}
use Rattle.common.specs.Runs.{tab, filled}
use Rattle.common.proofs.Runs.{Filling, filling_more, length_tab, filled_at, tab_places}
use Rattle.sheet_messages.specs.Messages.{message_by, message_at}

pub missing_counts : (m : ℕ) → m ≡ 0 → 100000 ≡ message_by m
unfolding message_by
missing_counts m e = rw e

pub given_counts : (m : ℕ) → (m ≡ 0 → ⊥) → m ≡ message_by m
unfolding message_by
given_counts zero h = absurd (h refl)
given_counts (suc m) h = refl

-- the next place of a run that is being filled has what it had
filled_ahead : (f : ℕ → ℕ) (n : ℕ) (old : List ℕ) → n < length old → get_or (filled f n old) n 0 ≡ get_or old n 0
unfolding filled
filled_ahead f n old h =
    rw (drop-cons old n 0 h) (subst (λ (i : ℕ). get_or (tab f n ++ (get_or old n 0 ∷ drop (suc n) old)) i 0 ≡ get_or old n 0) (length_tab f n) (get_or-append_seam (tab f n) (get_or old n 0) (drop (suc n) old) 0))

-- a run in which the first n places have what counts
abbrev pub CountedTo : ℕ → List ℕ → List ℕ → Type 0
CountedTo n old run = Filling (λ y. message_by (get_or old y 0)) n old run

pub counted_more : {n : ℕ} {old run : List ℕ} (x : ℕ) → CountedTo n old run → n < length old → x ≡ message_by (get_or run n 0) → CountedTo (n + 1) old (set run n x)
counted_more {n} {old} {run} x r h e =
    filling_more x r h (e ∙ ap message_by (ap (λ (d : List ℕ). get_or d n 0) r.is ∙ filled_ahead (λ y. message_by (get_or old y 0)) n old h))

pub counted_all : {n : ℕ} {old run : List ℕ} → CountedTo n old run → length old ≡ 33 → n ≡ 33 → run ≡ tab (λ y. message_by (get_or old y 0)) 33
counted_all {n} {old} {run} r h e =
    tab_places (λ y. message_by (get_or old y 0)) run 33 (r.long ∙ h) (λ k l. ap (λ (d : List ℕ). get_or d k 0) r.is ∙ filled_at (λ y. message_by (get_or old y 0)) n k old (omega arith))

-- ---- What counts for any number

pub past_all : (messages : List ℕ) (y : ℕ) → 32 < y → get_or messages 0 0 ≡ message_at messages y
unfolding message_at
past_all messages y l = rw (lt-ltb 32 y l)

pub among_masters : (messages : List ℕ) (y : ℕ) → y ≤ 32 → get_or messages y 0 ≡ message_at messages y
unfolding message_at
among_masters messages y l = rw (le-ltb 32 y l)
