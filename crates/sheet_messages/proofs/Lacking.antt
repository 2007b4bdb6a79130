-- A master without a longest message, as code looks for it. Assumes nothing.
use mathlib.Core.Path.{◌≡◌, refl, sym, ap, ◌∙◌}
use mathlib.Core.List.{List}
use Prim.Native.Nat.{ℕ, zero, suc, ◌<◌}
use native.Mathlib.Numerals.{add-one}
use native.Mathlib.Omega.{arith}
use lib.ListN.{length, get_or, take, drop, length-drop}
use lib.Seq.{get_or-drop}
use lib.Dec.{eqb}
use Rattle.std.specs.List.{list_any}
use Rattle.std.proofs.lemmas.List.Folds.{list_any_more}
use Rattle.sheet_messages.specs.Messages.{lacks_in}

-- one of masters 1..n has none
lacks_is : (n : ℕ) (given : List ℕ) → n < length given → list_any (λ (m : ℕ). eqb m 0) (take n (drop 1 given)) ≡ lacks_in n given
unfolding lacks_in
lacks_is zero given h = refl
lacks_is (suc n) given h =
    let test = λ (m : ℕ). eqb m 0 in
    let e : get_or (drop 1 given) n 0 ≡ get_or given (suc n) 0 = get_or-drop 1 given n 0 ∙ ap (λ (k : ℕ). get_or given k 0) (omega arith) in
    ap (λ (k : ℕ). list_any test (take k (drop 1 given))) (sym (add-one n))
    ∙ (list_any_more test (drop 1 given) n 0 (omega (arith, length-drop 1 given)) ∙ rw (lacks_is n given (omega arith), e) refl)

-- the k masters that code looks through are those
pub lacks_among : (k n : ℕ) (given : List ℕ) → k ≡ n → n < length given → list_any (λ (m : ℕ). eqb m 0) (take k (drop 1 given)) ≡ lacks_in n given
lacks_among k n given e h = ap (λ (j : ℕ). list_any (λ (m : ℕ). eqb m 0) (take j (drop 1 given))) e ∙ lacks_is n given h
