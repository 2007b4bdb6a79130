-- What an answer tells of the verdict that it was made of (Checks: unless). Assumes nothing.
use Rattle.std.specs.Prelude.{ℕ, zero, suc, ◌≡◌, ⊤}
use Rattle.std.specs.declared.result.Result.{Result}
use Rattle.std.specs.declared.result.Result.TheVariants.{Ok, Err}
use mathlib.Core.Path.{refl, sym, ap}
use native.Mathlib.Decide.{ℕ_discrete}
use borrow.Author.Tests.{ne_eqb}
use Rattle.common.specs.declared.Refusal.{Refusal}
use Rattle.common.specs.Checks.{Verdict, refusal, unless, unless_no}
use Rattle.common.specs.Checks.Verdict.{Passed, Refused}

-- answers that accept alike have the same value
pub accepts_alike : {A : Type 0} {x y : A} → ◌≡◌ {A = Result A Refusal} (Ok x) (Ok y) → x ≡ y
accepts_alike e = cc

-- answers that refuse alike have the same refusal, by number and place
pub refuses_alike : {A : Type 0} {r q : Refusal} → ◌≡◌ {A = Result A Refusal} (Err r) (Err q) → r ≡ q
refuses_alike e = cc

pub same_refusal : {A : Type 0} {n p m o : ℕ} → ◌≡◌ {A = Result A Refusal} (Err (refusal n p)) (Err (refusal m o)) → (n ≡ m) × (p ≡ o)
same_refusal e = let r = refuses_alike e in (ap (λ (r : Refusal). r.no) r, ap (λ (r : Refusal). r.place) r)

pub unless_passed : {A : Type 0} (v : Verdict) (x : A) {y : A} → unless v x ≡ Ok y → (v ≡ Passed) × (x ≡ y)
unless_passed Passed x q = (refl, cc)
unless_passed (Refused n p) x q = (cc, cc)

pub unless_refused : {A : Type 0} (v : Verdict) (x : A) {n p : ℕ} → unless v x ≡ Err (refusal n p) → v ≡ Refused n p
unless_refused Passed x q = cc
unless_refused (Refused m o) x q = let e = same_refusal q in rw (e.0, e.1) refl

-- by a refusal's number
pub unless_no_ok : (n p : ℕ) {u : ⊤} → unless_no n p ≡ Ok u → n ≡ 0
unless_no_ok n p {u} e = split (ℕ_discrete n 0)
  where
    split : Dec (n ≡ 0) → n ≡ 0
    split (yes z) = z
    split (no h) = let f = rw (ne_eqb n 0 h) at e in cc

pub unless_no_err : (n p : ℕ) {r : Refusal} → unless_no n p ≡ Err r → (n ≡ 0 → ⊥) × (r ≡ refusal n p)
unless_no_err n p {r} e = split (ℕ_discrete n 0)
  where
    split : Dec (n ≡ 0) → (n ≡ 0 → ⊥) × (r ≡ refusal n p)
    split (yes z) = let f = rw z at e in cc
    split (no h) = (h, sym (refuses_alike (rw (ne_eqb n 0 h) at e)))
