-- `text_hex::step` meets its contract, a law for each way.
use Prim.Native.Nat.{ℕ, ◌+◌, ◌*◌, ◌≤◌, ◌<◌}
use mathlib.Core.Path.{◌≡◌, refl, sym, ap, ◌∙◌}
use mathlib.Core.List.{List, ◌∷◌}
use native.Mathlib.Omega.{arith}
use native.Mathlib.Numerals.{add-one}
use lib.Seq.{sets}
use Rattle.text.proofs.Writing.{sets_out}
use Rattle.text_hex.specs.Hex.{value_of, said}
use Rattle.text_hex.proofs.Laws.{said_none, said_high, said_byte}
use Rattle.text_hex.proofs.step.Goals as goal

pub returns-then-v-ge16 : goal.returns-then-v-ge16
returns-then-v-ge16 c =
    let a = c.args in
    let v : 16 ≤ value_of a.b = omega (arith, c.digit-v.ensures) in
    let e : (t : List ℕ) → said a.high (a.b ∷ t) ≡ said a.high t = λ t. said_none a.high a.b t v in
    record {
      n_in_bounds = c.requires;
      by_index = λ t. rw (e t) refl;
      by_index_2 = λ t. rw (e t) refl;
    }

pub returns-then-high-ge16 : goal.returns-then-high-ge16
returns-then-high-ge16 c =
    let a = c.args in
    let v : value_of a.b < 16 = omega (arith, c.digit-v.ensures) in
    let k = c.digit-v.ensures in
    let e : (t : List ℕ) → said a.high (a.b ∷ t) ≡ said c.digit-v.result t = λ t. said_high a.high a.b t v c.if-high-ge16.true ∙ ap (λ (x : ℕ). said x t) (sym k) in
    record {
      n_in_bounds = (c.requires.0, omega (arith, k));
      by_index = λ t. rw (e t) refl;
      by_index_2 = λ t. rw (e t) refl;
    }

pub returns-then-out-n : goal.returns-then-out-n
returns-then-out-n c =
    let a = c.args in
    let v : value_of a.b < 16 = omega (arith, c.digit-v.ensures) in
    let e : (t : List ℕ) → said a.high (a.b ∷ t) ≡ (a.high * 16 + value_of a.b) ∷ said 16 t = λ t. said_byte a.high a.b t v (omega arith) in record {
      n_in_bounds = (c.requires.0, omega arith);
      by_index = λ t. sets_out (said 16 t) _ _ c.if-out-n.true ∙ sym (ap (sets a.out.now a.n) (e t) ∙ sets_out ((a.high * 16 + value_of a.b) ∷ said 16 t) _ _ c.if-out-n.true);
      by_index_2 = λ t. rw (e t) (omega arith);
    }

pub returns : goal.returns
returns c =
    let a = c.args in
    let k = c.digit-v.ensures in
    let v : value_of a.b < 16 = omega (arith, k) in
    let e : (t : List ℕ) → said a.high (a.b ∷ t) ≡ (a.high * 16 + value_of a.b) ∷ said 16 t = λ t. said_byte a.high a.b t v (omega arith) in
    record {
      n_in_bounds = (omega arith, omega arith);
      by_index = λ t. rw (e t, k, add-one a.n) refl;
      by_index_2 = λ t. rw (e t) (omega arith);
    }
