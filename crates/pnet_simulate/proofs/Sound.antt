-- What the tests of the simulator come to. Assumes nothing.
use Prim.Native.Nat.{ℕ, ◌≤◌, ◌<◌}
use Rattle.std.specs.Prelude.{◌↔◌, IsTrue}
use mathlib.Core.Path.{◌≡◌, refl, sym}
use mathlib.Core.Bool.{Bool, true, false}
use mathlib.Core.Logic.{◌≢◌}
use mathlib.Core.List.{List}
use native.Mathlib.Decide.{dec_le}
use native.Mathlib.Omega.{arith}
use lib.Dec.{eqb, leb}
use lib.ListN.{length, get_or}
use borrow.Author.Tests.{le-leb, lt-leb, leb-true, ne_eqb, eqb-false}
use Rattle.common.specs.Sums.{first_of}
use Rattle.common.proofs.Firsts.{First, first_is, found_none}
use Rattle.pnet_simulate.specs.Simulated.{sound}
use Rattle.pnet_simulate.proofs.Waits.{both}

-- the place of the first C that is 0
abbrev pub empty : List ℕ → ℕ → ℕ
empty cycle n = first_of (λ p. eqb (get_or cycle p 0) 0) n 0

-- there is none among the first n exactly if each of them has a C that isn't 0
pub cycles_law : (cycle : List ℕ) (n : ℕ) (b : Bool) → (IsTrue b ↔ ((p : ℕ) → p < n → get_or cycle p 0 ≢ 0)) → b ≡ leb n (empty cycle n)
cycles_law cycle n true e =
    let all : n ≡ empty cycle n = found_none (λ p. eqb (get_or cycle p 0) 0) n n (λ p h. ne_eqb (get_or cycle p 0) 0 (e.0 refl p h)) refl in
    sym (le-leb n (empty cycle n) (omega arith))
cycles_law cycle n false e = split (dec_le n (empty cycle n))
  where
    f : First (λ p. eqb (get_or cycle p 0) 0) n 0 (empty cycle n)
    f = first_is (λ p. eqb (get_or cycle p 0) 0) n 0

    split : Dec (n ≤ empty cycle n) → false ≡ leb n (empty cycle n)
    split (yes l) = let z : false ≡ true = e.1 (λ p h. eqb-false (get_or cycle p 0) 0 (f.fails p (omega arith) (omega arith))) in absurd (let y : ◌≡◌ {A = ℕ} 0 1 = cc in omega arith)
    split (no l) = sym (lt-leb n (empty cycle n) (omega (arith, l)))

module _ (n : ℕ) (owner cycle : List ℕ) (k room : ℕ) where
  -- the last test decides, the others having passed
  pub sound_last : 1 ≤ k → k ≤ n → length owner ≤ length cycle → length owner ≤ room → sound n owner cycle k room ≡ leb (length owner) (empty cycle (length owner))
  unfolding sound
  sound_last a b c d = rw (le-leb 1 k a, le-leb k n b, le-leb (length owner) (length cycle) c, le-leb (length owner) room d)

  pub record Sound : Type 0 where
    pub k_from : 1 ≤ k
    pub k_to : k ≤ n
    pub cycles : length owner ≤ length cycle
    pub places : length owner ≤ room
    pub some : (p : ℕ) → p < length owner → 1 ≤ get_or cycle p 0

  pub sound_then : sound n owner cycle k room ≡ true → Sound
  unfolding sound
  sound_then e =
      let a = both {a = leb 1 k} e in
      let b = both {a = leb k n} a.1 in
      let c = both {a = leb (length owner) (length cycle)} b.1 in
      let d = both {a = leb (length owner) room} c.1 in
      let f = first_is (λ p. eqb (get_or cycle p 0) 0) (length owner) 0 in
      let l = leb-true (length owner) (empty cycle (length owner)) d.1 in
      record {
        k_from = leb-true 1 k a.0;
        k_to = leb-true k n b.0;
        cycles = leb-true (length owner) (length cycle) c.0;
        places = leb-true (length owner) room d.0;
        some = λ p h. let ne = eqb-false (get_or cycle p 0) 0 (f.fails p (omega arith) (omega (arith, l))) in omega (arith, ne);
      }
