-- Page 02, Ask 10: the edition, from what is met where its record can stand. Assumes nothing.
use mathlib.Core.Path.{◌≡◌}
use mathlib.Core.List.{List}
use Prim.Native.Nat.{ℕ}
use borrow.Author.Tests.{eq-eqb, ne_eqb}
use Rattle.sheet_record.specs.declared.Met.{Met}
use Rattle.sheet_record.specs.Kinds.{met_of}
use Rattle.sheet_rules.specs.Ready.{edition_at}

module _ (s : List ℕ) (m : Met) (is : m ≡ met_of s 2 8) where
  pub none_met : m.next ≡ 2 → 1 ≡ edition_at s
  unfolding edition_at
  none_met e = rw (← is, eq-eqb m.next 2 e)

  pub one_met : (m.next ≡ 2 → ⊥) → m.found.a ≡ edition_at s
  unfolding edition_at
  one_met e = rw (← is, ne_eqb m.next 2 e)
