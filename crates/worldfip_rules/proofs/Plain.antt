-- Identifiers play no part in ranks, microcycle, slots, rows and the table. Assumes nothing.
use mathlib.Core.Path.{◌≡◌, refl}
use Prim.Native.Nat.{ℕ}
use Rattle.worldfip_rules.specs.Traffic.{Traffic, Declared, period_of, plain, ahead, rank_of, variable_of}

-- T without its identifiers
abbrev pub plain_of : Traffic → Traffic
plain_of T = plain T.exchange T.number (period_of T)

module _ (T : Traffic) where
  pub plain_declared : Declared T → Declared (plain_of T)
  unfolding plain
  plain_declared D = record { exchange_in = D.exchange_in; number_in = D.number_in; period_in = D.period_in }

  pub plain_variable : (r : ℕ) → variable_of (plain_of T) r ≡ variable_of T r
  unfolding plain variable_of rank_of ahead
  plain_variable r = refl
