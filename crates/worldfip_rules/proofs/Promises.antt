-- Page 01, 'WorldFIP table': what the page says of the table of every sheet, sentence by sentence. The road to these laws stands in the
-- files beside this one. Assumes nothing.
use mathlib.Core.Path.{◌≡◌, sym, ◌∙◌}
use Prim.Native.Nat.{ℕ, suc, ◌+◌, ◌*◌, ◌%◌, ◌∣◌, ◌≤◌, ◌<◌, min}
use native.Mathlib.Nat.{div-add-mod', mod-lt}
use native.Mathlib.Omega.{arith}
use lib.Count.{ones}
use Rattle.worldfip_sets.specs.Sets.{bit}
use Rattle.worldfip_rules.specs.Table.{Table}
use Rattle.worldfip_rules.specs.Build.{new, by_rank, ready}
use Rattle.worldfip_rules.specs.Traffic.{Traffic, Declared, period_of, rank_of, variable_of, microcycle, slots, in_rows, rows, asked_of, pending_of, row_of, late_of, miss_of}
use Rattle.worldfip_rules.proofs.Steps.{Picking, rank_picking, hit, hit_yes, hit_one, new_bit, row_few, row_full, row_bit, late_bit}
use Rattle.worldfip_rules.proofs.Rows.{builds, row_lowest}
use Rattle.worldfip_rules.proofs.Misses.{quiet_before, miss_there, none_accepts}
use Rattle.worldfip_rules.proofs.Ranks as ranks
use Rattle.worldfip_rules.proofs.Factors as factors

module _ (T : Traffic) (D : Declared T) where
  -- ---- 'The microcycle is the highest common factor of all periods.'

  pub microcycle_divides_each : (i : ℕ) → 1 ≤ i → i ≤ T.number → microcycle T ∣ period_of T i
  microcycle_divides_each i lo hi = factors.micro_each T i lo hi

  pub microcycle_highest : (d : ℕ) → ((i : ℕ) → 1 ≤ i → i ≤ T.number → d ∣ period_of T i) → d ∣ microcycle T
  microcycle_highest d h = factors.micro_highest T d h

  -- ---- 'Slots are microcycle/E rounded down.'

  pub slots_fit : slots T * T.exchange ≤ microcycle T
  unfolding slots
  slots_fit = omega (arith, div-add-mod' (microcycle T) T.exchange)

  pub slots_most : microcycle T < slots T * T.exchange + T.exchange
  unfolding slots
  slots_most = omega (arith, div-add-mod' (microcycle T) T.exchange, mod-lt (microcycle T) {m = T.exchange} D.exchange_in.0)

  -- ---- 'Rows are the least common multiple of periods divided by the microcycle.'

  pub rows_common_multiple : (i : ℕ) → 1 ≤ i → i ≤ T.number → period_of T i ∣ rows T * microcycle T
  rows_common_multiple i lo hi = factors.rows_multiple T D i lo hi

  pub rows_least : (m : ℕ) → ((i : ℕ) → 1 ≤ i → i ≤ T.number → period_of T i ∣ m) → rows T * microcycle T ∣ m
  rows_least m d = factors.rows_least T D m d

  -- ---- 'Rank is by period, shorter first; equal periods by sheet order.'

  pub shorter_first : (j i : ℕ) → 1 ≤ j → j ≤ T.number → period_of T j < period_of T i → rank_of T j < rank_of T i
  shorter_first j i lo hi h = ranks.rank_less T j i lo hi (ranks.shorter h)

  pub equal_by_sheet_order : (j i : ℕ) → 1 ≤ j → j ≤ T.number → period_of T j ≡ period_of T i → j < i → rank_of T j < rank_of T i
  equal_by_sheet_order j i lo hi e h = ranks.rank_less T j i lo hi (ranks.equal e h)

  -- ranks 0, .., number - 1 and variables 1, .., number, one to one
  pub rank_within : (i : ℕ) → 1 ≤ i → i ≤ T.number → rank_of T i < T.number
  rank_within i lo hi = ranks.rank_within T i lo hi

  pub variable_within : (r : ℕ) → r < T.number → (1 ≤ variable_of T r) × (variable_of T r ≤ T.number)
  variable_within r l = ranks.variable_within T r l

  pub variable_of_rank : (i : ℕ) → 1 ≤ i → i ≤ T.number → variable_of T (rank_of T i) ≡ i
  variable_of_rank i lo hi = ranks.rank_variable T i lo hi

  pub rank_of_variable : (r : ℕ) → r < T.number → rank_of T (variable_of T r) ≡ r
  rank_of_variable r l = ranks.variable_rank T r l

  -- ---- 'At row m (from 0) a variable has a new request if m·microcycle is a multiple of its period.'

  period_of_law : (r : ℕ) → r < T.number → (asked_of T).period r ≡ in_rows T (variable_of T r)
  unfolding asked_of
  period_of_law r l = factors.period_is T D r l

  new_of : (m r : ℕ) → r < T.number → bit (new (asked_of T) m) r ≡ hit (in_rows T (variable_of T r)) m
  unfolding asked_of
  new_of m r l = rw (← period_of_law r l) (new_bit (asked_of T) m r l)

  pub new_request_if : (m r : ℕ) → r < T.number → (m * microcycle T) % period_of T (variable_of T r) ≡ 0 → bit (new (asked_of T) m) r ≡ 1
  new_request_if m r l e =
      let v = variable_within r l in
      new_of m r l ∙ hit_yes (in_rows T (variable_of T r)) m (factors.row_if T D (variable_of T r) m v.0 v.1 e)

  pub new_request_then : (m r : ℕ) → r < T.number → bit (new (asked_of T) m) r ≡ 1 → (m * microcycle T) % period_of T (variable_of T r) ≡ 0
  new_request_then m r l e =
      let v = variable_within r l in
      factors.row_then T D (variable_of T r) m v.0 v.1 (hit_one (in_rows T (variable_of T r)) m (sym (new_of m r l) ∙ e))

  -- ---- 'Each row serves pending requests by rank until its slots are full.'

  few : (asked_of T).vars ≤ 64
  unfolding asked_of
  few = D.number_in.1

  P : Picking (asked_of T) by_rank
  P = rank_picking (asked_of T) few

  -- what a row has to serve it serves, or it is pending when the next row begins
  pub served_or_pending : (m r : ℕ) → bit (row_of T m) r + bit (pending_of T (suc m)) r ≡ bit (ready (asked_of T) by_rank m) r
  served_or_pending m r = row_bit (asked_of T) by_rank P m r

  pub served_by_rank : (m a b : ℕ) → bit (row_of T m) a ≡ 1 → bit (pending_of T (suc m)) b ≡ 1 → a < b
  served_by_rank m a b ha hb = row_lowest (asked_of T) few m a b ha hb

  pub served_until_full : (m : ℕ) → (pending_of T (suc m) ≡ 0 → ⊥) → ones (row_of T m) ≡ slots T
  unfolding asked_of
  served_until_full m h = row_full (asked_of T) by_rank P m h

  -- ---- 'A miss is a request still pending when the variable's next falls due, the end of the last row included; 12 names the
  -- earliest miss': Named.antt has the variable that it names

  pub late_pending_and_new : (m r : ℕ) → bit (late_of T m) r ≡ min (bit (pending_of T m) r) (bit (new (asked_of T) m) r)
  late_pending_and_new m r = late_bit (asked_of T) by_rank m r

  pub no_miss_before : (m : ℕ) → m < miss_of T → late_of T m ≡ 0
  no_miss_before m l = quiet_before (asked_of T) by_rank m l

  pub miss_at_its_row : miss_of T ≤ rows T → 0 < late_of T (miss_of T)
  unfolding asked_of
  miss_at_its_row l = miss_there (asked_of T) by_rank l

  -- ---- 'The set bits of a row are at most the slots. In each period each variable's bit is set in exactly one row.'

  pub row_within_slots : (m : ℕ) → ones (row_of T m) ≤ slots T
  unfolding asked_of
  row_within_slots m = row_few (asked_of T) by_rank P m

  -- where nobody misses, the rows are a table
  pub table_built : rows T < miss_of T → Table (asked_of T) (row_of T)
  unfolding asked_of
  table_built l = builds (asked_of T) by_rank P (factors.asked_sound T D) (none_accepts (asked_of T) by_rank l)
