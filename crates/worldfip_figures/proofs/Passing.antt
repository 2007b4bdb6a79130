-- What the bytes of a WorldFIP sheet say: what it declares is within the page's ranges, and record after record is a variable of it.
-- Assumes nothing.
use mathlib.Core.Path.{◌≡◌, refl, sym, ap, ◌∙◌, fun_ext}
use mathlib.Core.Bool.{true}
use mathlib.Core.List.{List, []}
use Prim.Native.Nat.{ℕ, ◌+◌, ◌-◌, ◌≤◌, ◌<◌}
use native.Mathlib.Omega.{arith}
use native.Mathlib.Decide.{dec_lt}
use lib.Dec.{ltb}
use lib.ListN.{length, get_or, get_or-eq_default}
use borrow.Author.Tests.{lt-ltb, le-ltb, eq-eqb, ne_eqb, eqb-true}
use Rattle.common.specs.Sums.{when}
use Rattle.common.specs.Checks.{Check, verdict, refusal, unless}
use Rattle.sheet_record.specs.declared.Met.{Met}
use Rattle.sheet_record.specs.Kinds.{nothing, worldfip, is_stream_of, stream_met}
use Rattle.sheet_record.proofs.Parts.{exchange_first, variables}
use Rattle.sheet_ranges.specs.Ranges.{VariableRanges}
use Rattle.sheet_ranges.proofs.Ranges.{exchange_ranges, variable_ranges}
use Rattle.sheet_rules.specs.Sheets.{Sheet, bus_in, given, sheet_of}
use Rattle.sheet_rules.specs.Whole.{Outcome, reading}
use Rattle.sheet_rules.specs.Ready.{sheet_in, stream_place, Ready}
use Rattle.sheet_rules.specs.Whole.Outcome.{Read}
use Rattle.sheet_rules.proofs.Known.{Known}
use Rattle.sheet_read.proofs.Taken.{ready_known, stream_met_law}
use Rattle.worldfip_rules.specs.Traffic.{Traffic, Declared, plain, period_of, ahead, rank_of, variable_of, identifier_at, microcycle, slots, in_rows, rows, period_at}
use Rattle.worldfip_rules.proofs.Plain.{plain_of, plain_declared, plain_variable}
use Rattle.worldfip_figures.specs.Declares.{variable_by, variable_at, traffic_of}
use Rattle.worldfip_figures.specs.Figures.{figure_checks, sheet_checks, place_at, figures_by, figures_of, identifier_of}
use Rattle.worldfip_figures.specs.Held.{numbered, held, Sheeted, measured, Placed, Ranked, Gathered}
use Rattle.worldfip_figures.proofs.Tied.{variable_is}
use Rattle.std.specs.declared.result.Result.TheVariants.{Err}

-- ---- A sheet that reads without refusal declares traffic within the ranges

module _ (s : List ℕ) (S : Sheet) (known : Known s S) (bus : bus_in S ≡ worldfip) where
  in_range_law : (i : ℕ) → i < length S.streams → VariableRanges (get_or S.streams i nothing)
  in_range_law i l =
      let r = get_or S.streams i nothing in
      let its : is_stream_of worldfip r.kind ≡ true = rw bus at (known.kinds i l) in
      variable_ranges (given S r.a) r (known.ranged i l) (eqb-true r.kind 6 (sym (variables r.kind) ∙ its))

  pub declared : Declared (traffic_of S)
  unfolding traffic_of variable_at
  declared =
      let x = exchange_ranges (given (sheet_of []) S.head.a) S.head known.head_ranged (exchange_first S.head.kind known.head_first bus) in
      record {
        exchange_in = (x.exchange.least, x.exchange.most);
        number_in = (known.some, known.few_variables bus);
        period_in = λ i lo hi. (let r = in_range_law (i - 1) (omega arith) in (r.period.least, r.period.most));
      }

-- ---- Record after record

module _ {s : List ℕ} {first n : ℕ} (ready : Ready s worldfip first n) where
  pub ready_declared : Declared (traffic_of (sheet_in s))
  ready_declared = declared s (sheet_in s) (ready_known ready) ready.on_bus

  pub ready_number : (traffic_of (sheet_in s)).number ≡ n
  unfolding traffic_of
  ready_number = ready.number

  -- a record that was met is the next variable, and its identifier has two bytes; behind it stands the one after
  pub record Stepped (i : ℕ) (m : Met) : Type 0 where
    pub variable : variable_by m.found ≡ (traffic_of (sheet_in s)).variable (i + 1)
    pub small : m.found.a < 65536
    pub next : m.next ≡ stream_place s (i + 1)

  pub stepped : (i at : ℕ) (m : Met) → i < n → at ≡ stream_place s i → m ≡ stream_met s at worldfip → Stepped i m
  unfolding traffic_of variable_at
  stepped i at m l e q =
      let l' : i < length (sheet_in s).streams = omega (arith, ready_number) in
      let here = stream_met_law ready i at m l e q in
      let p : i + 1 - 1 ≡ i = omega arith in
      let b : m.found.a ≤ 65535 = rw here.is (in_range_law s (sheet_in s) (ready_known ready) ready.on_bus i l').identifier.most in
      record {
        variable = rw (p, ← here.is);
        small = omega arith;
        next = here.next;
      }

  -- behind the last, both fields are 0
  pub none_behind : (i : ℕ) → n ≤ i → (traffic_of (sheet_in s)).variable (i + 1) ≡ record { identifier = 0; period = 0 }
  unfolding traffic_of variable_at
  none_behind i l =
      let p : i + 1 - 1 ≡ i = omega arith in
      rw (p, get_or-eq_default (sheet_in s).streams nothing {n = i} (omega (arith, ready_number)))

-- ---- The arrays, and the answer

-- identifiers play no part
module _ (T : Traffic) where
  plain_by : figures_by (plain_of T) ≡ figures_by T
  unfolding place_at plain slots rows microcycle in_rows period_at variable_of rank_of ahead
  plain_by = refl

  plain_checks : figure_checks (plain_of T) ≡ figure_checks T
  unfolding figure_checks plain slots rows microcycle in_rows
  plain_checks = refl

  plain_measured : measured (plain_of T) ≡ measured T
  unfolding measured
  plain_measured = ap (λ (cs : List Check). unless (verdict cs) (figures_by (plain_of T))) plain_checks ∙ ap (unless (verdict (figure_checks T))) plain_by

-- a sheet of this bus goes on to 10
module _ (S : Sheet) (bus : bus_in S ≡ worldfip) where
  this_bus : figures_of (Read S) ≡ measured (traffic_of S)
  unfolding figures_of sheet_checks verdict measured
  this_bus = rw (eq-eqb (bus_in S) worldfip bus)

  this_name : (r : ℕ) → identifier_of (Read S) r ≡ identifier_at (traffic_of S) r
  unfolding identifier_of
  this_name r = simp (eq-eqb (bus_in S) worldfip bus)

-- one of another is refused with 3 at 0
module _ (S : Sheet) (other : bus_in S ≡ worldfip → ⊥) where
  pub other_bus : figures_of (Read S) ≡ Err (refusal 3 0)
  unfolding figures_of sheet_checks verdict
  other_bus = rw (ne_eqb (bus_in S) worldfip other)

  pub other_name : (r : ℕ) → identifier_of (Read S) r ≡ 0
  unfolding identifier_of
  other_name r = simp (ne_eqb (bus_in S) worldfip other)

module _ {s : List ℕ} {first n e : ℕ} {names periods : List ℕ} (ready : Ready s worldfip first n) (head : e ≡ (sheet_in s).head.a)
    (g : Gathered (traffic_of (sheet_in s)) names periods) where
  pub held_is : held periods n e ≡ plain_of (traffic_of (sheet_in s))
  unfolding held traffic_of
  held_is =
      ap (λ (x : ℕ). held periods n x) head
      ∙ (ap (λ (x : ℕ). held periods x (sheet_in s).head.a) (sym (ready_number ready))
      ∙ ap (plain (traffic_of (sheet_in s)).exchange (traffic_of (sheet_in s)).number) (fun_ext each))
    where
      each : (i : ℕ) → numbered periods i ≡ period_of (traffic_of (sheet_in s)) i
      each i =
          let p : i - 1 + 1 - 1 ≡ i - 1 = omega arith in
          g.periods_are (i - 1) ∙ ap (λ (x : ℕ). (get_or (sheet_in s).streams x nothing).b) p

  pub sheeted : Sheeted periods n e
  sheeted =
      record {
        there = omega (arith, g.periods_long, ready_number ready, (ready_declared ready).number_in);
        declares = rw held_is (plain_declared (traffic_of (sheet_in s)) (ready_declared ready));
      }

  -- the figures of the periods are those of the sheet
  pub figures_are : measured (held periods n e) ≡ figures_of (reading s)
  figures_are =
      ap measured held_is ∙ (plain_measured (traffic_of (sheet_in s)) ∙ (sym (this_bus (sheet_in s) ready.on_bus) ∙ ap figures_of (sym ready.reads)))

  -- the places by rank of the periods are those of the sheet's variables
  variable_of_law : (r : ℕ) → variable_of (held periods n e) r ≡ variable_of (traffic_of (sheet_in s)) r
  variable_of_law r = ap (λ (T : Traffic). variable_of T r) held_is ∙ plain_variable (traffic_of (sheet_in s)) r

  -- and so are the identifiers by rank
  pub name_is : {v q : List ℕ} → Placed periods n v → Ranked (λ i. get_or names i 0) v n q → (r : ℕ) → get_or q r 0 ≡ identifier_of (reading s) r
  unfolding identifier_at
  name_is {v} {q} P Q r =
      Q.are r ∙ (go (dec_lt r n) ∙ (sym (this_name (sheet_in s) ready.on_bus r) ∙ ap (λ (o : Outcome). identifier_of o r) (sym ready.reads)))
    where
      T : Traffic
      T = traffic_of (sheet_in s)

      number : T.number ≡ n
      number = ready_number ready

      go : Dec (r < n) → when (ltb r n) (get_or names (get_or v r 0) 0) ≡ when (ltb r T.number) (T.variable (variable_of T r)).identifier
      go (yes l) =
          simp (lt-ltb r n l, lt-ltb r T.number (omega (arith, number)))
          (g.names_are (get_or v r 0) ∙ ap (λ (i : ℕ). (T.variable i).identifier) (variable_is sheeted P r l ∙ variable_of_law r))
      go (no l) = simp (le-ltb r n (omega (arith, l)), le-ltb r T.number (omega (arith, l, number)))
