-- What the figures tell is what the builder takes, and what it finds is what the page asks for. Assumes nothing.
use mathlib.Core.Path.{◌≡◌, refl, sym, ap, ◌∙◌, fun_ext}
use mathlib.Core.List.{List}
use Prim.Native.Nat.{ℕ, ◌+◌, ◌-◌, ◌^◌, ◌≤◌, ◌<◌}
use native.Mathlib.Omega.{arith}
use native.Mathlib.Decide.{dec_lt, dec_le, ℕ_discrete}
use lib.ListN.{length, get_or, replicate, length-replicate, get_or-eq_default}
use borrow.Author.Tests.{lt-ltb, le-ltb, le-leb, lt-leb, eq-eqb, ne_eqb}
use Rattle.common.specs.Runs.{tab, filled}
use Rattle.common.proofs.Runs.{length_tab, get_d_tab, zero_at}
use Rattle.worldfip_sets.specs.Sets.{lowest}
use Rattle.worldfip_sets.proofs.Picks.{lowest_picks}
use Rattle.worldfip_rules.specs.Table.{Asked}
use Rattle.worldfip_rules.specs.Build.{by_rank, row, late, miss_row}
use Rattle.worldfip_rules.specs.Traffic.{Traffic, Declared, variable_of, slots, rows, period_at, asked_of, row_of, miss_of, missing_of}
use Rattle.worldfip_rules.proofs.Steps.{rank_picking, late_below}
use Rattle.worldfip_rules.proofs.Misses.{miss_there}
use Rattle.worldfip_rules.proofs.Ranks.{variable_within}
use Rattle.worldfip_rules.proofs.Factors.{in_rows_pos, period_is}
use Rattle.worldfip_figures.specs.Figures.{place_at}
use Rattle.worldfip_figures.specs.Held.{Within}
use Rattle.worldfip_plan.specs.Held.{Usable, Cleared, given, missing, missed_by, rows_in}

-- an array of zeros has room for fewer rows than its places
pub cleared : (k rows : ℕ) → rows < k → rows ≤ 4096 → Cleared (replicate k 0) rows
cleared k rows l f = record { few = f; there = omega (arith, length-replicate {A = ℕ} k 0); none = λ m. zero_at k m }

-- ---- What the builder is given

module _ {T : Traffic} (D : Declared T) where
  module _ {q : List ℕ} (Q : q ≡ tab (period_at T) 65) where
    long : length q ≡ 65
    long = ap length Q ∙ length_tab (period_at T) 65

    -- past the last rank, and past the array, stands 0
    none_behind : (r : ℕ) → T.number ≤ r → period_at T r ≡ 0
    unfolding period_at
    none_behind r l = simp (le-ltb r T.number l)

    period_at_law : (r : ℕ) → get_or q r 0 ≡ period_at T r
    period_at_law r = go (dec_lt r 65)
      where
        go : Dec (r < 65) → get_or q r 0 ≡ period_at T r
        go (yes l) = ap (λ (x : List ℕ). get_or x r 0) Q ∙ get_d_tab (period_at T) 65 r l
        go (no l) = get_or-eq_default q 0 {n = r} (omega (arith, l, long)) ∙ sym (none_behind r (omega (arith, l, D.number_in)))

    pub usable : (n : ℕ) → n ≡ T.number → Usable q n
    usable n e =
        record {
          few = omega (arith, e, D.number_in);
          there = omega (arith, e, D.number_in, long);
          long =
              λ r l. (let k : r < T.number = omega (arith, e) in
              let w = variable_within T r k in
              rw (period_at_law r, period_is T D r k) (in_rows_pos T D (variable_of T r) w.0 w.1));
          ends = period_at_law n ∙ none_behind n (omega (arith, e));
        }

    pub asked_is : (n k m : ℕ) → n ≡ T.number → k ≡ slots T → m ≡ rows T → given q n k m ≡ asked_of T
    unfolding given asked_of
    asked_is n k m en ek em = rw (en, ek, em) (ap (λ (p : ℕ → ℕ). record { vars = T.number; period = p; slots = slots T; rows = rows T }) (fun_ext period_at_law))

  module _ {v : List ℕ} (P : v ≡ tab (place_at T) 64) where
    pub variable_is : (r : ℕ) → r < T.number → get_or v r 0 + 1 ≡ variable_of T r
    unfolding place_at
    variable_is r l =
        let p : get_or v r 0 ≡ place_at T r = ap (λ (x : List ℕ). get_or x r 0) P ∙ get_d_tab (place_at T) 64 r (omega (arith, D.number_in)) in
        let q : place_at T r ≡ variable_of T r - 1 = simp (lt-ltb r T.number l) in
        omega (arith, p, q, variable_within T r l)

    pub within : (n : ℕ) → n ≡ T.number → Within v n
    within n e =
        record {
          long = ap length P ∙ length_tab (place_at T) 64;
          below = λ r l. (let k : r < T.number = omega (arith, e) in omega (arith, e, variable_is r k, variable_within T r k));
        }

-- ---- Who misses

module _ (A : Asked) {x : ℕ} (ex : x ≡ missing A) where
  misses : (x ≡ 0 → ⊥) → miss_row A by_rank ≤ A.rows
  unfolding missing
  misses h = go (dec_le (miss_row A by_rank) A.rows)
    where
      go : Dec (miss_row A by_rank ≤ A.rows) → miss_row A by_rank ≤ A.rows
      go (yes l) = l
      go (no l) = absurd (h (ex ∙ simp (lt-leb (miss_row A by_rank) A.rows (omega (arith, l)))))

  missing_is : miss_row A by_rank ≤ A.rows → x ≡ late A by_rank (miss_row A by_rank)
  unfolding missing
  missing_is l = ex ∙ simp (le-leb (miss_row A by_rank) A.rows l)

  misses_not : x ≡ 0 → A.rows < miss_row A by_rank
  misses_not e = go (dec_le (miss_row A by_rank) A.rows)
    where
      go : Dec (miss_row A by_rank ≤ A.rows) → A.rows < miss_row A by_rank
      go (yes l) = absurd (omega (arith, missing_is l, miss_there A by_rank l))
      go (no l) = omega (arith, l)

  -- the best rank of those is a rank
  pub best_within : A.vars ≤ 64 → (x ≡ 0 → ⊥) → (r : ℕ) → r ≡ lowest x → r < A.vars
  best_within few h r er =
      let b : x < 2 ^ A.vars = rw (missing_is (misses h)) (late_below A by_rank (rank_picking A few) (miss_row A by_rank)) in
      rw er ((lowest_picks A.vars few).in_set x (omega (arith, h)) b).0

  -- what the code answers, and what it leaves in the run
  pub missed_one : (v old : List ℕ) (r : ℕ) → (x ≡ 0 → ⊥) → r ≡ lowest x → (get_or v r 0 + 1 ≡ missed_by v A) × (old ≡ rows_in A old)
  unfolding missed_by rows_in
  missed_one v old r h er =
      let some = ne_eqb (missing A) 0 (λ (z : missing A ≡ 0). h (ex ∙ z)) in
      (ap (λ (k : ℕ). get_or v k 0 + 1) (er ∙ ap lowest ex) ∙ sym (simp some), sym (simp some))

  pub missed_none : (v old run : List ℕ) → x ≡ 0 → run ≡ filled (row A by_rank) A.rows old → (0 ≡ missed_by v A) × (run ≡ rows_in A old)
  unfolding missed_by rows_in
  missed_none v old run z e = let nobody = eq-eqb (missing A) 0 (sym ex ∙ z) in (sym (simp nobody), e ∙ sym (simp nobody))

-- ---- What the page asks for, of the answer x and the run that was `old`

-- someone misses
pub record Late (T : Traffic) (old : List ℕ) (x : ℕ) (run : List ℕ) : Type 0 where
  pub misses_then : miss_of T ≤ rows T
  pub variable_then : x ≡ missing_of T
  pub run_then : run ≡ old

-- nobody does
pub record Served (T : Traffic) (old run : List ℕ) : Type 0 where
  pub none_then : rows T < miss_of T
  pub run_then : run ≡ filled (row_of T) (rows T) old

module _ {T : Traffic} (D : Declared T) {v : List ℕ} (P : v ≡ tab (place_at T) 64) (old : List ℕ) where
  someone : (missing (asked_of T) ≡ 0 → ⊥) → Late T old (missed_by v (asked_of T)) (rows_in (asked_of T) old)
  unfolding asked_of missing_of
  someone h =
      let r = lowest (missing (asked_of T)) in
      let m = misses (asked_of T) refl h in
      let o = missed_one (asked_of T) refl v old r h refl in
      let best = variable_is D P r (best_within (asked_of T) refl D.number_in.1 h r refl) in
      record { misses_then = m; variable_then = sym o.0 ∙ (best ∙ ap (λ (x : ℕ). variable_of T (lowest x)) (missing_is (asked_of T) refl m)); run_then = sym o.1 }

  nobody : missing (asked_of T) ≡ 0 → (missed_by v (asked_of T) ≡ 0) × Served T old (rows_in (asked_of T) old)
  unfolding asked_of
  nobody z =
      let o = missed_none (asked_of T) refl v old (filled (row_of T) (rows T) old) z refl in
      (sym o.0, record { none_then = misses_not (asked_of T) refl z; run_then = sym o.1 })

  module _ {A : Asked} (a : A ≡ asked_of T) {x : ℕ} {run : List ℕ} (ex : x ≡ missed_by v A) (er : run ≡ rows_in A old) where
    pub late_is : (x ≡ 0 → ⊥) → Late T old x run
    late_is h = go (ℕ_discrete (missing (asked_of T)) 0)
      where
        go : Dec (missing (asked_of T) ≡ 0) → Late T old x run
        go (no z) = rw (ex, er, a) (someone z)
        go (yes z) = absurd (h (ex ∙ (ap (missed_by v) a ∙ (nobody z).0)))

    pub served_is : x ≡ 0 → Served T old run
    served_is h = go (ℕ_discrete (missing (asked_of T)) 0)
      where
        go : Dec (missing (asked_of T) ≡ 0) → Served T old run
        go (yes z) = rw (er, a) (nobody z).1
        go (no z) =
            let o = missed_one (asked_of T) refl v old (lowest (missing (asked_of T))) z refl in
            absurd (omega (arith, o.0, sym (ap (missed_by v) a) ∙ (sym ex ∙ h)))
