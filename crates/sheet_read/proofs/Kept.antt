-- What the reader keeps of the streams behind it tells the same as those streams. Assumes nothing.
use mathlib.Core.Path.{◌≡◌, refl, sym, ap, ◌∙◌}
use mathlib.Core.Bool.{Bool, true, false, cond, ◌||◌}
use mathlib.Core.List.{List, [], ◌∷◌, ◌++◌}
use Prim.Native.Nat.{ℕ, zero, suc, ◌+◌, ◌≤◌, ◌<◌, max}
use native.Mathlib.Nat.{not-suc-le-zero}
use native.Mathlib.Omega.{arith}
use native.Mathlib.Decide.{ℕ_discrete}
use borrow.Author.Tests.{eqb-true, ne_eqb, eq-eqb, lt-ltb, le-ltb}
use lib.ListN.{length, get_or, set, length-append, length-set, replicate, get_or-append}
use lib.Seq.{get_or-set_same, get_or-set_other, get_or_at}
use lib.Dec.{eqb, leb, ltb}
use Rattle.common.specs.Checks.{check, verdict}
use Rattle.common.specs.Checks.Verdict.{Passed}
use Rattle.common.proofs.Runs.{zero_at}
use Rattle.sheet_record.specs.declared.Record.{Record}
use Rattle.sheet_record.specs.Kinds.{kinds, line_of, bus_of, is_stream_of, nothing}
use Rattle.sheet_record.proofs.Parts.{variables}
use Rattle.sheet_keep.specs.Steps.{among, late_no, counts_with, longests_with, ids_with}
use Rattle.sheet_keep.proofs.Late.{among_yes, among_then}
use Rattle.sheet_rules.specs.Sheets.{most_in_all, has_masters, count_of, longest_of, over_limit, met_before}
use Rattle.sheet_rules.proofs.Counts.{count_more, longest_more, count_none, count_zero}
use Rattle.sheet_read.proofs.Judged.{numbered}
use Rattle.sheet_rules.proofs.Order.{stream_of}

-- ---- What is kept

-- 33 places with a figure for each master, where the streams of a bus have one
pub record Figures (bus : ℕ) (figure : ℕ → ℕ) (xs : List ℕ) : Type 0 where
  pub places : length xs ≡ 33
  pub each : (bus ≡ 5 → ⊥) → (x : ℕ) → x ≤ 32 → get_or xs x 0 ≡ figure x

-- behind these streams of a bus: how many each master has and the longest C of them, or their identifiers
pub record Keeps (bus : ℕ) (before : List Record) (counts longests ids : List ℕ) : Type 0 where
  pub counted : Figures bus (λ x. count_of x before) counts
  pub longest : Figures bus (λ x. longest_of x before) longests
  pub variables : length ids ≡ 64
  pub named : bus ≡ 5 → (i : ℕ) → i < length before → get_or ids i 0 ≡ (get_or before i nothing).a

-- an identifier is kept exactly if a stream has it
pub among_count : (before : List Record) (ids : List ℕ) (x : ℕ) → ((i : ℕ) → i < length before → get_or ids i 0 ≡ (get_or before i nothing).a)
    → among x (length before) ids ≡ ltb 0 (count_of x before)
among_count before ids x h = split (among x (length before) ids) refl
  where
    split : (b : Bool) → among x (length before) ids ≡ b → among x (length before) ids ≡ ltb 0 (count_of x before)
    split true q =
        let w = among_then x (length before) ids q in
        q ∙ sym (lt-ltb 0 (count_of x before) (some (count_of x before) refl w))
      where
        some : (n : ℕ) → count_of x before ≡ n → (i : ℕ) × (i < length before) × (get_or ids i 0 ≡ x) → 0 < n
        some zero e w = absurd (count_none x before w.0 e w.1 (sym (h w.0 w.1) ∙ w.2))
        some (suc n) e w = omega arith
    split false q =
        let z : count_of x before ≡ 0 = count_zero x before (λ i l e. different i l e) in
        q ∙ sym (le-ltb 0 (count_of x before) (omega arith))
      where
        different : (i : ℕ) → i < length before → (get_or before i nothing).a ≡ x → ⊥
        different i l e = let z : true ≡ false = sym (among_yes x i (length before) ids l (h i l ∙ e)) ∙ q in let z' : ◌≡◌ {A = ℕ} 0 1 = cc in omega arith

-- nothing yet
pub keeps_none : (bus : ℕ) → Keeps bus [] (replicate 33 0) (replicate 33 0) (replicate 64 0)
unfolding count_of longest_of
keeps_none bus =
    record {
      counted = record { places = refl; each = λ h x l. zero_at 33 x };
      longest = record { places = refl; each = λ h x l. zero_at 33 x };
      variables = refl;
      named = λ h i l. absurd (not-suc-le-zero l);
    }

either_length : (b : Bool) (xs ys : List ℕ) → length xs ≡ length ys → length (cond b xs ys) ≡ length xs
either_length true xs ys e = refl
either_length false xs ys e = sym e

-- one master's figure changes, and no other's
figures_more : (bus k : ℕ) → ((bus ≡ 5 → ⊥) → k ≡ 6 → ⊥) → (f g : ℕ → ℕ) (xs : List ℕ) (m v : ℕ) → Figures bus f xs → ((bus ≡ 5 → ⊥) → m ≤ 32)
    → ((bus ≡ 5 → ⊥) → v ≡ g m) → ((x : ℕ) → (m ≡ x → ⊥) → g x ≡ f x) → Figures bus g (cond (eqb k 6) xs (set xs m v))
figures_more bus k no_variable f g xs m v w l own other =
    record {
      places = either_length (eqb k 6) xs (set xs m v) (sym (length-set xs m v)) ∙ w.places;
      each = λ e x h. rw (ne_eqb k 6 (no_variable e)) (split e x h (ℕ_discrete m x));
    }
  where
    split : (bus ≡ 5 → ⊥) → (x : ℕ) → x ≤ 32 → Dec (m ≡ x) → get_or (set xs m v) x 0 ≡ g x
    split e x h (yes q) =
        let b : m < length xs = omega (arith, l e, w.places) in
        ap (λ (y : ℕ). get_or (set xs m v) y 0) (sym q) ∙ (get_or-set_same xs m v 0 b ∙ (own e ∙ ap g q))
    split e x h (no q) = get_or-set_other xs m x v 0 (λ z. q (sym z)) ∙ (w.each e x h ∙ sym (other x q))

module _ (bus : ℕ) (before : List Record) (counts longests ids : List ℕ) (r : Record) (keeps : Keeps bus before counts longests ids)
    (its : is_stream_of bus r.kind ≡ true) where
  -- it is a variable exactly if the bus is WorldFIP
  pub of_bus : bus_of r.kind ≡ bus
  of_bus = (stream_of bus r.kind its).1

  pub no_variable : (bus ≡ 5 → ⊥) → r.kind ≡ 6 → ⊥
  unfolding bus_of line_of kinds
  no_variable e six = e (sym of_bus ∙ rw six)

  pub variable : bus ≡ 5 → r.kind ≡ 6
  variable e = eqb-true r.kind 6 (sym (variables r.kind) ∙ (rw e at its))

  -- the verdict by what is kept: one too many, or met before
  pub late_variable : bus ≡ 5 → (p : ℕ) → verdict (check 5 (over_limit before r) p ∷ check 7 (met_before before r) p ∷ []) ≡ numbered (late_no counts ids (length before) r) p Passed
  unfolding verdict over_limit met_before late_no most_in_all has_masters numbered bus_of line_of kinds
  late_variable e p =
      rw (among_count before ids r.a (keeps.named e), variable e) (split (leb 64 (length before)) (ltb 0 (count_of r.a before)))
    where
      split : (many met : Bool) → verdict (check 5 (many || false) p ∷ check 7 met p ∷ []) ≡ numbered (cond many 5 (cond met 7 0)) p Passed
      split true met = refl
      split false true = refl
      split false false = refl

  pub late_stream : (bus ≡ 5 → ⊥) → r.a ≤ 32 → (p : ℕ)
      → verdict (check 5 (over_limit before r) p ∷ check 7 (met_before before r) p ∷ []) ≡ numbered (late_no counts ids (length before) r) p Passed
  unfolding verdict over_limit met_before late_no most_in_all has_masters numbered
  late_stream e l p =
      rw (keeps.counted.each e r.a l, ne_eqb r.kind 6 (no_variable e), of_bus, ne_eqb bus 5 e) (split (leb 800 (length before)) (leb 80 (count_of r.a before)))
    where
      split : (many own : Bool) → verdict (check 5 (many || own) p ∷ check 7 false p ∷ []) ≡ numbered (cond many 5 (cond own 5 0)) p Passed
      split true own = refl
      split false true = refl
      split false false = refl

  -- one stream more is kept: counted for its master, and for no other
  more_counted : ((bus ≡ 5 → ⊥) → r.a ≤ 32) → Figures bus (λ x. count_of x (before ++ (r ∷ []))) (counts_with counts r)
  unfolding counts_with
  more_counted l =
      figures_more bus r.kind no_variable (λ x. count_of x before) (λ x. count_of x (before ++ (r ∷ []))) counts r.a (get_or counts r.a 0 + 1) keeps.counted l own other
    where
      own : (bus ≡ 5 → ⊥) → get_or counts r.a 0 + 1 ≡ count_of r.a (before ++ (r ∷ []))
      own e =
          let w : count_of r.a (before ++ (r ∷ [])) ≡ count_of r.a before + 1 = rw (eq-eqb r.a r.a refl) at (count_more r.a before r) in
          omega (arith, keeps.counted.each e r.a (l e))

      other : (x : ℕ) → (r.a ≡ x → ⊥) → count_of x (before ++ (r ∷ [])) ≡ count_of x before
      other x q =
          let w : count_of x (before ++ (r ∷ [])) ≡ count_of x before + 0 = rw (ne_eqb r.a x q) at (count_more x before r) in
          omega arith

  -- its C, where none of its master's is longer
  more_longest : ((bus ≡ 5 → ⊥) → r.a ≤ 32) → Figures bus (λ x. longest_of x (before ++ (r ∷ []))) (longests_with longests r)
  unfolding longests_with
  more_longest l =
      figures_more bus r.kind no_variable (λ x. longest_of x before) (λ x. longest_of x (before ++ (r ∷ []))) longests r.a (max (get_or longests r.a 0) r.b)
      keeps.longest l own other
    where
      own : (bus ≡ 5 → ⊥) → max (get_or longests r.a 0) r.b ≡ longest_of r.a (before ++ (r ∷ []))
      own e =
          let w : longest_of r.a (before ++ (r ∷ [])) ≡ max (longest_of r.a before) r.b =
          rw (eq-eqb r.a r.a refl) at (longest_more r.a before r) in
          omega (arith, keeps.longest.each e r.a (l e))

      other : (x : ℕ) → (r.a ≡ x → ⊥) → longest_of x (before ++ (r ∷ [])) ≡ longest_of x before
      other x q =
          let w : longest_of x (before ++ (r ∷ [])) ≡ max (longest_of x before) 0 = rw (ne_eqb r.a x q) at (longest_more x before r) in
          omega arith

  -- or its identifier behind those before it
  more_named : bus ≡ 5 → length before < 64 → (i : ℕ) → i < length (before ++ (r ∷ [])) → get_or (ids_with ids (length before) r) i 0 ≡ (get_or (before ++ (r ∷ [])) i nothing).a
  unfolding ids_with
  more_named e l i h = rw (eq-eqb r.kind 6 (variable e)) (split (ℕ_discrete i (length before)))
    where
      split : Dec (i ≡ length before) → get_or (set ids (length before) r.a) i 0 ≡ (get_or (before ++ (r ∷ [])) i nothing).a
      split (yes q) =
          rw q
          (get_or-set_same ids (length before) r.a 0 (omega (arith, keeps.variables)) ∙ ap (λ (x : Record). x.a) (sym (get_or_at before r [] nothing (length before) refl)))
      split (no q) =
          let k : i < length before = omega (arith, q, length-append before (r ∷ [])) in
          get_or-set_other ids (length before) i r.a 0 q ∙ (keeps.named e i k ∙ ap (λ (x : Record). x.a) (sym (get_or-append before (r ∷ []) nothing i k)))

  pub keeps_more : ((bus ≡ 5 → ⊥) → r.a ≤ 32) → (bus ≡ 5 → length before < 64)
      → Keeps bus (before ++ (r ∷ [])) (counts_with counts r) (longests_with longests r) (ids_with ids (length before) r)
  unfolding ids_with
  keeps_more l h =
      record {
        counted = more_counted l;
        longest = more_longest l;
        variables =
            let l' = length-set ids (length before) r.a in
            either_length (eqb r.kind 6) (set ids (length before) r.a) ids l' ∙ (l' ∙ keeps.variables);
        named = λ e i k. more_named e (h e) i k;
      }
