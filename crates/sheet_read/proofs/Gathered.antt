-- Page 02, Ask 8: the longest messages that the reader keeps tell the same as the settings that it passed. Assumes nothing.
use mathlib.Core.Path.{◌≡◌, refl, sym, ap, ◌∙◌}
use mathlib.Core.Bool.{Bool, true, false, and-false}
use mathlib.Core.List.{List, [], ◌∷◌, ◌++◌}
use Prim.Native.Nat.{ℕ, zero, suc, ◌+◌, ◌≤◌, ◌<◌, max}
use native.Mathlib.Omega.{arith}
use native.Mathlib.Decide.{ℕ_discrete}
use borrow.Author.Tests.{eqb-true, eqb-false, eq-eqb, ne_eqb, ltb-true, ltb-false, lt-ltb, le-ltb}
use lib.Dec.{eqb, ltb}
use lib.ListN.{length, get_or, set, length-set, replicate, length-replicate, get_or-replicate}
use lib.Seq.{get_or-set_same, get_or-set_other}
use Rattle.common.specs.Runs.{tab}
use Rattle.common.proofs.Runs.{length_tab, get_d_tab, tab_same, tab_places, zero_at}
use Rattle.sheet_record.specs.declared.Record.{Record}
use Rattle.sheet_messages.specs.Messages.{message_by, message_at, lacks_in}
use Rattle.sheet_rules.specs.Sheets.{Sheet, message_of, count_of, longest_of, lacks_of, lacking, repeated}
use Rattle.sheet_rules.proofs.Counts.{count_more, longest_more}
use Rattle.sheet_rules.proofs.Order.{message_of_ring, message_of_master}

-- ---- What counts for any number

-- 33 places that tell the longest message of each master tell that of every number, where all numbers past 32 have one
pub of_every : (f : ℕ → ℕ) (messages : List ℕ) → messages ≡ tab f 33 → ((y : ℕ) → 32 < y → f y ≡ f 0) → (y : ℕ) → message_at messages y ≡ f y
unfolding message_at
of_every f messages e past y = split (ltb 32 y) refl
  where
    at : (k : ℕ) → k ≤ 32 → get_or messages k 0 ≡ f k
    at k l = ap (λ (xs : List ℕ). get_or xs k 0) e ∙ get_d_tab f 33 k (omega arith)

    split : (b : Bool) → ltb 32 y ≡ b → message_at messages y ≡ f y
    split true q = rw q (at 0 (omega arith) ∙ sym (past y (ltb-true 32 y q)))
    split false q = rw q (at y (ltb-false 32 y q))

-- ---- A sheet of another kind than 9

module _ (S : Sheet) (other : S.head.kind ≡ 9 → ⊥) where
  pub same_for_all : replicate 33 S.head.c ≡ tab (message_of S) 33
  same_for_all =
      tab_places (message_of S) (replicate 33 S.head.c) 33 (length-replicate 33 S.head.c) (λ k l. get_or-replicate 33 k S.head.c 0 l ∙ sym (message_of_ring S k other))

  pub same_past : (y : ℕ) → 32 < y → message_of S y ≡ message_of S 0
  same_past y l = message_of_ring S y other ∙ sym (message_of_ring S 0 other)

  pub lacks_nothing : false ≡ lacking S
  unfolding lacking
  lacks_nothing = rw (ne_eqb S.head.kind 9 other)

-- ---- Behind kind 9

-- the longest messages among these settings, at place y that of master y and 0 where it has none; one of 0 is none
pub record Gives (settings : List Record) (messages : List ℕ) : Type 0 where
  pub places : messages ≡ tab (λ y. longest_of y settings) 33
  pub some : (y : ℕ) → eqb (longest_of y settings) 0 ≡ eqb (count_of y settings) 0
  pub outside : (y : ℕ) → (1 ≤ y → y ≤ 32 → ⊥) → longest_of y settings ≡ 0

pub gives_none : Gives [] (replicate 33 0)
unfolding longest_of count_of
gives_none =
    record {
      places = tab_places (λ y. 0) (replicate 33 0) 33 refl (λ k l. zero_at 33 k);
      some = λ y. refl;
      outside = λ y h. refl;
    }

module _ {settings : List Record} {messages : List ℕ} (g : Gives settings messages) where
  pub place_of : (y : ℕ) → y ≤ 32 → get_or messages y 0 ≡ longest_of y settings
  place_of y l = ap (λ (xs : List ℕ). get_or xs y 0) g.places ∙ get_d_tab (λ k. longest_of k settings) 33 y (omega arith)

  places_long : length messages ≡ 33
  places_long = ap length g.places ∙ length_tab (λ y. longest_of y settings) 33

  -- a place that is not 0 is that of a master which has one
  pub place_again : (S : Sheet) (r : Record) → S.settings ≡ settings → r.kind ≡ 10 → r.a ≤ 32 → (get_or messages r.a 0 ≡ 0 → ⊥) → repeated S r ≡ true
  unfolding repeated
  place_again S r e k l h =
      let q : eqb (count_of r.a settings) 0 ≡ false = sym (g.some r.a) ∙ ne_eqb (longest_of r.a settings) 0 (λ z. h (place_of r.a l ∙ z)) in
      let c : 0 < count_of r.a settings = positive (count_of r.a settings) (eqb-false (count_of r.a settings) 0 q) in
      rw (eq-eqb r.kind 10 k, e) (lt-ltb 0 (count_of r.a settings) c)
    where
      positive : (n : ℕ) → (n ≡ 0 → ⊥) → 0 < n
      positive zero n = absurd (n refl)
      positive (suc m) n = omega arith

  pub place_new : (S : Sheet) (r : Record) → S.settings ≡ settings → r.a ≤ 32 → get_or messages r.a 0 ≡ 0 → repeated S r ≡ false
  unfolding repeated
  place_new S r e l z =
      let q : eqb (count_of r.a settings) 0 ≡ true = sym (g.some r.a) ∙ eq-eqb (longest_of r.a settings) 0 (sym (place_of r.a l) ∙ z) in
      let c : count_of r.a settings ≡ 0 = eqb-true (count_of r.a settings) 0 q in
      rw e (rw (le-ltb 0 (count_of r.a settings) (omega arith)) (and-false (eqb r.kind 10)))

  -- one more, of a master that had none
  module _ (r : Record) (least : 1 ≤ r.a) (most : r.a ≤ 32) (positive : 1 ≤ r.b) (new : get_or messages r.a 0 ≡ 0) where
    own_longest : longest_of r.a (settings ++ (r ∷ [])) ≡ r.b
    own_longest =
        let w : longest_of r.a (settings ++ (r ∷ [])) ≡ max (longest_of r.a settings) r.b = rw (eq-eqb r.a r.a refl) at (longest_more r.a settings r) in
        omega (arith, place_of r.a most)

    own_count : count_of r.a (settings ++ (r ∷ [])) ≡ count_of r.a settings + 1
    own_count = rw (eq-eqb r.a r.a refl) at (count_more r.a settings r)

    other_longest : (y : ℕ) → (r.a ≡ y → ⊥) → longest_of y (settings ++ (r ∷ [])) ≡ longest_of y settings
    other_longest y n =
        let w : longest_of y (settings ++ (r ∷ [])) ≡ max (longest_of y settings) 0 = rw (ne_eqb r.a y n) at (longest_more y settings r) in
        omega arith

    other_count : (y : ℕ) → (r.a ≡ y → ⊥) → count_of y (settings ++ (r ∷ [])) ≡ count_of y settings
    other_count y n =
        let w : count_of y (settings ++ (r ∷ [])) ≡ count_of y settings + 0 = rw (ne_eqb r.a y n) at (count_more y settings r) in
        omega arith

    pub gives_more : Gives (settings ++ (r ∷ [])) (set messages r.a r.b)
    gives_more =
        record {
          places =
              tab_places (λ y. longest_of y (settings ++ (r ∷ []))) (set messages r.a r.b) 33 (length-set messages r.a r.b ∙ places_long)
              (λ k l. place k (omega arith) (ℕ_discrete r.a k));
          some = λ y. had y (ℕ_discrete r.a y);
          outside = λ y h. other_longest y (λ e. h (omega arith) (omega arith)) ∙ g.outside y h;
        }
      where
        place : (k : ℕ) → k ≤ 32 → Dec (r.a ≡ k) → get_or (set messages r.a r.b) k 0 ≡ longest_of k (settings ++ (r ∷ []))
        place k l (yes q) =
            let b : r.a < length messages = omega (arith, places_long) in
            ap (λ (y : ℕ). get_or (set messages r.a r.b) y 0) (sym q)
            ∙ (get_or-set_same messages r.a r.b 0 b ∙ (sym own_longest ∙ ap (λ (y : ℕ). longest_of y (settings ++ (r ∷ []))) q))
        place k l (no q) = get_or-set_other messages r.a k r.b 0 (λ z. q (sym z)) ∙ (place_of k l ∙ sym (other_longest k q))

        had : (y : ℕ) → Dec (r.a ≡ y) → eqb (longest_of y (settings ++ (r ∷ []))) 0 ≡ eqb (count_of y (settings ++ (r ∷ []))) 0
        had y (yes q) =
            ap (λ (k : ℕ). eqb (longest_of k (settings ++ (r ∷ []))) 0) (sym q)
            ∙ (ne_eqb (longest_of r.a (settings ++ (r ∷ []))) 0 (λ z. omega (arith, own_longest))
            ∙ (sym (ne_eqb (count_of r.a (settings ++ (r ∷ []))) 0 (λ z. omega (arith, own_count))) ∙ ap (λ (k : ℕ). eqb (count_of k (settings ++ (r ∷ []))) 0) q))
        had y (no q) = ap (λ (n : ℕ). eqb n 0) (other_longest y q) ∙ (g.some y ∙ ap (λ (n : ℕ). eqb n 0) (sym (other_count y q)))

  -- ---- At the end of the settings

  lacks_same : (n : ℕ) → n ≤ 32 → lacks_in n messages ≡ lacks_of n settings
  unfolding lacks_in lacks_of
  lacks_same zero l = refl
  lacks_same (suc n) l = rw (lacks_same n (omega arith), place_of (suc n) l, g.some (suc n))

  module _ (S : Sheet) (is : S.settings ≡ settings) (ring : S.head.kind ≡ 9) where
    pub lacks_told : S.head.a ≤ 32 → lacks_in S.head.a messages ≡ lacking S
    unfolding lacking
    lacks_told l = lacks_same S.head.a l ∙ (rw (eq-eqb S.head.kind 9 ring, is) refl)

    own_message : (y : ℕ) → message_by (longest_of y settings) ≡ message_of S y
    own_message y = rw (← is) (sym (message_of_master S y ring))

    pub counts_each : tab (λ y. message_by (get_or messages y 0)) 33 ≡ tab (message_of S) 33
    counts_each =
        tab_same (λ y. message_by (get_or messages y 0)) (message_of S) 33 (λ y l. ap message_by (place_of y (omega arith)) ∙ own_message y)

    pub counts_past : (y : ℕ) → 32 < y → message_of S y ≡ message_of S 0
    counts_past y l =
        sym (own_message y) ∙ (ap message_by (g.outside y (λ a b. omega arith) ∙ sym (g.outside 0 (λ a b. omega arith))) ∙ own_message 0)
