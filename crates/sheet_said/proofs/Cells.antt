-- Laws of reading a line: its word, byte by byte; the number before the next comma, and what stands behind it; two lines held against each other. Assumes nothing.
use Prim.Native.Nat.{ℕ, ◌+◌, ◌-◌, ◌*◌, ◌^◌, ◌≤◌, ◌<◌, min}
use mathlib.Core.Path.{◌≡◌, refl, sym, ap, ◌∙◌}
use mathlib.Core.List.{List, [], ◌∷◌}
use mathlib.Core.Bool.{Bool, true, false, cond, ◌&&◌}
use native.Mathlib.Omega.{arith}
use borrow.Author.Tests.{eq-eqb, ne_eqb, eqb-true}
use lib.Dec.{eqb}
use lib.ListN.{length, get_or, take, drop}
use lib.Seq.{take_at}
use Rattle.text.specs.Text.{word, Wrote}
use Rattle.text.proofs.Writing.{wrote_front}
use Rattle.text_entry.specs.Entered.{is_digit, with_byte}
use Rattle.text_entry.proofs.Laws.{left_more, left_none}
use Rattle.sheet_record.specs.declared.Record.{Record}
use Rattle.sheet_record.specs.Kinds.{kinds, numbers, nothing}
use Rattle.sheet_line.specs.Lines.{line_text, sayable}
use Rattle.sheet_said.specs.Said.{begins, kind_among, kind_in, digits_behind, number_at, behind_comma, guess, same, record_in}
use Rattle.sheet_line.proofs.Lines.{Small}

-- ---- Its word

-- a line that is shorter than a word does not begin with it
pub begins_short : (p l : List ℕ) → length l < length p → begins p l ≡ false
unfolding begins
begins_short [] l h = absurd (omega arith)
begins_short (b ∷ p) [] h = refl
begins_short (b ∷ p) (c ∷ l) h = tested (eqb b c) (begins_short p l (omega arith))
  where
    tested : (t : Bool) {x : Bool} → x ≡ false → (t && x) ≡ false
    tested true e = e
    tested false e = refl

module _ (p l : List ℕ) (i : ℕ) (more : i < length p) (within : i < length l) where
  -- byte i is the same in both
  pub begins_more : get_or l i 0 ≡ get_or p i 0 → begins (drop i p) (drop i l) ≡ begins (drop (i + 1) p) (drop (i + 1) l)
  unfolding begins
  begins_more e = rw (left_more p i more, left_more l i within, eq-eqb (get_or p i 0) (get_or l i 0) (sym e)) refl

  -- it is another
  pub begins_other : (get_or l i 0 ≡ get_or p i 0 → ⊥) → begins (drop i p) (drop i l) ≡ false
  unfolding begins
  begins_other n = rw (left_more p i more, left_more l i within, ne_eqb (get_or p i 0) (get_or l i 0) (λ e. n (sym e))) refl

-- nothing of the word is left
pub begins_whole : (p l : List ℕ) (i : ℕ) → i ≡ length p → begins (drop i p) (drop i l) ≡ true
unfolding begins
begins_whole p l i e = rw (left_none p i e) refl

-- the words that the table has, each with its comma
pub kind_tests : (l : List ℕ) → kind_in l
    ≡ cond (begins (word "pnet-segment,") l) 1
    (cond (begins (word "pnet-stream,") l) 2
    (cond (begins (word "profibus-stream,") l) 4
    (cond (begins (word "worldfip-exchange,") l) 5
    (cond (begins (word "worldfip-variable,") l) 6
    (cond (begins (word "pnet-jitter-stream,") l) 7
    (cond (begins (word "pnet-edition,") l) 8 (cond (begins (word "profibus-ring,") l) 9 (cond (begins (word "profibus-message,") l) 10 0))))))))
unfolding kind_in kind_among kinds
kind_tests l = refl

-- ---- A cell

-- the number of a cell, with v for the digits so far
unfoldable pub number_behind : ℕ → List ℕ → ℕ
number_behind v l = min (digits_behind v l) 4294967295

-- two numbers that count as one still do with more digits
alike : (m n : ℕ) (t : List ℕ) → min m 4294967295 ≡ min n 4294967295 → number_behind m t ≡ number_behind n t
unfolding number_behind digits_behind
alike m n [] e = e
alike m n (b ∷ t) e =
    comma (eqb b 44) _ _ (alike (cond (is_digit b) (m * 10 + (b - 48)) m) (cond (is_digit b) (n * 10 + (b - 48)) n) t (next (is_digit b)))
  where
    next : (d : Bool) → min (cond d (m * 10 + (b - 48)) m) 4294967295 ≡ min (cond d (n * 10 + (b - 48)) n) 4294967295
    next true = omega arith
    next false = e

    comma : (c : Bool) (x y : ℕ) → min x 4294967295 ≡ min y 4294967295 → min (cond c m x) 4294967295 ≡ min (cond c n y) 4294967295
    comma true x y more = e
    comma false x y more = more

-- what is known before byte i of a cell that begins at a place, with v for the digits so far
pub record Within (line : List ℕ) (at v i : ℕ) : Type 0 where
  pub inside : i ≤ length line
  pub small : v ≤ 4294967295
  pub number : number_at (drop at line) ≡ number_behind v (drop i line)
  pub rest : behind_comma (drop at line) ≡ behind_comma (drop i line)

pub starts : (line : List ℕ) (at : ℕ) → at ≤ length line → Within line at 0 at
unfolding number_at number_behind
starts line at h = record { inside = h; small = omega arith; number = refl; rest = refl }

-- what is known of a cell, once it has been read: its number, what stands behind it, and that its end is one of the line's places
abbrev pub Read : List ℕ → ℕ → ℕ → ℕ → Type 0
Read line at v next = (v ≡ number_at (drop at line)) × ((drop next line ≡ behind_comma (drop at line)) × (next ≤ length line))

module _ {line : List ℕ} {at v i : ℕ} (w : Within line at v i) where
  -- the line ends here
  pub ends : i ≡ length line → Read line at v i
  unfolding number_behind digits_behind behind_comma
  ends e =
      let none = left_none line i e in
      (sym (w.number ∙ (ap (number_behind v) none ∙ omega (arith, w.small))), (none ∙ sym (w.rest ∙ ap behind_comma none), w.inside))

  module _ (more : i < length line) where
    -- a comma ends the cell
    pub stops : get_or line i 0 ≡ 44 → Read line at v (i + 1)
    unfolding number_behind digits_behind behind_comma
    stops e =
        let here = left_more line i more in
        let comma = eq-eqb (get_or line i 0) 44 e in
        (sym (w.number ∙ (ap (number_behind v) here ∙ rw comma (omega (arith, w.small)))), (sym (w.rest ∙ (ap behind_comma here ∙ rw comma refl)), omega arith))

    -- any other byte is one of the cell's
    pub goes : (get_or line i 0 ≡ 44 → ⊥) → Within line at (with_byte v (get_or line i 0)) (i + 1)
    unfolding number_behind digits_behind behind_comma with_byte
    goes n =
        let b = get_or line i 0 in
        let here = left_more line i more in
        let other = ne_eqb b 44 n in
        record {
          inside = omega arith;
          small = bounded (is_digit b);
          number = w.number ∙ (ap (number_behind v) here ∙ rw other (alike (cond (is_digit b) (v * 10 + (b - 48)) v) (with_byte v b) (drop (i + 1) line) (counts (is_digit b))));
          rest = w.rest ∙ (ap behind_comma here ∙ rw other refl);
        }
      where
        bounded : (d : Bool) → cond d (min (v * 10 + (get_or line i 0 - 48)) 4294967295) v ≤ 4294967295
        bounded true = omega arith
        bounded false = w.small

        counts : (d : Bool) → min (cond d (v * 10 + (get_or line i 0 - 48)) v) 4294967295 ≡ min (cond d (min (v * 10 + (get_or line i 0 - 48)) 4294967295) v) 4294967295
        counts true = omega arith
        counts false = refl

-- ---- The record

-- five numbers, each from where the one before it ends
pub guess_is : (l : List ℕ) (k v a b c d e to-a to-b to-c to-d to-e end : ℕ) → k ≡ kind_in l → Read l 0 v to-a
    → Read l to-a a to-b → Read l to-b b to-c → Read l to-c c to-d → Read l to-d d to-e → Read l to-e e end
    → record { kind = k; a = a; b = b; c = c; d = d; e = e } ≡ guess l
unfolding guess
guess_is l k v a b c d e to-a to-b to-c to-d to-e end kind word ra rb rc rd re =
    let at_a : drop to-a l ≡ behind_comma l = word.1.0 in
    let at_b : drop to-b l ≡ behind_comma (behind_comma l) = ra.1.0 ∙ ap behind_comma at_a in
    let at_c = rb.1.0 ∙ ap behind_comma at_b in
    let at-d = rc.1.0 ∙ ap behind_comma at_c in
    let at-e = rd.1.0 ∙ ap behind_comma at-d in
    rw (kind, ra.0 ∙ ap number_at at_a, rb.0 ∙ ap number_at at_b, rc.0 ∙ ap number_at at_c, rd.0 ∙ ap number_at at-d, re.0 ∙ ap number_at at-e) refl

-- its numbers are those of 32 bits
number_small : (t : List ℕ) → number_at t < 2 ^ 32
unfolding number_at
number_small t = omega arith

pub guess_small : (l : List ℕ) → Small (numbers (guess l))
unfolding guess
guess_small l =
    let a = behind_comma l in
    let b = behind_comma a in
    let c = behind_comma b in
    let d = behind_comma c in
    let e = behind_comma d in
    (number_small a, (number_small b, (number_small c, (number_small d, (number_small e, tt)))))

-- ---- Two lines

-- the test is true of equal lines alone
pub same_itself : (l : List ℕ) → same l l ≡ true
unfolding same
same_itself [] = refl
same_itself (b ∷ l) = rw (eq-eqb b b refl) (same_itself l)

pub same_true : (l m : List ℕ) → same l m ≡ true → l ≡ m
unfolding same
same_true [] [] e = refl
same_true [] (c ∷ m) e = cc
same_true (b ∷ l) [] e = cc
same_true (b ∷ l) (c ∷ m) e = tested (eqb b c) refl e (same_true l m)
  where
    tested : (t : Bool) → eqb b c ≡ t → (t && same l m) ≡ true → (same l m ≡ true → l ≡ m) → b ∷ l ≡ c ∷ m
    tested true h s more = rw (eqb-true b c h, more s) refl
    tested false h s more = cc

-- so a test that is true of equal lines alone is this one
pub is_same : (l m : List ℕ) (r : Bool) → (r ≡ true → m ≡ l) → (m ≡ l → r ≡ true) → r ≡ same l m
is_same l m r to from = by r (same l m) refl refl
  where
    by : (x y : Bool) → r ≡ x → same l m ≡ y → x ≡ y
    by true true p q = refl
    by true false p q =
        let e : l ≡ m = sym (to p) in
        let z : same l m ≡ true = rw e (same_itself m) in
        cc
    by false true p q = let z : r ≡ true = from (sym (same_true l m q)) in cc
    by false false p q = refl

-- ---- A record that a line says

module _ (l : List ℕ) (taken : Record) (s m : Bool) (front : List ℕ) where
  -- what the code tests
  pub said_is : taken ≡ guess l → s ≡ sayable taken → front ≡ line_text taken → (m ≡ true → front ≡ l) → (front ≡ l → m ≡ true)
      → record_in l ≡ cond (s && m) taken nothing
  unfolding record_in
  said_is is can text to from = cc (is_same l front m to from)

-- a text that was stored in front of a run that holds it
pub stored_front : {o t o' : List ℕ} {r : ℕ} → Wrote o 0 t o' r → length t ≤ length o → take r o' ≡ t
stored_front {o} {t} {o'} {r} w h =
    let f = wrote_front w h in
    ap (take r) f.1 ∙ take_at t (drop (length t) o) r (sym f.0)
