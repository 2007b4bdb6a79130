-- Page 01, 'Sheet records', and page 02, Asks 7, 8 and 10: which kinds stand first and which are the streams of a bus, in the page's words; the table's parts say the same.
-- Assumes nothing.
use mathlib.Core.Path.{◌≡◌, refl, sym, ap, ◌∙◌}
use mathlib.Core.Bool.{Bool, true, false, not, ◌&&◌, ◌||◌, or-false}
use mathlib.Core.Logic.{◌⊎◌, inl, inr}
use Prim.Native.Nat.{ℕ, zero, suc, ◌≤◌}
use native.Mathlib.Omega.{arith}
use borrow.Author.Tests.{eqb-true, ne_eqb}
use lib.Dec.{eqb}
use Rattle.sheet_record.specs.Kinds.{kinds, line_of, known, fields_of, bus_of, Times, part_of, is_setting_part, is_first, is_setting, is_stream, is_stream_of, written}
use Rattle.sheet_record.specs.Kinds.Part.{setting}
use Rattle.sheet_record.specs.Kinds.Times.{once, often}
use Rattle.sheet_record.specs.Widths.{width_at, Wide}
use Rattle.sheet_record.proofs.Tables.{wide}

-- ---- Kind by kind

-- eleven more than n: 11 is the first number that is past the page's kinds
abbrev pub past : ℕ → ℕ
past n = suc (suc (suc (suc (suc (suc (suc (suc (suc (suc (suc n))))))))))

-- what holds of the page's ten kinds, of 0 and of every number past them holds of every number
pub by_kind : (P : ℕ → Type 0) → P 0 → P 1 → P 2 → P 3 → P 4 → P 5 → P 6 → P 7 → P 8 → P 9 → P 10 → ((n : ℕ) → P (past n)) → (k : ℕ) → P k
by_kind P none p q r s t u v w x y more zero = none
by_kind P none p q r s t u v w x y more (suc zero) = p
by_kind P none p q r s t u v w x y more (suc (suc zero)) = q
by_kind P none p q r s t u v w x y more (suc (suc (suc zero))) = r
by_kind P none p q r s t u v w x y more (suc (suc (suc (suc zero)))) = s
by_kind P none p q r s t u v w x y more (suc (suc (suc (suc (suc zero))))) = t
by_kind P none p q r s t u v w x y more (suc (suc (suc (suc (suc (suc zero)))))) = u
by_kind P none p q r s t u v w x y more (suc (suc (suc (suc (suc (suc (suc zero))))))) = v
by_kind P none p q r s t u v w x y more (suc (suc (suc (suc (suc (suc (suc (suc zero)))))))) = w
by_kind P none p q r s t u v w x y more (suc (suc (suc (suc (suc (suc (suc (suc (suc zero))))))))) = x
by_kind P none p q r s t u v w x y more (suc (suc (suc (suc (suc (suc (suc (suc (suc (suc zero)))))))))) = y
by_kind P none p q r s t u v w x y more (suc (suc (suc (suc (suc (suc (suc (suc (suc (suc (suc n))))))))))) = more n

past_1 : (n : ℕ) → eqb (past n) 1 ≡ false
past_1 n = ne_eqb (past n) 1 (λ e. omega arith)

past_2 : (n : ℕ) → eqb (past n) 2 ≡ false
past_2 n = ne_eqb (past n) 2 (λ e. omega arith)

past_3 : (n : ℕ) → eqb (past n) 3 ≡ false
past_3 n = ne_eqb (past n) 3 (λ e. omega arith)

past_4 : (n : ℕ) → eqb (past n) 4 ≡ false
past_4 n = ne_eqb (past n) 4 (λ e. omega arith)

past_5 : (n : ℕ) → eqb (past n) 5 ≡ false
past_5 n = ne_eqb (past n) 5 (λ e. omega arith)

past_6 : (n : ℕ) → eqb (past n) 6 ≡ false
past_6 n = ne_eqb (past n) 6 (λ e. omega arith)

past_7 : (n : ℕ) → eqb (past n) 7 ≡ false
past_7 n = ne_eqb (past n) 7 (λ e. omega arith)

past_8 : (n : ℕ) → eqb (past n) 8 ≡ false
past_8 n = ne_eqb (past n) 8 (λ e. omega arith)

past_9 : (n : ℕ) → eqb (past n) 9 ≡ false
past_9 n = ne_eqb (past n) 9 (λ e. omega arith)

past_10 : (n : ℕ) → eqb (past n) 10 ≡ false
past_10 n = ne_eqb (past n) 10 (λ e. omega arith)

-- ---- What stands first

pub first_is : (k : ℕ) → is_first k ≡ (eqb k 1 || (eqb k 3 || (eqb k 5 || eqb k 9)))
unfolding is_first part_of line_of kinds
first_is =
    by_kind (λ k. is_first k ≡ (eqb k 1 || (eqb k 3 || (eqb k 5 || eqb k 9)))) refl refl refl refl refl refl refl refl refl refl refl
    (λ n. simp (past_1 n, past_3 n, past_5 n, past_9 n))

pub first_kinds : (k : ℕ) → is_first k ≡ true → k ≡ 1 ⊎ k ≡ 3 ⊎ k ≡ 5 ⊎ k ≡ 9
first_kinds k e = one (eqb k 1) refl (sym (first_is k) ∙ e)
  where
    five : (b : Bool) → eqb k 5 ≡ b → (b || eqb k 9) ≡ true → k ≡ 1 ⊎ k ≡ 3 ⊎ k ≡ 5 ⊎ k ≡ 9
    five true q f = inr (inr (inl (eqb-true k 5 q)))
    five false q f = inr (inr (inr (eqb-true k 9 f)))

    three : (b : Bool) → eqb k 3 ≡ b → (b || (eqb k 5 || eqb k 9)) ≡ true → k ≡ 1 ⊎ k ≡ 3 ⊎ k ≡ 5 ⊎ k ≡ 9
    three true q f = inr (inl (eqb-true k 3 q))
    three false q f = five (eqb k 5) refl f

    one : (b : Bool) → eqb k 1 ≡ b → (b || (eqb k 3 || (eqb k 5 || eqb k 9))) ≡ true → k ≡ 1 ⊎ k ≡ 3 ⊎ k ≡ 5 ⊎ k ≡ 9
    one true q f = inl (eqb-true k 1 q)
    one false q f = three (eqb k 3) refl f

-- ---- What stands behind it

-- the settings: the edition of P-NET, and a longest message
pub setting_is : (k : ℕ) → is_setting k ≡ (eqb k 8 || eqb k 10)
unfolding is_setting part_of line_of kinds
setting_is = by_kind (λ k. is_setting k ≡ (eqb k 8 || eqb k 10)) refl refl refl refl refl refl refl refl refl refl refl (λ n. simp (past_8 n, past_10 n))

pub setting_kinds : (k : ℕ) → is_setting k ≡ true → k ≡ 8 ⊎ k ≡ 10
setting_kinds k e = split (eqb k 8) refl (sym (setting_is k) ∙ e)
  where
    split : (b : Bool) → eqb k 8 ≡ b → (b || eqb k 10) ≡ true → k ≡ 8 ⊎ k ≡ 10
    split true q f = inl (eqb-true k 8 q)
    split false q f = inr (eqb-true k 10 f)

-- the one stands behind kind 1, the other behind kind 9
pub setting_behind : (k h : ℕ) (t : Times) → part_of k ≡ setting h t → h ≡ 1 ⊎ h ≡ 9
unfolding is_setting part_of line_of kinds
setting_behind k h t e = by (setting_kinds k (ap is_setting_part e))
  where
    by : k ≡ 8 ⊎ k ≡ 10 → h ≡ 1 ⊎ h ≡ 9
    by (inl q) = let z : setting 1 once ≡ setting h t = sym (ap part_of q) ∙ e in inl cc
    by (inr q) = let z : setting 9 often ≡ setting h t = sym (ap part_of q) ∙ e in inr cc

pub pnet_streams : (k : ℕ) → is_stream_of 1 k ≡ (eqb k 2 || eqb k 7)
unfolding is_stream_of is_stream bus_of part_of line_of kinds
pnet_streams = by_kind (λ k. is_stream_of 1 k ≡ (eqb k 2 || eqb k 7)) refl refl refl refl refl refl refl refl refl refl refl (λ n. simp (past_2 n, past_7 n))

pub pnet_stream_kinds : (k : ℕ) → is_stream_of 1 k ≡ true → k ≡ 2 ⊎ k ≡ 7
pnet_stream_kinds k e = split (eqb k 2) refl (sym (pnet_streams k) ∙ e)
  where
    split : (b : Bool) → eqb k 2 ≡ b → (b || eqb k 7) ≡ true → k ≡ 2 ⊎ k ≡ 7
    split true q f = inl (eqb-true k 2 q)
    split false q f = inr (eqb-true k 7 f)

-- kind 7 alone has a fifth field
pub no_fifth : (k : ℕ) → (k ≡ 7 → ⊥) → width_at (fields_of k) 4 ≡ 0
unfolding width_at fields_of line_of kinds
no_fifth =
    by_kind (λ k. (k ≡ 7 → ⊥) → width_at (fields_of k) 4 ≡ 0) (λ n. refl) (λ n. refl) (λ n. refl) (λ n. refl) (λ n. refl) (λ n. refl) (λ n. refl)
    (λ n. absurd (n refl)) (λ n. refl) (λ n. refl) (λ n. refl) (λ k n. refl)

-- their widths differ in that alone
pub pnet_wide : (k w : ℕ) → is_stream_of 1 k ≡ true → w ≡ width_at (fields_of k) 4 → Wide k 1 2 4 4 w
unfolding width_at known fields_of line_of kinds
pnet_wide k w its e = by (pnet_stream_kinds k its)
  where
    by : k ≡ 2 ⊎ k ≡ 7 → Wide k 1 2 4 4 w
    by (inl q) = rw (e, q) (wide 2 refl)
    by (inr q) = rw (e, q) (wide 7 refl)

-- which of the two it is
pub pnet_with_jitter : (k : ℕ) → k ≡ 7 → is_stream_of 1 k ≡ eqb k 7
pnet_with_jitter k e = pnet_streams k ∙ rw (ne_eqb k 2 (λ q. omega arith))

pub pnet_without : (k : ℕ) → (k ≡ 7 → ⊥) → is_stream_of 1 k ≡ eqb k 2
pnet_without k n = pnet_streams k ∙ rw (ne_eqb k 7 n) (or-false (eqb k 2))

pub ring_streams : (k : ℕ) → is_stream_of 3 k ≡ eqb k 4
unfolding is_stream_of is_stream bus_of part_of line_of kinds
ring_streams = by_kind (λ k. is_stream_of 3 k ≡ eqb k 4) refl refl refl refl refl refl refl refl refl refl refl (λ n. sym (past_4 n))

pub variables : (k : ℕ) → is_stream_of 5 k ≡ eqb k 6
unfolding is_stream_of is_stream bus_of part_of line_of kinds
variables = by_kind (λ k. is_stream_of 5 k ≡ eqb k 6) refl refl refl refl refl refl refl refl refl refl refl (λ n. sym (past_6 n))

-- a stream is that of one of the three buses
pub stream_bus : (k : ℕ) → is_stream k ≡ true → bus_of k ≡ 1 ⊎ bus_of k ≡ 3 ⊎ bus_of k ≡ 5
unfolding is_stream bus_of part_of line_of kinds
stream_bus =
    by_kind (λ k. is_stream k ≡ true → bus_of k ≡ 1 ⊎ bus_of k ≡ 3 ⊎ bus_of k ≡ 5) no no (λ e. inl refl) no (λ e. inr (inl refl)) no (λ e. inr (inr refl)) (λ e. inl refl) no no no (λ n. no)
  where
    no : {A : Type 0} → false ≡ true → A
    no e = let z : ◌≡◌ {A = ℕ} 0 1 = cc in absurd (omega arith)

-- no bus has another number
pub no_streams : (bus k : ℕ) → (bus ≡ 1 → ⊥) → (bus ≡ 3 → ⊥) → (bus ≡ 5 → ⊥) → is_stream_of bus k ≡ false
unfolding is_stream_of
no_streams bus k a b c = split (is_stream k) refl
  where
    other : bus_of k ≡ 1 ⊎ bus_of k ≡ 3 ⊎ bus_of k ≡ 5 → bus_of k ≡ bus → ⊥
    other (inl e) q = a (sym q ∙ e)
    other (inr (inl e)) q = b (sym q ∙ e)
    other (inr (inr e)) q = c (sym q ∙ e)

    split : (s : Bool) → is_stream k ≡ s → (s && eqb (bus_of k) bus) ≡ false
    split true e = ne_eqb (bus_of k) bus (other (stream_bus k e))
    split false e = refl

-- ---- What a first record is, by its bus

module _ (k : ℕ) (e : is_first k ≡ true) where
  pub first_bus : bus_of k ≡ 1 ⊎ bus_of k ≡ 3 ⊎ bus_of k ≡ 5
  unfolding bus_of line_of kinds
  first_bus = by (first_kinds k e)
    where
      by : k ≡ 1 ⊎ k ≡ 3 ⊎ k ≡ 5 ⊎ k ≡ 9 → bus_of k ≡ 1 ⊎ bus_of k ≡ 3 ⊎ bus_of k ≡ 5
      by (inl q) = inl (rw q)
      by (inr (inl q)) = inr (inl (rw q))
      by (inr (inr (inl q))) = inr (inr (rw q))
      by (inr (inr (inr q))) = inr (inl (rw q))

  -- a segment
  pub pnet_first : bus_of k ≡ 1 → k ≡ 1
  unfolding bus_of line_of kinds
  pnet_first b = by (first_kinds k e)
    where
      by : k ≡ 1 ⊎ k ≡ 3 ⊎ k ≡ 5 ⊎ k ≡ 9 → k ≡ 1
      by (inl q) = q
      by (inr (inl q)) = absurd (omega (arith, ap bus_of q))
      by (inr (inr (inl q))) = absurd (omega (arith, ap bus_of q))
      by (inr (inr (inr q))) = absurd (omega (arith, ap bus_of q))

  -- a ring, of either kind
  pub ring_first : bus_of k ≡ 3 → k ≡ 3 ⊎ k ≡ 9
  unfolding bus_of line_of kinds
  ring_first b = by (first_kinds k e)
    where
      by : k ≡ 1 ⊎ k ≡ 3 ⊎ k ≡ 5 ⊎ k ≡ 9 → k ≡ 3 ⊎ k ≡ 9
      by (inl q) = absurd (omega (arith, ap bus_of q))
      by (inr (inl q)) = inl q
      by (inr (inr (inl q))) = absurd (omega (arith, ap bus_of q))
      by (inr (inr (inr q))) = inr q

  -- an exchange
  pub exchange_first : bus_of k ≡ 5 → k ≡ 5
  unfolding bus_of line_of kinds
  exchange_first b = by (first_kinds k e)
    where
      by : k ≡ 1 ⊎ k ≡ 3 ⊎ k ≡ 5 ⊎ k ≡ 9 → k ≡ 5
      by (inl q) = absurd (omega (arith, ap bus_of q))
      by (inr (inl q)) = absurd (omega (arith, ap bus_of q))
      by (inr (inr (inl q))) = q
      by (inr (inr (inr q))) = absurd (omega (arith, ap bus_of q))

-- a number that is no kind has no bus
pub no_bus : (k : ℕ) → (1 ≤ k → k ≤ 10 → ⊥) → bus_of k ≡ 0
unfolding bus_of line_of kinds
no_bus = by_kind (λ k. (1 ≤ k → k ≤ 10 → ⊥) → bus_of k ≡ 0) (λ h. refl) (λ h. inside 1 h (omega arith) (omega arith)) (λ h. inside 2 h (omega arith) (omega arith))
    (λ h. inside 3 h (omega arith) (omega arith)) (λ h. inside 4 h (omega arith) (omega arith)) (λ h. inside 5 h (omega arith) (omega arith))
    (λ h. inside 6 h (omega arith) (omega arith)) (λ h. inside 7 h (omega arith) (omega arith)) (λ h. inside 8 h (omega arith) (omega arith))
    (λ h. inside 9 h (omega arith) (omega arith)) (λ h. inside 10 h (omega arith) (omega arith)) (λ n h. refl)
  where
    inside : (k : ℕ) → (1 ≤ k → k ≤ 10 → ⊥) → 1 ≤ k → k ≤ 10 → bus_of k ≡ 0
    inside k h lo hi = absurd (h lo hi)

-- ---- What is written

-- all known kinds but 3
pub written_is : (k : ℕ) → written k ≡ (known k && not (eqb k 3))
unfolding written known fields_of line_of kinds
written_is = by_kind (λ k. written k ≡ (known k && not (eqb k 3))) refl refl refl refl refl refl refl refl refl refl refl (λ n. refl)
