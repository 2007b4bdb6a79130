-- Laws of a lent run that is filled by a function. Assumes nothing.
use mathlib.Core.Path.{◌≡◌, refl, sym, ap, ◌∙◌, subst}
use mathlib.Core.List.{List, [], ◌∷◌, ◌++◌, append_assoc}
use Prim.Native.Nat.{ℕ, zero, suc, ◌+◌, ◌≤◌, ◌<◌}
use native.Mathlib.Nat.{not-suc-le-zero}
use native.Mathlib.Decide.{ℕ_discrete}
use native.Mathlib.Numerals.{add-one}
use native.Mathlib.Omega.{arith}
use lib.ListN.{length, get_or, take, drop, set, length-append, length-drop, length-set, get_or-append, replicate}
use lib.Seq.{take-suc, take_all, drop-cons, set_at, get_or-append_seam}
use Rattle.common.specs.Runs.{tab, filled}

module _ (f : ℕ → ℕ) where
  pub length_tab : (n : ℕ) → length (tab f n) ≡ n
  unfolding tab
  length_tab zero = refl
  length_tab (suc n) = simp (length-append, length_tab n) (add-one n)

  -- a loop begins: nothing is stored yet
  pub filled_none : (d : List ℕ) → d ≡ filled f 0 d
  unfolding filled tab
  filled_none d = refl

  -- one more store
  pub filled_more : (n : ℕ) (d : List ℕ) → n < length d → set (filled f n d) n (f n) ≡ filled f (n + 1) d
  unfolding filled tab
  filled_more n d h =
      rw (add-one n, drop-cons d n 0 h, set_at (tab f n) _ (drop (suc n) d) (f n) n (length_tab n), append_assoc)

  pub length_filled : (n : ℕ) (d : List ℕ) → n ≤ length d → length (filled f n d) ≡ length d
  unfolding filled
  length_filled n d h = rw (length-append, length_tab n, length-drop) (omega arith)

  -- what stands in a filled place
  pub get_d_tab : (n j : ℕ) → j < n → get_or (tab f n) j 0 ≡ f j
  unfolding tab
  get_d_tab zero j h = absurd (not-suc-le-zero h)
  get_d_tab (suc n) j h = go (ℕ_discrete j n) (get_d_tab n j)
    where
      go : Dec (j ≡ n) → (j < n → get_or (tab f n) j 0 ≡ f j) → get_or (tab f n ++ (f n ∷ [])) j 0 ≡ f j
      go (yes e) ih = rw e (subst (λ (i : ℕ). get_or (tab f n ++ (f n ∷ [])) i 0 ≡ f n) (length_tab n) (get_or-append_seam (tab f n) (f n) [] 0))
      go (no z) ih = get_or-append (tab f n) (f n ∷ []) 0 j (rw (length_tab n) (omega (arith, z))) ∙ ih (omega (arith, z))

  pub filled_at : (n j : ℕ) (d : List ℕ) → j < n → get_or (filled f n d) j 0 ≡ f j
  unfolding filled
  filled_at n j d h = get_or-append (tab f n) (drop n d) 0 j (rw (length_tab n) h) ∙ get_d_tab n j h

-- one store of a filled run, as a loop has it
pub filled_step : (f : ℕ → ℕ) (d l : List ℕ) (n x : ℕ) → l ≡ filled f n d → x ≡ f n → n < length d → set l n x ≡ filled f (n + 1) d
filled_step f d l n x e q h = rw (e, q) (filled_more f n d h)

-- figures that agree below n fill a run alike
pub tab_same : (f g : ℕ → ℕ) (n : ℕ) → ((i : ℕ) → i < n → f i ≡ g i) → tab f n ≡ tab g n
unfolding tab
tab_same f g zero e = refl
tab_same f g (suc n) e = rw (e n (omega arith), tab_same f g n (λ i l. e i (omega arith)))

-- a run on its way: its first n places are filled, and it is as long as it was
pub record Filling (f : ℕ → ℕ) (n : ℕ) (old run : List ℕ) : Type 0 where
  pub is : run ≡ filled f n old
  pub long : length run ≡ length old

pub filling_none : (f : ℕ → ℕ) (old : List ℕ) → Filling f 0 old old
filling_none f old = record { is = filled_none f old; long = refl }

pub filling_more : {f : ℕ → ℕ} {n : ℕ} {old run : List ℕ} (x : ℕ) → Filling f n old run → n < length old → x ≡ f n → Filling f (n + 1) old (set run n x)
filling_more {f} {n} {old} {run} x r h q =
    record { is = filled_step f old run n x r.is q h; long = length-set run n x ∙ r.long }

pub filling_done : {f : ℕ → ℕ} {m : ℕ} {old run : List ℕ} (n : ℕ) → Filling f m old run → m ≡ n → run ≡ filled f n old
filling_done {f} {m} {old} {run} n r e = r.is ∙ ap (λ (x : ℕ). filled f x old) e

pub filled_same : (f g : ℕ → ℕ) (n : ℕ) (d : List ℕ) → ((i : ℕ) → i < n → f i ≡ g i) → filled f n d ≡ filled g n d
unfolding filled
filled_same f g n d e = ap (λ (l : List ℕ). l ++ drop n d) (tab_same f g n e)

-- a run is known by its places
front_tab : (f : ℕ → ℕ) (l : List ℕ) (n : ℕ) → n ≤ length l → ((i : ℕ) → i < n → get_or l i 0 ≡ f i) → take n l ≡ tab f n
unfolding tab
front_tab f l zero h e = refl
front_tab f l (suc n) h e =
    take-suc l n 0 (omega arith) ∙ rw (e n (omega arith), front_tab f l n (omega arith) (λ i k. e i (omega arith)))

pub tab_places : (f : ℕ → ℕ) (l : List ℕ) (n : ℕ) → length l ≡ n → ((i : ℕ) → i < n → get_or l i 0 ≡ f i) → l ≡ tab f n
tab_places f l n h e = sym (take_all n l (omega (arith, h))) ∙ front_tab f l n (omega (arith, h)) e

-- a run of zeros
pub zero_at : (n i : ℕ) → ◌≡◌ {A = ℕ} (get_or (replicate n 0) i 0) 0
zero_at zero i = refl
zero_at (suc n) zero = refl
zero_at (suc n) (suc i) = zero_at n i
