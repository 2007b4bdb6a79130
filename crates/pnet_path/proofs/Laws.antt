-- What the functions of a path go by: the answer, a segment more. Assumes nothing.
use mathlib.Core.Path.{◌≡◌, sym, ap, ◌∙◌}
use mathlib.Core.Bool.{Bool, true, false, cond}
use mathlib.Core.List.{List}
use Prim.Native.Nat.{ℕ, ◌-◌}
use Rattle.pnet_sender.specs.Sender.{sound, sender_of}
use Rattle.pnet_crossing.specs.Cost.{crossing_by, kept, no_bound}
use Rattle.pnet_path.specs.Ways.{over_by, over_to, answer_of}
use Rattle.pnet_path.specs.declared.Way.{Way}
use Rattle.std.specs.declared.result.Result.{Result}
use Rattle.common.specs.declared.Refusal.{Refusal}
use Rattle.std.specs.declared.result.Result.TheVariants.{Err}
use Rattle.std.specs.declared.option.Option.TheVariants.{Some, None}
use Rattle.std.specs.Prelude.{is_some}
use Rattle.units.specs.declared.BitPeriods.{BitPeriods}

-- ---- What a way answers

module _ (w : Way) (D : ℕ) where
  pub answer_of_refused : {r : Refusal} → w.refused ≡ Some r → Err r ≡ answer_of w D
  unfolding answer_of
  answer_of_refused e = rw e

  pub answer_of_others : w.refused ≡ None → (g : ℕ) → g ≡ w.segments - 1 → (r : Result BitPeriods Refusal)
      → r ≡ crossing_by (kept w.bounds) (kept w.times) (no_bound w.bounds) g D → r ≡ answer_of w D
  unfolding answer_of
  answer_of_others e g q r h = rw (e, ← q) h

-- ---- A segment is handed over

module _ (w : Way) (F : ℕ) (s : List ℕ) (k : ℕ) where
  pub over_stays : is_some w.refused ≡ true → over_to w F s k ≡ w
  unfolding over_to
  over_stays e = ap (λ (b : Bool). cond b w (over_by w F k (sender_of (sound s) k))) e

  pub over_goes : is_some w.refused ≡ false → over_to w F s k ≡ over_by w F k (sender_of (sound s) k)
  unfolding over_to
  over_goes e = ap (λ (b : Bool). cond b w (over_by w F k (sender_of (sound s) k))) e

  -- by what its sheet was told to be
  pub over_told : is_some w.refused ≡ false → (t : Result BitPeriods Refusal) → t ≡ sender_of (sound s) k → (r : Way) → r ≡ over_by w F k t → r ≡ over_to w F s k
  over_told e t q r h = h ∙ (ap (over_by w F k) q ∙ sym (over_goes e))
