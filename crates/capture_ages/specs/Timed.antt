-- Captures that the theorems on ages and gaps speak of. The latest record is first. Assumes nothing.
use Rattle.std.specs.Prelude.{◌≡◌, ℕ, ◌-◌, ◌^◌, ◌<◌, ◌≤◌, List, [], ◌∷◌, ◌≢◌}
use Rattle.capture_log.specs.declared.Event.{Event}
use Rattle.capture_log.specs.Log.{stamp_at}

-- Timed z es a u: the records es of a tester whose counter was z at instant 0, the first at instant a and the latest at u, each less than
-- 2^31 bp behind the one before
pub data Timed (z : ℕ) : List Event → ℕ → ℕ → Type 0 where
  one : {e : Event} {t : ℕ} → e.stamp ≡ stamp_at z t → Timed z (e ∷ []) t t
  next : {e f : Event} {es : List Event} {a t u : ℕ} → Timed z (f ∷ es) a t → t ≤ u → u - t < 2 ^ 31 → e.stamp ≡ stamp_at z u → Timed z (e ∷ f ∷ es) a u

-- UpTo i es fs: of the records es, fs are those up to the last request of stream i, and that request is the latest of fs
pub data UpTo (i : ℕ) : List Event → List Event → Type 0 where
  here : {e : Event} {es : List Event} → e.kind ≡ 16 → e.stream ≡ i → UpTo i (e ∷ es) (e ∷ es)
  later : {e : Event} {es fs : List Event} → (e.kind ≡ 16 → e.stream ≢ i) → UpTo i es fs → UpTo i (e ∷ es) fs
