-- A capture that is followed piece by piece is followed as it would be in one piece, where each piece but the last ends with a record.
-- Assumes nothing.
use Prim.Native.Nat.{ℕ, zero, suc, ◌+◌, ◌*◌, ◌/◌, ◌≤◌}
use mathlib.Core.Path.{◌≡◌, refl, sym, ap, ◌∙◌}
use mathlib.Core.Bool.{Bool, true, false, cond, ◌&&◌}
use mathlib.Core.List.{List, [], ◌∷◌, ◌++◌}
use native.Mathlib.Omega.{arith}
use borrow.Author.Tests.{le-leb, lt-leb, leb-true, leb-false}
use lib.Dec.{leb}
use lib.ListN.{length, get_or, length-append}
use Rattle.capture_log.specs.declared.Event.{Event}
use Rattle.capture_log.specs.Records.{size, event_at, known, none, met_at}
use Rattle.capture_log.proofs.Joined.{event_front, event_behind}
use Rattle.capture_watch.specs.Follow.{Seen, seen_with, followed, met_in}

-- records behind others
pub followed_behind : (T J : List ℕ) (s : Seen) (es fs : List Event) → followed T J s (fs ++ es) ≡ followed T J (followed T J s es) fs
unfolding followed
followed_behind T J s es [] = refl
followed_behind T J s es (f ∷ fs) = ap (λ (x : Seen). seen_with T J x f) (followed_behind T J s es fs)

-- records that read alike, both whole or both cut
met_same : (c c' : List ℕ) (at at' : ℕ) → leb (at + size) (length c) ≡ leb (at' + size) (length c') → event_at c at ≡ event_at c' at' → met_at c at ≡ met_at c' at'
unfolding met_at
met_same c c' at at' l e =
    let k : get_or c at 0 ≡ get_or c' at' 0 = ap (λ (x : Event). x.kind) e in
    ap (λ (b : Bool). cond (b && known (get_or c at 0)) (event_at c at) none) l
    ∙ (ap (λ (x : ℕ). cond (leb (at' + size) (length c') && known x) (event_at c at) none) k
    ∙ ap (λ (x : Event). cond (leb (at' + size) (length c') && known (get_or c' at' 0)) x none) e)

module _ (c p : List ℕ) where
  met_front : (at : ℕ) → at + size ≤ length c → met_at (c ++ p) at ≡ met_at c at
  met_front at h =
      let long : leb (at + size) (length (c ++ p)) ≡ true = le-leb (at + size) (length (c ++ p)) (omega (arith, length-append c p)) in
      met_same (c ++ p) c at at (long ∙ sym (le-leb (at + size) (length c) h)) (event_front c p at h)

  met_behind : (at : ℕ) → met_at (c ++ p) (length c + at) ≡ met_at p at
  met_behind at = met_same (c ++ p) p (length c + at) at (cut (leb (at + size) (length p)) refl) (event_behind c p at)
    where
      cut : (x : Bool) → leb (at + size) (length p) ≡ x → leb (length c + at + size) (length (c ++ p)) ≡ leb (at + size) (length p)
      cut true q =
          rw q (le-leb (length c + at + size) (length (c ++ p)) (omega (arith, length-append c p, leb-true (at + size) (length p) q)))
      cut false q =
          rw q (lt-leb (length c + at + size) (length (c ++ p)) (omega (arith, length-append c p, leb-false (at + size) (length p) q)))

  mets_front : (j : ℕ) → size * j ≤ length c → met_in (c ++ p) j ≡ met_in c j
  unfolding met_in
  mets_front zero h = refl
  mets_front (suc j) h = rw (met_front (size * j) (omega arith), mets_front j (omega arith)) refl

  -- the first ends with a record
  module _ (m : ℕ) (whole : length c ≡ size * m) where
    mets_behind : (j : ℕ) → met_in (c ++ p) (m + j) ≡ met_in p j ++ met_in c m
    unfolding met_in
    mets_behind zero = let e : m + 0 ≡ m = omega arith in rw e (mets_front m (omega arith))
    mets_behind (suc j) =
        let e : m + suc j ≡ suc (m + j) = omega arith in
        let place : size * (m + j) ≡ length c + size * j = omega arith in
        rw (e, place, met_behind (size * j), mets_behind j) refl

    pub in_pieces : (T J : List ℕ) (s : Seen) → followed T J s (met_in (c ++ p) (length (c ++ p) / size))
        ≡ followed T J (followed T J s (met_in c (length c / size))) (met_in p (length p / size))
    in_pieces T J s =
        let first : length c / size ≡ m = omega arith in
        let both : length (c ++ p) / size ≡ m + length p / size = omega (arith, length-append c p) in
        rw (first, both, mets_behind (length p / size)) (followed_behind T J s (met_in c m) (met_in p (length p / size)))
