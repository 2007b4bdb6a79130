-- What two pieces of a capture, one behind the other, are taken as. Assumes nothing.
use Rattle.std.proofs.Common.{◌≡◌, ℕ, ◌+◌, ◌-◌, ◌*◌, ◌<◌, ◌≤◌, min, List, ◌++◌, length, get_or, sym, refl, ap, ◌∙◌, subst, arith}
use native.Mathlib.Decide.{ℕ_discrete}
use Rattle.common.specs.Checks.{Verdict, refusal, unless}
use Rattle.common.specs.Checks.Verdict.{Passed, Refused}
use Rattle.common.specs.Runs.{tab}
use Rattle.common.proofs.Runs.{get_d_tab, tab_same}
use Rattle.capture_log.specs.declared.Event.{Event}
use Rattle.capture_log.specs.Log as Log
use Rattle.capture_log.specs.Log.{Before}
use Rattle.capture_log.specs.Records.{size, events_in, judge, records, events, heard}
use Rattle.capture_log.proofs.Joined.{Leaves, later, events_behind, records_whole, records_joined}
use Rattle.capture_log.proofs.Heard.{heard_behind}
use Rattle.capture_tally.specs.Pieces.{most, before, behind, answer_to, left_after, since_after}
use Rattle.capture_tally.specs.Steps.{no_of}
use Rattle.capture_tally.proofs.Judged.{passed_by, refused_by}
use Rattle.common.proofs.Answered.{unless_passed}
use Rattle.std.specs.declared.result.Result.TheVariants.{Ok, Err}

-- an answer tells a verdict, and its place
pub taken_later : (d : ℕ) (v : Verdict) → unless (later d v) tt ≡ behind d (unless v tt)
taken_later d Passed = refl
taken_later d (Refused r q) = refl

-- a refusal stands at the record's place
pub refused_place : (p : List ℕ) (n : ℕ) (b : Before) (j r q : ℕ) → judge p n b j ≡ Refused r q → q ≡ size * j
refused_place p n b j r q e = split (ℕ_discrete (no_of (judge p n b j)) 0)
  where
    split : Dec (no_of (judge p n b j) ≡ 0) → q ≡ size * j
    split (yes z) =
        let g : Passed ≡ Refused r q = sym (passed_by p n b j z) ∙ e in
        let f : ◌≡◌ {A = ℕ} 0 1 = cc in
        absurd (omega arith)
    split (no z) = let g : Refused (no_of (judge p n b j)) (size * j) ≡ Refused r q = sym (refused_by p n b j z) ∙ e in cc

-- the runs keep what a piece leaves of the streams that have a place
module _ (c : List ℕ) (b : Before) where
  abbrev b' : Before
  b' = before (left_after c b) (since_after c b)

  pub leaves : Leaves most b (events c) b'
  unfolding left_after since_after
  leaves = record { waiting_is = at (Log.left b (events c)); stamp_is = at (Log.since b (events c)) }
    where
      at : (f : ℕ → ℕ) (i : ℕ) → 1 ≤ i → i ≤ most → f i ≡ get_or (tab (λ k. f (k + 1)) most) (i - 1) 0
      at f i from to =
          let e : i - 1 + 1 ≡ i = omega arith in
          sym (get_d_tab (λ k. f (k + 1)) most (i - 1) (omega arith) ∙ ap f e)

-- a piece c of m whole records, then a piece p
module _ (c p : List ℕ) (m : ℕ) (whole : length c ≡ size * m) where
  -- the first is taken, for n streams
  pub both_heard : (n : ℕ) (b : Before) → answer_to c n b ≡ Ok tt → heard (c ++ p) (min n most) b ≡ later (length c) (heard p (min n most) (b' c b))
  unfolding answer_to events
  both_heard n b all =
      let l : Leaves most b (events_in c m) (b' c b) = subst (λ (j : ℕ). Leaves most b (events_in c j) (b' c b)) (records_whole c m whole) (leaves c b) in
      heard_behind c p m whole (min n most) (unless_passed _ tt all).0 l (omega arith)

  both_events : events (c ++ p) ≡ events p ++ events c
  unfolding events
  both_events =
      ap (events_in (c ++ p)) (records_joined c p m whole)
      ∙ (events_behind c p m whole (records p) ∙ ap (λ (j : ℕ). events_in p (records p) ++ events_in c j) (sym (records_whole c m whole)))

  -- ---- The runs behind both, place by place

  pub by_place : (f : List Event → ℕ → ℕ) (g : ℕ → ℕ) → ((i : ℕ) → i < most → f (events p ++ events c) i ≡ g i) → tab (f (events (c ++ p))) most ≡ tab g most
  by_place f g e = ap (λ (x : List Event). tab (f x) most) both_events ∙ tab_same (f (events p ++ events c)) g most e

  -- a figure that goes on from what a run had
  pub goes_on : (op : ℕ → ℕ → ℕ) (f : List Event → ℕ → ℕ) (g : ℕ → ℕ) (old : List ℕ)
      → ((i : ℕ) → i < most → (a : ℕ) → op a (f (events p ++ events c) i) ≡ op (op a (f (events c) i)) (g i))
      → tab (λ i. op (get_or old i 0) (f (events (c ++ p)) i)) most
      ≡ tab (λ i. op (get_or (tab (λ k. op (get_or old k 0) (f (events c) k)) most) i 0) (g i)) most
  goes_on op f g old e =
      by_place (λ x i. op (get_or old i 0) (f x i)) (λ i. op (get_or (tab (λ k. op (get_or old k 0) (f (events c) k)) most) i 0) (g i))
      (λ i l. e i l (get_or old i 0) ∙ ap (λ (y : ℕ). op y (g i)) (sym (get_d_tab (λ k. op (get_or old k 0) (f (events c) k)) most i l)))
