-- What follows of one record, and of the records of a piece up to a place, as the code goes over them. Assumes nothing.
use Prim.Native.Nat.{ℕ, ◌+◌, ◌*◌}
use mathlib.Core.Path.{◌≡◌, refl, ap, ◌∙◌}
use mathlib.Core.Bool.{Bool, true, false, cond}
use mathlib.Core.List.{List}
use native.Mathlib.Nat.{mul_comm}
use native.Mathlib.Numerals.{add-one}
use native.Mathlib.Omega.{arith}
use lib.Dec.{ltb, eqb}
use lib.ListN.{length, get_or, set, length-set}
use Rattle.common.specs.Runs.{tab}
use Rattle.common.proofs.Runs.{Filling, filled_at, tab_places}
use Rattle.sheet_ranges.specs.Ranges.{Range}
use Rattle.sheet_ranges.proofs.Ranges.{within_range}
use Rattle.sheet_record.proofs.Tables.{both_true}
use Rattle.capture_log.specs.declared.Event.{Event}
use Rattle.capture_log.specs.Records.{size, met_at}
use Rattle.capture_ages.specs.declared.Watch.{Watch}
use Rattle.capture_ages.specs.Ages.{kept_lead}
use Rattle.capture_ages.specs.Clock.{tick, lead_of, watch_with}
use Rattle.capture_watch.specs.Follow.{most, request, spot, Seen, seen, seen_with, followed, met_in}

-- ---- One record

-- a request's stream has a place
pub request_placed : (e : Event) → request e ≡ true → Range 1 e.stream most
unfolding request
request_placed e q = within_range 1 e.stream most (both_true (eqb e.kind 16) _ q).1

module _ (T J : List ℕ) (w : Watch) (asked lead : List ℕ) (e : Event) where
  abbrev then : Seen
  then = seen_with T J (seen w asked lead) e

  -- no request
  pub passed_by : request e ≡ false → (watch_with w e false ≡ then.watch) × ((asked ≡ then.asked) × (lead ≡ then.lead))
  unfolding seen_with
  passed_by q = (rw q refl, (rw q refl, rw q refl))

  -- a request, that came too soon or not
  pub asked_by : (early : Bool) (clock new kept : ℕ) → request e ≡ true
      → new ≡ lead_of w e (get_or T (spot e) 0) (get_or asked (spot e) 0) (get_or lead (spot e) 0)
      → clock ≡ tick w e.stamp → kept ≡ kept_lead (get_or J (spot e) 0) new → early ≡ ltb (get_or J (spot e) 0) new
      → (watch_with w e early ≡ then.watch) × ((set asked (spot e) clock ≡ then.asked) × (set lead (spot e) kept ≡ then.lead))
  unfolding seen_with
  asked_by early clock new kept q n t h b = (rw (q, b, n) refl, (rw (q, t) refl, rw (q, h, n) refl))

-- ---- Record by record

-- the runs keep their places
module _ (T J : List ℕ) (s : Seen) (e : Event) where
  same_places : (run : List ℕ) (k x : ℕ) → length (cond (request e) (set run k x) run) ≡ length run
  same_places run k x = split (request e)
    where
      split : (b : Bool) → length (cond b (set run k x) run) ≡ length run
      split true = length-set run k x
      split false = refl

  pub asked_long : length (seen_with T J s e).asked ≡ length s.asked
  unfolding seen_with
  asked_long = same_places s.asked (spot e) _

  pub lead_long : length (seen_with T J s e).lead ≡ length s.lead
  unfolding seen_with
  lead_long = same_places s.lead (spot e) _

-- behind n records of the piece p: s is what they leave of s₀
pub record Following (T J p : List ℕ) (s₀ s : Seen) (n : ℕ) : Type 0 where
  pub is : s ≡ followed T J s₀ (met_in p n)
  pub long : length s.asked ≡ most
  pub leads : length s.lead ≡ most

pub following_none : (T J p : List ℕ) (s : Seen) → length s.asked ≡ most → length s.lead ≡ most → Following T J p s s 0
unfolding followed met_in
following_none T J p s h l = record { is = refl; long = h; leads = l }

module _ {T J p : List ℕ} {s₀ s : Seen} {n : ℕ} (f : Following T J p s₀ s n) where
  -- one record more, as the code reads it
  pub following_more : (e : Event) (w : Watch) (asked lead : List ℕ) → e ≡ met_at p (n * size)
      → w ≡ (seen_with T J s e).watch → asked ≡ (seen_with T J s e).asked → lead ≡ (seen_with T J s e).lead
      → Following T J p s₀ (seen w asked lead) (n + 1)
  unfolding followed met_in
  following_more e w asked lead r a b d = record {
    is = rw add-one (all w asked lead a b d ∙ (ap (λ (x : Seen). seen_with T J x e) f.is ∙ ap (seen_with T J (followed T J s₀ (met_in p n))) (r ∙ ap (met_at p) (mul_comm n size))));
    long = ap length b ∙ (asked_long T J s e ∙ f.long);
    leads = ap length d ∙ (lead_long T J s e ∙ f.leads);
  }
    where
      all : (w : Watch) (asked lead : List ℕ) → w ≡ (seen_with T J s e).watch → asked ≡ (seen_with T J s e).asked → lead ≡ (seen_with T J s e).lead
          → seen w asked lead ≡ seen_with T J s e
      all w asked lead a b d = rw (a, b, d) refl

  -- all of them
  pub following_all : (m : ℕ) → n ≡ m → s ≡ followed T J s₀ (met_in p m)
  following_all m e = f.is ∙ ap (λ (k : ℕ). followed T J s₀ (met_in p k)) e

-- ---- At the end

-- a run that is filled to its last place
pub filled_whole : {f : ℕ → ℕ} {i : ℕ} {old run : List ℕ} → Filling f i old run → length old ≡ most → i ≡ most → run ≡ tab f most
filled_whole {f} {i} {old} {run} r h e =
    tab_places f run most (r.long ∙ h) (λ k l. ap (λ (d : List ℕ). get_or d k 0) r.is ∙ filled_at f i k old (omega arith))
