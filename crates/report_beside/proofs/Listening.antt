-- What hearing a piece answers and leaves, case by case, as the code comes to it. Assumes nothing.
use Prim.Native.Nat.{ℕ, ◌+◌, ◌≤◌, ◌<◌}
use mathlib.Core.Path.{◌≡◌, refl, ap}
use mathlib.Core.List.{List}
use mathlib.Core.Bool.{Bool, true, false}
use borrow.Author.Tests.{lt-ltb, le-ltb}
use lib.Dec.{ltb}
use lib.ListN.{length}
use Rattle.capture_tally.specs.Pieces.{answer_to}
use Rattle.capture_ages.specs.declared.Watch.{Watch}
use Rattle.report_capture.specs.Shown.{capture_refusal}
use Rattle.report_beside.specs.declared.Hearing.{Hearing}
use Rattle.report_beside.specs.declared.Heard.{Heard}
use Rattle.report_beside.specs.declared.Heard.TheVariants as told
use Rattle.report_beside.specs.Whole.{Tally, tally, seen_after, waiting, after}
use Rattle.text.specs.Text.{over}
use Rattle.report_beside.specs.Steps.{last, heard_as, heard_text, heard_tally}
use Rattle.report_beside.specs.Kept.{Kept, Hears}
use Rattle.report_beside.proofs.Kept.{hears}
use Rattle.std.specs.declared.result.Result.TheVariants.{Ok, Err}
use Rattle.common.specs.Checks.{refusal}
use Rattle.std.specs.declared.result.Result.{Result}
use Rattle.common.specs.declared.Refusal.{Refusal}
use Rattle.std.specs.Bool.{⊤}

-- the piece p, behind what h and k keep
module _ (p R T J old : List ℕ) (h : Hearing) (k : Tally) where
  abbrev short : Bool
  short = ltb h.bytes last

  abbrev answer : Result ⊤ Refusal
  answer = answer_to p h.streams (waiting k)

  abbrev new_watch : Watch
  new_watch = (seen_after p T J h.watch k.asked k.lead).watch

  abbrev new_tally : Tally
  new_tally = after p R T J h.watch k

  -- the answer, the lent text and the lent runs
  abbrev pub Answered : Heard → List ℕ → Tally → Type 0
  Answered x new k' = (x ≡ heard_as short answer h (length p) new_watch) × (new ≡ heard_text short answer h.bytes old) × (k' ≡ heard_tally short answer new_tally k)

  by : (b : Bool) (a : Result ⊤ Refusal) → short ≡ b → answer ≡ a → (x : Heard) (new : List ℕ) (k' : Tally) → x ≡ heard_as b a h (length p) new_watch
      → new ≡ heard_text b a h.bytes old → k' ≡ heard_tally b a new_tally k → Answered x new k'
  by b a e f x new k' q r s = rw (e, f) (q, r, s)

  pub answered_long : last ≤ h.bytes → Answered told.TooLong old k
  answered_long l = by false answer (le-ltb h.bytes last l) refl told.TooLong old k refl refl refl

  module _ (l : h.bytes < last) where
    pub answered_all : (w : Watch) (k' : Tally) → answer ≡ Ok tt → w ≡ new_watch → k' ≡ new_tally
        → Answered (told.On (record { urgent = h.urgent; streams = h.streams; bytes = h.bytes + length p; watch = w })) old k'
    answered_all w k' e q s =
        by true (Ok tt) (lt-ltb h.bytes last l) e _ old k'
        (ap (λ (x : Watch). told.On (record { urgent = h.urgent; streams = h.streams; bytes = h.bytes + length p; watch = x })) q) refl s

    pub answered_refused : (r q n : ℕ) (new : List ℕ) (k' : Tally) → answer ≡ Err (refusal r q) → n ≡ length (capture_refusal r (h.bytes + q))
        → new ≡ over (capture_refusal r (h.bytes + q)) old → k' ≡ heard_tally true (Err (refusal r q)) new_tally k → Answered (told.Refused n) new k'
    answered_refused r q n new k' e a t s = by true (Err (refusal r q)) (lt-ltb h.bytes last l) e _ new k' (ap told.Refused a) t s

  -- both clauses of the contract
  pub promised : (x : Heard) (new left since answers largest above asked lead : List ℕ) → Answered x new (tally left since answers largest above asked lead)
      → let then = heard_tally short answer new_tally k in
      ((x ≡ heard_as short answer h (length p) new_watch)
      × (new ≡ heard_text short answer h.bytes old)
      × (left ≡ then.left)
      × (since ≡ then.since)
      × (answers ≡ then.answers)
      × (largest ≡ then.largest)
      × (above ≡ then.above)
      × (asked ≡ then.asked)
      × (lead ≡ then.lead))
      × ((urgent : Bool) (s c masters : List ℕ) → Kept urgent s c h masters R T J k → Hears urgent s c p x old new masters R T J (tally left since answers largest above asked lead))
  promised x new left since answers largest above asked lead a = (
    (
      a.0,
      a.1,
      ap (λ (t : Tally). t.left) a.2,
      ap (λ (t : Tally). t.since) a.2,
      ap (λ (t : Tally). t.answers) a.2,
      ap (λ (t : Tally). t.largest) a.2,
      ap (λ (t : Tally). t.above) a.2,
      ap (λ (t : Tally). t.asked) a.2,
      ap (λ (t : Tally). t.lead) a.2,
    ),
    λ urgent s c masters kept. hears kept p x old new (tally left since answers largest above asked lead) a.0 a.1 a.2,
  )
