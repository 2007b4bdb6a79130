-- Page 02, 'Ask 4': what one segment of a path says, as the code answers it: a refusal, or R of the master that sends, from its count and V.
-- Assumes nothing.
use mathlib.Core.Path.{◌≡◌, refl, sym, ap, ◌∙◌}
use mathlib.Core.Bool.{Bool, true, false}
use mathlib.Core.List.{List}
use Prim.Native.Nat.{ℕ, ◌*◌, ◌≤◌, ◌<◌}
use native.Mathlib.Omega.{arith}
use borrow.Author.Tests.{leb-true, leb-false}
use lib.Dec.{leb}
use Rattle.common.specs.Sums.{when}
use Rattle.sheet_rules.specs.Whole.{Outcome}
use Rattle.sheet_rules.specs.Whole.Outcome.{Not}
use Rattle.pnet_rules.specs.Segment.{count, bound_by, turn, bound}
use Rattle.pnet_rules.specs.Limits.{Declared}
use Rattle.pnet_rules.proofs.Holds.{count_above_masters, bound_at_most}
use Rattle.units.specs.Units.{bp}
use Rattle.pnet_turn.specs.Turn.{at}
use Rattle.pnet_plan.specs.Planned.{first_late}
use Rattle.pnet_plan.specs.Arrays.{segment_in, Sheeted}
use Rattle.pnet_plan.proofs.Bytes.{declares, streams_few}
use Rattle.pnet_plan.proofs.Cases.{counts_at}
use Rattle.pnet_bounds.proofs.Bounded.{sheeted_late, sheeted_read}
use Rattle.pnet_sender.specs.Sender.{sound, sender_of}
use Rattle.std.specs.declared.result.Result.TheVariants.{Ok, Err}
use Rattle.common.specs.Checks.{refusal}

pub sender_refused : (s : List ℕ) (k n p : ℕ) → sound s ≡ Not n p → Err (refusal n p) ≡ sender_of (sound s) k
sender_refused s k n p e = ap (λ (o : Outcome). sender_of o k) (sym e)

module _ {s : List ℕ} {N n first : ℕ} {counts longests : List ℕ} (h : Sheeted s N n first counts longests) (k : ℕ) where
  -- a count and V as the code has them; a master above 32 is above N, and has no streams
  module _ (own v : ℕ) (e : own ≡ when (leb k 32) (at counts k)) (ev : v ≡ turn (segment_in s)) where
    own_count : own ≡ count (segment_in s) k
    own_count = e ∙ split (leb k 32) refl
      where
        d : Declared (segment_in s)
        d = declares h.ready

        split : (b : Bool) → leb k 32 ≡ b → when b (at counts k) ≡ count (segment_in s) k
        split true q = counts_at h k (leb-true k 32 q)
        split false q = sym (count_above_masters (segment_in s) d k (omega (arith, leb-false k 32 q, d.masters_to)))

    own_bound : own * v ≡ bound (segment_in s) k
    unfolding bound bound_by turn
    own_bound = rw (own_count, ev)

    pub own_small : own * v ≤ 4083200
    own_small = omega (arith, own_bound, bound_at_most (segment_in s) (declares h.ready) k)

    pub sender_bound : (late : ℕ) → late ≡ first_late (segment_in s) → n < late → Ok (bp (own * v)) ≡ sender_of (sound s) k
    sender_bound late q l =
        ap (λ (b : ℕ). Ok (bp b)) own_bound ∙ ap (λ (o : Outcome). sender_of o k) (sym (sheeted_read h 800 (streams_few h.ready) late q l))

  pub sender_late : (late : ℕ) → late ≡ first_late (segment_in s) → late ≤ n → Err (refusal 8 late) ≡ sender_of (sound s) k
  sender_late late q l = sender_refused s k 8 late (sheeted_late h 800 (streams_few h.ready) late q l)
