-- What pieces leave is what the capture leaves that they make up. Assumes nothing.
use Prim.Native.Nat.{ℕ, ◌+◌, ◌*◌, ◌/◌, ◌%◌, ◌^◌, ◌≤◌, max}
use mathlib.Core.Path.{◌≡◌, refl, sym, ap, ◌∙◌}
use mathlib.Core.List.{List, [], ◌++◌}
use native.Mathlib.Omega.{arith}
use lib.ListN.{length, get_or, length-append, length-replicate}
use Rattle.common.specs.Checks.Verdict.{Passed, Refused}
use Rattle.common.specs.Runs.{tab}
use Rattle.common.specs.Sums.{up}
use Rattle.common.proofs.Runs.{tab_places, zero_at}
use Rattle.capture_log.specs.Log as Log
use Rattle.capture_log.specs.Log.{fresh}
use Rattle.capture_log.specs.Records.{size, events_in, records, events, heard}
use Rattle.capture_tally.specs.Pieces.{most, before, behind, answer_to, left_after, since_after, answers_after, largest_after, above_after}
use Rattle.capture_tally.proofs.Split.{split_refused, split_answer, split_left, split_since, split_answers, split_largest, split_above}
use Rattle.capture_compare.proofs.Told.{whole_refused, whole_passed, whole_taken}
use Rattle.capture_ages.specs.declared.Watch.{Watch}
use Rattle.capture_ages.specs.Clock.{began}
use Rattle.capture_watch.specs.Follow.{Seen, seen, followed, met_in}
use Rattle.capture_watch.proofs.Passed.{passed_whole}
use Rattle.capture_watch.proofs.Pieces.{in_pieces}
use Rattle.report_beside.specs.Whole.{Tally, tally, none, unheard, seen_after, waiting, after}
use Rattle.std.specs.declared.result.Result.TheVariants.{Ok, Err}
use Rattle.common.specs.Checks.{refusal}

-- runs that are equal make up tallies that are
pub tally_same : {l l' s s' a a' g g' b b' q q' d d' : List ℕ} → l ≡ l' → s ≡ s' → a ≡ a' → g ≡ g' → b ≡ b' → q ≡ q' → d ≡ d'
    → tally l s a g b q d ≡ tally l' s' a' g' b' q' d'
tally_same e f g h i j k = rw (e, f, g, h, i, j, k) refl

-- ---- Nothing heard

zero_run : (f : ℕ → ℕ) → ((i : ℕ) → f i ≡ 0) → tab f most ≡ none
unfolding none
zero_run f z = sym (tab_places f none most (length-replicate {A = ℕ} most 0) (λ i l. zero_at most i ∙ sym (z i)))

none_at : (i : ℕ) → get_or none i 0 ≡ 0
unfolding none
none_at i = zero_at most i

-- no record leaves nothing
pub seen_none : (T J : List ℕ) → seen_after [] T J began none none ≡ seen began none none
unfolding followed met_in
seen_none T J = refl

module _ (R T J : List ℕ) where
  left_none : left_after [] (before none none) ≡ none
  unfolding left_after events records up events_in Log.left
  left_none = zero_run _ none_at

  since_none : since_after [] (before none none) ≡ none
  unfolding since_after events records up events_in Log.since
  since_none = zero_run _ none_at

  answers_none : answers_after [] none ≡ none
  unfolding answers_after events records up events_in Log.answered
  answers_none = zero_run (λ i. (get_or none i 0 + 0) % 2 ^ 64) (λ i. omega (arith, none_at i))

  largest_none : largest_after [] (before none none) none ≡ none
  unfolding largest_after events records up events_in Log.largest
  largest_none = zero_run (λ i. max (get_or none i 0) 0) (λ i. omega (arith, none_at i))

  above_none : above_after [] (before none none) R none ≡ none
  unfolding above_after events records up events_in Log.above
  above_none = zero_run (λ i. (get_or none i 0 + 0) % 2 ^ 64) (λ i. omega (arith, none_at i))

  pub after_none : after [] R T J began unheard ≡ unheard
  after_none = tally_same left_none since_none answers_none largest_none above_none (ap (λ (x : Seen). x.asked) (seen_none T J)) (ap (λ (x : Seen). x.lead) (seen_none T J))

-- ---- One piece more

-- c is taken for n streams, and p comes behind it
module _ (c p : List ℕ) (n : ℕ) (few : n ≤ most) (passes : heard c n fresh ≡ Passed) (R T J : List ℕ) where
  abbrev k : Tally
  k = after c R T J began unheard

  abbrev w : Watch
  w = (seen_after c T J began none none).watch

  whole : length c ≡ size * (length c / size)
  whole = passed_whole c n passes

  all : answer_to c n (before none none) ≡ Ok tt
  unfolding none
  all = whole_taken c n few passes

  -- the answer to the piece tells the verdict on both
  both : answer_to (c ++ p) n (before none none) ≡ behind (length c) (answer_to p n (waiting k))
  both = split_answer c p (length c / size) whole (before none none) n all

  pub joined_passes : answer_to p n (waiting k) ≡ Ok tt → heard (c ++ p) n fresh ≡ Passed
  unfolding none
  joined_passes e = whole_passed (c ++ p) n few (both ∙ ap (behind (length c)) e)

  pub joined_refused : (r q : ℕ) → answer_to p n (waiting k) ≡ Err (refusal r q) → heard (c ++ p) n fresh ≡ Refused r (length c + q)
  unfolding none
  joined_refused r q e = whole_refused (c ++ p) n few r (length c + q) (both ∙ ap (behind (length c)) e)

  -- whatever comes behind a piece that ends with a record
  pub refused_behind : (r q m : ℕ) → length p ≡ size * m → answer_to p n (waiting k) ≡ Err (refusal r q) → (rest : List ℕ)
      → heard ((c ++ p) ++ rest) n fresh ≡ Refused r (length c + q)
  unfolding none
  refused_behind r q m ends e rest =
      let long : length (c ++ p) ≡ size * (length c / size + m) = omega (arith, length-append c p, whole) in
      whole_refused ((c ++ p) ++ rest) n few r (length c + q)
      (split_refused (c ++ p) rest (length c / size + m) long (before none none) n r (length c + q) (both ∙ ap (behind (length c)) e))

  -- and the runs and the clock go on
  pub seen_joined : seen_after (c ++ p) T J began none none ≡ seen_after p T J w k.asked k.lead
  seen_joined = in_pieces c p (length c / size) whole T J (seen began none none)

  pub after_joined : after (c ++ p) R T J began unheard ≡ after p R T J w k
  after_joined =
      tally_same
      (split_left c p (length c / size) whole (before none none))
      (split_since c p (length c / size) whole (before none none))
      (split_answers c p (length c / size) whole (before none none) none)
      (split_largest c p (length c / size) whole (before none none) none)
      (split_above c p (length c / size) whole (before none none) R none)
      (ap (λ (x : Seen). x.asked) seen_joined)
      (ap (λ (x : Seen). x.lead) seen_joined)
