-- Page 02, 'Ask 1': a capture that is taken piece by piece is taken as it would be in one piece, where each piece but the last ends with
-- a record: its refusal has the same number and place, and where all is taken the runs hold the same. The words are those of the contract
-- of `take`. Assumes nothing.
use Rattle.std.proofs.Common.{◌≡◌, ℕ, ◌+◌, ◌*◌, ◌%◌, ◌^◌, ◌<◌, min, max, List, ◌++◌, length, get_or, ap, ◌∙◌, arith}
use Rattle.common.specs.Sums.{up}
use Rattle.capture_log.specs.Log as Log
use Rattle.capture_log.specs.Log.{Before}
use Rattle.capture_log.specs.Records.{size, records, events, taken, heard}
use Rattle.capture_log.proofs.Joined.{left_joined, since_joined, answered_joined, largest_joined, above_joined}
use Rattle.capture_log.proofs.Heard.{stops, heard_front}
use Rattle.capture_tally.specs.Pieces.{most, before, behind, answer_to, left_after, since_after, answers_after, largest_after, above_after}
use Rattle.capture_tally.proofs.Seam.{taken_later, refused_place, leaves, both_heard, by_place, goes_on}
use Rattle.common.proofs.Answered.{unless_refused}
use Rattle.std.specs.declared.result.Result.TheVariants.{Ok, Err}
use Rattle.common.specs.Checks.{Verdict, refusal, unless}

-- the place of a refusal lies in the piece
pub refused_inside : (p : List ℕ) (n : ℕ) (b : Before) (r q : ℕ) → answer_to p n b ≡ Err (refusal r q) → q < length p
unfolding answer_to records up
refused_inside p n b r q e =
    let s = stops p (min n most) b r q (unless_refused _ tt e) in
    let at = refused_place p (min n most) b (taken p (min n most) b) r q s.refusal in
    omega (arith, s.inside)

-- a first piece c of m whole records, then a piece p
module _ (c p : List ℕ) (m : ℕ) (whole : length c ≡ size * m) (b : Before) where
  -- what the runs say behind the first, where it is taken
  abbrev b' : Before
  b' = before (left_after c b) (since_after c b)

  -- ---- The answer, for n streams

  -- the first is refused: so are the two as one
  pub split_refused : (n r q : ℕ) → answer_to c n b ≡ Err (refusal r q) → answer_to (c ++ p) n b ≡ Err (refusal r q)
  unfolding answer_to
  split_refused n r q e = ap (λ (v : Verdict). unless v tt) (heard_front c p m whole (min n most) b r q (unless_refused _ tt e))

  -- the first is taken
  pub split_answer : (n : ℕ) → answer_to c n b ≡ Ok tt → answer_to (c ++ p) n b ≡ behind (length c) (answer_to p n b')
  unfolding answer_to
  split_answer n all = ap (λ (v : Verdict). unless v tt) (both_heard c p m whole n b all) ∙ taken_later (length c) (heard p (min n most) b')

  -- ---- The runs, where both are taken

  pub split_left : left_after (c ++ p) b ≡ left_after p b'
  unfolding left_after
  split_left =
      by_place c p m whole (λ x i. Log.left b x (i + 1)) (λ i. Log.left b' (events p) (i + 1))
      (λ i l. left_joined (leaves c b) (i + 1) (omega arith) (omega arith) (events p))

  pub split_since : since_after (c ++ p) b ≡ since_after p b'
  unfolding since_after
  split_since =
      by_place c p m whole (λ x i. Log.since b x (i + 1)) (λ i. Log.since b' (events p) (i + 1))
      (λ i l. since_joined (leaves c b) (i + 1) (omega arith) (omega arith) (events p))

  pub split_answers : (answers : List ℕ) → answers_after (c ++ p) answers ≡ answers_after p (answers_after c answers)
  unfolding answers_after
  split_answers answers =
      goes_on c p m whole (λ a x. (a + x) % 2 ^ 64) (λ x i. Log.answered x (i + 1)) (λ i. Log.answered (events p) (i + 1)) answers
      (λ i l a. omega (arith, answered_joined (events c) (i + 1) (events p)))

  pub split_largest : (largest : List ℕ) → largest_after (c ++ p) b largest ≡ largest_after p b' (largest_after c b largest)
  unfolding largest_after
  split_largest largest =
      goes_on c p m whole max (λ x i. Log.largest b x (i + 1)) (λ i. Log.largest b' (events p) (i + 1)) largest
      (λ i l a. omega (arith, largest_joined (leaves c b) (i + 1) (omega arith) (omega arith) (events p)))

  pub split_above : (bound above : List ℕ) → above_after (c ++ p) b bound above ≡ above_after p b' bound (above_after c b bound above)
  unfolding above_after
  split_above bound above =
      goes_on c p m whole (λ a x. (a + x) % 2 ^ 64) (λ x i. Log.above b (get_or bound i 0) x (i + 1)) (λ i. Log.above b' (get_or bound i 0) (events p) (i + 1)) above
      (λ i l a. omega (arith, above_joined (leaves c b) (i + 1) (omega arith) (omega arith) (get_or bound i 0) (events p)))
