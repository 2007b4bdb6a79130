-- Page 02, 'Ask 4': what a path's cost promises. A request that is relayed over an accepted path has its reply within the cost, and so within D;
-- where each segment is of edition 1 and its masters are even, some exchange takes exactly the cost, so no lower figure would be true. `crossed` is what a path is
-- answered, and `Exchange P a b` a request that is relayed over it and its reply: specs/Relayed says what is assumed of the gateways.
-- Assumes nothing.
use Prim.Native.Nat.{ℕ, zero, suc, ◌+◌, ◌-◌, ◌*◌, ◌^◌, ◌≤◌, ◌<◌}
use mathlib.Core.Path.{◌≡◌, sym, ◌∙◌, subst}
use mathlib.Core.List.{List}
use native.Mathlib.Nat.{le_refl}
use native.Mathlib.Omega.{arith}
use borrow.Author.Tests.{leb-false, eqb-true, not-false}
use lib.Dec.{ltb}
use lib.ListN.{length}
use Rattle.common.proofs.Checks.{Clear, none, and}
use Rattle.sheet_rules.specs.Sheets.{Sheet, bus_in}
use Rattle.sheet_rules.specs.Whole.{Outcome, reading}
use Rattle.sheet_rules.specs.Whole.Outcome.{Read}
use Rattle.pnet_rules.specs.Segment.{Segment, segment_of}
use Rattle.pnet_plan.specs.Planned.{first_late, segment_checks}
use Rattle.pnet_plan.proofs.Refusals.{all_pass}
use Rattle.pnet_run.specs.Run.{answer}
use Rattle.pnet_run.specs.Promise.{Safe, Reached, Accepted, Even}
use Rattle.pnet_run.proofs.Demand.{each_request_is_answered_within_the_bound, some_run_takes_exactly_the_bound}
use Rattle.units.specs.Units.{bp}
use Rattle.pnet_sender.specs.Sender.{sound}
use Rattle.pnet_bounds.proofs.Bounded.{bounded_passes}
use Rattle.pnet_crossing.specs.Cost.{segment_step, gateway_step, cost_over}
use Rattle.pnet_path.specs.Path.{Path, gateways, sheet_at, bound_from, bound_at, sender_at, forwarding_at, crossed}
use Rattle.pnet_path.specs.Refusals.{Present, Sender, Accepted as AcceptedPath}
use Rattle.pnet_path.proofs.Refusals.{accepted_exactly}
use Rattle.pnet_path.specs.Ways.{answer_of, way_over}
use Rattle.pnet_path.proofs.Whole.{path_handed_over}
use Rattle.demands.specs.Relayed.{Sent, Forwarded, sent, arrived, through, Asked, Awaited, asked, no_further, sent_on, segment_from, segment_at, Exchange, OnItsWay}
use Rattle.demands.proofs.Demand3.{accepted_on_bus}
use Rattle.std.specs.declared.result.Result.TheVariants.{Ok}

-- ---- Any segments S with their senders k, gateways with their forwarding times F, and a figure R for each segment

module _ (S : ℕ → Segment) (k F R : ℕ → ℕ) where
  -- of segments 1..n, each answers its sender's requests within R
  module _ (n : ℕ) (safe : (i : ℕ) → 1 ≤ i → i ≤ n → Safe (bp (R i)) (S i) (k i)) where
    -- The segment's step and the gateway's call for each other, with the hops left falling; the hops end at segment n at the latest.
    mutual
      unfolding segment_step gateway_step

      pub sent_within : (left i : ℕ) → 1 ≤ i → 2 * i + left ≤ 2 * n + 1 → {a b : ℕ} → Sent S k F left i a b → b ≤ a + segment_step R F left i
      sent_within zero i from to never = elim never [ ]
      sent_within (suc left) i from to (sent {u = u} {r = r} began run spaced own answered rest) =
          omega (arith, ((safe i from (omega arith)).ever run spaced).in_time (answer r u) answered own, forwarded_within left i from (omega arith) rest)

      pub forwarded_within : (left i : ℕ) → 1 ≤ i → 2 * i + left ≤ 2 * n → {a b : ℕ} → Forwarded S k F left i a b → b ≤ a + gateway_step R F left i
      forwarded_within zero i from to arrived = omega arith
      forwarded_within (suc left) i from to (through soon rest back) = omega (arith, sent_within left (i + 1) (omega arith) (omega arith) rest)

    -- a request that is under way in runs that last gets its reply
    mutual
      pub asked_answered : (left i : ℕ) → 1 ≤ i → 2 * i + left ≤ 2 * n + 1 → {a : ℕ} → Asked S k F R left i a → (b : ℕ) × Sent S k F left i a b
      asked_answered zero i from to never = elim never [ ]
      asked_answered (suc left) i from to (asked {r = r} began run spaced own came lasts behind) =
          let x = ((safe i from (omega arith)).ever run spaced).none_left r came own lasts in
          let y = awaited_answered left i from (omega arith) (behind x.0 x.1) in
          (y.0, sent began run spaced own x.1 y.1)

      pub awaited_answered : (left i : ℕ) → 1 ≤ i → 2 * i + left ≤ 2 * n → {a : ℕ} → Awaited S k F R left i a → (b : ℕ) × Forwarded S k F left i a b
      awaited_answered zero i from to {a} no_further = (a, arrived)
      awaited_answered (suc left) i from to (sent_on soon rest) =
          let x = asked_answered left (i + 1) (omega arith) (omega arith) rest in
          (x.0, through {b = x.0} soon x.1 (omega arith))

  -- a run that takes R, begun so that its slow request comes at the instant a: the request is answered at c
  sent_exactly : {left b : ℕ} (i a c : ℕ) (x : Reached (bp (R i)) (S i) (k i)) → x.slow.since ≤ a → c ≡ a + R i → Forwarded S k F left i c b
      → Sent S k F (suc left) i a b
  sent_exactly {left} {b} i a c x late it rest =
      let began = a - x.slow.since in
      let e : began + x.slow.since ≡ a = omega arith in
      let f : c ≡ began + (x.slow.since + R i) = omega arith in
      subst (λ (z : ℕ). Sent S k F (suc left) i z b) e
      (sent began x.run (x.spaced (k i)) x.own x.exact (subst (λ (z : ℕ). Forwarded S k F left i z b) f rest))

  -- of segments 1..n, each has a run that takes R
  module _ (n : ℕ) (reached : (i : ℕ) → 1 ≤ i → i ≤ n → Reached (bp (R i)) (S i) (k i)) where
    -- over g gateways behind segment i, each taking all of its time both ways: at any instant that leaves time for the runs to begin
    sent_over : (g i : ℕ) → 1 ≤ i → i + g ≤ n → (m : ℕ) × ((a : ℕ) → m ≤ a → Sent S k F (2 * g + 1) i a (a + segment_step R F (2 * g + 1) i))
    unfolding segment_step gateway_step
    sent_over zero i from to =
        let x = reached i from (omega arith) in
        (x.slow.since, λ a late. sent_exactly i a _ x late (omega arith) arrived)
    sent_over (suc g) i from to =
        let x = reached i from (omega arith) in
        let rest = sent_over g (i + 1) (omega arith) (omega arith) in
        let hops : suc (suc (2 * g + 1)) ≡ 2 * suc g + 1 = omega arith in (
          x.slow.since + rest.0,
          λ a late. subst (λ (h : ℕ). Sent S k F h i a (a + segment_step R F h i)) hops
              (sent_exactly i a (a + R i) x (omega arith) (omega arith)
              (through {i = i} {a = a + R i} (omega arith) (rest.1 (a + R i + F i) (omega arith)) (omega arith))),
        )

  -- So over g gateways: each exchange is within the cost,
  pub each_is_within_the_cost : (g : ℕ) → ((i : ℕ) → 1 ≤ i → i ≤ g + 1 → Safe (bp (R i)) (S i) (k i)) → {a b : ℕ} → Sent S k F (2 * g + 1) 1 a b
      → b ≤ a + cost_over R F g
  unfolding cost_over
  each_is_within_the_cost g safe x = sent_within (g + 1) safe (2 * g + 1) 1 (omega arith) (omega arith) x

  -- one that is asked for in runs that last comes to its end,
  pub each_is_answered : (g : ℕ) → ((i : ℕ) → 1 ≤ i → i ≤ g + 1 → Safe (bp (R i)) (S i) (k i)) → {a : ℕ} → Asked S k F R (2 * g + 1) 1 a
      → (b : ℕ) × Sent S k F (2 * g + 1) 1 a b
  each_is_answered g safe x = asked_answered (g + 1) safe (2 * g + 1) 1 (omega arith) (omega arith) x

  -- and from some instant m on, one that begins at any instant a takes all of it.
  pub some_take_the_cost : (g : ℕ) → ((i : ℕ) → 1 ≤ i → i ≤ g + 1 → Reached (bp (R i)) (S i) (k i))
      → (m : ℕ) × ((a : ℕ) → m ≤ a → Sent S k F (2 * g + 1) 1 a (a + cost_over R F g))
  unfolding cost_over
  some_take_the_cost g reached = sent_over (g + 1) reached g 1 (omega arith) (omega arith)

-- ---- The sheet of a segment

sound_is_accepted : (s : List ℕ) (H : Sheet) → sound s ≡ Read H → Accepted (segment_of H)
unfolding segment_of
sound_is_accepted s H e = let p = bounded_passes s 800 H e in by p.0 p.1
  where
    by : reading s ≡ Read H → Clear (segment_checks H (ltb 800 (length H.streams)) (length H.streams)) → Accepted (segment_of H)
    by reads (and kind (and room (and late none))) =
        accepted_on_bus s H (record { reads = reads; pnet = eqb-true (bus_in H) 1 (not-false _ kind) })
        (all_pass (segment_of H) (leb-false (first_late (segment_of H)) (length H.streams) late))

-- a sheet that is accepted, and the master k that sends
module _ (o : Outcome) (k : ℕ) (H : Sheet) (is : o ≡ Read H) (accepted : Accepted (segment_of H)) where
  safe_from : Safe (bp (bound_from o k)) (segment_from o) k
  safe_from = rw is (record { ever = each_request_is_answered_within_the_bound H accepted k })

  reached_from : Present (segment_of H) k → Even (segment_from o) k → Reached (bp (bound_from o k)) (segment_from o) k
  reached_from present even = rw is (some_run_takes_exactly_the_bound H accepted.declared k present.streams (rw is at even))

-- ---- An accepted path

-- what the code answers for P, handed over segment by segment, is what is said of P below
pub answered_as_crossed : (P : Path) (c : ℕ) → P.segments < 2 ^ 64 → answer_of (way_over P P.segments) P.deadline ≡ Ok (bp c)
    → crossed P ≡ Ok (bp c)
answered_as_crossed P c few e = sym (path_handed_over P few) ∙ e

-- P is accepted at the cost c
module _ (P : Path) (c : ℕ) (accepts : crossed P ≡ Ok (bp c)) where
  passed : AcceptedPath P c
  passed = (accepted_exactly P c).0 accepts

  module _ (i : ℕ) (from : 1 ≤ i) (to : i ≤ gateways P + 1) where
    sender : Sender Present P i
    sender = passed.senders i from (omega (arith, passed.few.least))

    accepted : Accepted (segment_of sender.sheet)
    unfolding sheet_at
    accepted = sound_is_accepted (P.hop i).sheet sender.sheet sender.reads

    safe : Safe (bp (bound_at P i)) (segment_at P i) (sender_at P i)
    unfolding bound_at segment_at sender_at
    safe = safe_from (sheet_at P i) (P.hop i).sender sender.sheet sender.reads accepted

    reached : Even (segment_at P i) (sender_at P i) → Reached (bp (bound_at P i)) (segment_at P i) (sender_at P i)
    unfolding bound_at segment_at sender_at
    reached even = reached_from (sheet_at P i) (P.hop i).sender sender.sheet sender.reads accepted sender.is even

  -- the reply is there within the cost
  pub the_reply_is_there_within_the_cost : {a b : ℕ} → Exchange P a b → b ≤ a + c
  the_reply_is_there_within_the_cost x =
      omega (arith, passed.cost, each_is_within_the_cost (segment_at P) (sender_at P) (forwarding_at P) (bound_at P) (gateways P) safe x)

  -- which is at most D,
  pub the_cost_is_within_the_deadline : c ≤ P.deadline
  the_cost_is_within_the_deadline = passed.in_time

  -- so it is there within D
  pub the_reply_is_there_within_the_deadline : {a b : ℕ} → Exchange P a b → b ≤ a + P.deadline
  the_reply_is_there_within_the_deadline x = omega (arith, the_reply_is_there_within_the_cost x, the_cost_is_within_the_deadline)

  -- and where the runs last, it comes: 'each request is answered within its bound' of demand 3, over the whole path
  pub the_reply_comes_within_the_cost : {a : ℕ} → OnItsWay P a → (b : ℕ) × (Exchange P a b × (b ≤ a + c))
  the_reply_comes_within_the_cost x =
      let r = each_is_answered (segment_at P) (sender_at P) (forwarding_at P) (bound_at P) (gateways P) safe x in
      (r.0, (r.1, the_reply_is_there_within_the_cost r.1))

  -- Each segment is of edition 1, every master's own streams are equally long there, and every master but the sender is silent or has at least as many
  -- streams.
  module _ (even : (i : ℕ) → 1 ≤ i → i ≤ P.segments → Even (segment_at P i) (sender_at P i)) where
    -- from some instant m on, an exchange that begins at any instant a takes exactly the cost
    pub some_exchange_takes_exactly_the_cost : (m : ℕ) × ((a : ℕ) → m ≤ a → Exchange P a (a + c))
    some_exchange_takes_exactly_the_cost =
        rw passed.cost
        (some_take_the_cost (segment_at P) (sender_at P) (forwarding_at P) (bound_at P) (gateways P)
        (λ i from to. reached i from to (even i from (omega (arith, passed.few.least)))))

    -- a figure within which every reply is there is at least the cost
    pub no_lower_cost_would_be_true : (figure : ℕ) → ((a b : ℕ) → Exchange P a b → b ≤ a + figure) → c ≤ figure
    no_lower_cost_would_be_true figure within_it =
        let x = some_exchange_takes_exactly_the_cost in
        omega (arith, within_it x.0 (x.0 + c) (x.1 x.0 (le_refl x.0)))
