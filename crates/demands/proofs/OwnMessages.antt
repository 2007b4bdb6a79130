-- Page 02, Ask 8: 'Users with one slow drive dislike that M counts once per master'. From the bytes: a ring of kind 3 that has a TTR keeps one, no lower, where each
-- master is given its own longest message of at most M. Assumes nothing.
use Prim.Native.Nat.{ℕ, ◌+◌, ◌*◌, ◌≤◌}
use mathlib.Core.Path.{◌≡◌, sym, ap}
use mathlib.Core.List.{List}
use native.Mathlib.Omega.{arith}
use Rattle.units.specs.Units.{ring_bp}
use Rattle.sheet_record.specs.Kinds.{profibus}
use Rattle.sheet_rules.specs.Sheets.{Sheet, bus_in, masters_of, message_of}
use Rattle.sheet_rules.specs.Whole.{reading}
use Rattle.sheet_rules.specs.Whole.Outcome.{Read}
use Rattle.sheet_rules.proofs.Known.{reading_read}
use Rattle.profibus_rules.specs.Ring.{ring_of, messages, Shortened}
use Rattle.profibus_rules.specs.Target.{Limited, target, first_failing}
use Rattle.profibus_rules.proofs.Declared.{declared}
use Rattle.profibus_rules.proofs.Shorter.{shorter_accepted, never_lower, rises_by, shortened_ring}
use Rattle.profibus_plan.specs.declared.answer.Plan.{Plan}
use Rattle.profibus_plan.specs.Planned.{plan_of, Answers}
use Rattle.profibus_plan.specs.Planned.Answers.{another_bus, fails, limited}
use Rattle.profibus_plan.proofs.Answers.{plan_answers, plan_limited}
use Rattle.demands.proofs.Rewritten.{m_is_every_masters, the_sum_is_n_times_M}
use Rattle.std.specs.declared.result.Result.TheVariants.{Ok}
use Rattle.std.specs.declared.result.Result.{Result}
use Rattle.common.specs.declared.Refusal.{Refusal}

-- the ring of S, of kind 3, with a longest message of at most M for each master
pub record OwnMessages (S S' : Sheet) : Type 0 where
  pub with_M : S.head.kind ≡ 3
  pub a_ring : bus_in S' ≡ profibus
  pub masters : masters_of S' ≡ masters_of S
  pub latency : S'.head.b ≡ S.head.b
  pub messages : (y : ℕ) → 1 ≤ y → y ≤ masters_of S → message_of S' y ≤ S.head.c
  pub streams : S'.streams ≡ S.streams

-- the answer then: a TTR no lower, and higher by just what is left of n·M
pub record Raised (S S' : Sheet) (ttr : ℕ) : Type 0 where
  pub rotation : ℕ
  pub by : ℕ
  pub answer : plan_of (Read S') ≡ Ok (record { rotation = ring_bp rotation; stream = by })
  pub no_lower : ttr ≤ rotation
  pub exactly : rotation + messages (ring_of S') ≡ ttr + masters_of S * S.head.c

module _ (s s' : List ℕ) (S S' : Sheet) (was_read : reading s ≡ Read S) (is_read : reading s' ≡ Read S') (own : OwnMessages S S') where
  shortened : Shortened (ring_of S) (ring_of S')
  shortened =
      shortened_ring S S' own.masters own.latency (λ y lo hi. omega (arith, m_is_every_masters S own.with_M y, own.messages y lo hi)) own.streams

  pub own_messages_raise_TTR : (ttr i : ℕ) → plan_of (reading s) ≡ Ok (record { rotation = ring_bp ttr; stream = i }) → Raised S S' ttr
  own_messages_raise_TTR ttr i planned = split (plan_answers s S (reading_read s S was_read)) (rw was_read at planned)
    where
      raised : bus_in S ≡ profibus → Limited (ring_of S) ttr i → Raised S S' ttr
      raised bus a =
          let R' = ring_of S' in
          let d = declared s S (reading_read s S was_read) bus in
          let d' = declared s' S' (reading_read s' S' is_read) own.a_ring in
          let b = shorter_accepted shortened ttr i d' a in
          record {
            rotation = target R';
            by = first_failing R' (target R' + 1);
            answer = plan_limited S' own.a_ring d' (target R') (first_failing R' (target R' + 1)) b;
            no_lower = never_lower shortened ttr i (target R') (first_failing R' (target R' + 1)) a b;
            exactly =
                omega (arith, rises_by shortened ttr i (target R') (first_failing R' (target R' + 1)) d d' a b, the_sum_is_n_times_M S own.with_M);
          }

      split : {p : Result Plan Refusal} → Answers S p → p ≡ Ok (record { rotation = ring_bp ttr; stream = i }) → Raised S S' ttr
      split (another_bus other) e = let z : ◌≡◌ {A = ℕ} 0 1 = cc in absurd (omega arith)
      split (fails j bus f) e = let z : ◌≡◌ {A = ℕ} 0 1 = cc in absurd (omega arith)
      split (limited t j bus a) e =
          let same : ◌≡◌ {A = Plan} (record { rotation = ring_bp t; stream = j }) (record { rotation = ring_bp ttr; stream = i }) = cc in
          let q : t ≡ ttr = ap (λ (x : Plan). x.rotation.0) same in
          let k : j ≡ i = ap (λ (x : Plan). x.stream) same in
          raised bus (rw (sym q, sym k) a)
