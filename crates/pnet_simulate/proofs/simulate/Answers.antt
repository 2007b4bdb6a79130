-- `pnet_simulate::simulate` meets its contract.
use Prim.Native.Nat.{ℕ}
use mathlib.Core.Path.{◌≡◌, sym, ap, ◌∙◌, subst}
use mathlib.Core.Bool.{true, false}
use native.Mathlib.Omega.{arith}
use lib.ListN.{length}
use Rattle.pnet_simulate.specs.Simulated.{Bus, bus_of, visited_times, sound}
use Rattle.pnet_simulate.specs.Told.{segment_by, Told}
use Rattle.pnet_simulate.proofs.Sound.{sound_then}
use Rattle.pnet_simulate.proofs.Visits.{begun_is, simulated_is, simulated_none}
use Rattle.pnet_simulate.proofs.Runs.{simulated_told}
use Rattle.pnet_simulate.proofs.simulate.Goals as goal
use Rattle.pnet_simulate.proofs.simulate.Goals.{Else-not-is_sound}

pub returns-then-not-is_sound : goal.returns-then-not-is_sound
returns-then-not-is_sound c =
    let s = c.is_sound in
    let no = sym s.ensures ∙ c.if-not-is_sound.true in
    record { answered_after = simulated_none _ _ _ _ _ _ no; runs = λ e. absurd (never (sym no ∙ e)) }
  where
    never : false ≡ true → ⊥
    never z = let y : ◌≡◌ {A = ℕ} 0 1 = cc in omega arith

-- past the test
passed : (c : Else-not-is_sound) → sound c.args.n c.args.owner.now c.args.cycle.now c.args.k (length c.args.answered.now) ≡ true
passed c = let s = c.is_sound in sym s.ensures ∙ c.if-not-is_sound.false

pub clear-requires : goal.clear-requires
clear-requires c = (sound_then _ _ _ _ _ (passed (goal.at.clear-requires c).Else-not-is_sound)).places

pub behind-requires : goal.behind-requires
behind-requires c = let s = sound_then _ _ _ _ _ (passed (goal.at.behind-requires c).Else-not-is_sound) in (omega arith, s.k_to)

pub go_on-requires : goal.go_on-requires
go_on-requires c =
    let s = sound_then _ _ _ _ _ (passed (goal.at.go_on-requires c).Else-not-is_sound) in
    (omega arith, c.behind.ensures.1, omega arith, s.cycles, omega (arith, s.places, c.clear.auto.answered))

pub returns : goal.returns
returns c =
    let a = c.args in
    let g = c.go_on in
    let p = passed (goal.at.returns c).Else-not-is_sound in
    let first = begun_is a.n a.owner.now a.cycle.now a.k a.visits a.answered.now _ _ c.behind.ensures.0 c.clear.ensures in
    let r = simulated_is a.n a.owner.now a.cycle.now a.k a.visits a.answered.now (bus_of g.result g.new.answered) p
    (g.ensures ∙ ap (λ (b : Bus). visited_times a.n a.owner.now a.cycle.now b a.visits) first) in
    record {
      answered_after = r;
      runs = λ e. subst (Told (segment_by a.n a.owner.now a.cycle.now)) (sym r) (simulated_told a.n a.owner.now a.cycle.now a.k a.visits a.answered.now e);
    }
