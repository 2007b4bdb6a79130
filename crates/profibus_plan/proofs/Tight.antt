-- The pass over a ring's streams: the longest rotation that all streams so far bear, and the first stream that bears no longer one.
-- A stream that fails at that rotation takes its place, or fails at L as the first. Assumes nothing.
use mathlib.Core.Path.{◌≡◌, refl}
use Prim.Native.Nat.{ℕ, ◌+◌, ◌-◌, ◌*◌, ◌/◌, ◌≤◌, ◌<◌}
use native.Mathlib.Nat.{le_refl, mul-le-mul, div-lt_iff_lt-mul, mul_comm}
use native.Mathlib.Decide.{ℕ_discrete}
use native.Mathlib.Omega.{arith}
use Rattle.profibus_rules.specs.Ring.{Ring, On, count, messages, rotation, needed, Declared}
use Rattle.profibus_rules.specs.Target.{FirstFails, Limited, bears}
use Rattle.profibus_rules.proofs.Rule.{passes_bears, counts_itself, bearing_passes, not_bearing_fails}

-- of streams 1..i: all bear the rotation `borne`, which the ring takes at L, and `at` is the first that bears no longer one
pub record Tight (R : Ring) (i borne at : ℕ) : Type 0 where
  pub enough : rotation R R.latency ≤ borne
  pub most : borne ≤ 1000000000
  pub begun : i ≡ 0 → borne ≡ 1000000000
  pub is : 1 ≤ i → (1 ≤ at) × (at ≤ i) × (bears R at ≡ borne)
  pub all : (j : ℕ) → 1 ≤ j → j ≤ i → borne ≤ bears R j
  pub before : (j : ℕ) → 1 ≤ j → j < at → borne < bears R j

pub tight_none : (R : Ring) → rotation R R.latency ≤ 1000000000 → Tight R 0 1000000000 0
tight_none R l =
    record {
      enough = l;
      most = le_refl 1000000000;
      begun = λ e. refl;
      is = λ p. absurd (omega arith);
      all = λ j lo hi. absurd (omega arith);
      before = λ j lo hi. absurd (omega arith);
    }

-- all of 1..i and i + 1
one_more : (P : ℕ → Type 0) (i : ℕ) → ((j : ℕ) → 1 ≤ j → j ≤ i → P j) → P (i + 1) → (j : ℕ) → 1 ≤ j → j ≤ i + 1 → P j
one_more P i f p j lo hi = last (ℕ_discrete j (i + 1))
  where
    last : Dec (j ≡ i + 1) → P j
    last (yes e) = rw e p
    last (no e) = f j lo (omega (arith, e))

-- behind such streams stands stream i + 1, one of h, with cycle c and deadline d
pub record Next (R : Ring) (i borne at h c d : ℕ) : Type 0 where
  pub tight : Tight R i borne at
  pub on : On R (i + 1)
  pub share : h ≡ count R (R.stream (i + 1)).master
  pub cycle : c ≡ (R.stream (i + 1)).cycle
  pub deadline : d ≡ (R.stream (i + 1)).deadline

module _ {R : Ring} {i borne at h c d : ℕ} (declared : Declared R) (next : Next R i borne at h c d) where
  pub some : 1 ≤ h
  some = omega (arith, next.share, counts_itself R declared (i + 1) next.on)

  bears_next : bears R (i + 1) ≡ (d - c) / h
  unfolding bears
  bears_next = rw (next.share, next.cycle, next.deadline)

  -- what it needs at a rotation of up to 1,000,000,000 takes 37 bits
  pub fits : (x : ℕ) → x ≤ 1000000000 → (h * x ≤ 80000000000) × (h * x + c ≤ 80000100000)
  fits x l =
      let k = (R.stream (i + 1)).master in
      let m = declared.master_in (i + 1) next.on in
      let p : h * x ≤ 80 * 1000000000 =
      mul-le-mul {n₁ = h} {m₁ = x} {n₂ = 80} {m₂ = 1000000000} (omega (arith, next.share, declared.count_in k)) l in
      omega (arith, next.cycle, declared.cycle_in (i + 1) next.on, declared.longest_in k m.0 m.1)

  -- it passes
  pub tight_kept : h * borne + c ≤ d → Tight R (i + 1) borne at
  tight_kept l =
      record {
        enough = next.tight.enough;
        most = next.tight.most;
        begun = λ e. absurd (omega arith);
        is = λ p. kept (ℕ_discrete i 0);
        all = one_more (λ j. borne ≤ bears R j) i next.tight.all (rw bears_next (passes_bears h borne c d some l));
        before = next.tight.before;
      }
    where
      kept : Dec (i ≡ 0) → (1 ≤ at) × (at ≤ i + 1) × (bears R at ≡ borne)
      kept (yes e) =
          let x : 1 * borne ≤ h * borne = mul-le-mul {n₁ = 1} {m₁ = borne} {n₂ = h} {m₂ = borne} some (le_refl borne) in
          absurd (omega (arith, next.tight.begun e, declared.cycle_in (i + 1) next.on, declared.deadline_in (i + 1) next.on))
      kept (no e) = let p = next.tight.is (omega (arith, e)) in (p.0, omega arith, p.2)

  -- it fails at the rotation so far, and passes at L
  pub tight_new : d < h * borne + c → h * rotation R R.latency + c ≤ d → Tight R (i + 1) ((d - c) / h) (i + 1)
  tight_new l p =
      let s : (d - c) / h < borne = (div-lt_iff_lt-mul some).1 (omega (arith, mul_comm h borne)) in
      record {
        enough = passes_bears h (rotation R R.latency) c d some p;
        most = omega (arith, next.tight.most);
        begun = λ e. absurd (omega arith);
        is = λ q. (omega arith, le_refl (i + 1), bears_next);
        all = one_more (λ j. (d - c) / h ≤ bears R j) i (λ j lo hi. omega (arith, next.tight.all j lo hi)) (omega (arith, bears_next));
        before = λ j lo hi. omega (arith, next.tight.all j lo (omega arith));
      }

  -- it fails at L, as the first
  pub tight_fails : d < h * rotation R R.latency + c → FirstFails R R.latency (i + 1)
  unfolding needed
  tight_fails l =
      record {
        there = next.on;
        fails = rw (← next.share, ← next.cycle, ← next.deadline) l;
        before = λ j lo hi. bearing_passes R declared j (lo, omega arith) R.latency (omega (arith, next.tight.enough, next.tight.all j lo (omega arith)));
      }

-- after the last stream
pub tight_limited : (R : Ring) → Declared R → (borne at : ℕ) → Tight R R.number borne at → Limited R (borne - messages R) at
unfolding rotation
tight_limited R declared borne at tight =
    let p = tight.is declared.number_in.0 in
    let on : On R at = (p.0, p.1) in
    let ttr = borne - messages R in
    record {
      at_least = omega (arith, tight.enough);
      passes = record { each = λ j v. bearing_passes R declared j v ttr (omega (arith, tight.enough, tight.all j v.0 v.1)) };
      by =
          record {
            there = on;
            fails = not_bearing_fails R declared at on (ttr + 1) (omega (arith, tight.enough, p.2));
            before = λ j lo hi. bearing_passes R declared j (lo, omega arith) (ttr + 1) (omega (arith, tight.enough, tight.before j lo hi));
          };
    }
