-- One master's streams as the search takes them, and what it finds of them. Assumes nothing.
use mathlib.Core.Path.{◌≡◌, sym, ap, ◌∙◌, subst}
use mathlib.Core.List.{List}
use Prim.Native.Nat.{ℕ, ◌+◌, ◌*◌, ◌/◌, ◌≤◌, ◌<◌}
use native.Mathlib.Nat.{mul-zero, mul_comm, le-div_iff_mul-le}
use native.Mathlib.Omega.{arith}
use lib.ListN.{length, take, length-take}
use lib.Seq.{get_or-take}
use Rattle.pnet_turn.specs.Turn.{at}
use Rattle.pnet_urgent_search.specs.Walks.{slots_for, Urgency, Found}
use Rattle.pnet_urgent_search.specs.Walks.Found.{solved, none}
use Rattle.pnet_urgent.specs.Masters.{Gathered, Ranged, Searched}

-- the first n of a run that has so many
pub front_long : (n : ℕ) (l : List ℕ) → n ≤ length l → length (take n l) ≡ n
front_long n l h = rw length-take (omega arith)

pub front_fits : (n room : ℕ) (l : List ℕ) → n ≤ length l → n ≤ room → length (take n l) ≤ room
front_fits n room l h fits = omega (arith, front_long n l h)

module _ {keys spacings jitters : List ℕ} {start n V' : ℕ} (k : Ranged keys spacings jitters start n V') where
  -- a D fits into 32 bits
  pub keys_small : (r : ℕ) → r < n → at keys (start + r) < 1024 * 1000000001
  keys_small r l = omega (arith, k.deadline_to r l, k.spacing_to r l)

  module _ {ts js ds : List ℕ} (g : Gathered keys spacings jitters start n ts js ds) (few : n ≤ 80) (long-t : n ≤ length ts) (long-j : n ≤ length js) (long-d : n ≤ length ds) where
    front : Gathered keys spacings jitters start n (take n ts) (take n js) (take n ds)
    front =
        record {
          spacings_are = λ r l. get_or-take n ts r 0 l ∙ g.spacings_are r l;
          jitters_are = λ r l. get_or-take n js r 0 l ∙ g.jitters_are r l;
          deadlines_are = λ r l. get_or-take n ds r 0 l ∙ g.deadlines_are r l;
        }

    urgency_of : Urgency V' (take n ts) (take n js) (take n ds) n
    urgency_of =
        let t = front.spacings_are in
        let j = front.jitters_are in
        let d = front.deadlines_are in
        record {
          turn_from = k.turn_from;
          turn_to = k.turn_to;
          few = few;
          spacings = front_long n ts long-t;
          jitters = front_long n js long-j;
          deadlines = front_long n ds long-d;
          spacing_from = λ r l. omega (arith, t r l, k.spacing_from r l);
          spacing_to = λ r l. omega (arith, t r l, k.spacing_to r l);
          jitter_to = λ r l. omega (arith, t r l, j r l, k.jitter_to r l);
          deadline_from = λ r l. omega (arith, d r l, k.deadline_from r l);
          deadline_to = λ r l. omega (arith, t r l, j r l, d r l, k.deadline_to r l);
          sorted = λ q r l h. omega (arith, d q (omega arith), d r h, k.sorted q r l h);
        }

    pub urgency : Urgency V' (take n ts) (take n js) (take n ds) (length (take n ts))
    urgency = subst (λ (L : ℕ). Urgency V' (take n ts) (take n js) (take n ds) L) (sym (front_long n ts long-t)) urgency_of

    pub searched : (slots turns : List ℕ)
        → ((i : ℕ) → i < length (take n ts) → Found (slots_for V' (take n ts) (take n js) (length (take n ts)) i) (at (take n ds) i / V') (at slots i) (at turns i))
        → Searched keys spacings jitters start n V' slots turns
    searched slots turns f =
        record {
          Ts = take n ts;
          Js = take n js;
          Ds = take n ds;
          gathered = front;
          found = λ r l.
              subst (λ (L : ℕ). Found (slots_for V' (take n ts) (take n js) L r) (at (take n ds) r / V') (at slots r) (at turns r)) (front_long n ts long-t)
              (f r (omega (arith, front_long n ts long-t)));
        }

  -- what is found in time is no longer than a D
  pub slots_small : {slots turns : List ℕ} → Searched keys spacings jitters start n V' slots turns → (r : ℕ) → r < n → V' * at slots r ≤ 1000000000
  slots_small {slots} {turns} s r l = by (at slots r) (at turns r) (s.found r l)
    where
      by : (x m : ℕ) → Found (slots_for V' s.Ts s.Js n r) (at s.Ds r / V') x m → V' * x ≤ 1000000000
      by x m (solved some most is settles) =
          let v : 0 < V' = omega (arith, k.turn_from) in
          omega (arith, (le-div_iff_mul-le {k = V'} {x = x} {y = at s.Ds r} v).0 most, mul_comm x V', s.gathered.deadlines_are r l, k.deadline_to r l, k.spacing_to r l)
      by x m (none e above) = omega (arith, ap (λ (z : ℕ). V' * z) e ∙ mul-zero V')
