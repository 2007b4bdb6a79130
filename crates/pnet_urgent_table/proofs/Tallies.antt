-- One stream on its way through the block behind slot a, from release to release. Assumes nothing.
use mathlib.Core.Path.{◌≡◌, refl, sym, ap, ◌∙◌}
use mathlib.Core.List.{List}
use Prim.Native.Nat.{ℕ, ◌+◌, ◌-◌, ◌*◌, ◌/◌, ◌≤◌, ◌<◌}
use native.Mathlib.Decide.{ℕ_discrete, dec_le}
use native.Mathlib.Omega.{arith}
use lib.ListN.{length, set, length-set}
use lib.Seq.{get_or-set_same, get_or-set_other}
use Rattle.pnet_turn.specs.Turn.{at}
use Rattle.pnet_urgent_table.specs.Table.{beyond_once}
use Rattle.pnet_urgent_table.specs.Tally.{Asking, Tallied}
use Rattle.pnet_urgent_table.proofs.Releases.{level, slots_few, further, between, asks_again}

-- with the jitter J: the stream is counted at each slot in front of `next`
pub record Counting (V' T J a : ℕ) (old : List ℕ) (next rest : ℕ) (table : List ℕ) : Type 0 where
  pub asks : V' * next + rest + J ≡ (beyond_once V' T J next + 1) * T
  pub counted : (t : ℕ) → t < 512 → a + t < next → at table t + beyond_once V' T J (a + t) ≡ at old t + beyond_once V' T J (a + t + 1)
  pub still : (n : ℕ) → a + 512 ≤ n → n ≤ next → beyond_once V' T J n ≡ beyond_once V' T J next

counting_none : {V' T J a next rest : ℕ} (old : List ℕ) → Asking V' T J a next rest → Counting V' T J a old next rest old
counting_none {V'} {T} {J} {a} {next} old on =
    record {
      asks = on.asks;
      counted = λ t l h. omega (arith, level V' T J a (a + t) next (omega arith) (omega arith) on.still, level V' T J a (a + t + 1) next (omega arith) (omega arith) on.still);
      still = λ n l h. level V' T J a n next (omega arith) h on.still;
    }

-- whatever the jitter: what a turn of the loop keeps; from slot `next` on the table is as it was
pub record Tallying (V' T a : ℕ) (old : List ℕ) (first first_rest next rest : ℕ) (table : List ℕ) : Type 0 where
  pub from : a ≤ next
  pub to : next ≤ a + 512 + 20833333
  pub rest_to : rest < V'
  pub long : length table ≡ 512
  pub ahead : (t : ℕ) → next ≤ a + t → at table t ≡ at old t
  pub each : (J : ℕ) → Asking V' T J a first first_rest → Counting V' T J a old next rest table

pub tallying_none : {V' a next rest : ℕ} (T : ℕ) (old : List ℕ) → a ≤ next → next ≤ a + 20833333 → rest < V' → length old ≡ 512 → Tallying V' T a old next rest next rest old
tallying_none T old from to rest_to long =
    record { from = from; to = omega arith; rest_to = rest_to; long = long; ahead = λ t h. refl; each = λ J on. counting_none old on }

-- the stream asks once more at `next`, and then at slot q with the rest f
module _ {V' T a first first_rest next rest : ℕ} {old table : List ℕ} (on : Tallying V' T a old first first_rest next rest table) (slow : V' < T) (within : next < a + 512)
    (q f : ℕ) (small : f < V') (step : V' * q + f ≡ V' * next + rest + T) where
  -- one more at its place
  more : List ℕ
  more = set table (next - a) (at table (next - a) + 1)

  on_to : next < q
  on_to = further V' T next rest q f slow step small

  -- another place stays
  other : (t : ℕ) → (t ≡ next - a → ⊥) → at more t ≡ at table t
  unfolding more
  other t d = get_or-set_other table (next - a) t (at table (next - a) + 1) 0 d

  here : at more (next - a) ≡ at table (next - a) + 1
  unfolding more
  here = get_or-set_same table (next - a) (at table (next - a) + 1) 0 (omega (arith, on.long))

  counting_more : (J : ℕ) → Counting V' T J a old next rest table → Counting V' T J a old q f more
  counting_more J was =
      record {
        asks = asks_again V' T next rest q f slow step J on.rest_to was.asks on_to;
        counted = λ t l h. by t l h (ℕ_discrete t (next - a)) (dec_le (a + t) next);
        still = λ n l h. omega (arith, up_to n (omega arith) h, up_to q on_to (omega arith));
      }
    where
      up_to : (n : ℕ) → next < n → n ≤ q → beyond_once V' T J n ≡ beyond_once V' T J next + 1
      up_to = between V' T next rest q f slow step J on.rest_to was.asks

      by : (t : ℕ) → t < 512 → a + t < q → Dec (t ≡ next - a) → Dec (a + t ≤ next) → at more t + beyond_once V' T J (a + t) ≡ at old t + beyond_once V' T J (a + t + 1)
      by t l h (yes e) d =
          let p : a + t ≡ next = omega (arith, on.from) in
          omega (arith, ap (at more) e, ap (at table) e, here, ap (beyond_once V' T J) p, up_to (a + t + 1) (omega arith) (omega arith), on.ahead t (omega arith))
      by t l h (no e) (yes d) = omega (arith, other t e, was.counted t l (omega (arith, e, on.from)))
      by t l h (no e) (no d) =
          omega (arith, other t e, on.ahead t (omega (arith, d)), up_to (a + t) (omega (arith, d)) (omega arith), up_to (a + t + 1) (omega (arith, d)) (omega arith))

  pub tallying_more : 48 ≤ V' → T ≤ 1000000000 → q ≤ next + T / V' + 1 → Tallying V' T a old first first_rest q f (set table (next - a) (at table (next - a) + 1))
  unfolding more
  tallying_more long most near =
      record {
        from = omega (arith, on_to, on.from);
        to = omega (arith, slots_few V' T long most);
        rest_to = small;
        long = length-set table (next - a) (at table (next - a) + 1) ∙ on.long;
        ahead = λ t h. other t (λ e. omega (arith, on_to, on.from)) ∙ on.ahead t (omega (arith, on_to));
        each = λ J asking. counting_more J (on.each J asking);
      }

-- the block is passed
module _ {V' T a first first_rest next rest : ℕ} {old table : List ℕ} (on : Tallying V' T a old first first_rest next rest table) (past : a + 512 ≤ next)
    (J : ℕ) (asking : Asking V' T J a first first_rest) where
  pub tallied_asking : Asking V' T J (a + 512) next rest
  tallied_asking =
      record {
        from = past;
        to = on.to;
        rest_to = on.rest_to;
        asks = (on.each J asking).asks;
        still = sym ((on.each J asking).still (a + 512) (omega arith) past);
      }

  pub tallied : Tallied V' T J a old table
  tallied t l = (on.each J asking).counted t l (omega arith)
