-- Page 01, 'PROFIBUS rotation time', and page 02, Ask 8: a ring, h, and what a stream needs at a rotation target TTR. Page 01's n·M is the sum of the masters'
-- longest messages here: each has its own behind kind 9, and M behind kind 3. Assumes nothing.
use Rattle.std.specs.Prelude.{ℕ, ◌+◌, ◌-◌, ◌*◌, ◌≤◌, ◌≡◌, List, Bool, length, get_or, eqb, ltb}
use Rattle.common.specs.Sums.{when, upto}
use Rattle.sheet_record.specs.declared.Record.{Record}
use Rattle.sheet_record.specs.Kinds.{nothing}
use Rattle.sheet_rules.specs.Sheets.{Sheet, masters_of, message_of}

-- ---- A ring as a sheet declares it

-- a high-priority stream
pub record Stream : Type 0 where
  pub master : ℕ
  -- cycle C and deadline D, in bp of the ring
  pub cycle : ℕ
  pub deadline : ℕ

-- masters 1..masters, ring latency L, the longest message of each master, streams 1..number
pub record Ring : Type 0 where
  pub masters : ℕ
  pub latency : ℕ
  pub longest : ℕ → ℕ
  pub number : ℕ
  pub stream : ℕ → Stream

-- the fields of a high-priority stream
abbrev pub stream_of : Record → Stream
stream_of r = record { master = r.a; cycle = r.b; deadline = r.c }

-- stream i of a list of records, counted from 1
unfoldable pub stream_at : List Record → ℕ → Stream
stream_at rs i = stream_of (get_or rs (i - 1) nothing)

unfoldable pub ring_of : Sheet → Ring
unfolding stream_at
ring_of S =
    record {
      masters = masters_of S;
      latency = S.head.b;
      longest = message_of S;
      number = length S.streams;
      stream = stream_at S.streams;
    }

-- i is a stream of the ring
abbrev pub On : Ring → ℕ → Type 0
On R i = (1 ≤ i) × (i ≤ R.number)

-- ---- The figures

-- stream i is one of master k's
unfoldable pub owns : Ring → ℕ → ℕ → Bool
owns R k i = eqb (R.stream i).master k

-- h: how many streams master k has
unfoldable pub count : Ring → ℕ → ℕ
unfolding upto owns
count R k = upto (λ i. when (owns R k i) 1) R.number

-- the longest messages of masters 1..n together, of those without streams too; it stands for n·M
unfoldable pub messages : Ring → ℕ
unfolding upto
messages R = upto R.longest R.masters

-- TTR and these messages
unfoldable pub rotation : Ring → ℕ → ℕ
unfolding messages
rotation R ttr = ttr + messages R

-- h·(TTR + these messages) + C of stream i
unfoldable pub needed : Ring → ℕ → ℕ → ℕ
unfolding count rotation
needed R ttr i = count R (R.stream i).master * rotation R ttr + (R.stream i).cycle

-- stream i fails at TTR: it needs more than D
unfoldable pub fails : Ring → ℕ → ℕ → Bool
unfolding needed
fails R ttr i = ltb (R.stream i).deadline (needed R ttr i)

-- ---- What a sheet allows

pub record Declared (R : Ring) : Type 0 where
  pub masters_in : (1 ≤ R.masters) × (R.masters ≤ 32)
  pub latency_in : (1 ≤ R.latency) × (R.latency ≤ 100000)
  pub longest_in : (y : ℕ) → 1 ≤ y → y ≤ R.masters → (1 ≤ R.longest y) × (R.longest y ≤ 100000)
  pub number_in : (1 ≤ R.number) × (R.number ≤ 800)
  pub count_in : (k : ℕ) → count R k ≤ 80
  pub master_in : (i : ℕ) → On R i → (1 ≤ (R.stream i).master) × ((R.stream i).master ≤ R.masters)
  pub cycle_in : (i : ℕ) → On R i → (1 ≤ (R.stream i).cycle) × ((R.stream i).cycle ≤ R.longest (R.stream i).master)
  pub deadline_in : (i : ℕ) → On R i → (1 ≤ (R.stream i).deadline) × ((R.stream i).deadline ≤ 1000000000)

-- ---- One ring, said twice

-- R' has what R has: n, L, the longest message of each master, and the streams
pub record SameRings (R R' : Ring) : Type 0 where
  pub masters : R'.masters ≡ R.masters
  pub latency : R'.latency ≡ R.latency
  pub longest : (y : ℕ) → 1 ≤ y → y ≤ R.masters → R'.longest y ≡ R.longest y
  pub number : R'.number ≡ R.number
  pub stream : (i : ℕ) → R'.stream i ≡ R.stream i

-- ---- A ring with shorter messages

-- R' has the n, L and streams of R, and no master a longer message
pub record Shortened (R R' : Ring) : Type 0 where
  pub masters : R'.masters ≡ R.masters
  pub latency : R'.latency ≡ R.latency
  pub longest : (y : ℕ) → 1 ≤ y → y ≤ R.masters → R'.longest y ≤ R.longest y
  pub number : R'.number ≡ R.number
  pub stream : (i : ℕ) → R'.stream i ≡ R.stream i
