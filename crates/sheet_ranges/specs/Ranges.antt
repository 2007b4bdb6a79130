-- Page 01, 'Sheet records', and page 02, Asks 7, 8 and 10: the range of every field, kind by kind, in the order of the page's table. Assumes nothing.
use Rattle.std.specs.Prelude.{ℕ, ◌-◌, ◌≤◌, ◌≡◌}
use Rattle.sheet_record.specs.declared.Given.{Given}
use Rattle.sheet_record.specs.declared.Record.{Record}

-- x is in lo..hi
pub record Range (lo x hi : ℕ) : Type 0 where
  pub least : lo ≤ x
  pub most : x ≤ hi

-- ---- Kind by kind; a field that the kind does not have is 0

-- a record of a kind with one field
pub record OneField (r : Record) : Type 0 where
  pub no_b : r.b ≡ 0
  pub no_c : r.c ≡ 0
  pub no_d : r.d ≡ 0
  pub no_e : r.e ≡ 0

-- 1, P-NET segment: masters N, 1..32
pub record SegmentRanges (r : Record) : Type 0 where
  pub masters : Range 1 r.a 32
  pub one_field : OneField r

-- 2, P-NET stream: master 1..N, longest cycle C 1..1,548 bp, spacing T 1..1,000,000,000 bp, deadline D 1..T bp
pub record PnetStreamRanges (g : Given) (r : Record) : Type 0 where
  pub master : Range 1 r.a g.masters
  pub cycle : Range 1 r.b 1548
  pub spacing : Range 1 r.c 1000000000
  pub deadline : Range 1 r.d r.c
  pub no_e : r.e ≡ 0

-- 3, PROFIBUS ring: masters n 1..32, ring latency L 1..100,000 bp, longest message M 1..100,000 bp
pub record RingRanges (r : Record) : Type 0 where
  pub masters : Range 1 r.a 32
  pub latency : Range 1 r.b 100000
  pub message : Range 1 r.c 100000
  pub no_d : r.d ≡ 0
  pub no_e : r.e ≡ 0

-- 4, PROFIBUS high-priority stream: master 1..n, cycle C 1..M bp, deadline D 1..1,000,000,000 bp
pub record RingStreamRanges (g : Given) (r : Record) : Type 0 where
  pub master : Range 1 r.a g.masters
  pub cycle : Range 1 r.b g.message
  pub deadline : Range 1 r.c 1000000000
  pub no_d : r.d ≡ 0
  pub no_e : r.e ≡ 0

-- 5, WorldFIP: one buffer exchange E, 1..1,000,000 us
pub record ExchangeRanges (r : Record) : Type 0 where
  pub exchange : Range 1 r.a 1000000
  pub one_field : OneField r

-- 6, WorldFIP variable: identifier (2 bytes, any), period 1..1,000,000,000 us
pub record VariableRanges (r : Record) : Type 0 where
  pub identifier : Range 0 r.a 65535
  pub period : Range 1 r.b 1000000000
  pub no_c : r.c ≡ 0
  pub no_d : r.d ≡ 0
  pub no_e : r.e ≡ 0

-- 7, P-NET stream with release jitter: kind 2 with J 0..T-1 bp, and D at most T - J
pub record JitterStreamRanges (g : Given) (r : Record) : Type 0 where
  pub master : Range 1 r.a g.masters
  pub cycle : Range 1 r.b 1548
  pub spacing : Range 1 r.c 1000000000
  pub deadline : Range 1 r.d (r.c - r.e)
  pub jitter : Range 0 r.e (r.c - 1)

-- 8, edition of the P-NET rule: 1 or 2
pub record EditionRanges (r : Record) : Type 0 where
  pub edition : Range 1 r.a 2
  pub one_field : OneField r

-- 9, PROFIBUS ring whose masters each have their own longest message: masters n 1..32, ring latency L 1..100,000 bp
pub record OpenRingRanges (r : Record) : Type 0 where
  pub masters : Range 1 r.a 32
  pub latency : Range 1 r.b 100000
  pub no_c : r.c ≡ 0
  pub no_d : r.d ≡ 0
  pub no_e : r.e ≡ 0

-- 10, the longest message of one master: master 1..n, longest message 1..100,000 bp
pub record MessageRanges (g : Given) (r : Record) : Type 0 where
  pub master : Range 1 r.a g.masters
  pub message : Range 1 r.b 100000
  pub no_c : r.c ≡ 0
  pub no_d : r.d ≡ 0
  pub no_e : r.e ≡ 0

-- ---- A record of any kind

-- a record of a kind of the page, every field in its range; N or n, and M, are what is given
pub data InPage (g : Given) (r : Record) : Type 0 where
  segment : r.kind ≡ 1 → SegmentRanges r → InPage g r
  pnet_stream : r.kind ≡ 2 → PnetStreamRanges g r → InPage g r
  ring : r.kind ≡ 3 → RingRanges r → InPage g r
  ring_stream : r.kind ≡ 4 → RingStreamRanges g r → InPage g r
  exchange : r.kind ≡ 5 → ExchangeRanges r → InPage g r
  variable : r.kind ≡ 6 → VariableRanges r → InPage g r
  jitter_stream : r.kind ≡ 7 → JitterStreamRanges g r → InPage g r
  edition : r.kind ≡ 8 → EditionRanges r → InPage g r
  open_ring : r.kind ≡ 9 → OpenRingRanges r → InPage g r
  master_message : r.kind ≡ 10 → MessageRanges g r → InPage g r
