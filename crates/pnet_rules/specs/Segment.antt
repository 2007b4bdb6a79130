-- Page 01, 'P-NET bounds': s, H, V, R, and what passes; page 02, Ask 7, adds J to a stream, and Ask 10 the edition of the rule. V is a reserved word of the prover, so it is called `turn` here: the
-- longest turn of the token. Assumes nothing.
use Rattle.std.specs.Prelude.{ℕ, ◌+◌, ◌-◌, ◌*◌, List, Bool, cond, length, get_or, eqb, ltb}
use Rattle.common.specs.Sums.{when, upto, greatest}
use Rattle.sheet_record.specs.declared.Record.{Record}
use Rattle.sheet_record.specs.Kinds.{nothing}
use Rattle.sheet_rules.specs.Sheets.{Sheet, masters_of, edition_of}

-- ---- A segment as a sheet declares it

pub record Stream : Type 0 where
  pub master : ℕ
  -- longest cycle C, spacing T, deadline D and release jitter J, in bp
  pub cycle : ℕ
  pub spacing : ℕ
  pub deadline : ℕ
  pub jitter : ℕ

-- masters 1..masters, streams 1..number; the edition of the rule is 1 or 2
pub record Segment : Type 0 where
  pub edition : ℕ
  pub masters : ℕ
  pub number : ℕ
  pub stream : ℕ → Stream

-- the fields of a P-NET stream's record; kind 2 has no fifth, so its J is 0
abbrev pub stream_of : Record → Stream
stream_of r = record { master = r.a; cycle = r.b; spacing = r.c; deadline = r.d; jitter = r.e }

-- stream i of a list of records, counted from 1
unfoldable pub stream_at : List Record → ℕ → Stream
stream_at rs i = stream_of (get_or rs (i - 1) nothing)

unfoldable pub segment_of : Sheet → Segment
unfolding stream_at
segment_of S = record { edition = edition_of S; masters = masters_of S; number = length S.streams; stream = stream_at S.streams }

-- ---- The figures

-- stream i is one of master k's
unfoldable pub owns : Segment → ℕ → ℕ → Bool
owns S k i = eqb (S.stream i).master k

-- s: how many streams master k has
unfoldable pub count : Segment → ℕ → ℕ
unfolding upto owns
count S k = upto (λ i. when (owns S k i) 1) S.number

-- the longest C of master k's streams, 0 if it has none
unfoldable pub longest : Segment → ℕ → ℕ
unfolding greatest owns
longest S k = greatest (λ i. when (owns S k i) (S.stream i).cycle) S.number

-- H of a master with s streams, the longest C of them being c: 47 and c, or 10 for a master without streams
unfoldable pub charge : ℕ → ℕ → ℕ
charge s c = cond (eqb s 0) 10 (47 + c)

-- H: what master y holds the token at most
unfoldable pub hold : Segment → ℕ → ℕ
unfolding count longest charge
hold S y = charge (count S y) (longest S y)

-- the largest H in the segment
unfoldable pub largest : Segment → ℕ
unfolding greatest hold
largest S = greatest (hold S) S.masters

-- what an edition charges each master, by the H of each and the largest of them: its H; under edition 2 the largest, be the master silent or not
abbrev pub charged_by : (ℕ → ℕ) → ℕ → ℕ → ℕ → ℕ
charged_by h most edition = cond (eqb edition 2) (λ y. most) h

unfoldable pub charged : Segment → ℕ → ℕ
unfolding hold largest
charged S = charged_by (hold S) (largest S) S.edition

-- V under a charge h for each master: its sum over masters 1..N
unfoldable pub turn_by : (ℕ → ℕ) → Segment → ℕ
unfolding upto
turn_by h S = upto h S.masters

-- R under a charge h: s times V
unfoldable pub bound_by : (ℕ → ℕ) → Segment → ℕ → ℕ
unfolding count turn_by
bound_by h S k = count S k * turn_by h S

-- V and R: the charge is the edition's
unfoldable pub turn : Segment → ℕ
unfolding turn_by charged
turn S = turn_by (charged S) S

unfoldable pub bound : Segment → ℕ → ℕ
unfolding bound_by charged
bound S k = bound_by (charged S) S k

-- stream i fails: its master's R is above its D
unfoldable pub late : Segment → ℕ → Bool
unfolding bound
late S i = ltb (S.stream i).deadline (bound S (S.stream i).master)
