-- How the code sets out a segment and places its streams, before the search (pnet_search): at place y master y's count s, its charge under the
-- sheet's edition, its slack, the least T - J of its streams, and the end of its pairs; up to that end, as many as the count, stand the pairs of T
-- and J of its streams in sheet order. Words of inner contracts alone. Assumes nothing.
use Rattle.std.specs.Prelude.{ℕ, ◌+◌, ◌-◌, ◌*◌, ◌≤◌, ◌≡◌, true, List, length}
use Rattle.common.specs.Runs.{tab}
use Rattle.common.specs.Sums.{when, upto}
use Rattle.sheet_record.specs.Kinds.{pnet}
use Rattle.sheet_rules.specs.Ready.{sheet_in, Ready}
use Rattle.pnet_rules.specs.Segment.{Segment, segment_of, owns, count, longest}
use Rattle.pnet_turn.specs.Turn.{at}
use Rattle.pnet_search.specs.Arrays.{spacing_at, jitter_at}

-- ---- Where they come from

-- the segment that these bytes declare
abbrev pub segment_in : List ℕ → Segment
segment_in s = segment_of (sheet_in s)

-- the first n streams of a segment
abbrev pub part : Segment → ℕ → Segment
part S n = record { edition = S.edition; masters = S.masters; number = n; stream = S.stream }

-- an accepted P-NET sheet with N masters and n streams, the first at a place, and what reading it gathered of each master
pub record Sheeted (s : List ℕ) (N n first : ℕ) (counts longests : List ℕ) : Type 0 where
  pub ready : Ready s pnet first n
  pub masters_are : N ≡ (segment_in s).masters
  pub counts_are : counts ≡ tab (count (segment_in s)) 33
  pub longests_are : longests ≡ tab (longest (segment_in s)) 33

-- ---- How they are filled

-- the N masters set out: what each one is charged, h(y), and as its end the place where its pairs begin
pub record SetOut (counts : List ℕ) (h : ℕ → ℕ) (N : ℕ) (charges ends : List ℕ) : Type 0 where
  pub charges_long : length charges ≡ 33
  pub ends_long : length ends ≡ 33
  pub charges_are : (y : ℕ) → 1 ≤ y → y ≤ N → at charges y ≡ h y
  pub ends_are : (y : ℕ) → 1 ≤ y → y ≤ N → at ends y ≡ upto (at counts) (y - 1)

-- the first i streams of a segment placed: behind the pairs of the masters before y stand those of y, and any sum over them is the sum over
-- y's streams; its slack is the greatest number that is above T - J of none of them, nor above the longest spacing of a sheet
pub record Grouped (S : Segment) (i : ℕ) (ends slacks pairs : List ℕ) : Type 0 where
  pub ends_long : length ends ≡ 33
  pub slack_long : length slacks ≡ 33
  pub room : 2 * S.number ≤ length pairs
  pub ends_are : (y : ℕ) → 1 ≤ y → y ≤ S.masters → at ends y ≡ upto (count S) (y - 1) + count (part S i) y
  pub pairs_are : (g : ℕ → ℕ → ℕ) (y : ℕ) → 1 ≤ y → y ≤ S.masters
      → upto (λ j. let p = upto (count S) (y - 1) + (j - 1) in g (spacing_at pairs p) (jitter_at pairs p)) (count (part S i) y)
      ≡ upto (λ x. when (owns S y x) (g (S.stream x).spacing (S.stream x).jitter)) i
  pub slack_to : (y : ℕ) → y ≤ 32 → at slacks y ≤ 1000000000
  pub above_none : (y x : ℕ) → y ≤ 32 → 1 ≤ x → x ≤ i → owns S y x ≡ true → at slacks y ≤ (S.stream x).spacing - (S.stream x).jitter
  pub greatest_such : (y b : ℕ) → y ≤ 32 → b ≤ 1000000000 → ((x : ℕ) → 1 ≤ x → x ≤ i → owns S y x ≡ true → b ≤ (S.stream x).spacing - (S.stream x).jitter)
      → b ≤ at slacks y
