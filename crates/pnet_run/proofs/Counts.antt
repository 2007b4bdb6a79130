-- How many requests of a stream came, and how many were answered, since an instant; and what the answers cost where each used visit has a
-- surcharge. Definitions alone. Assumes nothing.
use Prim.Native.Nat.{ℕ, ◌+◌}
use mathlib.Core.Bool.{◌&&◌}
use mathlib.Core.List.{List, [], ◌∷◌}
use lib.Dec.{eqb, leb}
use Rattle.common.specs.Sums.{when}
use Rattle.pnet_rules.specs.Segment.{Segment}
use Rattle.pnet_run.specs.Run.{Request, Answer, Token, toward, serving}

-- the requests of stream i that came at lo or later
unfoldable pub came_since : ℕ → ℕ → List Request → ℕ
came_since i lo [] = 0
came_since i lo (r ∷ came) = when (eqb r.of i && leb lo r.since) 1 + came_since i lo came

-- the answers of stream i that were completed at a or later
unfoldable pub answered_since : ℕ → ℕ → List Answer → ℕ
answered_since i a [] = 0
answered_since i a (w ∷ went) = when (eqb w.to.of i && leb a w.at) 1 + answered_since i a went

-- the surcharges x of the visits that ended with an answer at a or later
unfoldable pub spent : (ℕ → ℕ) → Segment → ℕ → List Answer → ℕ
spent x S a [] = 0
spent x S a (w ∷ went) = when (leb a w.at) (x (S.stream w.to.of).master) + spent x S a went

-- the surcharge of the visit under way, if a request is being served
abbrev pub under_way : (ℕ → ℕ) → Token → ℕ
under_way x (toward m d) = 0
under_way x (serving m c) = x m
