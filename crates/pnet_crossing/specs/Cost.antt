-- Page 02, 'Ask 4', several P-NET segments: what a path costs by its figures, and its refusals behind the sheets' own in their order. R i is the bound of
-- segment i's sender, F i the forwarding time of gateway i. Assumes nothing.
use Rattle.std.specs.Prelude.{ℕ, zero, suc, ◌+◌, ◌*◌, List, [], ◌∷◌, Bool, not, get_or, eqb, leb, ltb}
use Rattle.common.specs.Checks.{Check, check, verdict, unless}
use Rattle.common.specs.Sums.{first_of}
use Rattle.sheet_record.specs.Kinds.{within}
use Rattle.units.specs.Units.{bp}
use Rattle.units.specs.declared.BitPeriods.{BitPeriods}
use Rattle.std.specs.declared.result.Result.{Result}
use Rattle.common.specs.declared.Refusal.{Refusal}

-- ---- What it costs

-- 'the segment's bound for the sending master, then the gateway's declared forwarding time, then the rest of the path, the segment step and
-- the gateway step calling for each other until no hop is left; the reply costs the forwarding times once more'. A hop is a segment or a
-- gateway; so many are left at segment i, or at the gateway behind it
module _ (R F : ℕ → ℕ) where
  unfoldable mutual
    pub segment_step : ℕ → ℕ → ℕ
    segment_step zero i = 0
    segment_step (suc left) i = R i + gateway_step left i

    pub gateway_step : ℕ → ℕ → ℕ
    gateway_step zero i = 0
    gateway_step (suc left) i = F i + segment_step left (i + 1) + F i

  -- g gateways and g + 1 segments
  unfoldable pub cost_over : ℕ → ℕ
  unfolding segment_step
  cost_over g = segment_step (2 * g + 1) 1

-- ---- Refusals

-- gateway i's forwarding time is not 0..1,000,000 bp
unfoldable pub is_too_long : (ℕ → ℕ) → ℕ → Bool
is_too_long F i = ltb 1000000 (F i)

-- those behind the sheets' own: of g gateways, with R, F and D, and whether segment i's sender is absent
unfoldable pub path_checks : (ℕ → ℕ) → (ℕ → ℕ) → (ℕ → Bool) → ℕ → ℕ → List Check
unfolding within first_of is_too_long cost_over
path_checks R F absent g D =
    check 17 (not (within 1 g 10)) g
    ∷ check 4 (leb (first_of (is_too_long F) g 1) g) (first_of (is_too_long F) g 1)
    ∷ check 4 (not (within 1 D 1000000000)) 0
    ∷ check 18 (leb (first_of absent (g + 1) 1) (g + 1)) (first_of absent (g + 1) 1)
    ∷ check 19 (ltb D (cost_over R F g)) 0
    ∷ []

-- ---- The answer

-- what it costs, or the refusal, by R, F and what is absent, where no sheet is refused
unfoldable pub crossing_by : (ℕ → ℕ) → (ℕ → ℕ) → (ℕ → Bool) → ℕ → ℕ → Result BitPeriods Refusal
unfolding verdict path_checks cost_over
crossing_by R F absent g D = unless (verdict (path_checks R F absent g D)) (bp (cost_over R F g))

-- ---- Figures that stand in runs

-- what stands at place i of a run of counts
abbrev pub kept : List BitPeriods → ℕ → ℕ
kept l i = (get_or l i (bp 0)).0

-- no R of a master with streams is 0
unfoldable pub no_bound : List BitPeriods → ℕ → Bool
no_bound l i = eqb (kept l i) 0
