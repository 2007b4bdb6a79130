-- Page 02, 'Ask 4', with a path's total in ns too by 'Ask 5': the lines of a path's report, each ended by one newline. The page leaves their
-- words open; docs/DECISIONS.md fixes them. Assumes nothing.
use Rattle.std.specs.Prelude.{ℕ, List, cond, eqb}
use Rattle.units.specs.declared.BitPeriods.{BitPeriods}
use Rattle.text.specs.Text.{word, decimal, ◌·◌}
use Rattle.report_phrases.specs.Phrases.{name_of, in_bp, in_both, refused_text}

-- ---- A path that is accepted

-- a segment: its number, the master that sends there and its bound
unfoldable pub segment_line : ℕ → ℕ → BitPeriods → List ℕ
segment_line number master bound = word "segment " · decimal number · word " " · name_of master · word " bound " · in_bp bound · word "\n"

-- a gateway forwards the request, and once more the reply
unfoldable pub gateway_line : ℕ → BitPeriods → List ℕ
gateway_line number time = word "gateway " · decimal number · word " request " · in_bp time · word " reply " · in_bp time · word "\n"

-- the lines of segments and gateways are in bp and add up to the total, which is turned into ns once
unfoldable pub total_line : BitPeriods → BitPeriods → List ℕ
total_line total deadline = word "total " · in_both total · word " deadline " · in_bp deadline · word "\n"

-- ---- Refusals

-- a sheet's own: the line says which segment it belongs to
unfoldable pub sheet_refusal : ℕ → ℕ → ℕ → List ℕ
sheet_refusal segment n p = refused_text n p · word " of segment " · decimal segment · word "\n"

-- what the place of a path's refusal is: nothing is said of that of 19
unfoldable pub path_place : ℕ → ℕ → List ℕ
path_place n p =
    cond (eqb n 17) (word " at " · decimal p · word " gateways\n")
    (cond (eqb n 18) (word " at segment " · decimal p · word "\n")
    (cond (eqb n 4) (cond (eqb p 0) (word " at deadline\n") (word " at gateway " · decimal p · word "\n")) (word "\n")))

unfoldable pub path_refusal : ℕ → ℕ → List ℕ
path_refusal n p = word "refused " · decimal n · path_place n p
