-- `worldfip_figures::measure` meets its contract: 10 and 11 in this order, each at its own return, and else the figures.
use mathlib.Core.Path.{◌≡◌, refl, ◌∙◌, ap}
use Prim.Native.Nat.{min}
use native.Mathlib.Omega.{arith}
use Rattle.worldfip_rules.specs.Traffic.{Traffic, plain, microcycle, slots, rows}
use Rattle.worldfip_figures.specs.Held.{held}
use Rattle.worldfip_figures.proofs.Measured.{stops_10, stops_11, goes_on}
use Rattle.worldfip_figures.proofs.Tied.{few, places_within, places_are, micro_is, whole, slots_are, none_fits, some_fit, rows_are, periods_are}
use Rattle.worldfip_figures.proofs.measure.Goals as goal
use Rattle.worldfip_figures.proofs.measure.Goals.{After-microcycle-c, After-rows_of-rows, Start}

-- ---- What is known on the way
abbrev traffic : Start → Traffic
traffic c = held c.args.ps.now c.args.n c.args.e

micro : (c : After-microcycle-c) → c.microcycle-c.result ≡ microcycle (held c.args.ps.now c.args.n c.args.e)
micro c = c.microcycle-c.ensures ∙ micro_is c.requires

-- a slot at least, and the rows, or 4,097
some : (c : After-rows_of-rows) → slots (held c.args.ps.now c.args.n c.args.e) ≡ 0 → ⊥
some c = some_fit c.requires (c.microcycle-c.ensures ∙ micro_is c.requires) c.if-c-e.false

counted : (c : After-rows_of-rows) → c.rows_of-rows.result ≡ min 4097 (rows (held c.args.ps.now c.args.n c.args.e))
counted c = c.rows_of-rows.ensures ∙ ap (min 4097) (rows_are c.requires (c.microcycle-c.ensures ∙ micro_is c.requires))

pub returns-then-c-e : goal.returns-then-c-e
returns-then-c-e c =
    let at = goal.at.returns-then-c-e c in
    stops_10 (traffic at.Start) (none_fits c.requires (micro at.After-microcycle-c) c.if-c-e.true)

pub rows_of-rows-requires : goal.rows_of-rows-requires
rows_of-rows-requires c = whole c.requires (micro (goal.at.rows_of-rows-requires c).After-microcycle-c)

pub returns-then-rows-gt4096 : goal.returns-then-rows-gt4096
returns-then-rows-gt4096 c =
    let at = goal.at.returns-then-rows-gt4096 c in
    stops_11 (traffic at.Start) (some at.After-rows_of-rows) (omega (arith, counted at.After-rows_of-rows, c.if-rows-gt4096.true))

pub by_rank-places-requires : goal.by_rank-places-requires
by_rank-places-requires c = (c.requires.there, few c.requires)

pub in_rows-periods-requires : goal.in_rows-periods-requires
in_rows-periods-requires c =
    let p = c.requires in
    let w = whole p (micro (goal.at.in_rows-periods-requires c).After-microcycle-c) in
    record { n_bound = (w.few, w.there, w.some); within = places_within p c.by_rank-places.ensures }

pub nonzero_div-slots : goal.nonzero_div-slots
unfolding held plain
nonzero_div-slots c = c.requires.declares.exchange_in.0

pub returns : goal.returns
unfolding held plain
returns c =
    let at = goal.at.returns c in
    let m = micro at.After-microcycle-c in
    let e = counted at.After-rows_of-rows in
    let l = c.if-rows-gt4096.false in
    let v = c.by_rank-places.ensures in
    let q = c.in_rows-periods.ensures in
    goes_on (traffic at.Start) (some at.After-rows_of-rows) (omega (arith, e, l)) _ _ _ _ _ _ refl m (slots_are c.requires m) (omega (arith, e, l))
    (places_are c.requires v)
    (periods_are c.requires m v q.0 q.1)
