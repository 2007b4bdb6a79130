-- `pnet_urgent::serve` meets its contract: what is found of each stream goes to its place.
use native.Mathlib.Omega.{arith}
use Rattle.pnet_urgent.proofs.Searching.{slots_small}
use Rattle.pnet_urgent.proofs.serve.Goals as goal

pub search-requires : goal.search-requires
search-requires c =
    let p = c.requires in
    record {
      keyed = p.keyed;
      n_in_bounds = (omega (arith, p.keyed.0.few), omega (arith, p.keyed.0.few));
    }

pub spread-requires : goal.spread-requires
spread-requires c =
    let p = c.requires in
    let few = p.keyed.0.few in
    record {
      keyed = p.keyed_2;
      n_in_bounds = (omega arith, omega arith, slots_small p.keyed.1 c.search.ensures);
    }

pub shape_of-places : goal.shape_of-places
shape_of-places c = c.spread.ensures.0.long

pub shape_of-figures : goal.shape_of-figures
shape_of-figures c = c.spread.ensures.1.long

pub shape_of-rounds : goal.shape_of-rounds
shape_of-rounds c = c.spread.ensures.2.long

pub returns : goal.returns
returns c =
    let e = c.spread.ensures in
    record { slots = _; turns = _; searched = c.search.ensures; by_place = e.0; by_figure = e.1; by_rounds = e.2 }
