-- `pnet_urgent::search` meets its contract: what is gathered by the keys is what the search asks for.
use mathlib.Core.Path.{sym}
use native.Mathlib.Omega.{arith}
use Rattle.pnet_urgent.proofs.Searching.{front_long, front_fits, keys_small, urgency, searched}
use Rattle.pnet_urgent.proofs.search.Goals as goal

pub gather-requires : goal.gather-requires
gather-requires c =
    let p = c.requires in
    record {
      keyed = (p.keyed.0, keys_small p.keyed.1);
      n_in_bounds = (omega (arith, p.keyed.0.few), omega (arith, p.keyed.0.few), omega (arith, p.keyed.0.few));
    }

pub slice_bounds-search-end : goal.slice_bounds-search-end
slice_bounds-search-end c = sym (front_long _ _ (omega (arith, c.requires.keyed.0.few)))

pub slice_bounds-search-end-2 : goal.slice_bounds-search-end-2
slice_bounds-search-end-2 c = sym (front_long _ _ (omega (arith, c.requires.keyed.0.few)))

pub slice_bounds-search-end-3 : goal.slice_bounds-search-end-3
slice_bounds-search-end-3 c = sym (front_long _ _ (omega (arith, c.requires.keyed.0.few)))

pub search-requires : goal.search-requires
search-requires c =
    let p = c.requires in
    let g = c.gather in
    let few = p.keyed.0.few in
    (urgency p.keyed.1 g.ensures few (omega arith) (omega arith) (omega arith), front_fits _ _ _ (omega arith) p.n_in_bounds.0, front_fits _ _ _ (omega arith) p.n_in_bounds.1)

pub returns : goal.returns
returns c =
    let p = c.requires in
    let g = c.gather in
    searched p.keyed.1 g.ensures p.keyed.0.few (omega arith) (omega arith) (omega arith) _ _ c.search.ensures.by_index
