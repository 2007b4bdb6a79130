-- `worldfip_plan::rows::copy` meets its contract. The invariant: the first m places hold the first m numbers.
use lib.ListN.{get_or}
use Rattle.common.proofs.Runs.{Filling}
use Rattle.worldfip_plan.proofs.rows.copy.Given as goal

abbrev pub invariant-loop-m : goal.invariant-loop-m
invariant-loop-m l = Filling (λ k. get_or l.t k 0) l.m l.initial.out l.out
