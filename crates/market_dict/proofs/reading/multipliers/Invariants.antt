use Rattle.std.proofs.Common.{◌≡◌, map, take, slice_index}
use Rattle.std.specs.Prelude.{not}
use Rattle.linear_dict.specs.Dictionaries.{choice_of}
use Rattle.simplex_theory.specs.Steps.{opposite_if}
use Rattle.simplex_theory.specs.Stuck.{multiplier}
use Rattle.market_dict.proofs.reading.multipliers.Given as goal

abbrev pub invariant-loop-rank : goal.invariant-loop-rank
invariant-loop-rank g l = map g.N.Exact.value l.multipliers ≡ map (λ w. opposite_if (not l.above) (multiplier (choice_of l.dict) (slice_index l.dict.basics l.row) w)) (take l.rank l.dict.names)
