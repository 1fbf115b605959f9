use Rattle.std.proofs.Common.{◌≡◌, map, replicate, vec_len}
use Rattle.market_model.specs.Dispatch.{zero}
use Rattle.market_model.proofs.amounts.zeros.Given as goal

abbrev pub invariant-loop : goal.invariant-loop
invariant-loop g l = record { count : vec_len l.zeros ≡ l.counter; zeros : map g.N.Exact.value l.zeros.items ≡ replicate l.counter zero }
