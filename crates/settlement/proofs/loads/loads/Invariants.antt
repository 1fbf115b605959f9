use Rattle.std.proofs.Common.{◌≡◌, map}
use Rattle.market_model.specs.Dispatch.{places}
use Rattle.market_model.specs.Valued.{load_at, total_at}
use Rattle.market_model.specs.Settlement.{pay_of_load}
use Rattle.settlement.proofs.loads.loads.Given as goal

abbrev pub invariant-loop-place : goal.invariant-loop-place
invariant-loop-place g l = map (load_at g.N.Exact.value) l.loads ≡ map (pay_of_load l.market (total_at g.N.Exact.value l.prices)) (places l.place)
