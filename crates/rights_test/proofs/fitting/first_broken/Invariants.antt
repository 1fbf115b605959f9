use Rattle.std.proofs.Common.{map, All}
use Rattle.market_model.specs.LimitRows.{flow_by, limit}
use Rattle.market_model.specs.Overrun.{Within}
use Rattle.market_model.specs.PutIn.{carried_in}
use Rattle.rights_test.proofs.fitting.first_broken.Given as goal

abbrev pub invariant-loop-row : goal.invariant-loop-row
invariant-loop-row g l = All (λ s. Within (limit l.market s) (flow_by l.market (carried_in l.market (map g.N.Exact.value l.carried)) s)) l.yielded
