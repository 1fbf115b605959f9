use Rattle.std.proofs.Common.{◌∙◌, ap, length}
use Rattle.limit_screen.proofs.ScreenLemmas.{carried_behind}
use Rattle.limit_screen.proofs.flowing.carried_flows.Goals as goal

pub returns-clause-is : goal.returns-clause-is
returns-clause-is g c = carried_behind g.N.Exact.value c.args.market.now c.args.flows.now c.len.result (c.len.ensures ∙ ap length c.buses.ensures.list)
