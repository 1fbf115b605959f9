use Rattle.std.proofs.Common.{◌∙◌, ap, length}
use Rattle.limit_screen.proofs.ScreenLemmas.{buses_before}
use Rattle.limit_screen.proofs.flowing.bus_injections.Goals as goal

pub returns : goal.returns
returns g c = λ x flows. buses_before g.N.Exact.value c.args.market.now x c.args.flows.now c.len.result (c.len.ensures ∙ ap length c.buses.ensures.list) flows
