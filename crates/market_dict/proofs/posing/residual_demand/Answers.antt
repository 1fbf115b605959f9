use Rattle.std.proofs.Common.{◌∙◌, map, sym}
use Rattle.std.proofs.lemmas.List.{length-map}
use Rattle.market_model.specs.Dispatch.{empty}
use Rattle.limit_screen.proofs.ScreenLemmas.{flow_count}
use Rattle.market_dict.proofs.posing.residual_demand.Goals as goal

pub bus_injections-requires : goal.bus_injections-requires
bus_injections-requires g c =
    let m = c.args.market.now in
    sym (length-map c.args.base_flows.now g.N.Exact.value) ∙ flow_count m (empty m) (map g.N.Exact.value c.args.base_flows.now) c.requires
