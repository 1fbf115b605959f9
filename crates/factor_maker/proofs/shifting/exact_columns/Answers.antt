use Rattle.std.proofs.Common.{◌<◌, ◌∙◌, None, ap, arith, length}
use Rattle.dc_network.specs.DcNetworks.{dc_network}
use Rattle.factor_maker.proofs.ColumnLemmas.{columns_more}
use Rattle.factor_maker.proofs.ColumnSteps.{bus_column, bus_small}
use Rattle.factor_maker.proofs.shifting.exact_columns.Goals as goal

pub rounded-requires : goal.rounded-requires
rounded-requires c =
    let network = c.args.network.now in
    let all = c.len-buses.ensures ∙ ap length c.buses.ensures.list in
    let within : c.loop-bus.bus < length network.buses = omega (arith, c.loop-bus-test.true, c.loop-bus.auto.bus-end, all) in
    record {
      sizes = bus_small _ network c.args.reactances.now c.requires.sound c.loop-bus.bus within c.in_ok-flows.flows c.slice.result.now c.in_ok-factors.factors c.slice-in-loop-bus.result.now c.len-branches.result
          c.len-buses.result c.in_ok-flows.ensures.flows c.slice.ensures (c.len-branches.ensures ∙ ap length c.branches.ensures.list) all c.in_ok-factors.ensures c.slice-in-loop-bus.ensures;
    }

pub loop-bus-preserved : goal.loop-bus-preserved
loop-bus-preserved c =
    let network = c.args.network.now in
    let xs = c.args.reactances.now in
    let bus = c.loop-bus.bus in
    let all = c.len-buses.ensures ∙ ap length c.buses.ensures.list in
    let within : bus < length network.buses = omega (arith, c.loop-bus-test.true, c.loop-bus.auto.bus-end, all) in
    let here = bus_column _ network xs c.requires.sound bus within c.in_ok-flows.flows c.slice.result.now c.in_ok-factors.factors c.slice-in-loop-bus.result.now c.len-branches.result c.len-buses.result
    c.in_ok-flows.ensures.flows c.slice.ensures (c.len-branches.ensures ∙ ap length c.branches.ensures.list) all c.in_ok-factors.ensures c.slice-in-loop-bus.ensures c.args.places c.in_ok-rounded.field-0
    c.in_ok-rounded.ensures in
    let more = columns_more (dc_network network xs None) network.reference c.args.places c.loop-bus.columns c.push.new.self c.in_ok-rounded.field-0 bus c.loop-bus.invariant.count c.loop-bus.invariant.are here c.in_ok-push.ensures in
    record { count = more.0; are = more.1 }
