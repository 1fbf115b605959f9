use Rattle.std.proofs.Common.{◌<◌, None, ap, arith, length}
use Rattle.dc_network.specs.DcNetworks.{dc_network}
use Rattle.factor_maker.proofs.ColumnLemmas.{columns_more}
use Rattle.factor_maker.proofs.ColumnSteps.{told_bus}
use Rattle.factor_maker.proofs.shifting.guessed_columns.Goals as goal

pub loop-bus-preserved : goal.loop-bus-preserved
loop-bus-preserved c =
    let network = c.args.network.now in
    let xs = c.args.reactances.now in
    let bus = c.loop-bus.bus in
    let within : bus < length network.buses = omega (arith, c.loop-bus-test.true, c.loop-bus.auto.bus-end, c.len-bus-end.ensures, ap length c.buses.ensures.list) in
    let here = told_bus network xs c.requires.sound c.in_ok-guesser.guesser bus c.reference.result c.args.places c.in-Some.column c.in_ok-column.field-0 c.in_ok-guesser.ensures within c.reference.ensures.place c.in-Some.is
    c.in_ok-column.ensures in
    let more = columns_more (dc_network network xs None) network.reference c.args.places c.loop-bus.columns c.push.new.self c.in-Some.column bus c.loop-bus.invariant.count c.loop-bus.invariant.are here c.in_ok-push-in-Some.ensures in
    record { count = more.0; are = more.1 }
