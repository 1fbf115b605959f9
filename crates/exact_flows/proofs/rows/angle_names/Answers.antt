use Rattle.std.proofs.Common.{◌<◌, ◌+◌, arith}
use Rattle.exact_flows.proofs.Places.{bus_is}
use Rattle.exact_flows.proofs.rows.angle_names.Goals as goal

pub overflow_cast-bus_at : goal.overflow_cast-bus_at
overflow_cast-bus_at c =
    let inside : c.loop-column.column + 1 < c.args.buses = Prim.omega (arith, c.loop-column-test.true, c.loop-column.auto.column-end, c.requires.reference) in
    Prim.omega (arith, (bus_is c.args.buses c.args.reference c.loop-column.column inside).0, c.bus_at.ensures, c.requires.few)
