use Rattle.std.proofs.Common.{arith, ap, length}
use Rattle.clear_tests.proofs.calls.worst_at.Goals as goal

pub flows-requires-clause-dispatch : goal.flows-requires-clause-dispatch
flows-requires-clause-dispatch g c = omega (arith, c.deref.ensures.len, c.in_ok-dispatch.ensures.count, c.len.ensures, ap length c.blocks-2.ensures.list)

pub flows-requires-clause-out : goal.flows-requires-clause-out
flows-requires-clause-out g c =
    omega (arith, c.deref_mut.ensures.len, c.in_ok-by_place.ensures.count, c.len-3.ensures, c.len-4.ensures, c.len-5.ensures, ap length c.buses.ensures.list, ap length c.lines.ensures.list, ap length c.unit_outages.ensures.list)

pub worst-requires : goal.worst-requires
worst-requires g c =
    omega (arith, c.deref-2.ensures.len, c.deref_mut.ensures.len, c.in_ok-flows.ensures.count, c.in_ok-by_place.ensures.count, c.len-3.ensures, c.len-4.ensures, c.len-5.ensures, ap length c.buses.ensures.list, ap length c.lines.ensures.list, ap length c.unit_outages.ensures.list)
