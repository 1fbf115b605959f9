use Rattle.std.proofs.Common.{arith, ap, length}
use Rattle.clear_tests.proofs.calls.is_priced.Goals as goal

pub prices-requires-clause-duals : goal.prices-requires-clause-duals
prices-requires-clause-duals g c = c.requires.right.proper

pub prices-requires-clause-out : goal.prices-requires-clause-out
prices-requires-clause-out g c = omega (arith, c.deref_mut.ensures.len, c.in_ok-out.ensures.len, c.len.ensures, ap length c.buses.ensures.list)
