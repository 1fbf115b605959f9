use Rattle.std.proofs.Common.{arith, ap, length}
use Rattle.clear_tests.proofs.calls.is_settled_anew.Goals as goal

pub settle-requires-clause-dispatch : goal.settle-requires-clause-dispatch
settle-requires-clause-dispatch g c = omega (arith, ap length c.slice-dispatch.ensures, c.requires.fits.dispatch)

pub settle-requires-clause-prices : goal.settle-requires-clause-prices
settle-requires-clause-prices g c = omega (arith, ap length c.slice-2.ensures, c.requires.fits.prices)

pub settle-requires-clause-reserve : goal.settle-requires-clause-reserve
settle-requires-clause-reserve g c = omega (arith, ap length c.slice.ensures, c.requires.fits.reserve)

pub settle-requires-clause-duals : goal.settle-requires-clause-duals
settle-requires-clause-duals g c = c.requires.right.proper
