use Rattle.std.proofs.Common.{map}
use Rattle.limit_screen.proofs.uses.put_uses.Goals as goal

pub returns-clause-used : goal.returns-clause-used
returns-clause-used g c = c.add_reserve.ensures.sums (map g.N.Exact.value c.args.dispatch.now) (c.in_ok-add_blocks.ensures.sums (map g.N.Exact.value c.args.reserve.now))

pub returns-clause-stops : goal.returns-clause-stops
returns-clause-stops g c = c.add_reserve.ensures.stops (map g.N.Exact.value c.args.dispatch.now) (c.in_ok-add_blocks.ensures.sums (map g.N.Exact.value c.args.reserve.now))
