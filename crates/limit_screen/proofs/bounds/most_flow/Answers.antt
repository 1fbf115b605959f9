use Rattle.limit_screen.proofs.Casts.{parts_up_to}
use Rattle.limit_screen.proofs.bounds.most_flow.Goals as goal

pub returns-clause-small : goal.returns-clause-small
returns-clause-small c = parts_up_to c.args.limit c.args.more c.from.result c.from-2.result c.from-3.result c.args.one c.ranges.limit c.ranges.more c.requires c.from.ensures c.from-2.ensures c.from-3.ensures
