use Rattle.exact_flows.proofs.Terms.{no_end, not_same}
use Rattle.exact_flows.proofs.coefficients.is_away.Goals as goal

pub returns-then-from-bus : goal.returns-then-from-bus
returns-then-from-bus c = λ t. no_end c.args.from c.args.to c.args.bus c.if-from-bus.true (not_same c.args.to c.args.bus t)
