use Rattle.market_tests.proofs.NothingNamed.{proper_unlimited}
use Rattle.market_tests.proofs.payments.settled.Goals as goal

pub settle-requires-clause-duals : goal.settle-requires-clause-duals
settle-requires-clause-duals c = rw (c.new.ensures, c.new-2.ensures) (proper_unlimited c.args.market.now _ _ c.requires.listed)
