use Rattle.factor_tables.proofs.FactorLemmas.{factor_at-means, factor_at-size}
use Rattle.factor_tables.proofs.by_pair.FactorTable.factor_near.Goals as goal

pub returns-clause-size : goal.returns-clause-size
returns-clause-size g c = rw c.factor_near.ensures (factor_at-size c.self.inside.pairs.by_pair.entries (c.args.branch, c.args.of) c.self.invariant.sizes)

pub returns-clause-means : goal.returns-clause-means
returns-clause-means g c = rw (← c.self.view_is, c.factor_near.ensures) (factor_at-means c.self.inside.pairs.by_pair.entries (c.args.branch, c.args.of))
