use Rattle.factor_tables.proofs.FactorLemmas.{factor_at-fits, factor_at-means, factor_at-size}
use Rattle.factor_tables.proofs.by_pair.FactorTable.factor.Goals as goal

pub returns-clause-size : goal.returns-clause-size
returns-clause-size g c =
    let entries = c.self.inside.pairs.by_pair.entries in
    rw (c.factor.ensures, factor_at-fits entries (c.args.branch, c.args.of) c.self.invariant.sizes) (factor_at-size entries (c.args.branch, c.args.of) c.self.invariant.sizes)

pub returns-clause-means : goal.returns-clause-means
returns-clause-means g c =
    let entries = c.self.inside.pairs.by_pair.entries in
    rw (← c.self.view_is, c.factor.ensures, factor_at-fits entries (c.args.branch, c.args.of) c.self.invariant.sizes) (factor_at-means entries (c.args.branch, c.args.of))
