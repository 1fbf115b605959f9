use Rattle.std.proofs.Common.{rules}
use Rattle.indexmap.proofs.CallerLemmas.{insert_entry-new}
use Rattle.factor_tables.specs.Factors.{same_pair}
use Rattle.factor_tables.proofs.FactorLemmas.{is-none}
use Rattle.factor_tables.proofs.by_pair.Pairs.add.Goals as goal

pub returns-clause-entries : goal.returns-clause-entries
returns-clause-entries c =
    let absent = is-none _ c.requires.new in
    search (rules, insert_entry-new same_pair c.args.self.now.by_pair c.args.pair c.args.factor absent)
