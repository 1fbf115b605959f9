use Rattle.std.proofs.Common.{◌∙◌}
use Rattle.std.specs.Prelude.{◌==◌}
use Rattle.market_data.specs.Participants.{IsDatum}
use Rattle.factor_tables.proofs.FactorLemmas.{lookup-all}
use Rattle.factor_tables.proofs.offset_list.Offsets.offset.Goals as goal

pub returns-clause-datum : goal.returns-clause-datum
returns-clause-datum c = rw (c.copied.ensures ∙ c.get.ensures.value) (lookup-all IsDatum (λ other. c.args.branch == other) c.self.inside.by_row.entries c.self.invariant)
