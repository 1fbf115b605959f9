use Rattle.std.proofs.Common.{◌∙◌}
use Rattle.factor_tables.specs.Penalties.{IsSoftness, same_limit}
use Rattle.factor_tables.proofs.FactorLemmas.{lookup-all}
use Rattle.factor_tables.proofs.penalty_list.Penalties.softness.Goals as goal

pub returns-clause-kept : goal.returns-clause-kept
returns-clause-kept c = rw (c.copied.ensures ∙ c.get.ensures.value) (lookup-all IsSoftness (same_limit (c.args.branch, c.args.post)) c.self.inside.by_limit.entries c.self.invariant.kept)
