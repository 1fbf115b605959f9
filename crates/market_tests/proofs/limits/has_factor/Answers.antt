use Rattle.std.proofs.Common.{sym, ◌∙◌}
use Rattle.limit_rows.proofs.NameLemmas.{named_row}
use Rattle.market_tests.proofs.limits.has_factor.Goals as goal

pub coefficient-requires-clause-row : goal.coefficient-requires-clause-row
coefficient-requires-clause-row c = named_row c.args.market.now c.args.name c.in-Some.field-0 (sym c.position.ensures.is ∙ c.in-Some.is)
