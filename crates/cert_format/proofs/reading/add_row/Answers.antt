use Rattle.std.proofs.Common.{◌∙◌}
use Rattle.cert_format.proofs.RowLemmas.{by_new}
use Rattle.cert_format.proofs.reading.add_row.Goals as goal

pub returns-in-Ok-clause-keys : goal.returns-in-Ok-clause-keys
returns-in-Ok-clause-keys c = c.in-Ok.ensures.keys ∙ by_new _ c.in-Ok.is_new _ _ c.in-Ok.ensures.added
