use Rattle.limit_rows.proofs.ApartLemmas.{names_apart}
use Rattle.limit_rows.proofs.laws.names_apart.Goals as goal

pub returns : goal.returns
returns c = names_apart
