use Rattle.cert_format.proofs.InverseLemmas.{law_of_migration}
use Rattle.cert_format.proofs.laws.migrating_keeps.Goals as goal

pub returns : goal.returns
returns c = law_of_migration
