use Rattle.sced.proofs.RightsLemmas.{law_of_migrate}
use Rattle.sced.proofs.laws.migrate.Goals as goal

pub returns : goal.returns
returns c = law_of_migrate
