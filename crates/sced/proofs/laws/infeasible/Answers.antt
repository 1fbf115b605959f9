use Rattle.sced.proofs.HeadlineLemmas.{law_of_infeasible}
use Rattle.sced.proofs.laws.infeasible.Goals as goal

pub returns : goal.returns
returns c = law_of_infeasible
