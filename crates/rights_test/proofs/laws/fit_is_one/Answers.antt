use Rattle.rights_test.proofs.FitLemmas.{law_of_one_fit}
use Rattle.rights_test.proofs.laws.fit_is_one.Goals as goal

pub returns : goal.returns
returns c = law_of_one_fit
