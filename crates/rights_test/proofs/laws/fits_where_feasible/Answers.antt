use Rattle.rights_test.proofs.FitLemmas.{law_of_the_fit}
use Rattle.rights_test.proofs.laws.fits_where_feasible.Goals as goal

pub returns : goal.returns
returns c = law_of_the_fit
