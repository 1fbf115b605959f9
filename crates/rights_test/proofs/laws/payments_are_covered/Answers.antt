use Rattle.rights_test.proofs.FitLemmas.{law_of_covered_payments}
use Rattle.rights_test.proofs.laws.payments_are_covered.Goals as goal

pub returns : goal.returns
returns c = law_of_covered_payments c.rights_are_covered.ensures
