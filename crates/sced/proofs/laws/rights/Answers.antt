use Rattle.sced.proofs.RightsLemmas.{law_of_rights}
use Rattle.sced.proofs.laws.rights.Goals as goal

pub returns : goal.returns
returns c = law_of_rights c.reserve_is_paid_for_the_need.ensures c.payments_are_covered.ensures
