use Rattle.cert_verify.proofs.LawLemmas.{law_of_nothing_feasible}
use Rattle.cert_verify.proofs.laws.yes_leaves_nothing.Goals as goal

pub returns : goal.returns
returns c = law_of_nothing_feasible
