use Rattle.cert_verify.proofs.LawLemmas.{law_of_the_best}
use Rattle.cert_verify.proofs.laws.yes_is_best.Goals as goal

pub returns : goal.returns
returns c = law_of_the_best
