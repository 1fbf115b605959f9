use Rattle.cert_verify.proofs.LawLemmas.{law_of_the_verdict}
use Rattle.cert_verify.proofs.laws.yes_where_it_holds.Goals as goal

pub returns : goal.returns
returns c = law_of_the_verdict
