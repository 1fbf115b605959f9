use Rattle.sced.proofs.HeadlineLemmas.{law_of_certificate}
use Rattle.sced.proofs.laws.certificate.Goals as goal

pub returns : goal.returns
returns c = law_of_certificate
