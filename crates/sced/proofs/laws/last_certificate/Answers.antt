use Rattle.sced.proofs.HeadlineLemmas.{law_of_last_certificate}
use Rattle.sced.proofs.laws.last_certificate.Goals as goal

pub returns : goal.returns
returns c = law_of_last_certificate
