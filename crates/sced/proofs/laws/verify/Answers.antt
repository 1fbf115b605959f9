use Rattle.sced.proofs.HeadlineLemmas.{law_of_verify}
use Rattle.sced.proofs.laws.verify.Goals as goal

pub returns : goal.returns
returns c = law_of_verify
