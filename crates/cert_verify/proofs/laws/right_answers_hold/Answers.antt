use Rattle.cert_verify.proofs.LawLemmas.{law_of_right_answers}
use Rattle.cert_verify.proofs.laws.right_answers_hold.Goals as goal

pub returns : goal.returns
returns c = law_of_right_answers
