use Rattle.cert_verify.proofs.LawLemmas.{law_of_farkas_duals}
use Rattle.cert_verify.proofs.laws.farkas_duals_hold.Goals as goal

pub returns : goal.returns
returns c = law_of_farkas_duals
