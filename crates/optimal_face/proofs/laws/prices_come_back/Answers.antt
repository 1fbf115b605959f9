use Rattle.optimal_face.proofs.ReturnLemmas.{law_of_the_return}
use Rattle.optimal_face.proofs.laws.prices_come_back.Goals as goal

pub returns : goal.returns
returns c = law_of_the_return
