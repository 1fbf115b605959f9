use Rattle.command_answers.proofs.RoundTripLemmas.{law_of_yes}
use Rattle.command_answers.proofs.laws.certificates_that_come_back_hold.Goals as goal

pub returns : goal.returns
returns c = law_of_yes
