use Rattle.command_answers.proofs.RoundTripLemmas.{law_of_the_replay}
use Rattle.command_answers.proofs.laws.replayed_certificates_come_back.Goals as goal

pub returns : goal.returns
returns c = law_of_the_replay
