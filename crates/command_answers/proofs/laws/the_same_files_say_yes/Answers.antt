use Rattle.command_answers.proofs.RoundTripLemmas.{law_of_the_same_files}
use Rattle.command_answers.proofs.laws.the_same_files_say_yes.Goals as goal

pub returns : goal.returns
returns c = law_of_the_same_files
