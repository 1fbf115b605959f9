use Rattle.command_answers.proofs.RightsReading.{law_of_the_rights_telling}
use Rattle.command_answers.proofs.laws.rights_text_tells_the_outcome.Goals as goal

pub returns : goal.returns
returns c = law_of_the_rights_telling
