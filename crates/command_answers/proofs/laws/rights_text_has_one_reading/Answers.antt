use Rattle.command_answers.proofs.RightsReading.{law_of_the_rights_text}
use Rattle.command_answers.proofs.laws.rights_text_has_one_reading.Goals as goal

pub returns : goal.returns
returns c = law_of_the_rights_text
