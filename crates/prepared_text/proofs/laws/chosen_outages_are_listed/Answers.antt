use Rattle.prepared_text.proofs.ChosenRead.{chosen-back}
use Rattle.prepared_text.proofs.laws.chosen_outages_are_listed.Goals as goal

pub returns : goal.returns
returns c = chosen-back
