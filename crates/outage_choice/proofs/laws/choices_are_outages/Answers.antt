use Rattle.outage_choice.proofs.ChoiceLemmas.{chosen-are}
use Rattle.outage_choice.proofs.laws.choices_are_outages.Goals as goal

pub returns : goal.returns
returns c = chosen-are
