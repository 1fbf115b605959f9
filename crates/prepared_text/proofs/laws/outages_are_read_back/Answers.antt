use Rattle.prepared_text.proofs.OutagesRead.{outages-back}
use Rattle.prepared_text.proofs.laws.outages_are_read_back.Goals as goal

pub returns : goal.returns
returns c = outages-back
