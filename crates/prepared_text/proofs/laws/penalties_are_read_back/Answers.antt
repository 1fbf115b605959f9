use Rattle.prepared_text.proofs.PenaltiesRead.{penalties-back}
use Rattle.prepared_text.proofs.laws.penalties_are_read_back.Goals as goal

pub returns : goal.returns
returns c = penalties-back
