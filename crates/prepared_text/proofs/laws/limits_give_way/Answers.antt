use Rattle.prepared_text.proofs.SoftEntries.{soft-back}
use Rattle.prepared_text.proofs.laws.limits_give_way.Goals as goal

pub returns : goal.returns
returns c = soft-back
