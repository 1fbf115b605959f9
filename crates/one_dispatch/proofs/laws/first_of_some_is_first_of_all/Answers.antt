use Rattle.one_dispatch.proofs.AllLimits.{law_of_all_limits}
use Rattle.one_dispatch.proofs.laws.first_of_some_is_first_of_all.Goals as goal

pub returns : goal.returns
returns c = law_of_all_limits
