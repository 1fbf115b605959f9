use Rattle.one_dispatch.proofs.OneFirst.{law_of_one_dispatch}
use Rattle.one_dispatch.proofs.laws.one_goes_first.Goals as goal

pub returns : goal.returns
returns c = law_of_one_dispatch
