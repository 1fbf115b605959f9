use Rattle.market_model.proofs.RowLaws.{law_of_the_flows}
use Rattle.market_model.proofs.laws.flows_agree.Goals as goal

pub returns : goal.returns
returns c = law_of_the_flows
