use Rattle.limit_screen.proofs.ScreenLemmas.{law_of_row_flows}
use Rattle.limit_screen.proofs.laws.flows_are_those_of_rows.Goals as goal

pub returns : goal.returns
returns c = law_of_row_flows
