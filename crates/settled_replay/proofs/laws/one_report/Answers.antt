use Rattle.settled_replay.proofs.PrintLawProofs.{law_of_one_report}
use Rattle.settled_replay.proofs.laws.one_report.Goals as goal

pub returns : goal.returns
returns c = law_of_one_report c.one_goes_first.ensures c.one_set_of_prices.ensures
