use Rattle.settled_replay.proofs.PrintLawProofs.{law_of_printed_clears}
use Rattle.settled_replay.proofs.laws.printed_clears.Goals as goal

pub returns : goal.returns
returns c = law_of_printed_clears c.replays_decide.ensures
