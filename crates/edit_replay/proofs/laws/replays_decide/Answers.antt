use Rattle.edit_replay.proofs.ReplayLawProofs.{law_of_clears}
use Rattle.edit_replay.proofs.laws.replays_decide.Goals as goal

pub returns : goal.returns
returns c = law_of_clears
