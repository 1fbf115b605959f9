use Rattle.edit_replay.proofs.ReplayLawProofs.{law_of_edits}
use Rattle.edit_replay.proofs.laws.edits_have_one_outcome.Goals as goal

pub returns : goal.returns
returns c = law_of_edits
