use Rattle.settled_replay.proofs.StepLemmas.{right_replies}
use Rattle.settled_replay.proofs.laws.right_replies.Goals as goal

pub returns : goal.returns
returns c = right_replies
