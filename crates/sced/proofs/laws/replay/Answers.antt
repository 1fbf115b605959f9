use Rattle.sced.proofs.HeadlineLemmas.{law_of_replay}
use Rattle.sced.proofs.laws.replay.Goals as goal

pub returns : goal.returns
returns c = law_of_replay
