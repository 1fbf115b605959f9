use Rattle.replay_text.proofs.ReplayReading.{replays_apart}
use Rattle.replay_text.proofs.laws.replay_has_one_reading.Goals as goal

pub returns : goal.returns
returns c = replays_apart
