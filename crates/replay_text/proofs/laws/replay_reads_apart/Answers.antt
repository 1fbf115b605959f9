use Rattle.replay_text.proofs.ReplayReading.{replays_read_apart}
use Rattle.replay_text.proofs.laws.replay_reads_apart.Goals as goal

pub returns : goal.returns
returns c = replays_read_apart
