use Rattle.std.proofs.Common.{rules, append_assoc}
use Rattle.std.proofs.lemmas.Result.{IfOk-equal}
use Rattle.replay_text.specs.ReplayTexts.{step_text}
use Rattle.replay_text.proofs.replay.step_lines.Goals as goal

pub returns : goal.returns
unfolding step_text
returns g c = search (rules, IfOk-equal, append_assoc)
