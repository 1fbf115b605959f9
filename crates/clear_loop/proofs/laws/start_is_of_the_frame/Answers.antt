use Rattle.clear_loop.proofs.FrameLemmas.{law_of_the_start}
use Rattle.clear_loop.proofs.laws.start_is_of_the_frame.Goals as goal

pub returns : goal.returns
returns c = law_of_the_start
