use Rattle.market_system.proofs.Completeness.{law_of_completeness}
use Rattle.clear_loop.proofs.laws.clears_decide.Goals as goal

pub returns : goal.returns
returns c = λ bound m before after o market none clear. law_of_completeness m before bound o market none clear.right
