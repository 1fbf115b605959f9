use Rattle.network_meaning.proofs.WorkedCases.{worked-cases}
use Rattle.network_meaning.proofs.laws.worked_cases.Goals as goal

pub returns : goal.returns
returns c = worked-cases
