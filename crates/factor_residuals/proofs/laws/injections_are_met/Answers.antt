use Rattle.factor_residuals.proofs.InjectionLemmas.{law_of_injections}
use Rattle.factor_residuals.proofs.laws.injections_are_met.Goals as goal

pub returns : goal.returns
returns c = law_of_injections
