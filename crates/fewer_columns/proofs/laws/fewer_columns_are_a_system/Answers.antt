use Rattle.fewer_columns.proofs.FewerLemmas.{law_of_the_fewer}
use Rattle.fewer_columns.proofs.laws.fewer_columns_are_a_system.Goals as goal

pub returns : goal.returns
returns c = law_of_the_fewer
