use Rattle.exact_fraction.proofs.Apart.{written_apart}
use Rattle.exact_fraction.proofs.laws.written_apart.Goals as goal

pub returns : goal.returns
returns c = written_apart
