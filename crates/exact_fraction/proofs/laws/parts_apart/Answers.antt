use Rattle.exact_fraction.proofs.Apart.{parts_apart}
use Rattle.exact_fraction.proofs.laws.parts_apart.Goals as goal

pub returns : goal.returns
returns c = parts_apart
