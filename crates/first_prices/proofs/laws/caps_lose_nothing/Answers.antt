use Rattle.first_prices.proofs.CapLemmas.{law_of_caps}
use Rattle.first_prices.proofs.laws.caps_lose_nothing.Goals as goal

pub returns : goal.returns
returns c = law_of_caps
