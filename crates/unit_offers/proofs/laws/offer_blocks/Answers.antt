use Rattle.unit_offers.proofs.Stairs.{offer_blocks}
use Rattle.unit_offers.proofs.laws.offer_blocks.Goals as goal

pub returns : goal.returns
returns c = offer_blocks
