use Rattle.prepared_text.proofs.OffersRead.{offers-back}
use Rattle.prepared_text.proofs.laws.offers_are_read_back.Goals as goal

pub returns : goal.returns
returns c = offers-back
