use Rattle.offer_book.proofs.EditedMarkets.{law_of_edited_markets}
use Rattle.offer_book.proofs.laws.edited_is_a_market.Goals as goal

pub returns : goal.returns
returns c = law_of_edited_markets
