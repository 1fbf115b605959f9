use Rattle.market_model.proofs.ReserveLaw.{law_of_the_reserve}
use Rattle.market_model.proofs.laws.reserve_is_paid_for_the_need.Goals as goal

pub returns : goal.returns
returns c = law_of_the_reserve
