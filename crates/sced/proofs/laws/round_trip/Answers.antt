use Rattle.sced.proofs.HeadlineLemmas.{law_of_round_trip}
use Rattle.sced.proofs.laws.round_trip.Goals as goal

pub returns : goal.returns
returns c = law_of_round_trip
