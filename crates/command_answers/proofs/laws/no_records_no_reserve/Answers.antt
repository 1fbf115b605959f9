use Rattle.command_answers.proofs.ListingLemmas.{law_of_listed_reserve}
use Rattle.command_answers.proofs.laws.no_records_no_reserve.Goals as goal

pub returns : goal.returns
returns c = law_of_listed_reserve
