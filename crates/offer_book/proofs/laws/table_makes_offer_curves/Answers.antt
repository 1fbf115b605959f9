use Rattle.offer_book.proofs.CurveTables.{law_of_offer_tables}
use Rattle.offer_book.proofs.laws.table_makes_offer_curves.Goals as goal

pub returns : goal.returns
returns c = law_of_offer_tables
