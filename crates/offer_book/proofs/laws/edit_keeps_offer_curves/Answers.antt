use Rattle.offer_book.proofs.CurveEdits.{law_of_offer_curves}
use Rattle.offer_book.proofs.laws.edit_keeps_offer_curves.Goals as goal

pub returns : goal.returns
returns c = law_of_offer_curves
