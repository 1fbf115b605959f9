use Rattle.offer_book.proofs.CurveEdits.{law_of_edited_curves}
use Rattle.offer_book.proofs.laws.edited_has_offer_curves.Goals as goal

pub returns : goal.returns
returns c = law_of_edited_curves
