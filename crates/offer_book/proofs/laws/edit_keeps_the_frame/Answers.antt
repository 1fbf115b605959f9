use Rattle.offer_book.proofs.FrameOfEdits.{law_of_the_edited_frame}
use Rattle.offer_book.proofs.laws.edit_keeps_the_frame.Goals as goal

pub returns : goal.returns
returns c = law_of_the_edited_frame
