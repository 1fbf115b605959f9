use Rattle.offer_book.proofs.FrameOfEdits.{law_of_edited_frames}
use Rattle.offer_book.proofs.laws.edited_has_the_frame.Goals as goal

pub returns : goal.returns
returns c = law_of_edited_frames
