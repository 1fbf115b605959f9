use Rattle.offer_book.specs.Edits.{step_of}
use Rattle.offer_book.proofs.FrameOfEdits.{law_of_the_edited_frame}
use Rattle.clear_loop.proofs.FrameLemmas.{law_of_the_start}
use Rattle.edit_replay.proofs.session.Session.edit.Goals as goal

-- an edit keeps the frame, and what is kept is a start for each market of it
pub invariant_of-self : goal.invariant_of-self
invariant_of-self g c =
    let m = c.self.inside.market in
    rw c.edit.ensures.changed
    (law_of_the_start m (step_of m c.args.asked.now) c.self.inside.clearer (law_of_the_edited_frame m c.args.asked.now) c.self.invariant)
