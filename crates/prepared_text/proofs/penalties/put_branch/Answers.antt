use Rattle.std.proofs.Common.{◌∙◌, refl, sym, true, false}
use Rattle.std.specs.Prelude.{is_some}
use Rattle.prepared_text.specs.PenaltyText.{penalty_line}
use Rattle.prepared_text.proofs.PenaltyLines.{both-lines, line-none, line-there}
use Rattle.prepared_text.proofs.penalties.put_branch.Goals.{else-is_some, then-is_some+in_ok-put_penalty}
use Rattle.prepared_text.proofs.penalties.put_branch.Goals as goal

pub returns-in_ok-put_penalty-2 : goal.returns-in_ok-put_penalty-2
returns-in_ok-put_penalty-2 c =
    let branch = c.args.branch.now in
    let softness = c.args.softness in
    let text = c.args.text.now in
    let line = penalty_line ((branch.row, false), softness) in
    both-lines softness branch text c.if-is_some.text c.put_penalty-then-is_some-2.new.text
    (elim c.if-is_some.branch [
      | then-is_some+in_ok-put_penalty w ↦ line-there (is_some branch.base) line text c.if-is_some.text (sym c.is_some.ensures ∙ w.if-is_some.true) (w.text-is ∙ w.in_ok-put_penalty.ensures)
      | else-is_some w ↦ line-none (is_some branch.base) line text c.if-is_some.text (sym c.is_some.ensures ∙ w.if-is_some.false) w.text-is
    ])
    (line-there (is_some branch.post) (penalty_line ((branch.row, true), softness)) c.if-is_some.text c.put_penalty-then-is_some-2.new.text (sym c.is_some-2.ensures ∙ c.if-is_some-2.true)
    c.in_ok-put_penalty-2.ensures)

pub returns-else-is_some-2 : goal.returns-else-is_some-2
returns-else-is_some-2 c =
    let branch = c.args.branch.now in
    let softness = c.args.softness in
    let text = c.args.text.now in
    let line = penalty_line ((branch.row, false), softness) in
    both-lines softness branch text c.if-is_some.text c.if-is_some.text
    (elim c.if-is_some.branch [
      | then-is_some+in_ok-put_penalty w ↦ line-there (is_some branch.base) line text c.if-is_some.text (sym c.is_some.ensures ∙ w.if-is_some.true) (w.text-is ∙ w.in_ok-put_penalty.ensures)
      | else-is_some w ↦ line-none (is_some branch.base) line text c.if-is_some.text (sym c.is_some.ensures ∙ w.if-is_some.false) w.text-is
    ])
    (line-none (is_some branch.post) (penalty_line ((branch.row, true), softness)) c.if-is_some.text c.if-is_some.text (sym c.is_some-2.ensures ∙ c.if-is_some-2.false) refl)
