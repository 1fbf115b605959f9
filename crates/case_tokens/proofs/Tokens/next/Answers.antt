use Rattle.std.proofs.Common.{◌∙◌, sym, ap}
use Rattle.case_tokens.specs.TokenLists.{Remaining}
use Rattle.case_tokens.specs.Cursors.{brackets_of}
use Rattle.case_tokens.proofs.PieceLemmas.{only_end}
use Rattle.case_tokens.proofs.TokenLemmas.{left-bad, left-end, same_remaining}
use Rattle.case_tokens.proofs.Tokens.next.Goals as goal

pub returns-in-Bad-clause-gives : goal.returns-in-Bad-clause-gives
returns-in-Bad-clause-gives c =
    let at = c.after_gaps-self-inside.result in
    let gaps = c.after_gaps-self-inside.ensures in (
      sym (ap (λ (r : Remaining). r.left) c.self.view_is) ∙ sym gaps.left
          ∙ left-bad (brackets_of at) at.text.now at.place at.blank gaps.valid.within gaps.valid.blank (sym c.in-Bad.ensures.value),
      same_remaining _ _ _ _ _ gaps.text gaps.left c.self.view_is,
    )

pub returns-in-End-clause-gives : goal.returns-in-End-clause-gives
returns-in-End-clause-gives c =
    let at = c.after_gaps-self-inside.result in
    let gaps = c.after_gaps-self-inside.ensures in (
      sym (ap (λ (r : Remaining). r.left) c.self.view_is) ∙ sym gaps.left
          ∙ left-end (brackets_of at) at.text.now at.place at.blank gaps.valid.blank (sym c.piece_of.ensures.value ∙ only_end _ _ c.piece_of.ensures.value gaps.no_gap c.in-End.is),
      same_remaining _ _ _ _ _ gaps.text gaps.left c.self.view_is,
    )
