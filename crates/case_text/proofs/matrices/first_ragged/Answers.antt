use Rattle.std.proofs.Common.{◌+◌, ◌∙◌, sym, subst, ◌≤◌}
use Rattle.std.proofs.lemmas.List.{length-map}
use Rattle.case_text.proofs.RowLemmas.{first_ragged-end, first_ragged-other, first_ragged-same}
use Rattle.case_text.proofs.matrices.first_ragged.Goals as goal

pub returns-then-len-width : goal.returns-then-len-width
returns-then-len-width c =
    let row = c.index-rows-at.result in
    sym (c.loop-at.invariant
    ∙ first_ragged-other _ c.args.width (c.loop-at.at + 1) c.args.rows.now c.loop-at.at row c.loop-at-test.true c.index-rows-at.is
    (λ e. c.if-len-width.true (c.len.ensures ∙ row.ok.0 ∙ sym (length-map row.items _) ∙ e)))

pub loop-at-preserved : goal.loop-at-preserved
loop-at-preserved c =
    let row = c.index-rows-at.result in
    c.loop-at.invariant
    ∙ first_ragged-same _ c.args.width (c.loop-at.at + 1) c.args.rows.now c.loop-at.at row c.loop-at-test.true c.index-rows-at.is
    (length-map row.items _ ∙ sym row.ok.0 ∙ sym c.len.ensures ∙ c.if-len-width.false)

pub returns : goal.returns
returns c =
    sym (c.loop-at.invariant ∙ first_ragged-end c.args.width (c.loop-at.at + 1) _ c.loop-at.at (subst (λ n. n ≤ c.loop-at.at) (sym (length-map c.args.rows.now _)) c.loop-at-test.false))
