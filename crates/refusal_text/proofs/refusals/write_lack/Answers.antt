use Rattle.std.proofs.Common.{◌++◌, ◌∙◌, ap, sym, codes, decimal, append_assoc}
use Rattle.std.proofs.lemmas.Result.{IfOk-weaker}
use Rattle.refusal_text.specs.Refusals.{lack_words}
use Rattle.refusal_text.proofs.refusals.write_lack.Goals as goal

pub returns-in-NoShift : goal.returns-in-NoShift
unfolding lack_words
returns-in-NoShift c =
    IfOk-weaker c.numbered.result _ _
    (λ _ e. e ∙ append_assoc c.args.text.now (codes "NoShift branch ") (decimal c.in-NoShift.branch) ∙ ap (λ l. c.args.text.now ++ lack_words l) (sym c.in-NoShift.is)) c.numbered.ensures

pub returns-in-NoLoss : goal.returns-in-NoLoss
unfolding lack_words
returns-in-NoLoss c =
    IfOk-weaker c.numbered-in-NoLoss.result _ _
    (λ _ e. e ∙ append_assoc c.args.text.now (codes "NoLoss branch ") (decimal c.in-NoLoss.branch) ∙ ap (λ l. c.args.text.now ++ lack_words l) (sym c.in-NoLoss.is)) c.numbered-in-NoLoss.ensures
