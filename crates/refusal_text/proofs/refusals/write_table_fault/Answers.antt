use Rattle.std.proofs.Common.{◌++◌, ◌∙◌, ap, sym, codes, decimal, append_assoc}
use Rattle.std.proofs.lemmas.Result.{IfOk-weaker}
use Rattle.refusal_text.specs.Refusals.{table_words}
use Rattle.refusal_text.proofs.refusals.write_table_fault.Goals as goal

pub returns-in-NoOffset : goal.returns-in-NoOffset
unfolding table_words
returns-in-NoOffset c =
    IfOk-weaker c.numbered.result _ _
    (λ _ e. e ∙ append_assoc c.args.text.now (codes "NoOffset branch ") (decimal c.in-NoOffset.branch) ∙ ap (λ f. c.args.text.now ++ table_words f) (sym c.in-NoOffset.is)) c.numbered.ensures
