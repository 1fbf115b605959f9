use Rattle.std.proofs.Common.{◌++◌, ◌∙◌, ap, sym, codes, decimal, append_assoc}
use Rattle.std.proofs.lemmas.Result.{IfOk-weaker}
use Rattle.refusal_text.specs.Refusals.{unoffered_words}
use Rattle.refusal_text.proofs.refusals.write_unoffered.Goals as goal

pub returns-in-TooFew : goal.returns-in-TooFew
unfolding unoffered_words
returns-in-TooFew c =
    IfOk-weaker c.numbered.result _ _
    (λ _ e. e ∙ append_assoc c.args.text.now (codes "TooFew gencost rows ") (decimal c.in-TooFew.rows) ∙ ap (λ f. c.args.text.now ++ unoffered_words f) (sym c.in-TooFew.is)) c.numbered.ensures
