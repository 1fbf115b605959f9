use Rattle.std.proofs.Common.{◌++◌, ◌∙◌, ap, sym, codes, decimal, append_assoc}
use Rattle.std.proofs.lemmas.Result.{IfOk-weaker}
use Rattle.refusal_text.specs.Refusals.{case_words}
use Rattle.refusal_text.proofs.refusals.write_case_fault.Goals as goal

pub returns-in-BadToken : goal.returns-in-BadToken
unfolding case_words
returns-in-BadToken c =
    IfOk-weaker c.numbered-in-BadToken.result _ _
    (λ _ e. e ∙ append_assoc c.args.text.now (codes "BadToken at ") (decimal c.in-BadToken.at) ∙ ap (λ f. c.args.text.now ++ case_words f) (sym c.in-BadToken.is)) c.numbered-in-BadToken.ensures
