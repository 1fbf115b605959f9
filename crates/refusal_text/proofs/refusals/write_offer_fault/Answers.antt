use Rattle.std.proofs.Common.{◌++◌, ◌∙◌, ap, sym, codes, decimal}
use Rattle.std.proofs.lemmas.Result.{IfOk-weaker}
use Rattle.refusal_text.specs.Refusals.{offer_words}
use Rattle.refusal_text.proofs.RefusalLemmas.{four}
use Rattle.refusal_text.proofs.refusals.write_offer_fault.Goals as goal

pub returns-in-OverCapacity : goal.returns-in-OverCapacity
unfolding offer_words
returns-in-OverCapacity c =
    IfOk-weaker c.at_line-in-OverCapacity.result _ _
    (λ _ e. e ∙ four c.args.text.now (codes "OverCapacity") (codes " line ") (decimal c.in-OverCapacity.line) ∙ ap (λ f. c.args.text.now ++ offer_words f) (sym c.in-OverCapacity.is))
    c.at_line-in-OverCapacity.ensures
