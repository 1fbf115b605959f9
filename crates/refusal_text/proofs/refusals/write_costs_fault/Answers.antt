use Rattle.std.proofs.Common.{◌++◌, ◌∙◌, ap, sym, codes, decimal, append_assoc}
use Rattle.std.proofs.lemmas.Result.{IfOk-weaker}
use Rattle.refusal_text.specs.Refusals.{costs_words}
use Rattle.refusal_text.proofs.refusals.write_costs_fault.Goals as goal

pub returns-in-Ragged : goal.returns-in-Ragged
unfolding costs_words
returns-in-Ragged c =
    IfOk-weaker c.numbered.result _ _
    (λ _ e. e ∙ append_assoc c.args.text.now (codes "Ragged gencost row ") (decimal c.in-Ragged.row) ∙ ap (λ f. c.args.text.now ++ costs_words f) (sym c.in-Ragged.is)) c.numbered.ensures
