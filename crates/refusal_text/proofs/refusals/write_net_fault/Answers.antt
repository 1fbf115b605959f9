use Rattle.std.proofs.Common.{◌++◌, ◌∙◌, ap, sym, codes, decimal, append_assoc}
use Rattle.std.proofs.lemmas.Result.{IfOk-weaker}
use Rattle.refusal_text.specs.Refusals.{net_words}
use Rattle.refusal_text.proofs.RefusalLemmas.{four}
use Rattle.refusal_text.proofs.refusals.write_net_fault.Goals as goal

pub returns-in-BusTwice : goal.returns-in-BusTwice
unfolding net_words
returns-in-BusTwice c =
    IfOk-weaker c.numbered.result _ _
    (λ _ e. e ∙ append_assoc c.args.text.now (codes "BusTwice row ") (decimal c.in-BusTwice.row) ∙ ap (λ f. c.args.text.now ++ net_words f) (sym c.in-BusTwice.is)) c.numbered.ensures

pub returns-in_ok-word-in-MinAboveMax : goal.returns-in_ok-word-in-MinAboveMax
unfolding net_words
returns-in_ok-word-in-MinAboveMax c =
    IfOk-weaker c.numbered-in-MinAboveMax.result _ _
    (λ _ e. e ∙ ap (λ t. (t ++ codes "unit ") ++ decimal c.in-MinAboveMax.unit) c.in_ok-word-in-MinAboveMax.ensures
    ∙ four c.args.text.now (codes "MinAboveMax ") (codes "unit ") (decimal c.in-MinAboveMax.unit) ∙ ap (λ f. c.args.text.now ++ net_words f) (sym c.in-MinAboveMax.is))
    c.numbered-in-MinAboveMax.ensures

pub returns-in-SameEnds : goal.returns-in-SameEnds
unfolding net_words
returns-in-SameEnds c =
    IfOk-weaker c.numbered-in-SameEnds.result _ _
    (λ _ e. e ∙ append_assoc c.args.text.now (codes "SameEnds row ") (decimal c.in-SameEnds.row) ∙ ap (λ f. c.args.text.now ++ net_words f) (sym c.in-SameEnds.is)) c.numbered-in-SameEnds.ensures
