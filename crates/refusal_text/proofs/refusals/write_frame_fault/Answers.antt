use Rattle.std.proofs.Common.{◌++◌, ◌∙◌, ap, sym, codes, decimal, append_assoc}
use Rattle.std.proofs.lemmas.Result.{IfOk-weaker}
use Rattle.refusal_text.specs.Refusals.{frame_words}
use Rattle.refusal_text.proofs.refusals.write_frame_fault.Goals as goal

pub returns-in-TooMany : goal.returns-in-TooMany
unfolding frame_words
returns-in-TooMany c =
    IfOk-weaker c.numbered.result _ _
    (λ _ e. e ∙ append_assoc c.args.text.now (codes "TooMany count ") (decimal c.in-TooMany.count) ∙ ap (λ f. c.args.text.now ++ frame_words f) (sym c.in-TooMany.is)) c.numbered.ensures
