use Rattle.std.proofs.Common.{◌∙◌, sym, ap, arith, ◌++◌, ◌∷◌, [], append_assoc, take}
use Rattle.exact_fraction.specs.Written.{last_digits}
use Rattle.exact_fraction.proofs.Digits.{trimmed_stop}
use Rattle.exact_fraction.proofs.text.append_trimmed.Goals.{then-loop-k-test+else-left-eq0, else-loop-k-test}
use Rattle.exact_fraction.proofs.text.append_trimmed.Goals as goal

pub returns-clause-text : goal.returns-clause-text
returns-clause-text c =
    let s = trimmed_stop c.loop-k.k c.loop-k.left (omega arith) (elim c.loop-k-test.branch [ then-loop-k-test+else-left-eq0 w ↦ w.if-left-eq0.false | else-loop-k-test w ↦ absurd (omega arith) ]) in
    c.append_last.ensures.text ∙ ap (λ t. t ++ last_digits c.loop-k.k c.loop-k.left) c.append-end.ensures.text
    ∙ append_assoc (take c.args.at c.args.buf.now) (46 ∷ []) (last_digits c.loop-k.k c.loop-k.left) ∙ ap (λ t. take c.args.at c.args.buf.now ++ t) (sym s ∙ c.loop-k.invariant.2)
