use Rattle.std.proofs.Common.{◌≡◌, ◌∙◌, ap, arith, ◌+◌, ◌++◌, length, take}
use Rattle.exact_fraction.specs.Written.{number_text}
use Rattle.exact_fraction.proofs.Digits.{decimal_short}
use Rattle.exact_fraction.proofs.text.append_digits.Goals as goal

pub append-requires : goal.append-requires
append-requires c =
    let e : c.as_bytes.result.now ≡ number_text c.args.n = c.as_bytes.ensures.value ∙ c.format.ensures.text ∙ decimal_short c.args.n (omega arith) in
    omega (arith, ap length e)

pub returns-clause-end : goal.returns-clause-end
returns-clause-end c =
    let e : c.as_bytes.result.now ≡ number_text c.args.n = c.as_bytes.ensures.value ∙ c.format.ensures.text ∙ decimal_short c.args.n (omega arith) in
    c.append.ensures.end ∙ ap (λ t. c.args.at + length t) e

pub returns-clause-text : goal.returns-clause-text
returns-clause-text c =
    let e : c.as_bytes.result.now ≡ number_text c.args.n = c.as_bytes.ensures.value ∙ c.format.ensures.text ∙ decimal_short c.args.n (omega arith) in
    c.append.ensures.text ∙ ap (λ t. take c.args.at c.args.buf.now ++ t) e
