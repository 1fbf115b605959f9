use Rattle.std.proofs.Common.{◌≡◌, ◌+◌, ◌*◌, ◌^◌, min, ap, ◌∙◌, arith}
use Rattle.scaled_decimal.proofs.AmountLemmas.{digit_zero, digit_more}
use Rattle.scaled_decimal.proofs.amount.with_digit.Goals as goal

pub returns-then-digit-eq0-clause-number : goal.returns-then-digit-eq0-clause-number
returns-then-digit-eq0-clause-number c = λ n s. digit_zero n _ _ _ c.if-digit-eq0.true s

pub returns-clause-number : goal.returns-clause-number
returns-clause-number c = λ n s.
    let raised : c.raised.result ≡ min (c.args.front.size * 10 ^ (c.args.front.zeros + 1)) (2 ^ 63) = c.raised.ensures ∙ ap (λ k. min (c.args.front.size * 10 ^ k) (2 ^ 63)) c.from.ensures in
    digit_more n c.args.front.size c.args.front.zeros c.args.digit c.min-size.result c.requires.digit c.if-digit-eq0.false s (Prim.omega arith)
