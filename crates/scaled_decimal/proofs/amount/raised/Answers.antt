use Rattle.std.proofs.Common.{◌≡◌, ◌+◌, ◌*◌, ◌^◌, min, ap, sym, ◌∙◌, arith}
use Rattle.std.proofs.lemmas.Grind.{pow_more}
use Rattle.std.proofs.Math.Nat.{mul_assoc}
use Rattle.scaled_decimal.proofs.AmountLemmas.{raised_far}
use Rattle.scaled_decimal.proofs.amount.raised.Goals as goal

pub loop-preserved : goal.loop-preserved
loop-preserved c =
    let next : c.args.size * 10 ^ (c.loop.counter + 1) ≡ c.args.size * 10 ^ c.loop.counter * 10 =
    ap (λ t. c.args.size * t) (pow_more 10 c.loop.counter) ∙ sym (mul_assoc c.args.size (10 ^ c.loop.counter) 10) in
    Prim.omega arith

pub returns : goal.returns
returns c =
    let at : c.loop.counter ≡ min c.args.tens 19 = Prim.omega arith in
    c.loop.invariant ∙ (ap (λ k. min (c.args.size * 10 ^ k) (2 ^ 63)) at ∙ raised_far c.args.size c.args.tens)
