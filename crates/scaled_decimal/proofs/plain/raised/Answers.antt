use Rattle.std.proofs.Common.{◌≡◌, ◌*◌, ◌^◌, ℕ, ap, arith}
use Rattle.scaled_decimal.proofs.PlainLemmas.{raised_fits}
use Rattle.scaled_decimal.proofs.plain.raised.Goals as goal

pub overflow_mul-result : goal.overflow_mul-result
overflow_mul-result c =
    let is : c.args.number * c.ten_to.result ≡ c.args.number * 10 ^ c.args.tens = ap (λ (t : ℕ). c.args.number * t) c.ten_to.ensures in
    Prim.omega (arith, raised_fits c.args.number c.args.tens c.requires.tens c.requires.few, is)

pub returns-clause-size : goal.returns-clause-size
returns-clause-size c =
    let is : c.args.number * c.ten_to.result ≡ c.args.number * 10 ^ c.args.tens = ap (λ (t : ℕ). c.args.number * t) c.ten_to.ensures in
    Prim.omega (arith, raised_fits c.args.number c.args.tens c.requires.tens c.requires.few, is)
