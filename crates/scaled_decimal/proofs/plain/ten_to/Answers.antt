use Rattle.std.proofs.Common.{arith}
use Rattle.scaled_decimal.proofs.PlainLemmas.{power_of_ten}
use Rattle.scaled_decimal.proofs.plain.ten_to.Goals as goal

pub returns : goal.returns
returns c = power_of_ten 19 c.args.tens (Prim.omega arith)
