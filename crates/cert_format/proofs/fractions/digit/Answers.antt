use Rattle.std.proofs.Common.{arith}
use Rattle.cert_format.proofs.NumberLemmas.{digit_is}
use Rattle.cert_format.proofs.fractions.digit.Goals as goal

pub returns : goal.returns
returns g c = digit_is _ c.from.result (g.N.Exact.value c.of_parts.result) c.from.ensures (omega (arith, c.requires)) c.of_parts.ensures
