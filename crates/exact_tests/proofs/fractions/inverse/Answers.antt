use Rattle.fraction_theory.proofs.SignLaws.{not_nil_by_sign}
use Rattle.exact_tests.proofs.fractions.inverse.Goals as goal

pub recip-requires : goal.recip-requires
recip-requires g c = not_nil_by_sign (g.N.Exact.value c.args.x) c.sign.result c.sign.ensures c.in_default.not-Zero
