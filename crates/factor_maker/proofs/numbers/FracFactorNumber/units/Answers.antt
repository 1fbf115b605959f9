use Rattle.std.proofs.Common.{arith, pos}
use Rattle.std.proofs.lemmas.Int.{ints}
use Rattle.fraction_theory.specs.Fraction.{whole}
use Rattle.fraction_theory.proofs.OrderLaws.{≤ℚ_trans, whole-≤ℚ}
use Rattle.factor_maker.proofs.numbers.FracFactorNumber.units.Goals as goal

pub nearest-requires-clause-size : goal.nearest-requires-clause-size
nearest-requires-clause-size c = ≤ℚ_trans _ (whole (pos 1)) (whole (pos 1000)) c.requires.size (whole-≤ℚ (pos 1) (pos 1000) (omega (arith, ints)))
