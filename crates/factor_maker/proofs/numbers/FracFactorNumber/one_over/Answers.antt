use Rattle.std.proofs.Common.{◌^◌, ◌∙◌, ap, arith, sym, ℤ}
use mir.Syntax.{w128}
use Rattle.std.proofs.lemmas.Int.{to_z-of_z}
use Rattle.fraction_theory.specs.Fraction.{over}
use Rattle.factor_maker.proofs.Recips.{over_apart}
use Rattle.factor_maker.proofs.numbers.FracFactorNumber.one_over.Goals as goal

pub recip-requires : goal.recip-requires
recip-requires c = λ e.
    over_apart c.args.reactance (10 ^ 18) (omega arith) c.requires.above (ap (λ (x : ℤ). over x (10 ^ 18)) (sym (to_z-of_z w128 c.args.reactance c.ranges.reactance)) ∙ sym c.of_wide.ensures ∙ e)
