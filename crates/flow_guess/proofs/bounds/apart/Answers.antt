use Rattle.std.proofs.Common.{arith, ◌∙◌, ap, to_z, of_z}
use Rattle.std.specs.Int.{w128}
use Rattle.std.specs.Prelude.{◌≡◌, ℤ, ◌-ℤ◌}
use Rattle.std.proofs.lemmas.Int.{ints}
use Rattle.fraction_theory.specs.Fraction.{whole, ◌-ℚ◌}
use Rattle.fraction_theory.specs.Signs.{abs_ℚ}
use Rattle.flow_guess.proofs.NetSums.{whole_size, whole_minus, of_checked}
use Rattle.flow_guess.proofs.bounds.apart.Goals as goal

pub returns : goal.returns
returns c =
    let a = c.args.a in
    let b = c.args.b in
    let x = to_z w128 (of_z w128 c.in_ok-checked_sub.field-0) in
    let e : x ≡ a -ℤ b = omega (arith, ints, c.in_ok-checked_sub.ensures.1) in
    of_checked (λ (size : ℤ). whole size ≡ abs_ℚ (whole a -ℚ whole b)) c.checked_abs.result _ _ c.checked_abs.ensures
    (whole_size x ∙ ap (λ (z : ℤ). abs_ℚ (whole z)) e ∙ ap abs_ℚ (whole_minus a b))
