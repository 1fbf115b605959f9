use Rattle.std.proofs.Common.{rules, ap, ◌∙◌, [], ◌∷◌, to_z, of_z}
use mathlib.Core.Path.{ap₂}
use Rattle.std.specs.Int.{w128}
use Rattle.std.specs.Prelude.{◌≡◌, ℤ, refl}
use Rattle.fraction_theory.specs.Fraction.{whole, ◌-ℚ◌}
use Rattle.fraction_theory.proofs.Ring.{by_ring, at, pneg, ◌⊕◌, ◌⊗◌}
use Rattle.fraction_theory.proofs.FieldLaws.{ring_ℚ}
use Rattle.network_theory.specs.Carrying.{one_at}
use Rattle.flow_guess.specs.Guesses.{wanted_at}
use Rattle.flow_guess.proofs.NetSums.{whole_minus, of_checked}
use Rattle.flow_guess.proofs.bounds.wanted.Goals as goal

pub returns : goal.returns
returns c =
    let t = c.args.transfer.now in
    let goes_in = c.parts_at-goes_in.result in
    let comes_out = c.parts_at-comes_out.result in
    let goes_in_is : to_z w128 (of_z w128 goes_in) ≡ goes_in = search rules in
    let comes_out_is : to_z w128 (of_z w128 comes_out) ≡ comes_out = search rules in
    of_checked (λ (parts : ℤ). whole parts ≡ wanted_at t c.args.bus) c.checked_sub.result _ _ c.checked_sub.ensures
    (whole_minus (to_z w128 (of_z w128 goes_in)) (to_z w128 (of_z w128 comes_out)) ∙ ap₂ ◌-ℚ◌ (ap whole goes_in_is ∙ c.parts_at-goes_in.ensures) (ap whole comes_out_is ∙ c.parts_at-comes_out.ensures)
    ∙ by_ring ring_ℚ (whole t.parts ∷ one_at t.source c.args.bus ∷ one_at t.sink c.args.bus ∷ []) ((at 0 ⊗ at 1) ⊕ pneg (at 0 ⊗ at 2)) (at 0 ⊗ (at 1 ⊕ pneg (at 2))) refl)
