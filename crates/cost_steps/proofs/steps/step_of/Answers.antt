use Rattle.std.proofs.Common.{rules, ◌≡◌, refl, ap, sym, ◌∙◌, subst, w64, to_z, of_z}
use Rattle.std.specs.Prelude.{◌-ℤ◌}
use Rattle.std.specs.Int.{w128}
use Rattle.std.proofs.lemmas.Int.{to_z-of_z, fits_signed_from_abs}
use mir.Val.{SFits}
use Rattle.fraction_theory.specs.Fraction.{over}
use Rattle.cost_steps.specs.Rounding.{IsRounded, IsBeyond}
use Rattle.cost_steps.proofs.steps.step_of.Goals as goal

pub returns-in-Some : goal.returns-in-Some
returns-in-Some c =
    let rise : to_z w128 (of_z w128 c.args.stretch.rise) ≡ c.args.stretch.rise = to_z-of_z w128 c.args.stretch.rise (fits_signed_from_abs w128 c.args.stretch.rise c.requires.rise) in
    let from : SFits w64 c.args.stretch.from = search rules in
    let to : SFits w64 c.args.stretch.to = search rules in
    let number : SFits w64 c.in-Some.price.number = search rules in
    record {
      quantity =
          ap (λ t. to_z w64 (of_z w64 (t -ℤ to_z w64 (of_z w64 c.args.stretch.from)))) (to_z-of_z w64 c.args.stretch.to to)
          ∙ ap (λ t. to_z w64 (of_z w64 (c.args.stretch.to -ℤ t))) (to_z-of_z w64 c.args.stretch.from from)
          ∙ to_z-of_z w64 (c.args.stretch.to -ℤ c.args.stretch.from) (fits_signed_from_abs w64 (c.args.stretch.to -ℤ c.args.stretch.from) c.requires.width);
      price = subst (λ n. IsRounded (over c.args.stretch.rise c.args.stretch.run) (record { number = n; exact = c.in-Some.price.exact })) (sym (to_z-of_z w64 c.in-Some.price.number number))
          (subst (λ t. IsRounded (over t c.args.stretch.run) c.in-Some.price) rise c.in-Some.ensures);
    }

pub returns-in-None : goal.returns-in-None
returns-in-None c =
    let rise : to_z w128 (of_z w128 c.args.stretch.rise) ≡ c.args.stretch.rise = to_z-of_z w128 c.args.stretch.rise (fits_signed_from_abs w128 c.args.stretch.rise c.requires.rise) in
    record {
      price = refl;
      beyond = subst (λ t. IsBeyond (over t c.args.stretch.run)) rise c.in-None.ensures;
    }
