use Rattle.std.proofs.Common.{rules, arith, ap, ◌∙◌, to_z, of_z}
use mathlib.Core.Path.{ap₂}
use Rattle.std.specs.Int.{w128, int_div_euclid}
use Rattle.std.specs.Prelude.{◌≡◌, neg_ℤ, ◌-ℤ◌}
use Rattle.std.proofs.lemmas.Int.{ints}
use Rattle.flow_guess.specs.Links.{link_branch}
use Rattle.flow_guess.specs.Guesses.{angle_of, least_flow, most_flow, reach}
use Rattle.flow_guess.proofs.bounds.flow_at.Goals as goal

pub returns : goal.returns
unfolding least_flow most_flow
returns c =
    let g = c.args.guess.now in
    let link = c.args.link.now in
    let fall : to_z w128 (of_z w128 c.in_ok-fall.fall) ≡ angle_of g link.from -ℤ angle_of g link.to = omega (arith, ints, c.in_ok-fall.ensures.1, c.angle_at-from.ensures, c.angle_at-to.ensures) in
    let rise : to_z w128 (of_z w128 c.in_ok-rise.rise) ≡ angle_of g link.to -ℤ angle_of g link.from = omega (arith, ints, c.in_ok-rise.ensures.1, c.angle_at-from.ensures, c.angle_at-to.ensures) in
    let by : to_z w128 (of_z w128 c.reach_of-reach.result) ≡ reach g (link_branch link) = omega (arith, ints, c.reach_of-reach.ensures.is) in
    let least : to_z w128 (of_z w128 c.floor-2.result) ≡ c.floor-2.result = search rules in
    let most : to_z w128 (of_z w128 c.in_ok-most.most) ≡ neg_ℤ c.floor.result = omega (arith, ints, c.in_ok-most.ensures.1) in
    record {
      least_is = least ∙ c.floor-2.ensures ∙ ap₂ int_div_euclid fall by;
      most_is = most ∙ ap neg_ℤ (c.floor.ensures ∙ ap₂ int_div_euclid rise by);
    }
