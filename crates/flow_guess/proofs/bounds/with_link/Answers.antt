use Rattle.std.proofs.Common.{ap, ◌∙◌}
use mathlib.Core.Path.{ap₂}
use Rattle.std.proofs.lemmas.Option.{IfSome_then}
use Rattle.fraction_theory.specs.Fraction.{whole, ◌+ℚ◌, ◌-ℚ◌}
use Rattle.flow_guess.specs.Links.{link_branch}
use Rattle.flow_guess.specs.Guesses.{low_flow, high_flow}
use Rattle.flow_guess.proofs.NetSums.{no_out, whole_three}
use Rattle.flow_guess.proofs.bounds.with_link.Goals as goal

pub returns-then-link-bus-2-clause-least : goal.returns-then-link-bus-2-clause-least
returns-then-link-bus-2-clause-least c = no_out c.args.bus (low_flow c.args.guess.now) (high_flow c.args.guess.now) (link_branch c.args.link.now) (whole c.args.range.least) c.if-link-bus.true c.if-link-bus-2.true

pub returns-then-link-bus-2-clause-most : goal.returns-then-link-bus-2-clause-most
returns-then-link-bus-2-clause-most c = no_out c.args.bus (high_flow c.args.guess.now) (low_flow c.args.guess.now) (link_branch c.args.link.now) (whole c.args.range.most) c.if-link-bus.true c.if-link-bus-2.true

pub returns-clause-least : goal.returns-clause-least
returns-clause-least c = IfSome_then c.plus.result c.plus.ensures.least
    (λ out e. ap whole e ∙ whole_three c.args.range.least _ _ ∙ ap (λ t. whole c.args.range.least +ℚ t) (ap₂ ◌-ℚ◌ c.in_ok-leaves.ensures.least c.in_ok-enters.ensures.most))

pub returns-clause-most : goal.returns-clause-most
returns-clause-most c = IfSome_then c.plus.result c.plus.ensures.most
    (λ out e. ap whole e ∙ whole_three c.args.range.most _ _ ∙ ap (λ t. whole c.args.range.most +ℚ t) (ap₂ ◌-ℚ◌ c.in_ok-leaves.ensures.most c.in_ok-enters.ensures.least))
