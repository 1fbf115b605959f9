use Rattle.std.proofs.Common.{rules, sym, ◌∙◌, FitsSigned}
use Rattle.std.proofs.lemmas.Int.{quot_is, quot_fits}
use Rattle.std.specs.Int.{w128}
use Rattle.flow_guess.proofs.Falls.{reach_is}
use Rattle.flow_guess.proofs.bounds.reach_of.Goals as goal

pub returns-clause-is : goal.returns-clause-is
returns-clause-is c =
    let fits : FitsSigned w128 c.args.link.now.reactance = search rules in
    let fits' : FitsSigned w128 c.args.guess.now.scale = search rules in
    quot_is w128 c.args.link.now.reactance c.args.guess.now.scale fits fits' (quot_fits w128 c.args.link.now.reactance c.args.guess.now.scale fits c.requires.above)
    ∙ sym (reach_is c.args.guess.now c.args.link.now c.requires)
