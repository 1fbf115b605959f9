use Rattle.std.proofs.Common.{ap, sym, ◌∙◌, length, get_or, pos}
use Rattle.std.specs.Prelude.{map}
use Rattle.std.proofs.lemmas.List.{take_all}
use Rattle.fraction_theory.specs.Fraction.{◌+ℚ◌}
use Rattle.fraction_theory.specs.Sums.{sum_by}
use Rattle.flow_guess.specs.declared.links.Link.{Link}
use Rattle.flow_guess.specs.Links.{link_branch, link_network}
use Rattle.flow_guess.specs.Guesses.{low_flow, high_flow, link_out}
use Rattle.flow_guess.proofs.NetSums.{sum_more, out_is}
use Rattle.flow_guess.proofs.bounds.outflow.Goals as goal

pub loop-link-preserved : goal.loop-link-preserved
loop-link-preserved c =
    let links = c.args.links.now in
    let k = c.loop-link.link-index in
    let g = c.args.guess.now in
    let d : Link = record { from = 0; to = 0; reactance = pos 0 } in
    let low_out = link_out c.args.bus (low_flow g) (high_flow g) in
    let high_out = link_out c.args.bus (high_flow g) (low_flow g) in
    let within = c.loop-link-test.true in (
      c.in_ok-range.ensures.least ∙ ap (λ t. t +ℚ low_out (link_branch (get_or links k d))) c.loop-link.invariant.0 ∙ sym (sum_more low_out link_branch links k d within),
      c.in_ok-range.ensures.most ∙ ap (λ t. t +ℚ high_out (link_branch (get_or links k d))) c.loop-link.invariant.1 ∙ sym (sum_more high_out link_branch links k d within),
    )

pub returns-clause-least : goal.returns-clause-least
returns-clause-least c =
    let g = c.args.guess.now in
    let out = link_out c.args.bus (low_flow g) (high_flow g) in
    c.loop-link.invariant.0
    ∙ ap (λ links. sum_by out (map link_branch links)) (take_all c.loop-link.link-index c.args.links.now c.loop-link-test.false)
    ∙ out_is (link_network (length g.angles.items) c.args.links.now) (low_flow g) (high_flow g) c.args.bus

pub returns-clause-most : goal.returns-clause-most
returns-clause-most c =
    let g = c.args.guess.now in
    let out = link_out c.args.bus (high_flow g) (low_flow g) in
    c.loop-link.invariant.1
    ∙ ap (λ links. sum_by out (map link_branch links)) (take_all c.loop-link.link-index c.args.links.now c.loop-link-test.false)
    ∙ out_is (link_network (length g.angles.items) c.args.links.now) (high_flow g) (low_flow g) c.args.bus
