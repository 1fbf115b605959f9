use Rattle.std.proofs.Common.{◌≡◌, ◌+◌, ◌*◌, ◌∙◌, ℕ, arith, ap, length, subst, sym}
use Rattle.std.proofs.lemmas.List.{length-map}
use Rattle.network_theory.specs.Networks.{Network}
use Rattle.exact_flows.specs.Lines.{line_branch, line_network}
use Rattle.exact_flows.proofs.Reading.{AreRead, read_all, read_more}
use Rattle.exact_flows.proofs.flows.exact_flows.Goals as goal

pub loop-place-preserved : goal.loop-place-preserved
loop-place-preserved g c =
    let n : Network = line_network g.N.Exact.value c.args.buses c.args.lines.now in
    subst (AreRead g.N.Exact.value n c.args.reference (c.loop-place.place + 1)) (sym c.in_ok-push.ensures)
    (read_more g.N.Exact.value n c.args.reference c.loop-place.place c.loop-place.flows c.carried-flow.result c.loop-place.invariant c.carried-flow.ensures)

pub returns-clause-flows : goal.returns-clause-flows
returns-clause-flows g c =
    let n : Network = line_network g.N.Exact.value c.args.buses c.args.lines.now in
    let all : c.loop-place.place ≡ length c.args.lines.now * c.args.buses = Prim.omega (arith, c.loop-place-test.false, c.loop-place.auto.place-end) in
    let count : length c.args.lines.now * c.args.buses ≡ length n.branches * c.args.buses = ap (λ (t : ℕ). t * c.args.buses) (sym (length-map c.args.lines.now (line_branch g.N.Exact.value))) in
    read_all g.N.Exact.value n c.args.reference c.loop-place.flows
    (subst (λ (t : ℕ). AreRead g.N.Exact.value n c.args.reference t c.loop-place.flows) (all ∙ count) c.loop-place.invariant)
