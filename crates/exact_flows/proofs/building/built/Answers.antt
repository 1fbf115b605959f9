use Rattle.std.proofs.Common.{arith}
use Rattle.std.proofs.lemmas.List.{length-map}
use Rattle.network_theory.specs.Networks.{Network}
use Rattle.exact_flows.specs.Lines.{line_branch, line_network}
use Rattle.exact_flows.proofs.PutIn.{all_built}
use Rattle.exact_flows.proofs.building.built.Goals as goal

pub returns-clause-built : goal.returns-clause-built
returns-clause-built g c =
    let n : Network = line_network g.N.Exact.value c.args.buses c.args.lines.now in
    all_built n c.args.reference c.requires.reference c.loop-place.place c.loop-place.dict c.loop-place.invariant
    (Prim.omega (arith, c.loop-place-test.false, c.loop-place.auto.place, c.loop-place.auto.place-end, c.requires.reference, c.requires.some, length-map c.args.lines.now (line_branch g.N.Exact.value)))
