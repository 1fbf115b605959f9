use Rattle.std.proofs.Common.{◌≡◌, ◌∙◌, ℕ, List, arith, ap, length, subst, sym}
use Rattle.std.specs.List.{Contains}
use Rattle.std.proofs.lemmas.List.{length-map}
use Rattle.linear_dict.specs.Adding.{AreSums}
use Rattle.network_theory.specs.Networks.{Network}
use Rattle.exact_flows.specs.Building.{AreAngles, bus_of}
use Rattle.exact_flows.specs.FlowSystems.{coefficient, name}
use Rattle.exact_flows.specs.Lines.{line_branch, line_network}
use Rattle.exact_flows.specs.declared.rows.Row.{Row}
use Rattle.exact_flows.proofs.Places.{row_before}
use Rattle.exact_flows.proofs.PutIn.{angles_distinct, angles_lack, at_place, start_built}
use Rattle.exact_flows.proofs.building.started.Goals as goal

pub start-requires-clause-distinct : goal.start-requires-clause-distinct
start-requires-clause-distinct g c =
    let n : Network = line_network g.N.Exact.value c.args.buses c.args.lines.now in
    angles_distinct n c.args.reference c.requires.reference c.slice.result.now (subst (AreAngles c.args.buses c.args.reference) (sym c.slice.ensures) c.in_ok-angles.ensures)

pub start-requires-clause-absent : goal.start-requires-clause-absent
start-requires-clause-absent g c =
    let n : Network = line_network g.N.Exact.value c.args.buses c.args.lines.now in
    let first = row_before (length n.branches) c.args.reference 0 (Prim.omega (arith, c.requires.some, length-map c.args.lines.now (line_branch g.N.Exact.value))) in
    let is : c.row_name-name.result ≡ name c.args.buses (at_place n c.args.reference c.requires.reference 0) = c.row_name-name.ensures ∙ ap (name c.args.buses) (sym first) in
    subst (λ (w : ℕ). ¬ (Contains c.slice.result.now w)) (sym is)
    (angles_lack n c.args.reference c.requires.reference c.slice.result.now (subst (AreAngles c.args.buses c.args.reference) (sym c.slice.ensures) c.in_ok-angles.ensures) 0)

pub start-requires-clause-entries : goal.start-requires-clause-entries
start-requires-clause-entries g c =
    let are : AreAngles c.args.buses c.args.reference c.slice.result.now = subst (AreAngles c.args.buses c.args.reference) (sym c.slice.ensures) c.in_ok-angles.ensures in
    ap length c.slice-2.ensures ∙ (c.in_ok-numbers.ensures.numbers (length c.slice.result.now) are.count).size

pub returns-clause-built : goal.returns-clause-built
returns-clause-built g c =
    let value = g.N.Exact.value in
    let n : Network = line_network value c.args.buses c.args.lines.now in
    let angles : List ℕ = c.slice.result.now in
    let are : AreAngles c.args.buses c.args.reference angles = subst (AreAngles c.args.buses c.args.reference) (sym c.slice.ensures) c.in_ok-angles.ensures in
    let first = row_before (length n.branches) c.args.reference 0 (Prim.omega (arith, c.requires.some, length-map c.args.lines.now (line_branch value))) in
    let is : c.row_name-name.result ≡ name c.args.buses (at_place n c.args.reference c.requires.reference 0) = c.row_name-name.ensures ∙ ap (name c.args.buses) (sym first) in
    let sums = subst (λ (row : Row). AreSums value c.in_ok-numbers.numbers (length angles) (λ i. coefficient n.branches row (bus_of c.args.reference i))) (sym first)
    (c.in_ok-numbers.ensures.numbers (length angles) are.count) in
    start_built n c.args.reference c.requires.reference value angles c.row_name-name.result c.slice-2.result.now c.in_ok-start.field-0 are is
    (subst (λ (xs : List g.row.N.Denot). AreSums value xs (length angles) (λ i. coefficient n.branches (at_place n c.args.reference c.requires.reference 0) (bus_of c.args.reference i))) (sym c.slice-2.ensures) sums)
    c.in_ok-start.ensures
