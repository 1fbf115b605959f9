use Rattle.std.proofs.Common.{◌∙◌, List, ap, length, subst}
use Rattle.std.specs.Prelude.{Contains}
use Rattle.net_case.specs.declared.live_parts.NetBranch.{NetBranch}
use Rattle.factor_maker.proofs.Networks.{above_all, given_connected, given_few, given_flows, given_lines, given_network, given_stop}
use Rattle.factor_maker.proofs.lines.flows_of.Goals as goal

pub lines_of-requires-clause-above : goal.lines_of-requires-clause-above
lines_of-requires-clause-above c = λ l k.
    above_all c.args.network.now c.args.reactances.now c.args.lost c.requires.sound l (subst (λ (bs : List NetBranch). Contains bs l) (c.slice.ensures ∙ c.in_ok-branches.ensures) k)

pub exact_flows-requires-clause-few : goal.exact_flows-requires-clause-few
exact_flows-requires-clause-few c =
    let network = c.args.network.now in
    let xs = c.args.reactances.now in
    given_few network xs c.args.lost c.requires.sound _ c.slice-2.result.now c.len.result c.reference.result (c.len.ensures ∙ ap length c.buses.ensures.list) c.reference.ensures.place
    (given_lines network xs c.args.lost c.requires.sound _ c.slice-2.ensures (c.slice.ensures ∙ c.in_ok-branches.ensures) c.in_ok-lines.ensures)

pub exact_flows-requires-clause-network : goal.exact_flows-requires-clause-network
exact_flows-requires-clause-network c =
    let network = c.args.network.now in
    let xs = c.args.reactances.now in
    given_network network xs c.args.lost c.requires.sound _ c.slice-2.result.now c.len.result c.reference.result (c.len.ensures ∙ ap length c.buses.ensures.list) c.reference.ensures.place
    (given_lines network xs c.args.lost c.requires.sound _ c.slice-2.ensures (c.slice.ensures ∙ c.in_ok-branches.ensures) c.in_ok-lines.ensures)

pub exact_flows-requires-clause-connected : goal.exact_flows-requires-clause-connected
exact_flows-requires-clause-connected c =
    let network = c.args.network.now in
    let xs = c.args.reactances.now in
    given_connected network xs c.args.lost c.requires.sound _ c.slice-2.result.now c.len.result c.reference.result (c.len.ensures ∙ ap length c.buses.ensures.list) c.reference.ensures.place
    (given_lines network xs c.args.lost c.requires.sound _ c.slice-2.ensures (c.slice.ensures ∙ c.in_ok-branches.ensures) c.in_ok-lines.ensures)

pub returns-clause-flows : goal.returns-clause-flows
returns-clause-flows c =
    let network = c.args.network.now in
    let xs = c.args.reactances.now in
    given_flows network xs c.args.lost c.requires.sound _ c.slice-2.result.now c.len.result c.reference.result (c.len.ensures ∙ ap length c.buses.ensures.list) c.reference.ensures.place
    (given_lines network xs c.args.lost c.requires.sound _ c.slice-2.ensures (c.slice.ensures ∙ c.in_ok-branches.ensures) c.in_ok-lines.ensures) c.exact_flows.result c.exact_flows.ensures.flows

pub returns-clause-stop : goal.returns-clause-stop
returns-clause-stop c =
    let network = c.args.network.now in
    let xs = c.args.reactances.now in
    given_stop network xs c.args.lost c.requires.sound _ c.slice-2.result.now c.len.result c.reference.result (c.len.ensures ∙ ap length c.buses.ensures.list) c.reference.ensures.place
    (given_lines network xs c.args.lost c.requires.sound _ c.slice-2.ensures (c.slice.ensures ∙ c.in_ok-branches.ensures) c.in_ok-lines.ensures)
    170141183460469231731687303715884105727 c.exact_flows.result c.exact_flows.ensures.pair
