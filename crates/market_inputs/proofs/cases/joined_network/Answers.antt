use Rattle.std.proofs.Common.{◌≡◌, sym, subst, Err, rules}
use Rattle.std.specs.Prelude.{IfErr}
use Rattle.net_case.specs.declared.live_parts.Branches.TheVariants as branches
use Rattle.net_paths.specs.Connection.{IsPathStop}
use Rattle.market_inputs.specs.Cases.{IsJoined, joined, network_in}
use Rattle.market_inputs.specs.Steps.{Is}
use Rattle.market_inputs.specs.Stops.{IsToldAs, split_stop}
use Rattle.market_inputs.proofs.StepLemmas.{goes-on, made-then, split-told}
use Rattle.market_inputs.proofs.cases.joined_network.Goals as goal

pub returns-in_err-connected-clause-told : goal.returns-in_err-connected-clause-told
returns-in_err-connected-clause-told c =
    let network = c.in_ok-network.network in
    let apart : IsPathStop network c.in_err-connected.field-0.0 = subst (λ r. IfErr r (IsPathStop network)) c.in_err-connected.was c.connected.ensures.stop in
    let given : c.from_residual-in_err-connected.result ≡ Err (split_stop c.in_err-connected.field-0.0) = search rules in
    goes-on (Is (network_in (branches.Read c.args.rating) c.args.raw.now)) IsJoined network c.from_residual-in_err-connected.result c.in_ok-network.ensures.told
    (subst (IsToldAs (IsJoined network)) (sym given) (split-told network c.in_err-connected.field-0.0 apart))

pub returns-clause-told : goal.returns-clause-told
returns-clause-told c =
    made-then (Is (network_in (branches.Read c.args.rating) c.args.raw.now)) IsJoined c.in_ok-network.network _ c.in_ok-network.ensures.told (joined c.in_ok-connected.ensures.joined)
