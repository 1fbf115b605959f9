use Rattle.std.proofs.Common.{◌≡◌, Ok, Err, rules}
use Rattle.case_text.specs.Matrices.{CaseMatrices}
use Rattle.net_case.specs.Networks.{LiveNetwork}
use Rattle.net_case.specs.declared.live_parts.Branches.TheVariants as branches
use Rattle.refusal_text.specs.declared.refusals.Input.TheVariants as input
use Rattle.refusal_text.specs.declared.refusals.Refusal.TheVariants as refusal
use Rattle.market_inputs.specs.declared.offers.Offered.{Offered}
use Rattle.market_inputs.specs.Cases.{AreReadBuses, matrices_in, network_in}
use Rattle.market_inputs.specs.Files.{sized}
use Rattle.market_inputs.specs.Pooling.{IsPoolMarket, pool_of}
use Rattle.market_inputs.specs.Steps.{Is, Then}
use Rattle.market_inputs.specs.Tables.{offers_in}
use Rattle.market_inputs.proofs.MarketLemmas.{pool-market}
use Rattle.market_inputs.proofs.StepLemmas.{goes-on, stops, then-then, told-as}
use Rattle.market_inputs.proofs.pooling.pool_market.Goals as goal

pub returns-in_err-offered-clause-told : goal.returns-in_err-offered-clause-told
returns-in_err-offered-clause-told c =
    let case = sized (refusal.TooLong input.Case) c.args.case.now in
    let offers = sized (refusal.TooLong input.Offers) c.args.offers.now in
    let network = c.in_ok-network.network in
    let out = c.from_residual-in_err-offered.result in
    let given : out ≡ Err c.in_err-offered.field-0.0 = search rules in
    let made = λ (n : LiveNetwork) (o : Offered). Is (Ok (pool_of n o)) in
    let behind = λ (n : LiveNetwork). Then (Is (offers_in n offers)) (made n) in
    told-as (Then (AreReadBuses case) behind) (IsPoolMarket case offers) (then-then (Is (matrices_in case)) (λ (m : CaseMatrices). Is (network_in branches.Skip m)) behind) out
    (goes-on (AreReadBuses case) behind network out c.in_ok-network.ensures.told
    (stops (Is (offers_in network offers)) (made network) c.offer_table.result out c.in_err-offered.field-0.0 c.offer_table.ensures.told c.in_err-offered.was given))

pub assemble-requires : goal.assemble-requires
assemble-requires c =
    rw (c.bare-parts.ensures, c.into_buses.ensures)
    (pool-market c.in_ok-network.network c.in_ok-offered.offered c.in_ok-network.ensures.kept c.in_ok-offered.ensures.kept)
