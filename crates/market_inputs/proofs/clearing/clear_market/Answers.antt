use Rattle.std.proofs.Common.{◌≡◌, ◌∙◌, Ok, Err, rules, subst, sym}
use Rattle.std.specs.Prelude.{◌↔◌}
use Rattle.market_model.specs.Market.{IsMarket}
use Rattle.market_model.specs.Reserves.{no_reserve}
use Rattle.market_tables.specs.Tables.{tables_lent}
use Rattle.market_model.specs.declared.participants.Parts.{Parts}
use Rattle.market_inputs.specs.Cases.{IsReadNetwork}
use Rattle.market_inputs.specs.Clearing.{AreMarketParts, IsClearMarket}
use Rattle.market_inputs.specs.Files.{sized_tables}
use Rattle.market_inputs.specs.Steps.{Then}
use Rattle.market_inputs.specs.Stops.{IsToldAs}
use Rattle.market_inputs.specs.Tables.{ListsNoReserve}
use Rattle.market_inputs.proofs.ClearLemmas.{market-read}
use Rattle.market_inputs.proofs.StepLemmas.{goes-on, made-then, stops, told-as}
use Rattle.market_inputs.proofs.clearing.clear_market.Goals as goal

pub returns-in_err-network-clause-told : goal.returns-in_err-network-clause-told
returns-in_err-network-clause-told c =
    let files = sized_tables (tables_lent c.args.bytes.now) in
    let first = IsReadNetwork c.args.rating files.grid.case in
    let next = AreMarketParts c.args.places files in
    let out = c.from_residual.result in
    let given : out ≡ Err c.in_err-network.field-0.0 = search rules in
    told-as (Then first next) (IsClearMarket c.args.rating c.args.places files) (market-read c.args.rating c.args.places files) out
    (stops first next c.read_network.result out c.in_err-network.field-0.0 c.read_network.ensures.told c.in_err-network.was given)

pub returns-in_err-parts-clause-told : goal.returns-in_err-parts-clause-told
returns-in_err-parts-clause-told c =
    let files = sized_tables (tables_lent c.args.bytes.now) in
    let first = IsReadNetwork c.args.rating files.grid.case in
    let next = AreMarketParts c.args.places files in
    let out = c.from_residual-in_err-parts.result in
    let given : out ≡ Err c.in_err-parts.field-0.0 = search rules in
    told-as (Then first next) (IsClearMarket c.args.rating c.args.places files) (market-read c.args.rating c.args.places files) out
    (goes-on first next c.in_ok-network.network out c.in_ok-network.ensures.told
    (subst (IsToldAs (next c.in_ok-network.network)) (c.in_err-parts.was ∙ sym given) c.market_parts.ensures.told))

pub returns-clause-told : goal.returns-clause-told
returns-clause-told c =
    let files = sized_tables (tables_lent c.args.bytes.now) in
    let first = IsReadNetwork c.args.rating files.grid.case in
    let next = AreMarketParts c.args.places files in
    market-read c.args.rating c.args.places files _
    (made-then first next c.in_ok-network.network _ c.in_ok-network.ensures.told
    (subst (λ (p : Parts). next c.in_ok-network.network (Ok p)) (sym c.in_ok-assemble.ensures) c.in_ok-parts.ensures.told))

pub returns-clause-kept : goal.returns-clause-kept
returns-clause-kept c = subst IsMarket (sym c.in_ok-assemble.ensures) c.in_ok-parts.ensures.kept

pub returns-clause-energy_alone : goal.returns-clause-energy_alone
returns-clause-energy_alone c =
    subst (λ (m : Parts). (m.reserve ≡ no_reserve) ↔ ListsNoReserve c.args.bytes.now.reserves.now) (sym c.in_ok-assemble.ensures) c.in_ok-parts.ensures.energy_alone
