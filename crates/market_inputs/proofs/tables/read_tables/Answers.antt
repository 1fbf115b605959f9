use Rattle.std.proofs.Common.{◌≡◌, ℕ, List, Ok, Err, rules}
use Rattle.factor_tables.specs.Factors.{FactorRecords}
use Rattle.market_inputs.specs.declared.tables.Tables.{Tables}
use Rattle.market_tables.specs.Tables.{grid_lent}
use Rattle.market_inputs.specs.Files.{sized_grid}
use Rattle.market_inputs.specs.Steps.{Is, Then}
use Rattle.market_inputs.specs.Tables.{AreOutagesIn, loss_in, shift_in}
use Rattle.market_inputs.proofs.StepLemmas.{goes-on, stops}
use Rattle.market_inputs.proofs.tables.read_tables.Goals as goal

pub returns-in_err-outages-clause-told : goal.returns-in_err-outages-clause-told
returns-in_err-outages-clause-told c =
    let network = c.args.network.now in
    let places = c.args.places in
    let grid = sized_grid (grid_lent c.args.grid.now) in
    let out = c.from_residual-in_err-outages.result in
    let given : out ≡ Err c.in_err-outages.field-0.0 = search rules in
    let made = λ (s l : FactorRecords) (o : List ℕ). (let tables : Tables = record { shift = s; loss = l; outages = o } in Is (Ok tables)) in
    let behind = λ (s l : FactorRecords). Then (AreOutagesIn network grid.contingencies) (made s l) in
    goes-on (Is (shift_in places network grid.ptdf)) (λ (s : FactorRecords). Then (Is (loss_in places network grid.lodf)) (behind s)) c.in_ok-shift.shift out c.in_ok-shift.ensures
    (goes-on (Is (loss_in places network grid.lodf)) (behind c.in_ok-shift.shift) c.in_ok-loss.loss out c.in_ok-loss.ensures
    (stops (AreOutagesIn network grid.contingencies) (made c.in_ok-shift.shift c.in_ok-loss.loss) c.outage_table.result out c.in_err-outages.field-0.0 c.outage_table.ensures.told c.in_err-outages.was given))
