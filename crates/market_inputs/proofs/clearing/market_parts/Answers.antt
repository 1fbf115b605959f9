use Rattle.std.proofs.Common.{◌≡◌, Ok, Err, rules}
use Rattle.market_model.specs.declared.participants.Parts.{Parts}
use Rattle.market_tables.specs.Tables.{tables_lent}
use Rattle.market_inputs.specs.declared.covering.Covered.{Covered}
use Rattle.market_inputs.specs.Clearing.{AreCovered, AreLimitedParts, whole_of}
use Rattle.market_inputs.specs.Files.{sized_tables}
use Rattle.market_inputs.specs.Steps.{Is, Then}
use Rattle.market_inputs.proofs.StepLemmas.{goes-on, stops}
use Rattle.market_inputs.proofs.clearing.market_parts.Goals as goal

pub returns-in_err-limited-clause-told : goal.returns-in_err-limited-clause-told
returns-in_err-limited-clause-told c =
    let network = c.args.network in
    let places = c.args.places in
    let files = sized_tables (tables_lent c.args.bytes.now) in
    let out = c.from_residual-in_err-limited.result in
    let given : out ≡ Err c.in_err-limited.field-0.0 = search rules in
    let made = λ (covered : Covered) (limited : Parts). Is (Ok (whole_of places network covered limited)) in
    goes-on (AreCovered places network files) (λ (covered : Covered). Then (AreLimitedParts network covered.tables files) (made covered)) c.in_ok-covered.covered out c.in_ok-covered.ensures.told
    (stops (AreLimitedParts network c.in_ok-covered.covered.tables files) (made c.in_ok-covered.covered) c.limited_parts.result out c.in_err-limited.field-0.0 c.limited_parts.ensures.told c.in_err-limited.was given)

pub returns-clause-energy_alone : goal.returns-clause-energy_alone
returns-clause-energy_alone c = rw c.whole_parts.ensures.reserve c.in_ok-limited.ensures.energy_alone
