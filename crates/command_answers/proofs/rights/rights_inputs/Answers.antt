use Rattle.std.proofs.Common.{◌≡◌, List, Ok, Err, ap, rules}
use Rattle.market_model.specs.declared.participants.Parts.{Parts}
use Rattle.market_model.specs.declared.participants.TransmissionRight.{TransmissionRight}
use Rattle.refusal_text.specs.declared.refusals.Input.TheVariants as input
use Rattle.refusal_text.specs.declared.refusals.Refusal.TheVariants as refusal
use Rattle.market_tables.specs.Tables.{tables_lent}
use Rattle.market_inputs.specs.Files.{sized}
use Rattle.market_inputs.specs.RightsInputs.{rights_in}
use Rattle.market_inputs.specs.Steps.{Is, Then}
use Rattle.market_inputs.proofs.StepLemmas.{goes-on, stops}
use Rattle.market_inputs.specs.Texts.{IsLimited}
use Rattle.command_answers.specs.Inputs.{MarketRights, rights_with}
use Rattle.command_answers.proofs.rights.rights_inputs.Goals as goal

pub returns-in_err-rights-clause-told : goal.returns-in_err-rights-clause-told
returns-in_err-rights-clause-told c =
    let market = c.in_ok-market.market in
    let e = c.in_err-rights.field-0.0 in
    let given : c.from_residual-in_err-rights.result ≡ Err e = search rules in
    let out = rights_with c.from_residual-in_err-rights.result in
    let read = λ (m : Parts). Is (rights_in m (sized (refusal.TooLong input.Rights) c.args.rights.now)) in
    let both : Parts → List TransmissionRight → MarketRights = λ m rights. record { market = m; rights = rights } in
    let made = λ (m : Parts) (rights : List TransmissionRight). Is (Ok (both m rights)) in
    goes-on (IsLimited c.args.rating c.args.places (tables_lent c.args.bytes.now)) (λ (m : Parts). Then (read m) (made m)) market out c.in_ok-market.ensures.told
    (stops (read market) (made market) c.read_rights.result out e c.read_rights.ensures.told c.in_err-rights.was (ap rights_with given))
