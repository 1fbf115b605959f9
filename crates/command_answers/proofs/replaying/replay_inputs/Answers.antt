use Rattle.std.proofs.Common.{◌≡◌, List, Ok, Err, ap, rules}
use Rattle.market_model.specs.declared.participants.Parts.{Parts}
use Rattle.edit_table.specs.declared.Step.{Step}
use Rattle.refusal_text.specs.declared.refusals.Input.TheVariants as input
use Rattle.refusal_text.specs.declared.refusals.Refusal.TheVariants as refusal
use Rattle.market_tables.specs.Tables.{tables_lent}
use Rattle.market_inputs.specs.Files.{sized}
use Rattle.market_inputs.specs.Replaying.{steps_in}
use Rattle.market_inputs.specs.Steps.{Is, Then}
use Rattle.market_inputs.proofs.StepLemmas.{goes-on, stops}
use Rattle.market_inputs.specs.Texts.{IsLimited}
use Rattle.command_answers.specs.Inputs.{MarketSteps, steps_with}
use Rattle.command_answers.proofs.replaying.replay_inputs.Goals as goal

pub returns-in_err-steps-clause-told : goal.returns-in_err-steps-clause-told
returns-in_err-steps-clause-told c =
    let market = c.in_ok-market.market in
    let e = c.in_err-steps.field-0.0 in
    let given : c.from_residual-in_err-steps.result ≡ Err e = search rules in
    let out = steps_with c.from_residual-in_err-steps.result in
    let read = Is (steps_in (sized (refusal.TooLong input.Edits) c.args.edits.now)) in
    let both : Parts → List Step → MarketSteps = λ m steps. record { market = m; steps = steps } in
    let made = λ (m : Parts) (steps : List Step). Is (Ok (both m steps)) in
    goes-on (IsLimited c.args.rating c.args.places (tables_lent c.args.bytes.now)) (λ (m : Parts). Then read (made m)) market out c.in_ok-market.ensures.told
    (stops read (made market) c.edit_steps.result out e c.edit_steps.ensures.told c.in_err-steps.was (ap steps_with given))
