use Rattle.std.proofs.Common.{rules, ◌≡◌, ◌∙◌, ap, subst, sym}
use Rattle.market_model.specs.declared.answered.Outcome.TheVariants as outcome
use Rattle.market_model.specs.Valued.{answer_at, outcome_at}
use Rattle.report_text.specs.Reports.{report_text}
use Rattle.command_answers.specs.Rights.{TellsOutcome}
use Rattle.command_answers.specs.Tellings.{telling_of}
use Rattle.command_answers.proofs.IfOkLemmas.{if_ok-map}
use Rattle.command_answers.proofs.RightsLemmas.{of-cleared}
use Rattle.command_answers.proofs.rights.outcome_told.Goals as goal

pub returns-in-Cleared-clause-tells : goal.returns-in-Cleared-clause-tells
returns-in-Cleared-clause-tells g c =
    let m = c.args.market.now in
    let value = g.N.Exact.value in
    let a = c.in-Cleared.answer in
    let same : outcome_at value c.args.outcome.now ≡ outcome.Cleared (answer_at value a) = search rules in
    let text = c.as_slice.ensures.value ∙ c.in_ok-reported.ensures ∙ ap (report_text m) same in
    if_ok-map _ _ c.fit_told.result
    (λ told tells. subst (λ o. TellsOutcome g.N.Exact.bound m c.args.rights.now o (telling_of told)) (sym same)
    (of-cleared value g.N.Exact.bound m c.args.rights.now a c.slice-prices.result.now c.as_slice.result.now (telling_of told) c.slice-prices.ensures text tells))
    c.fit_told.ensures.tells
