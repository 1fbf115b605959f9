use Rattle.std.proofs.Common.{◌≡◌, false, subst}
use Rattle.command_answers.specs.Bounds.{IsOutcomeWithin}
use Rattle.market_model.specs.Valued.{outcome_at}
use Rattle.edit_replay.specs.declared.step_outcome.StepOutcome.TheVariants as reply
use Rattle.settled_replay.specs.Refusals.{TellsRefusal}
use Rattle.command_answers.proofs.BoundLemmas.{outcome_within}
use Rattle.command_answers.proofs.IfOkLemmas.{if_ok-all, if_ok-map}
use Rattle.command_answers.proofs.clearing.cleared.Goals as goal

pub returns-clause-first : goal.returns-clause-first
returns-clause-first g c =
    if_ok-map _ _ c.settled_clear.result
    (λ made told none. subst (λ b. TellsRefusal g.N.Exact.bound c.args.market.now (reply.Clear (outcome_at g.N.Exact.value made.outcome)) b) none told)
    c.settled_clear.ensures.passed

pub returns-clause-within : goal.returns-clause-within
returns-clause-within g c =
    if_ok-all (λ made. IsOutcomeWithin g.N.Exact.bound (outcome_at g.N.Exact.value made.outcome)) c.settled_clear.result (λ made. outcome_within g.N.Exact.value g.N.Exact.bound g.met.N.Exact.value_fits made.outcome)
