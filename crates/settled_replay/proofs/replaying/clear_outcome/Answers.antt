use Rattle.std.proofs.Common.{◌≡◌, is_some, subst, sym, ◌∙◌}
use Rattle.market_model.specs.declared.participants.Parts.{Parts}
use Rattle.market_model.specs.Valued.{outcome_at}
use Rattle.limit_screen.specs.Reaching.{IsReachOf}
use Rattle.market_dict.specs.Chosen.{IsChosenOutcome}
use Rattle.market_dict.specs.Takings.{limits_of}
use Rattle.edit_replay.specs.declared.step_outcome.StepOutcome.TheVariants as reply
use Rattle.edit_replay.proofs.KeptLemmas.{takes_at}
use Rattle.settled_replay.specs.PrintedReplays.{PrintsClear}
use Rattle.settled_replay.specs.Refusals.{TellsRefusal}
use Rattle.settled_replay.proofs.PrintLemmas.{kept_too, prints_at}
use Rattle.settled_replay.proofs.RefusalLemmas.{tells_at}
use Rattle.settled_replay.proofs.replaying.clear_outcome.Goals as goal

pub settled_outcome-requires-clause-right : goal.settled_outcome-requires-clause-right
settled_outcome-requires-clause-right g c =
    rw (c.market.ensures, c.clear_reached.ensures.market) (g.N.Exact.bound, limits_of c.args.session.now.kept.taken.takings, c.in_ok-reached.ensures.clear.right)

pub settled_outcome-requires-clause-reach : goal.settled_outcome-requires-clause-reach
settled_outcome-requires-clause-reach g c =
    let same : c.market.result.now ≡ c.args.session.now.market = c.market.ensures ∙ c.clear_reached.ensures.market in
    subst (λ (n : Parts). IsReachOf g.N.Exact.value n c.in_ok-reached.reached.outcome c.in_ok-reached.reached.reach) (sym same) c.in_ok-reached.ensures.reach

pub returns-clause-reply : goal.returns-clause-reply
returns-clause-reply g c =
    let value = g.N.Exact.value in
    let m = c.args.session.now.market in
    let before = c.args.session.now.kept.taken.takings in
    let after = c.clear_reached.new.self.kept.taken.takings in
    let o = c.in_ok-reached.reached.outcome in
    let p = c.in_ok-settled.settled.outcome in
    let same : c.market.result.now ≡ m = c.market.ensures ∙ c.clear_reached.ensures.market in
    let settled = c.in_ok-settled.ensures in (
      reply.Clear (outcome_at value o),
      (c.in_ok-reached.ensures.clear, takes_at value m before after o c.in_ok-reached.ensures.takings),
      subst (λ (n : Parts). PrintsClear g.N.Exact.bound n (outcome_at value o) (outcome_at value p)) same
          (prints_at value g.N.Exact.bound c.market.result.now o p settled.right settled.dispatch
          (subst (λ (n : Parts). IsChosenOutcome n (outcome_at value o)) (sym same) c.in_ok-reached.ensures.chosen) c.in_ok-settled.settled.passed settled.settled),
    )

pub returns-clause-passed : goal.returns-clause-passed
returns-clause-passed g c =
    let value = g.N.Exact.value in
    let settled = c.in_ok-settled.settled in
    let same : c.market.result.now ≡ c.args.session.now.market = c.market.ensures ∙ c.clear_reached.ensures.market in
    rw c.is_some.ensures
    (subst (λ (n : Parts). TellsRefusal g.N.Exact.bound n (reply.Clear (outcome_at value settled.outcome)) (is_some settled.passed)) same
    (tells_at value g.N.Exact.bound c.market.result.now c.in_ok-reached.reached.outcome settled.outcome settled.passed c.in_ok-settled.ensures.settled))

pub returns-clause-kept : goal.returns-clause-kept
returns-clause-kept g c = kept_too c.in_ok-reached.reached.outcome c.in_ok-settled.settled.outcome c.clear_reached.new.self.kept c.in_ok-settled.ensures.dispatch c.in_ok-reached.ensures.kept
