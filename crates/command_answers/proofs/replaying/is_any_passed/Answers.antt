use Rattle.std.proofs.Common.{◌≡◌, ◌<◌, ◌≤◌, All, ap, arith, false, get_or, length, rules, subst, true}
use Rattle.std.proofs.lemmas.List.{take_all}
use Rattle.std.proofs.lemmas.List.Elements.{All-map, All-more}
use Rattle.edit_replay.specs.Replays.{step_outcome_at}
use Rattle.command_answers.specs.Replaying.{IsNoRange}
use Rattle.command_answers.proofs.ReplayLemmas.{none_at}
use Rattle.command_answers.proofs.replaying.is_any_passed.Goals as goal

pub returns-then-is_passed-clause-one : goal.returns-then-is_passed-clause-one
returns-then-is_passed-clause-one g c =
    let slice = c.slice-outcome-items.ensures in
    let k = c.loop-outcome.outcome-index in
    let within : k < length c.args.outcomes.now = omega (arith, c.loop-outcome-test.true, ap length slice) in
    let item = subst (λ os. c.outcome-item.result ≡ get_or os k c.outcome-item.result) slice c.outcome-item.is in
    let one : c.is_passed.result ≡ true = search rules in
    λ _ none. c.is_passed.ensures.one one (none_at g.N.Exact.value c.args.outcomes.now k c.outcome-item.result within item none)

pub loop-outcome-preserved : goal.loop-outcome-preserved
loop-outcome-preserved g c =
    let slice = c.slice-outcome-items.ensures in
    let k = c.loop-outcome.outcome-index in
    let within : k < length c.args.outcomes.now = omega (arith, c.loop-outcome-test.true, ap length slice) in
    let item = subst (λ os. c.outcome-item.result ≡ get_or os k c.outcome-item.result) slice c.outcome-item.is in
    let none : c.is_passed.result ≡ false = search rules in
    All-more (λ o. IsNoRange (step_outcome_at g.N.Exact.value o)) c.args.outcomes.now k c.outcome-item.result within c.loop-outcome.invariant
    (subst (λ o. IsNoRange (step_outcome_at g.N.Exact.value o)) item (c.is_passed.ensures.none none))

pub returns-clause-none : goal.returns-clause-none
returns-clause-none g c =
    let slice = c.slice-outcome-items.ensures in
    let over : length c.args.outcomes.now ≤ c.loop-outcome.outcome-index = omega (arith, c.loop-outcome-test.false, ap length slice) in
    λ none. All-map IsNoRange (step_outcome_at g.N.Exact.value) c.args.outcomes.now
    (subst (All (λ o. IsNoRange (step_outcome_at g.N.Exact.value o))) (take_all c.loop-outcome.outcome-index c.args.outcomes.now over) c.loop-outcome.invariant)
