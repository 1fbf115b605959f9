use Rattle.std.proofs.Common.{◌≡◌, ◌∙◌, ap, arith, false, map, subst, sym, w64, to_z, of_z}
use Rattle.std.specs.Prelude.{ℤ, Bool}
use Rattle.std.proofs.lemmas.Int.{to_z-of_z, ints}
use Rattle.market_model.specs.Changes.{with_need}
use Rattle.market_model.specs.Frame.{SameFrame, frame}
use Rattle.edit_replay.specs.Replays.{step_outcome_at}
use Rattle.edit_replay.specs.SessionStates.{SessionState}
use Rattle.replay_text.specs.ReplayTexts.{replayed}
use Rattle.settled_replay.specs.Refusals.{TellsRefusals}
use Rattle.command_answers.specs.Replaying.{TellsSteps}
use Rattle.command_answers.specs.Tellings.{telling_of}
use Rattle.command_answers.proofs.ReplayLemmas.{replays_to}
use Rattle.command_answers.proofs.WiderLemmas.{replays_to-wider}
use Rattle.command_answers.proofs.replaying.replay_outcome.Goals as goal

pub outcomes_told-requires-clause-fits : goal.outcomes_told-requires-clause-fits
outcomes_told-requires-clause-fits g c = c.in_ok-printed.ensures.fits c.market.result.now (c.in_ok-printed.ensures.frame ∙ sym (ap frame c.market.ensures))

pub returns-clause-replays : goal.returns-clause-replays
returns-clause-replays g c =
    let same : SameFrame c.market.result.now c.args.market =
    ap frame c.market.ensures ∙ sym c.in_ok-printed.ensures.frame ∙ ap (λ (s : SessionState). frame s.market) c.new-session.ensures in
    let market = c.args.market in
    let outcomes = map (step_outcome_at g.N.Exact.value) c.in_ok-printed.printed.outcomes in
    let kept : to_z w64 (of_z w64 c.need_of-need.result) ≡ c.need_of-need.result = search (arith, ints, to_z-of_z) in
    let text = ap (λ (need : ℤ). replayed (with_need market need) c.args.steps.now outcomes) (kept ∙ c.need_of-need.ensures) in
    let is = c.in_ok-made.ensures.tells c.args.market same in
    replays_to g.N.Exact.value g.N.Exact.bound g.met.N.Exact.value_fits c.args.market c.args.steps.now c.new-session.result c.settled_replay.new.session c.in_ok-printed.printed.outcomes _ c.new-session.ensures
    c.requires.market c.requires.steps c.in_ok-printed.ensures.replay
    (record { status_is = is.status_is; text_is = is.text_is ∙ text; certificate_is = is.certificate_is; certificate_fits = is.certificate_fits })

pub returns-clause-wider : goal.returns-clause-wider
returns-clause-wider g c = λ bound wide none.
    let same : SameFrame c.market.result.now c.args.market =
    ap frame c.market.ensures ∙ sym c.in_ok-printed.ensures.frame ∙ ap (λ (s : SessionState). frame s.market) c.new-session.ensures in
    let market = c.args.market in
    let outcomes = map (step_outcome_at g.N.Exact.value) c.in_ok-printed.printed.outcomes in
    let kept : to_z w64 (of_z w64 c.need_of-need.result) ≡ c.need_of-need.result = search (arith, ints, to_z-of_z) in
    let text = ap (λ (need : ℤ). replayed (with_need market need) c.args.steps.now outcomes) (kept ∙ c.need_of-need.ensures) in
    let is = c.in_ok-made.ensures.tells c.args.market same in
    let fine = c.is_either.ensures.none none in
    let first = subst (λ (m : _). TellsRefusals g.N.Exact.bound m c.args.steps.now outcomes false) (ap (λ (s : SessionState). s.market) c.new-session.ensures)
    (subst (TellsRefusals g.N.Exact.bound c.new-session.result.market c.args.steps.now outcomes) fine.1 c.in_ok-printed.ensures.passed) in
    replays_to-wider g.N.Exact.bound bound wide g.N.Exact.value g.met.N.Exact.value_fits c.args.market c.args.steps.now c.new-session.result c.settled_replay.new.session c.in_ok-printed.printed.outcomes _ c.new-session.ensures
    c.requires.market c.requires.steps c.in_ok-printed.ensures.replay
    (record { status_is = is.status_is; text_is = is.text_is ∙ text; certificate_is = is.certificate_is; certificate_fits = is.certificate_fits })
    (c.in_ok-made.ensures.within fine.0) first
