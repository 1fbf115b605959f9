use Rattle.std.proofs.Common.{◌≡◌, ◌∙◌, ◌++◌, List, ℕ, ap, arith, map, w64, to_z, of_z}
use Rattle.std.specs.Prelude.{ℤ}
use Rattle.std.proofs.lemmas.Int.{to_z-of_z, ints}
use Rattle.edit_replay.specs.Replays.{step_outcome_at}
use Rattle.market_model.specs.Changes.{with_need}
use Rattle.replay_text.specs.ReplayTexts.{steps_text}
use Rattle.replay_text.proofs.StepLines.{replayed_some}
use Rattle.replay_text.proofs.replay.replay_text.Goals as goal

pub returns : goal.returns
returns g c = λ m same.
    let outcomes = map (step_outcome_at g.N.Exact.value) c.args.outcomes.now in
    let lines : ℤ → List ℕ = λ need. steps_text 1 (with_need c.args.market.now need) c.args.steps.now outcomes in
    let as_given : to_z w64 (of_z w64 c.args.need) ≡ c.args.need = search (arith, ints, to_z-of_z) in
    c.into_bytes-2.ensures ∙ c.in_ok-steps_lines.ensures ∙ ap (λ (need : ℤ). c.new-text.result ++ lines need) as_given ∙ ap (λ (t : List ℕ). t ++ lines c.args.need) c.new-text.ensures
    ∙ replayed_some c.args.market.now m c.args.need c.args.steps.now outcomes (λ none. absurd (omega (arith, none, c.len.ensures, c.if-len-eq0.false))) same
