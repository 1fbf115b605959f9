use Rattle.std.proofs.Common.{◌≡◌, ◌<◌, ◌≤◌, ◌++◌, ◌∙◌, ap, arith, length, map, subst, take, get_or, w64, to_z, of_z}
use Rattle.std.specs.Prelude.{ℤ}
use Rattle.std.proofs.lemmas.Int.{to_z-of_z, ints}
use Rattle.market_model.specs.Changes.{with_need}
use Rattle.market_model.specs.declared.participants.Parts.{Parts}
use Rattle.edit_replay.specs.Replays.{edited_by, step_outcome_at}
use Rattle.replay_text.specs.ReplayTexts.{steps_text}
use Rattle.replay_text.proofs.StepLines.{lines_all, lines_more, need_more, reached}
use Rattle.replay_text.proofs.replay.steps_lines.Goals as goal

pub loop-place-preserved : goal.loop-place-preserved
loop-place-preserved g c =
    let told = step_outcome_at g.N.Exact.value in
    let market = c.args.market.now in
    let steps = c.args.steps.now in
    let outcomes = c.args.outcomes.now in
    let k = c.loop-place.place in
    let slice = c.slice-outcome-items.ensures in
    let within : k < length outcomes = omega (arith, c.loop-place-test.true, ap length slice) in
    let item = subst (λ os. c.outcome-item.result ≡ get_or os k c.outcome-item.result) slice c.outcome-item.is in
    let here : Parts = edited_by (with_need market (to_z w64 (of_z w64 c.args.need))) (take k steps) in
    let after : to_z w64 (of_z w64 c.need_after-need.result) ≡ c.need_after-need.result = search (arith, ints, to_z-of_z) in
    record {
      text = lines_more told market _ steps outcomes k within c.requires.count _ c.loop-place.invariant.need c.args.text.now c.loop-place.text c.step_lines.new.text c.outcome-item.result item
          c.at.result.now c.at.ensures c.loop-place.invariant.text c.in_ok-step_lines.ensures;
      need = after ∙ need_more told market _ steps outcomes k within c.requires.count _ c.loop-place.invariant.need c.at.result.now c.at.ensures
          c.need_after-need.result (c.need_after-need.ensures here (reached told market _ steps outcomes k within c.requires.count _ c.loop-place.invariant.need));
    }

pub returns : goal.returns
returns g c =
    let told = step_outcome_at g.N.Exact.value in
    let market = c.args.market.now in
    let steps = c.args.steps.now in
    let outcomes = c.args.outcomes.now in
    let over : length outcomes ≤ c.loop-place.place = omega (arith, c.loop-place-test.false, ap length c.slice-outcome-items.ensures) in
    let same : to_z w64 (of_z w64 c.args.need) ≡ c.args.need = search (arith, ints, to_z-of_z) in
    subst (λ (need : ℤ). c.loop-place.text ≡ c.args.text.now ++ steps_text 1 (with_need market need) steps (map told outcomes)) same
    (lines_all told market _ steps outcomes c.args.text.now c.loop-place.text c.loop-place.place c.requires.count over c.loop-place.invariant.text)
