use Rattle.std.proofs.Common.{rules, arith, ◌≡◌, Err, w64, to_z, of_z}
use Rattle.std.specs.Prelude.{◌<ℤ◌, ◌≤ℤ◌}
use Rattle.std.specs.List.{AllZip}
use Rattle.std.proofs.lemmas.Int.{to_z-of_z}
use Rattle.cost_steps.specs.Parts.{part_at, part_count, IsStretch}
use Rattle.cost_steps.specs.Steps.{IsStepOf}
use Rattle.cost_steps.proofs.StepLemmas.{are_steps, fits_within, kept, steps_more, steps_same, stops}
use Rattle.cost_steps.proofs.steps.steps_of.Goals.{then-stretch+in_ok-step+in_ok-push, else-stretch}
use Rattle.cost_steps.proofs.steps.steps_of.Goals as goal

pub step_of-requires-clause-width : goal.step_of-requires-clause-width
step_of-requires-clause-width c =
    let low : to_z w64 (of_z w64 c.args.low) ≡ c.args.low = to_z-of_z w64 c.args.low c.ranges.low in
    let high : to_z w64 (of_z w64 c.args.high) ≡ c.args.high = to_z-of_z w64 c.args.high c.ranges.high in
    let is : IsStretch (part_at c.args.cost.now c.args.way c.args.low c.args.high c.args.count c.loop-place.place) c.stretch_at-stretch.result = rw (low, high) at c.stretch_at-stretch.ensures in
    fits_within c.args.cost.now c.args.way c.args.low c.args.high c.args.count c.loop-place.place c.stretch_at-stretch.result c.requires.cost c.requires.order c.requires.count c.requires.width
    (rw c.part_total-place-end.ensures at c.loop-place-test.true) is

pub returns-in_err-step-clause-is : goal.returns-in_err-step-clause-is
returns-in_err-step-clause-is c =
    let low : to_z w64 (of_z w64 c.args.low) ≡ c.args.low = to_z-of_z w64 c.args.low c.ranges.low in
    let high : to_z w64 (of_z w64 c.args.high) ≡ c.args.high = to_z-of_z w64 c.args.high c.ranges.high in
    let is : IsStretch (part_at c.args.cost.now c.args.way c.args.low c.args.high c.args.count c.loop-place.place) c.stretch_at-stretch.result = rw (low, high) at c.stretch_at-stretch.ensures in
    let width : c.stretch_at-stretch.result.from <ℤ c.stretch_at-stretch.result.to = search rules in
    let given : c.from_residual.result ≡ Err c.in_err-step.field-0.0 = search rules in
    rw given (stops (part_at c.args.cost.now c.args.way c.args.low c.args.high c.args.count) (part_count c.args.cost.now c.args.count) c.loop-place.place c.stretch_at-stretch.result c.in_err-step.field-0.0
    (rw c.part_total-place-end.ensures at c.loop-place-test.true) is width c.in_err-step.ensures)

pub loop-place-preserved : goal.loop-place-preserved
loop-place-preserved c = elim c.if-stretch.branch [
  | then-stretch+in_ok-step+in_ok-push w ↦
      let width : c.stretch_at-stretch.result.from <ℤ c.stretch_at-stretch.result.to = search rules in
      let added : c.if-stretch.steps ≡ w.push.new.self = w.steps-is in
      rw (added, w.in_ok-push.ensures)
      (steps_more (part_at c.args.cost.now c.args.way (to_z w64 (of_z w64 c.args.low)) (to_z w64 (of_z w64 c.args.high)) c.args.count) c.loop-place.place c.stretch_at-stretch.result c.loop-place.steps w.in_ok-step.step
      c.stretch_at-stretch.ensures width c.loop-place.invariant w.in_ok-step.ensures)
  | else-stretch w ↦
      let none : c.stretch_at-stretch.result.to ≤ℤ c.stretch_at-stretch.result.from = search rules in
      rw w.steps-is
      (steps_same (part_at c.args.cost.now c.args.way (to_z w64 (of_z w64 c.args.low)) (to_z w64 (of_z w64 c.args.high)) c.args.count) c.loop-place.place c.stretch_at-stretch.result c.loop-place.steps
      c.stretch_at-stretch.ensures none c.loop-place.invariant)
]

pub returns-clause-steps : goal.returns-clause-steps
returns-clause-steps c =
    let low : to_z w64 (of_z w64 c.args.low) ≡ c.args.low = to_z-of_z w64 c.args.low c.ranges.low in
    let high : to_z w64 (of_z w64 c.args.high) ≡ c.args.high = to_z-of_z w64 c.args.high c.ranges.high in
    let all : c.loop-place.place ≡ part_count c.args.cost.now c.args.count = omega (arith, c.loop-place.auto.place-end, c.loop-place-test.false, c.part_total-place-end.ensures) in
    let zip : AllZip IsStepOf (kept (part_at c.args.cost.now c.args.way c.args.low c.args.high c.args.count) c.loop-place.place) c.loop-place.steps = rw (low, high) at c.loop-place.invariant in
    are_steps c.args.cost.now c.args.way c.args.low c.args.high c.args.count c.loop-place.steps c.requires.cost c.requires.order c.requires.count (rw all at zip)
