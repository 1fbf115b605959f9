use Rattle.std.proofs.Common.{rules, arith, ◌≡◌, ◌<◌, ◌≤◌, ◌+◌, ◌++◌, ◌∷◌, ◌∙◌, sym, ap, Err, [], length, length-append, List}
use Rattle.std.proofs.lemmas.List.Elements.{All-append, All-cons, All-nil}
use Rattle.record_reading.proofs.GatherLemmas.{read_records-end, read_records-fault, read_records-step}
use Rattle.edit_table.specs.declared.Step.{Step}
use Rattle.edit_table.specs.EditTable.{IsStep, step_in}
use Rattle.edit_table.proofs.steps_of.Goals as goal

pub returns-in_err-step-clause-is : goal.returns-in_err-step-clause-is
returns-in_err-step-clause-is c =
    let lt : c.loop-place.place < length c.args.table.now = omega arith in
    let here = c.loop-place.invariant.is
    ∙ read_records-fault (λ (_ : List Step). step_in) c.loop-place.steps (c.loop-place.place + 2) c.args.table.now c.loop-place.place c.in_err-step.field-0.0 lt (sym c.step_of.ensures.is ∙ c.in_err-step.was) in
    let given : c.from_residual.result ≡ Err c.in_err-step.field-0.0 = search rules in
    λ _. given ∙ sym here

pub loop-place-preserved : goal.loop-place-preserved
loop-place-preserved c =
    let lt : c.loop-place.place < length c.args.table.now = omega arith in
    let here = c.loop-place.invariant.is
    ∙ read_records-step (λ (_ : List Step). step_in) c.loop-place.steps (c.loop-place.place + 2) c.args.table.now c.loop-place.place c.in_ok-step.step lt (sym c.step_of.ensures.is ∙ c.in_ok-step.was) in
    let added : c.push.new.self ≡ c.loop-place.steps ++ c.in_ok-step.step ∷ [] = search rules in
    let next : c.loop-place.place + 2 + 1 ≡ c.loop-place.place + 1 + 2 = omega arith in
    let more = All-append IsStep c.loop-place.steps (c.in_ok-step.step ∷ []) c.loop-place.invariant.steps (All-cons IsStep c.in_ok-step.step [] c.in_ok-step.ensures.kept (All-nil IsStep)) in
    record {
      count = omega (arith, ap length added, length-append c.loop-place.steps (c.in_ok-step.step ∷ []));
      steps = rw added more;
      is = rw (added, ← next) here;
    }

pub returns-clause-is : goal.returns-clause-is
returns-clause-is c =
    let le : length c.args.table.now ≤ c.loop-place.place = omega arith in
    λ _. sym (c.loop-place.invariant.is ∙ read_records-end (λ (_ : List Step). step_in) c.loop-place.steps (c.loop-place.place + 2) c.args.table.now c.loop-place.place le)
