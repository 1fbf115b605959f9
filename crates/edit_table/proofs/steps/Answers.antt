use Rattle.std.proofs.Common.{rules, ◌≡◌, ◌∙◌, refl, sym, Some, Err, [], List}
use Rattle.record_reading.specs.Gathering.{read_records}
use Rattle.csv_table.proofs.Framed.{framed-fault, framed-fits}
use Rattle.edit_table.specs.declared.Step.{Step}
use Rattle.edit_table.specs.declared.StepFault.TheVariants as fault
use Rattle.edit_table.specs.EditTable.{edit_header, most_steps, step_in, steps_of_table}
use Rattle.edit_table.proofs.steps.Goals as goal

pub returns-in_err-table-clause-is : goal.returns-in_err-table-clause-is
unfolding steps_of_table
returns-in_err-table-clause-is c =
    let given : c.from_residual-in_err-table.result ≡ Err (fault.Frame c.in_err-table.field-0.0) = search rules in
    λ _. given ∙ sym (framed-fault fault.Frame (read_records (λ (_ : List Step). step_in) [] 2) (Some most_steps) c.args.bytes.now edit_header _ c.in_err-table.field-0.0 refl (sym c.in_err-table.was ∙ c.in_ok-read_table.ensures.is))

pub returns-clause-is : goal.returns-clause-is
unfolding steps_of_table
returns-clause-is c =
    λ other. c.steps_of.ensures.is other ∙ sym (framed-fits fault.Frame (read_records (λ (_ : List Step). step_in) [] 2) (Some most_steps) c.args.bytes.now edit_header _ _ refl (sym c.in_ok-table.was ∙ c.in_ok-read_table.ensures.is))
