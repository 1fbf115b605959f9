use Rattle.std.proofs.Common.{rules, ◌≡◌, ◌≢◌, ◌∙◌, sym, Some, Err, [], refl}
use Rattle.record_reading.specs.Gathering.{read_records}
use Rattle.csv_table.proofs.Framed.{framed-fault, framed-fits}
use Rattle.rights_test.specs.declared.right_parts.RightsFault.TheVariants as fault
use Rattle.rights_test.specs.RightsTable.{most_rights, right_header, right_in, rights_of_table}
use Rattle.rights_test.proofs.reading.rights.Goals as goal

pub returns-in_err-table-clause-is : goal.returns-in_err-table-clause-is
unfolding rights_of_table
returns-in_err-table-clause-is c =
    let given : c.from_residual-in_err-table.result ≡ Err (fault.Frame c.in_err-table.field-0.0) = search rules in
    λ _. given
    ∙ sym
    (framed-fault fault.Frame (read_records (λ done. right_in c.args.market.now.buses) [] 2) (Some most_rights) c.args.bytes.now right_header _ c.in_err-table.field-0.0 refl (sym c.in_err-table.was ∙ c.in_ok-read_table.ensures.is))

pub returns-clause-is : goal.returns-clause-is
unfolding rights_of_table
returns-clause-is c =
    let reads : c.rights_of.result ≢ Err fault.Memory → c.rights_of.result ≡ read_records (λ done. right_in c.args.market.now.buses) [] 2 c.in_ok-table.table = rw (c.slice.ensures, c.buses.ensures.list) at c.rights_of.ensures.is in
    λ other. reads other
    ∙ sym (framed-fits fault.Frame (read_records (λ done. right_in c.args.market.now.buses) [] 2) (Some most_rights) c.args.bytes.now right_header _ _ refl (sym c.in_ok-table.was ∙ c.in_ok-read_table.ensures.is))
