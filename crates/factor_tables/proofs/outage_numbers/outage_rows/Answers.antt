use Rattle.std.proofs.Common.{rules, ◌≡◌, ◌∙◌, refl, sym, Some, Err, []}
use Rattle.record_reading.specs.Gathering.{read_records}
use Rattle.market_data.specs.Scales.{most_outages}
use Rattle.factor_tables.specs.declared.table_fault.TableFault.TheVariants as fault
use Rattle.factor_tables.specs.OutageNumbers.{outage_header, outage_number, outage_rows_of}
use Rattle.csv_table.proofs.Framed.{framed-fault, framed-fits}
use Rattle.factor_tables.proofs.outage_numbers.outage_rows.Goals as goal

pub returns-in_err-table-clause-is : goal.returns-in_err-table-clause-is
unfolding outage_rows_of
returns-in_err-table-clause-is c =
    let given : c.from_residual-in_err-table.result ≡ Err (fault.Frame c.in_err-table.field-0.0) = search rules in
    λ _. given ∙ sym (framed-fault fault.Frame (read_records outage_number [] 2) (Some most_outages) c.args.bytes.now outage_header _ c.in_err-table.field-0.0 refl (sym c.in_err-table.was ∙ c.in_ok-read_table.ensures.is))

pub returns-clause-is : goal.returns-clause-is
unfolding outage_rows_of
returns-clause-is c =
    λ other. c.numbers_of.ensures.is other ∙ sym (framed-fits fault.Frame (read_records outage_number [] 2) (Some most_outages) c.args.bytes.now outage_header _ _ refl (sym c.in_ok-table.was ∙ c.in_ok-read_table.ensures.is))
