use Rattle.std.proofs.Common.{rules, ◌≡◌, ◌∙◌, sym, ap, Some, Err, [], refl}
use Rattle.record_reading.specs.Gathering.{read_records}
use Rattle.market_data.specs.Scales.{most_penalties}
use Rattle.factor_tables.specs.declared.table_fault.TableFault.TheVariants as fault
use Rattle.factor_tables.specs.Penalties.{penalties_of, penalty_entry, penalty_header}
use Rattle.csv_table.proofs.Framed.{framed-fault, framed-fits}
use Rattle.factor_tables.proofs.penalty_reading.penalties.Goals as goal

pub returns-in_err-table-clause-is : goal.returns-in_err-table-clause-is
unfolding penalties_of
returns-in_err-table-clause-is c =
    let given : c.from_residual-in_err-table.result ≡ Err (fault.Frame c.in_err-table.field-0.0) = search rules in
    λ _. rw (given, framed-fault fault.Frame (read_records (penalty_entry c.args.network.now) [] 2) (Some most_penalties) c.args.bytes.now penalty_header _ c.in_err-table.field-0.0 refl (sym c.in_err-table.was ∙ c.in_ok-read_table.ensures.is)) refl

pub returns-in_err-by_limit-clause-is : goal.returns-in_err-by_limit-clause-is
unfolding penalties_of
returns-in_err-by_limit-clause-is c =
    let fits = framed-fits fault.Frame (read_records (penalty_entry c.args.network.now) [] 2) (Some most_penalties) c.args.bytes.now penalty_header _ _ refl (sym c.in_ok-table.was ∙ c.in_ok-read_table.ensures.is) in
    let given : c.from_residual-in_err-by_limit.result ≡ Err c.in_err-by_limit.field-0.0 = search rules in
    λ other. rw (given, fits, c.in_err-by_limit.ensures.err (λ m. other (given ∙ ap Err m))) refl

pub returns-clause-is : goal.returns-clause-is
unfolding penalties_of
returns-clause-is c =
    let fits = framed-fits fault.Frame (read_records (penalty_entry c.args.network.now) [] 2) (Some most_penalties) c.args.bytes.now penalty_header _ _ refl (sym c.in_ok-table.was ∙ c.in_ok-read_table.ensures.is) in
    λ _. rw (fits, c.in_ok-by_limit.ensures.ok) refl
