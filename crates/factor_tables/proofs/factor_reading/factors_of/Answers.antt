use Rattle.std.proofs.Common.{rules, ◌≡◌, ◌≢◌, ◌∙◌, sym, subst, None, Err, IfErr, []}
use Rattle.record_reading.specs.Gathering.{read_records}
use Rattle.csv_table.proofs.Framed.{framed-fault, framed-fits}
use Rattle.factor_tables.specs.declared.table_fault.TableFault.TheVariants as fault
use Rattle.factor_tables.specs.Tables.{entry_in, factors_of, header_of}
use Rattle.factor_tables.proofs.factor_reading.factors_of.Goals as goal

pub returns-in_err-table-clause-err : goal.returns-in_err-table-clause-err
unfolding factors_of
returns-in_err-table-clause-err c =
    let given : c.from_residual-in_err-table.result ≡ Err (fault.Frame c.in_err-table.field-0.0) = search rules in
    subst (λ r. IfErr r (λ f. f ≢ fault.Memory → factors_of c.args.column c.args.network.now c.args.bytes.now c.args.places ≡ Err f)) (sym given)
    (λ _. framed-fault fault.Frame (read_records (entry_in c.args.places c.args.network.now c.args.column) [] 2) None c.args.bytes.now (header_of c.args.column) _ c.in_err-table.field-0.0 c.requires (sym c.in_err-table.was ∙ c.in_ok-read_table.ensures.is))

pub returns-clause-ok : goal.returns-clause-ok
unfolding factors_of
returns-clause-ok c =
    let fits = framed-fits fault.Frame (read_records (entry_in c.args.places c.args.network.now c.args.column) [] 2) None c.args.bytes.now (header_of c.args.column) _ _ c.requires (sym c.in_ok-table.was ∙ c.in_ok-read_table.ensures.is) in
    rw fits c.pairs_of.ensures.ok

pub returns-clause-err : goal.returns-clause-err
unfolding factors_of
returns-clause-err c =
    let fits = framed-fits fault.Frame (read_records (entry_in c.args.places c.args.network.now c.args.column) [] 2) None c.args.bytes.now (header_of c.args.column) _ _ c.requires (sym c.in_ok-table.was ∙ c.in_ok-read_table.ensures.is) in
    rw fits c.pairs_of.ensures.err
