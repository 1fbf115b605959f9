use Rattle.std.proofs.Common.{rules, ◌≡◌, ◌∙◌, sym, ap, None, Err, [], refl}
use Rattle.record_reading.specs.Gathering.{read_records}
use Rattle.factor_tables.specs.declared.table_fault.TableFault.TheVariants as fault
use Rattle.factor_tables.specs.Offsets.{offset_entry, offset_header, offsets_of}
use Rattle.csv_table.proofs.Framed.{framed-fault, framed-fits}
use Rattle.factor_tables.proofs.OffsetLemmas.{wanting, wanting-none}
use Rattle.factor_tables.proofs.offset_reading.offsets.Goals as goal

pub returns-in_err-table : goal.returns-in_err-table
unfolding offsets_of
returns-in_err-table c =
    let given : c.from_residual-in_err-table.result ≡ Err (fault.Frame c.in_err-table.field-0.0) = search rules in
    λ _. rw (given, framed-fault fault.Frame (read_records (offset_entry c.args.network.now) [] 2) None c.args.bytes.now offset_header _ c.in_err-table.field-0.0 refl (sym c.in_err-table.was ∙ c.in_ok-read_table.ensures.is)) refl

pub returns-in_err-by_row : goal.returns-in_err-by_row
unfolding offsets_of
returns-in_err-by_row c =
    let fits = framed-fits fault.Frame (read_records (offset_entry c.args.network.now) [] 2) None c.args.bytes.now offset_header _ _ refl (sym c.in_ok-table.was ∙ c.in_ok-read_table.ensures.is) in
    let given : c.from_residual-in_err-by_row.result ≡ Err c.in_err-by_row.field-0.0 = search rules in
    λ other. rw (given, fits, c.in_err-by_row.ensures.err (λ m. other (given ∙ ap Err m))) refl

pub returns-in-Some : goal.returns-in-Some
unfolding offsets_of
returns-in-Some c =
    let fits = framed-fits fault.Frame (read_records (offset_entry c.args.network.now) [] 2) None c.args.bytes.now offset_header _ _ refl (sym c.in_ok-table.was ∙ c.in_ok-read_table.ensures.is) in
    let wants = wanting c.args.network.now c.in_ok-by_row.by_row.entries c.in-Some.branch (search rules) in
    λ _. rw (fits, c.in_ok-by_row.ensures.ok) (sym wants)

pub returns : goal.returns
unfolding offsets_of
returns c =
    let fits = framed-fits fault.Frame (read_records (offset_entry c.args.network.now) [] 2) None c.args.bytes.now offset_header _ _ refl (sym c.in_ok-table.was ∙ c.in_ok-read_table.ensures.is) in
    let none = wanting-none c.args.network.now c.in_ok-by_row.by_row.entries (search rules) in
    λ _. rw (fits, c.in_ok-by_row.ensures.ok) (sym none)
