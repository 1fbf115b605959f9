use Rattle.std.proofs.Common.{Bor, List, ℕ, ◌≡◌, ◌∙◌, sym, refl, rules, inl, inr, Some, ◌∷◌, ◌++◌, [], length, ◌+◌, arith, append_assoc, Err, true, false}
use Rattle.csv.specs.Reading.{Reached, default_config, error_kind, strip_bom}
use Rattle.csv.specs.Records.{fields_of}
use Rattle.csv.specs.declared.parser.State.TheVariants as st
use Rattle.csv.proofs.ReadFacts.{rows-end, rows-more}
use Rattle.csv_table.specs.Table.{table_of}
use Rattle.csv_table.specs.Records.{cut, records_in}
use Rattle.csv_table.proofs.CutLemmas.{push-stops, records-count}
use Rattle.csv_table.proofs.TableLemmas.{reached-count, records_from-begin, records_from-reached, stops-flexible, strip_bom-shorter}
use Rattle.csv_table.proofs.records_of.Goals as goal

pub records-init : goal.records-init
unfolding Reached records_in cut
records-init c =
    let made = c.from_reader-reader.ensures in
    let headers = c.has_headers.ensures in
    let widths = c.flexible.ensures in
    let none = c.new-records.ensures.none in (
      rw (widths, headers) at made.trim ∙ c.new.ensures.trim,
      inr (inr (rw (widths, headers) at made.has_headers, made.headers)),
      rw (widths, headers) at made.config ∙ c.new.ensures.config,
      strip_bom c.args.bytes.now,
      made.source,
      rw none (sym made.state, refl),
      rw widths at made.flexible,
      c.new-records.ensures.flat,
    )

pub push-requires-clause-flat : goal.push-requires-clause-flat
push-requires-clause-flat c = c.records.invariant.7

pub push-requires-clause-small : goal.push-requires-clause-small
push-requires-clause-small c =
    let before = c.records.invariant in
    let count = reached-count default_config st.StartRecord (strip_bom c.args.bytes.now) (records_in c.records.records) c.records.reader.state before.3 before.5 in
    omega (arith, count, records-count c.records.records, strip_bom-shorter c.args.bytes.now)

pub records-preserved : goal.records-preserved
records-preserved c =
    let before = c.records.invariant in
    let made = c.read_byte_record.ensures in
    let yes : c.in-Ok-true.field-0 ≡ true = search rules in
    let read = (rw (c.in-Ok-true.is, yes) at made.reads) before.0 before.1 in
    let ready = rw c.in-Ok-true.is at (made.ready before.0) in
    let flexible = rw c.in-Ok-true.is at made.flexible in
    let more =
    rows-more (λ (rest : Bor (List ℕ)). Some rest.now) c.records.reader c.read_byte_record.new.self (fields_of c.read_byte_record.new.row) default_config st.StartRecord
    (strip_bom c.args.bytes.now) before.3 (records_in c.records.records) before.2 before.4 before.5 read in
    (read.3 ∙ before.0, inl ready, read.2 ∙ before.2, more.0, more.1, rw c.in_ok-push-in-Ok-true.ensures.records more.2, flexible ∙ before.6, c.in_ok-push-in-Ok-true.ensures.flat)

pub returns-in-Ok-false-clause-flat : goal.returns-in-Ok-false-clause-flat
returns-in-Ok-false-clause-flat c = c.records.invariant.7

pub returns-in-Ok-false-clause-ok : goal.returns-in-Ok-false-clause-ok
unfolding table_of
returns-in-Ok-false-clause-ok c =
    let before = c.records.invariant in
    let no : c.in-Ok-false.field-0 ≡ false = search rules in
    let ended = (rw (c.in-Ok-false.is, no) at c.read_byte_record.ensures.reads) before.0 before.1 in
    let none = rows-end (λ (rest : Bor (List ℕ)). Some rest.now) c.records.reader c.read_byte_record.new.self (fields_of c.read_byte_record.new.row) default_config before.3 before.2 before.4 ended in
    sym
    (records_from-reached default_config (length (strip_bom c.args.bytes.now) + 1) st.StartRecord (strip_bom c.args.bytes.now) (records_in c.records.records) (omega arith)
    (c.records.reader.state, before.3, before.5, none))

pub returns-in-Err-clause-err : goal.returns-in-Err-clause-err
returns-in-Err-clause-err c =
    let before = c.records.invariant in
    let failed = (rw c.in-Err.is at c.read_byte_record.ensures.why) before.1 in
    stops-flexible (λ (rest : Bor (List ℕ)). Some rest.now) c.records.reader c.read_byte_record.new.self (error_kind c.in-Err.error) before.6 failed

pub returns-in_err-push-in-Ok-true-clause-err : goal.returns-in_err-push-in-Ok-true-clause-err
unfolding table_of
returns-in_err-push-in-Ok-true-clause-err c =
    let before = c.records.invariant in
    let yes : c.in-Ok-true.field-0 ≡ true = search rules in
    let read = (rw (c.in-Ok-true.is, yes) at c.read_byte_record.ensures.reads) before.0 before.1 in
    let r = fields_of c.read_byte_record.new.row in
    let more =
    rows-more (λ (rest : Bor (List ℕ)). Some rest.now) c.records.reader c.read_byte_record.new.self r default_config st.StartRecord
    (strip_bom c.args.bytes.now) before.3 (records_in c.records.records) before.2 before.4 before.5 read in
    let (tail, all) =
    records_from-begin default_config (length (strip_bom c.args.bytes.now) + 1) st.StartRecord (strip_bom c.args.bytes.now) (records_in c.records.records ++ r ∷ [])
    c.read_byte_record.new.self.state more.0 (omega arith) more.2 in
    let table : table_of c.args.bytes.now ≡ records_in c.records.records ++ r ∷ tail = all ∙ append_assoc (records_in c.records.records) (r ∷ []) tail in
    let given : c.from_residual.result ≡ Err c.in_err-push-in-Ok-true.field-0.0 = search rules in
    rw (given, table) (push-stops c.records.records r tail c.in_err-push-in-Ok-true.field-0.0 before.7 c.in_err-push-in-Ok-true.ensures.stop)
