-- Rows that are written are read back.
use Rattle.std.proofs.Common.{◌≡◌, ℕ, ◌+◌, ◌<◌, ◌≤◌, ◌^◌, ℤ, pos, List, [], ◌∷◌, ◌++◌, length, map, arith, refl, sym, ap, ◌∙◌, Some, Ok, append_assoc, append-nil}
use Rattle.std.specs.Prelude.{codes, decimal}
use Rattle.std.specs.List.{AllByRecursion, flat_map}
use Rattle.std.proofs.lemmas.List.{length-map}
use Rattle.std.proofs.lemmas.List.Elements.{recursion_from_All}
use Rattle.record_reading.specs.Records.{Record}
use Rattle.record_reading.specs.Gathering.{gather, read_records}
use Rattle.record_reading.specs.Steps.{and_then, or_as, some_of}
use Rattle.csv_table.specs.Table.{framed, header_line}
use Rattle.market_data.specs.Scales.{most_outages}
use Rattle.factor_tables.specs.OutageNumbers.{outage_header, outage_number, outage_rows_of}
use Rattle.factor_tables.specs.declared.table_fault.TableFault.TheVariants as fault
use Rattle.prepared_text.specs.OutageText.{outage_line, outage_text}
use Rattle.prepared_text.specs.OutageLaws.{LawOfOutagesRead}
use Rattle.prepared_text.proofs.NumbersRead.{number-cell, number-read, word}
use Rattle.prepared_text.proofs.TablesRead.{IsPlainRecord, cells_line, table-framed, then-ok}

-- ---- the cells of a row
abbrev cells_of : ℕ → Record
cells_of row = decimal row ∷ []

lines-cells : (rows : List ℕ) → flat_map outage_line rows ≡ flat_map cells_line (map cells_of rows)
lines-cells [] = refl
lines-cells (row ∷ rows) = ap (λ t. outage_line row ++ t) (lines-cells rows)

text-cells : (rows : List ℕ) → outage_text rows ≡ flat_map cells_line (outage_header ∷ map cells_of rows)
unfolding outage_text
text-cells rows = ap (λ t. header_line outage_header ++ t) (lines-cells rows)

-- ---- the rows that are read
row-read : (done : List ℤ) (line row : ℕ) → row < 2 ^ 63 → outage_number done line (cells_of row) ≡ Ok (pos row)
row-read done line row small = rw (number-read row small) refl

all-read : (rows : List ℕ) (done : List ℤ) (line : ℕ) → AllByRecursion (λ row. row < 2 ^ 63) rows → read_records outage_number done line (map cells_of rows) ≡ Ok (done ++ map pos rows)
unfolding gather
all-read [] done line small = ap Ok (sym (append-nil done))
all-read (row ∷ rows) done line small =
    then-ok (some_of (outage_number done line (cells_of row))) (Some (pos row)) _ (Ok (done ++ pos row ∷ map pos rows)) (ap some_of (row-read done line row small.0))
    (all-read rows (done ++ pos row ∷ []) (line + 1) small.1 ∙ ap Ok (append_assoc done (pos row ∷ []) (map pos rows)))

-- ---- the table
plain-rows : (rows : List ℕ) → AllByRecursion (λ row. row < 2 ^ 63) rows → AllByRecursion IsPlainRecord (map cells_of rows)
plain-rows [] small = tt
plain-rows (row ∷ rows) small = (record { some = omega arith; cells = (number-cell row small.0, tt) }, plain-rows rows small.1)

plain-header : IsPlainRecord outage_header
plain-header = record { some = omega arith; cells = (word (codes "branch") (omega arith) refl, tt) }

wide : (rows : List ℕ) → AllByRecursion (λ r. length r ≡ length outage_header) (map cells_of rows)
wide [] = tt
wide (row ∷ rows) = (refl, wide rows)

pub outages-back : LawOfOutagesRead
unfolding outage_rows_of
outages-back rows count bits =
    let small : AllByRecursion (λ row. row < 2 ^ 63) rows = recursion_from_All (λ row. row < 2 ^ 63) rows (λ k d lt. let least = bits k d lt in omega (arith, least)) in
    let few : length (map cells_of rows) ≤ most_outages = omega (arith, count, length-map rows cells_of) in
    ap (λ text. and_then (framed fault.Frame outage_header (Some most_outages) text) (read_records outage_number [] 2)) (text-cells rows)
    ∙ then-ok (framed fault.Frame outage_header (Some most_outages) (flat_map cells_line (outage_header ∷ map cells_of rows))) (map cells_of rows) _ (Ok (map pos rows))
    (ap (or_as fault.Frame) (table-framed outage_header (Some most_outages) (map cells_of rows) plain-header (plain-rows rows small) (wide rows) few))
    (all-read rows [] 2 small)
