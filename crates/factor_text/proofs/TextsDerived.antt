-- The text of a table of factors is one by the grammar of tables, and its records have the cells of the table's.
use Rattle.std.proofs.Common.{◌≡◌, ◌≢◌, ℕ, ◌<◌, ◌≤◌, ◌^◌, true, false, List, [], ◌∷◌, ◌++◌, length, map, get_or, arith, refl, sym, ap, ◌∙◌, None, Ok, append_assoc, codes}
use Rattle.std.specs.Prelude.{decimal, unsigned_abs}
use Rattle.std.specs.List.{AllByRecursion, flat_map, list_all}
use Rattle.std.proofs.lemmas.Bool.{and_parts, ltb-true}
use Rattle.record_reading.specs.Records.{Record}
use Rattle.csv_table.specs.Table.{frame_of, header_line, table_of}
use Rattle.table_grammar.specs.Cells.{Cells, IsPlain, IsPlainText, IsRecord, comma, only, plain}
use Rattle.table_grammar.specs.TableTexts.{AreLines, IsTable, Lines, feed, line, lines_text, no_lines, records_of}
use Rattle.table_grammar.proofs.Framed.{table-read}
use Rattle.line_text.specs.Decimals.{decimal_text}
use Rattle.market_data.specs.Scales.{most_factor}
use Rattle.factor_tables.specs.declared.by_pair.Column.{Column}
use Rattle.factor_tables.specs.declared.by_pair.Column.TheVariants as column
use Rattle.factor_tables.specs.Factors.{Entry}
use Rattle.factor_tables.specs.Tables.{header_of}
use Rattle.factor_text.specs.Texts.{record_line, factor_table_text}
use Rattle.factor_text.proofs.NumbersRead.{factor-bytes, is_cell_byte, number-bytes}

-- a record whose numbers are read back
pub record IsInRange (entry : Entry) : Type 0 where
  pub first : entry.0.0 < 2 ^ 63
  pub second : entry.0.1 < 2 ^ 63
  pub size : unsigned_abs entry.1 ≤ most_factor

-- the cells of a record
abbrev pub cells_of : Entry → Record
cells_of entry = decimal entry.0.0 ∷ decimal entry.0.1 ∷ decimal_text 9 entry.1 ∷ []

-- ---- the derivation
abbrev three_cells : List ℕ → List ℕ → List ℕ → Cells
three_cells a b c = comma (plain a) (comma (plain b) (only (plain c)))

abbrev entry_lines : List Entry → Lines
entry_lines [] = no_lines
entry_lines (entry ∷ entries) = line (three_cells (decimal entry.0.0) (decimal entry.0.1) (decimal_text 9 entry.1)) feed (entry_lines entries)

abbrev header_cells : Column → Cells
header_cells column.Bus = three_cells (codes "branch") (codes "bus") (codes "factor")
header_cells column.Outage = three_cells (codes "branch") (codes "outage") (codes "factor")

abbrev all_lines : Column → List Entry → Lines
all_lines kind entries = line (header_cells kind) feed (entry_lines entries)

-- ---- its text
line-text : (comma_text end a b c rest : List ℕ) → (a ++ (comma_text ++ (b ++ (comma_text ++ c)))) ++ (end ++ rest) ≡ (((((a ++ comma_text) ++ b) ++ comma_text) ++ c) ++ end) ++ rest
line-text comma_text end a b c rest = simp append_assoc

entries-text : (entries : List Entry) → lines_text (entry_lines entries) ≡ flat_map record_line entries
unfolding record_line
entries-text [] = refl
entries-text (entry ∷ entries) =
    line-text (codes ",") (codes "\n") (decimal entry.0.0) (decimal entry.0.1) (decimal_text 9 entry.1) (lines_text (entry_lines entries)) ∙ ap (λ t. record_line entry ++ t) (entries-text entries)

text-is : (kind : Column) (entries : List Entry) → factor_table_text kind entries ≡ lines_text (all_lines kind entries)
unfolding factor_table_text
text-is column.Bus entries = ap (λ t. header_line (header_of column.Bus) ++ t) (sym (entries-text entries))
text-is column.Outage entries = ap (λ t. header_line (header_of column.Outage) ++ t) (sym (entries-text entries))

-- ---- it is of the grammar
plain-bytes : (bytes : List ℕ) → list_all is_cell_byte bytes ≡ true → AllByRecursion IsPlain bytes
plain-bytes [] are = tt
plain-bytes (b ∷ bytes) are =
    let both = and_parts _ _ are in
    let above : 44 < b = ltb-true 44 b both.0 in
    (((λ e. omega (arith, above, e)), (λ e. omega (arith, above, e)), (λ e. omega (arith, above, e))), plain-bytes bytes both.1)

plain-text : (bytes : List ℕ) → list_all is_cell_byte bytes ≡ true → IsPlainText bytes
plain-text [] are = (tt, tt)
plain-text (b ∷ bytes) are =
    let above : 44 < b = ltb-true 44 b (and_parts _ _ are).0 in
    (plain-bytes (b ∷ bytes) are, λ e. omega (arith, above, e))

three-are : (a b c : List ℕ) → list_all is_cell_byte a ≡ true → list_all is_cell_byte b ≡ true → list_all is_cell_byte c ≡ true → IsRecord (three_cells a b c)
three-are a b c first second third = ((plain-text a first, tt, (plain-text b second, tt, plain-text c third)), tt)

header-is : (kind : Column) → IsRecord (header_cells kind)
header-is column.Bus = three-are (codes "branch") (codes "bus") (codes "factor") refl refl refl
header-is column.Outage = three-are (codes "branch") (codes "outage") (codes "factor") refl refl refl

entries-are : (entries : List Entry) → AllByRecursion IsInRange entries → AreLines (entry_lines entries)
entries-are [] are = tt
entries-are (entry ∷ entries) are =
    (three-are (decimal entry.0.0) (decimal entry.0.1) (decimal_text 9 entry.1) (number-bytes entry.0.0 are.0.first) (number-bytes entry.0.1 are.0.second) (factor-bytes entry.1 are.0.size), tt, entries-are entries are.1)

lines-are : (kind : Column) (entries : List Entry) → AllByRecursion IsInRange entries → AreLines (all_lines kind entries)
lines-are column.Bus entries are = (header-is column.Bus, tt, entries-are entries are)
lines-are column.Outage entries are = (header-is column.Outage, tt, entries-are entries are)

unmarked : (kind : Column) (entries : List Entry) (rest : List ℕ) → lines_text (all_lines kind entries) ≢ 239 ∷ 187 ∷ 191 ∷ rest
unmarked column.Bus entries rest e = let first : 98 ≡ 239 = ap (λ (bs : List ℕ). get_or bs 0 0) e in omega (arith, first)
unmarked column.Outage entries rest e = let first : 98 ≡ 239 = ap (λ (bs : List ℕ). get_or bs 0 0) e in omega (arith, first)

-- ---- its records
entries-records : (entries : List Entry) → records_of (entry_lines entries) ≡ map cells_of entries
entries-records [] = refl
entries-records (entry ∷ entries) = ap (λ rs. cells_of entry ∷ rs) (entries-records entries)

records-are : (kind : Column) (entries : List Entry) → records_of (all_lines kind entries) ≡ header_of kind ∷ map cells_of entries
records-are column.Bus entries = ap (λ rs. header_of column.Bus ∷ rs) (entries-records entries)
records-are column.Outage entries = ap (λ rs. header_of column.Outage ∷ rs) (entries-records entries)

wide : (kind : Column) (entries : List Entry) → AllByRecursion (λ r. length r ≡ length (header_of kind)) (map cells_of entries)
wide kind [] = tt
wide column.Bus (entry ∷ entries) = (refl, wide column.Bus entries)
wide column.Outage (entry ∷ entries) = (refl, wide column.Outage entries)

table-derived : (kind : Column) (entries : List Entry) → AllByRecursion IsInRange entries → IsTable (header_of kind) None (factor_table_text kind entries) (map cells_of entries)
table-derived kind entries are = record {
  text = (record { mark = false; lines = all_lines kind entries }, text-is kind entries, record { lines = lines-are kind entries are; unmarked = unmarked kind entries }, records-are kind entries);
  wide = wide kind entries;
  few = tt;
}

-- so these cells are read
pub table-framed : (kind : Column) (entries : List Entry) → AllByRecursion IsInRange entries → frame_of (header_of kind) None (table_of (factor_table_text kind entries)) ≡ Ok (map cells_of entries)
table-framed kind entries are = table-read (header_of kind) None (factor_table_text kind entries) (map cells_of entries) (table-derived kind entries are)
