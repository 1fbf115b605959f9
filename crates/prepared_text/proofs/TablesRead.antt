-- Tables whose cells are plain are read as their records.
use Rattle.std.proofs.Common.{◌≡◌, ◌≢◌, ℕ, ◌<◌, ◌≤◌, true, false, List, [], ◌∷◌, ◌++◌, length, get_or, arith, refl, sym, ap, ◌∙◌, Result, Ok, append_assoc}
use Rattle.std.specs.Prelude.{codes, nat_lt, Option, IfSome}
use Rattle.std.specs.List.{AllByRecursion, flat_map, list_all}
use Rattle.std.proofs.lemmas.Bool.{and_parts, ltb-true}
use Rattle.record_reading.specs.Records.{Record}
use Rattle.record_reading.specs.Steps.{and_then}
use Rattle.csv_table.specs.Table.{frame_of, table_of}
use Rattle.table_grammar.specs.Cells.{Cells, IsPlain, IsPlainText, AreCells, IsNoEmptyLine, cells_text, comma, only, plain, record_of, LastIsClosed}
use Rattle.table_grammar.specs.TableTexts.{AreLines, IsTable, Lines, feed, line, lines_text, no_lines, records_of}
use Rattle.table_grammar.proofs.Framed.{table-read}
use Rattle.prepared_text.proofs.NumbersRead.{IsCellText, is_cell_byte}

-- ---- the text of records
-- cells with commas between, and the end of the line
abbrev pub cells_line : Record → List ℕ
cells_line [] = codes "\n"
cells_line (x ∷ []) = x ++ codes "\n"
cells_line (x ∷ y ∷ r) = x ++ (codes "," ++ cells_line (y ∷ r))

-- the same of four cells, as they are put one behind the other
pub four-cells : (comma_text end a b c d : List ℕ) → ((((((a ++ comma_text) ++ b) ++ comma_text) ++ c) ++ comma_text) ++ d) ++ end ≡ a ++ (comma_text ++ (b ++ (comma_text ++ (c ++ (comma_text ++ (d ++ end))))))
four-cells comma_text end a b c d = simp append_assoc

-- a record of some cells, each of plain bytes
pub record IsPlainRecord (r : Record) : Type 0 where
  pub some : 0 < length r
  pub cells : AllByRecursion IsCellText r

-- ---- the derivation
abbrev cells_of : Record → Cells
cells_of [] = only (plain [])
cells_of (x ∷ []) = only (plain x)
cells_of (x ∷ y ∷ r) = comma (plain x) (cells_of (y ∷ r))

abbrev lines_of : List Record → Lines
lines_of [] = no_lines
lines_of (r ∷ rs) = line (cells_of r) feed (lines_of rs)

-- its text
regroup : (x c l e t : List ℕ) (k : List ℕ) → l ++ (e ++ t) ≡ k ++ t → (x ++ (c ++ l)) ++ (e ++ t) ≡ (x ++ (c ++ k)) ++ t
regroup x c l e t k same =
    append_assoc x (c ++ l) (e ++ t) ∙ (ap (λ s. x ++ s) (append_assoc c l (e ++ t) ∙ (ap (λ s. c ++ s) same ∙ sym (append_assoc c k t))) ∙ sym (append_assoc x (c ++ k) t))

cells-line : (r : Record) (t : List ℕ) → cells_text (cells_of r) ++ (codes "\n" ++ t) ≡ cells_line r ++ t
cells-line [] t = refl
cells-line (x ∷ []) t = sym (append_assoc x (codes "\n") t)
cells-line (x ∷ y ∷ r) t = regroup x (codes ",") (cells_text (cells_of (y ∷ r))) (codes "\n") t (cells_line (y ∷ r)) (cells-line (y ∷ r) t)

lines-text : (rs : List Record) → lines_text (lines_of rs) ≡ flat_map cells_line rs
lines-text [] = refl
lines-text (r ∷ rs) = ap (λ t. cells_text (cells_of r) ++ (codes "\n" ++ t)) (lines-text rs) ∙ cells-line r (flat_map cells_line rs)

-- it is of the grammar
plain-bytes : (bytes : List ℕ) → list_all is_cell_byte bytes ≡ true → AllByRecursion IsPlain bytes
plain-bytes [] are = tt
plain-bytes (b ∷ bytes) are =
    let both = and_parts _ _ are in
    let above : 44 < b = ltb-true 44 b (and_parts _ _ both.0).0 in
    (((λ e. omega (arith, above, e)), (λ e. omega (arith, above, e)), (λ e. omega (arith, above, e))), plain-bytes bytes both.1)

plain-text : (bytes : List ℕ) → IsCellText bytes → IsPlainText bytes
plain-text [] is = (tt, tt)
plain-text (b ∷ bytes) is =
    let above : 44 < b = ltb-true 44 b (and_parts _ _ (and_parts _ _ is.bytes).0).0 in
    (plain-bytes (b ∷ bytes) is.bytes, λ e. omega (arith, above, e))

are-cells : (r : Record) → AllByRecursion IsCellText r → AreCells (cells_of r)
are-cells [] are = (tt, tt)
are-cells (x ∷ []) are = plain-text x are.0
are-cells (x ∷ y ∷ r) are = (plain-text x are.0, tt, are-cells (y ∷ r) are.1)

no-empty : (r : Record) → IsPlainRecord r → IsNoEmptyLine (cells_of r)
no-empty [] is = absurd (omega (arith, is.some))
no-empty ([] ∷ []) is = let none = is.cells.0.some in absurd (omega (arith, none))
no-empty ((b ∷ bytes) ∷ []) is = tt
no-empty (x ∷ y ∷ r) is = tt

last-closed : (r : Record) → LastIsClosed (cells_of r)
last-closed [] = tt
last-closed (x ∷ []) = tt
last-closed (x ∷ y ∷ r) = last-closed (y ∷ r)

lines-are : (rs : List Record) → AllByRecursion IsPlainRecord rs → AreLines (lines_of rs)
lines-are [] are = tt
lines-are (r ∷ rs) are = ((are-cells r are.0.cells, no-empty r are.0), last-closed r, lines-are rs are.1)

-- it begins with no mark
small-first : (bytes rest : List ℕ) (b : ℕ) → is_cell_byte b ≡ true → b ∷ bytes ≢ 239 ∷ 187 ∷ 191 ∷ rest
small-first bytes rest b is e =
    let under : b < 128 = ltb-true b 128 (and_parts (nat_lt 44 b) (nat_lt b 128) is).1 in
    let first : b ≡ 239 = ap (λ (bs : List ℕ). get_or bs 0 0) e in
    absurd (omega (arith, under, first))

unmarked : (r : Record) (rs : List Record) (rest : List ℕ) → IsPlainRecord r → lines_text (lines_of (r ∷ rs)) ≢ 239 ∷ 187 ∷ 191 ∷ rest
unmarked [] rs rest is = absurd (omega (arith, is.some))
unmarked ([] ∷ []) rs rest is = let none = is.cells.0.some in absurd (omega (arith, none))
unmarked ([] ∷ y ∷ r) rs rest is = let none = is.cells.0.some in absurd (omega (arith, none))
unmarked ((b ∷ bytes) ∷ []) rs rest is = small-first (bytes ++ (codes "\n" ++ lines_text (lines_of rs))) rest b (and_parts _ _ is.cells.0.bytes).0
unmarked ((b ∷ bytes) ∷ y ∷ r) rs rest is =
    small-first ((bytes ++ (codes "," ++ cells_text (cells_of (y ∷ r)))) ++ (codes "\n" ++ lines_text (lines_of rs))) rest b (and_parts _ _ is.cells.0.bytes).0

-- its records
record-is : (r : Record) → 0 < length r → record_of (cells_of r) ≡ r
record-is [] some = absurd (omega (arith, some))
record-is (x ∷ []) some = refl
record-is (x ∷ y ∷ r) some = ap (λ cells. x ∷ cells) (record-is (y ∷ r) (omega arith))

records-are : (rs : List Record) → AllByRecursion IsPlainRecord rs → records_of (lines_of rs) ≡ rs
records-are [] are = refl
records-are (r ∷ rs) are = ap (λ x. x ∷ records_of (lines_of rs)) (record-is r are.0.some) ∙ ap (λ xs. r ∷ xs) (records-are rs are.1)

table-derived : (header : Record) (most : Option ℕ) (rs : List Record) → IsPlainRecord header → AllByRecursion IsPlainRecord rs → AllByRecursion (λ r. length r ≡ length header) rs
    → IfSome most (λ limit. length rs ≤ limit) → IsTable header most (flat_map cells_line (header ∷ rs)) rs
table-derived header most rs is are wide few = record {
  text = (record { mark = false; lines = lines_of (header ∷ rs) }, sym (lines-text (header ∷ rs)), record { lines = lines-are (header ∷ rs) (is, are); unmarked = λ rest. unmarked header rs rest is }, records-are (header ∷ rs) (is, are));
  wide = wide;
  few = few;
}

-- so the records are read under their header
pub table-framed : (header : Record) (most : Option ℕ) (rs : List Record) → IsPlainRecord header → AllByRecursion IsPlainRecord rs → AllByRecursion (λ r. length r ≡ length header) rs
    → IfSome most (λ limit. length rs ≤ limit) → frame_of header most (table_of (flat_map cells_line (header ∷ rs))) ≡ Ok rs
table-framed header most rs is are wide few = table-read header most (flat_map cells_line (header ∷ rs)) rs (table-derived header most rs is are wide few)

-- ---- one step and the next
pub then-ok : {A B F : Type 0} (first : Result A F) (x : A) (next : A → Result B F) (r : Result B F) → first ≡ Ok x → next x ≡ r → and_then first next ≡ r
then-ok first x next r e n = ap (λ s. and_then s next) e ∙ n
