-- The records of a text by the grammar are those that are read.
use Rattle.std.proofs.Common.{◌≡◌, ◌==◌, ◌+◌, ◌<◌, ℕ, zero, suc, Bool, true, false, List, [], ◌∷◌, ◌++◌, length, refl, sym, ap, ◌∙◌, inl, inr, arith, length-append}
use Rattle.std.proofs.lemmas.List.{append-nil}
use Rattle.std.proofs.lemmas.Bool.{cases_Bool, eqb-true}
use Rattle.csv.specs.Machine.{next_record}
use Rattle.csv.specs.Reading.{default_config, records, records_from, records_next, strip_bom}
use Rattle.csv.specs.declared.parser.State.TheVariants as st
use Rattle.csv_table.specs.Table.{table_of}
use Rattle.record_reading.specs.Records.{Record}
use Rattle.table_grammar.specs.Cells.{Cells, cells_text, record_of, LastIsClosed}
use Rattle.table_grammar.specs.TableTexts.{LineEnd, feed, return, return_feed, line_end_text, Lines, no_lines, empty_line, line, last_line, lines_text, records_of, AreLines, table_text, BeginsUnmarked, IsTableText}
use Rattle.table_grammar.proofs.CellsRead.{next, ended, Follows, record-run}

-- ---- between records
after-return : (bytes : List ℕ) → next st.AfterCr [] [] bytes ≡ next st.StartRecord [] [] bytes
unfolding next_record
after-return [] = refl
after-return (c ∷ bytes) = elim (cases_Bool (c == 10)) [
  | inl e ↦ elim (cases_Bool (c == 13)) [ inl r ↦ rw (e, r) refl | inr r ↦ rw (e, r) refl ]
  | inr e ↦ rw e refl
]

skip-end : (end : LineEnd) (bytes : List ℕ) → next st.StartRecord [] [] (line_end_text end ++ bytes) ≡ next st.StartRecord [] [] bytes
unfolding next_record
skip-end feed bytes = refl
skip-end return bytes = refl
skip-end return_feed bytes = refl

from-return : (n : ℕ) (bytes : List ℕ) → records_from default_config n st.AfterCr bytes ≡ records_from default_config n st.StartRecord bytes
unfolding records_from
from-return zero bytes = refl
from-return (suc n) bytes = ap (records_next (records_from default_config n)) (after-return bytes)

from-end : (n : ℕ) (end : LineEnd) (bytes : List ℕ) → records_from default_config n st.StartRecord (line_end_text end ++ bytes) ≡ records_from default_config n st.StartRecord bytes
unfolding records_from
from-end zero end bytes = refl
from-end (suc n) end bytes = ap (records_next (records_from default_config n)) (skip-end end bytes)

from-none : (n : ℕ) → records_from default_config n st.StartRecord [] ≡ []
unfolding records_from next_record
from-none zero = refl
from-none (suc n) = refl

-- what is read behind a record
behind-end : (n : ℕ) (fields : Record) (end : LineEnd) (bytes : List ℕ)
    → records_next (records_from default_config n) (ended fields (line_end_text end ++ bytes)) ≡ fields ∷ records_from default_config n st.StartRecord bytes
behind-end n fields feed bytes = refl
behind-end n fields return bytes = ap (λ rs. fields ∷ rs) (from-return n bytes)
behind-end n fields return_feed bytes = ap (λ rs. fields ∷ rs) (from-return n (10 ∷ bytes) ∙ from-end n feed bytes)

follows-end : (cells : Cells) (end : LineEnd) (bytes : List ℕ) → LastIsClosed cells → Follows cells (line_end_text end ++ bytes)
follows-end cells feed bytes closed = (closed, inr refl)
follows-end cells return bytes closed = (closed, inl refl)
follows-end cells return_feed bytes closed = (closed, inl refl)

some-end : (end : LineEnd) → 0 < length (line_end_text end)
some-end feed = omega arith
some-end return = omega arith
some-end return_feed = omega arith

behind-shorter : (cells : Cells) (end : LineEnd) (bytes : List ℕ) (n : ℕ) → length (cells_text cells ++ (line_end_text end ++ bytes)) < suc n → length bytes < n
behind-shorter cells end bytes n lt =
    omega (arith, lt, some-end end, length-append (cells_text cells) (line_end_text end ++ bytes), length-append (line_end_text end) bytes)

-- ---- the lines of a text
pub lines-read : (n : ℕ) (lines : Lines) → AreLines lines → length (lines_text lines) < n → records_from default_config n st.StartRecord (lines_text lines) ≡ records_of lines
unfolding records_from
lines-read n no_lines are lt = from-none n
lines-read n (empty_line end lines) are lt =
    from-end n end (lines_text lines) ∙ lines-read n lines are (omega (arith, lt, length-append (line_end_text end) (lines_text lines)))
lines-read zero (line cells end lines) are lt = absurd (omega (arith, lt))
lines-read (suc n) (line cells end lines) are lt =
    ap (records_next (records_from default_config n)) (record-run cells (line_end_text end ++ lines_text lines) are.0 (follows-end cells end (lines_text lines) are.1))
    ∙ behind-end n (record_of cells) end (lines_text lines)
    ∙ ap (λ rs. record_of cells ∷ rs) (lines-read n lines are.2 (behind-shorter cells end (lines_text lines) n lt))
lines-read zero (last_line cells) are lt = absurd (omega (arith, lt))
lines-read (suc n) (last_line cells) are lt =
    ap (records_next (records_from default_config n)) (ap (λ u. next st.StartRecord [] [] u) (sym (append-nil (cells_text cells))) ∙ record-run cells [] are tt)
    ∙ ap (λ rs. record_of cells ∷ rs) (from-none n)

-- ---- the byte order mark
marked : (bytes : List ℕ) → strip_bom (239 ∷ 187 ∷ 191 ∷ bytes) ≡ bytes
unfolding strip_bom
marked bytes = refl

unmarked : (bytes : List ℕ) → BeginsUnmarked false bytes → strip_bom bytes ≡ bytes
unfolding strip_bom
unmarked [] un = refl
unmarked (a ∷ []) un = refl
unmarked (a ∷ b ∷ []) un = refl
unmarked (a ∷ b ∷ c ∷ rest) un = elim (cases_Bool (a == 239)) [
  | inr e ↦ rw e refl
  | inl e ↦ elim (cases_Bool (b == 187)) [
    | inr f ↦ rw (e, f) refl
    | inl f ↦ elim (cases_Bool (c == 191)) [
      | inr g ↦ rw (e, f, g) refl
      | inl g ↦ absurd (un rest (mark-is a b c rest e f g))
    ]
  ]
] where
  mark-is : (a b c : ℕ) (rest : List ℕ) → (a == 239) ≡ true → (b == 187) ≡ true → (c == 191) ≡ true → a ∷ b ∷ c ∷ rest ≡ 239 ∷ 187 ∷ 191 ∷ rest
  mark-is a b c rest e f g = rw (eqb-true a 239 e, eqb-true b 187 f, eqb-true c 191 g) refl

stripped : (mark : Bool) (lines : Lines) → BeginsUnmarked mark (lines_text lines) → strip_bom (table_text (record { mark = mark; lines = lines })) ≡ lines_text lines
stripped true lines un = marked (lines_text lines)
stripped false lines un = unmarked (lines_text lines) un

lines-table : (lines : Lines) → AreLines lines → records default_config (lines_text lines) ≡ records_of lines
lines-table lines are = lines-read (length (lines_text lines) + 1) lines are (omega arith)

pub derived-read : (bytes : List ℕ) (rows : List Record) → IsTableText bytes rows → table_of bytes ≡ rows
unfolding table_of
derived-read bytes rows (table, is, text, gives) =
    ap (λ xs. records default_config (strip_bom xs)) is
    ∙ ap (λ xs. records default_config xs) (stripped table.mark table.lines text.unmarked)
    ∙ lines-table table.lines text.lines
    ∙ gives

pub one-reading : (bytes : List ℕ) (rows others : List Record) → IsTableText bytes rows → IsTableText bytes others → rows ≡ others
one-reading bytes rows others derived other = sym (derived-read bytes rows derived) ∙ derived-read bytes others other
