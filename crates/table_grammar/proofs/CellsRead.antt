-- The cells of a record by the grammar are read as that record.
use Rattle.std.proofs.Common.{◌≡◌, ◌≢◌, ◌==◌, ◌⊎◌, ℕ, false, List, [], ◌∷◌, ◌++◌, Option, Some, refl, sym, ap, subst, ◌∙◌, append_assoc, inl, inr}
use Rattle.std.specs.List.{AllByRecursion}
use Rattle.std.proofs.lemmas.List.{append-nil}
use Rattle.std.proofs.lemmas.Bool.{ne_eqb}
use Rattle.csv.specs.Machine.{Read, next_record, after_end}
use Rattle.csv.specs.Reading.{default_config}
use Rattle.csv.specs.declared.parser.State.{State}
use Rattle.csv.specs.declared.parser.State.TheVariants as st
use Rattle.csv.specs.declared.parser.Terminator.TheVariants as term
use Rattle.table_grammar.specs.Cells.{Character, one, doubled, characters_text, characters_bytes, IsCharacter, IsPlain, BeginsUnquoted, Cell, plain, quoted, unclosed, cell_text, cell_bytes, IsCell, IsClosed, Cells, only, comma, cells_text, record_of, AreCells, LastIsClosed, IsNoEmptyLine, IsRecord}

abbrev pub next : State → List (List ℕ) → List ℕ → List ℕ → Option Read
next s fields field bytes = next_record default_config s fields field bytes

-- ---- bytes of one cell
pub plain-run : (fields : List (List ℕ)) (field bytes tail : List ℕ) → AllByRecursion IsPlain bytes
    → next st.InField fields field (bytes ++ tail) ≡ next st.InField fields (field ++ bytes) tail
unfolding next_record
plain-run fields field [] tail are = rw (append-nil field) refl
plain-run fields field (b ∷ bytes) tail are =
    let c = ne_eqb b 44 are.0.0 in
    let n = ne_eqb b 10 are.0.1 in
    let r = ne_eqb b 13 are.0.2 in
    rw (c, r, n) (plain-run fields (field ++ (b ∷ [])) bytes tail are.1
    ∙ ap (λ (f : List ℕ). next st.InField fields f tail) (append_assoc field (b ∷ []) bytes))

quoted-one : (fields : List (List ℕ)) (field : List ℕ) (b : ℕ) (tail : List ℕ) → (b == 34) ≡ false
    → next st.InQuoted fields field (b ∷ tail) ≡ next st.InQuoted fields (field ++ (b ∷ [])) tail
unfolding next_record
quoted-one fields field b tail n = rw n refl

quoted-two : (fields : List (List ℕ)) (field tail : List ℕ) → next st.InQuoted fields field (34 ∷ 34 ∷ tail) ≡ next st.InQuoted fields (field ++ (34 ∷ [])) tail
unfolding next_record
quoted-two fields field tail = refl

pub quoted-run : (fields : List (List ℕ)) (field : List ℕ) (characters : List Character) (tail : List ℕ) → AllByRecursion IsCharacter characters
    → next st.InQuoted fields field (characters_text characters ++ tail) ≡ next st.InQuoted fields (field ++ characters_bytes characters) tail
quoted-run fields field [] tail are = ap (λ (f : List ℕ). next st.InQuoted fields f tail) (sym (append-nil field))
quoted-run fields field (one b ∷ characters) tail are =
    quoted-one fields field b (characters_text characters ++ tail) (ne_eqb b 34 are.0)
    ∙ quoted-run fields (field ++ (b ∷ [])) characters tail are.1
    ∙ ap (λ (f : List ℕ). next st.InQuoted fields f tail) (append_assoc field (b ∷ []) (characters_bytes characters))
quoted-run fields field (doubled ∷ characters) tail are =
    quoted-two fields field (characters_text characters ++ tail)
    ∙ quoted-run fields (field ++ (34 ∷ [])) characters tail are.1
    ∙ ap (λ (f : List ℕ). next st.InQuoted fields f tail) (append_assoc field (34 ∷ []) (characters_bytes characters))

-- ---- where no quote follows
after-quote : (fields : List (List ℕ)) (field bytes : List ℕ) → BeginsUnquoted bytes → next st.AfterQuote fields field bytes ≡ next st.InField fields field bytes
unfolding next_record
after-quote fields field [] un = refl
after-quote fields field (b ∷ bytes) un = rw (ne_eqb b 34 un) refl

at-start : (fields : List (List ℕ)) (field bytes : List ℕ) → BeginsUnquoted bytes → next st.StartField fields field bytes ≡ next st.InField fields field bytes
unfolding next_record
at-start fields field [] un = refl
at-start fields field (b ∷ bytes) un = rw (ne_eqb b 34 un) refl

un-append : (bytes tail : List ℕ) → BeginsUnquoted bytes → BeginsUnquoted tail → BeginsUnquoted (bytes ++ tail)
un-append [] tail un more = more
un-append (b ∷ bytes) tail un more = un

open-quote : (fields : List (List ℕ)) (bytes : List ℕ) → next st.StartField fields [] (34 ∷ bytes) ≡ next st.InQuoted fields [] bytes
unfolding next_record
open-quote fields bytes = refl

close-quote : (fields : List (List ℕ)) (field bytes : List ℕ) → next st.InQuoted fields field (34 ∷ bytes) ≡ next st.AfterQuote fields field bytes
unfolding next_record
close-quote fields field bytes = refl

-- a cell that is closed, with no quote behind
pub cell-run : (fields : List (List ℕ)) (cell : Cell) (tail : List ℕ) → IsCell cell → IsClosed cell → BeginsUnquoted tail
    → next st.StartField fields [] (cell_text cell ++ tail) ≡ next st.InField fields (cell_bytes cell) tail
cell-run fields (plain bytes) tail is closed un =
    at-start fields [] (bytes ++ tail) (un-append bytes tail is.1 un) ∙ plain-run fields [] bytes tail is.0
cell-run fields (quoted characters behind) tail is closed un =
    open-quote fields ((characters_text characters ++ (34 ∷ behind)) ++ tail)
    ∙ ap (λ (u : List ℕ). next st.InQuoted fields [] u) (append_assoc (characters_text characters) (34 ∷ behind) tail)
    ∙ quoted-run fields [] characters (34 ∷ (behind ++ tail)) is.0
    ∙ close-quote fields (characters_bytes characters) (behind ++ tail)
    ∙ after-quote fields (characters_bytes characters) (behind ++ tail) (un-append behind tail is.1.1 un)
    ∙ plain-run fields (characters_bytes characters) behind tail is.1.0
cell-run fields (unclosed characters) tail is closed un = absurd closed

-- ---- the end of a record
abbrev pub ended : List (List ℕ) → List ℕ → Option Read
ended fields [] = Some (fields, st.StartRecord, [])
ended fields (c ∷ rest) = Some (fields, after_end term.CRLF c, rest)

-- at the end of the text, or at a line's end where the last cell is closed
abbrev pub Follows : Cells → List ℕ → Type 0
Follows cells [] = Unit {0}
Follows cells (c ∷ rest) = LastIsClosed cells × ((c ≡ 13) ⊎ (c ≡ 10))

end-text : (fields : List (List ℕ)) (field : List ℕ) → next st.InField fields field [] ≡ ended (fields ++ (field ∷ [])) []
unfolding next_record
end-text fields field = refl

end-line : (fields : List (List ℕ)) (field : List ℕ) (c : ℕ) (rest : List ℕ) → (c ≡ 13) ⊎ (c ≡ 10)
    → next st.InField fields field (c ∷ rest) ≡ ended (fields ++ (field ∷ [])) (c ∷ rest)
unfolding next_record
end-line fields field c rest (inl e) = subst (λ (z : ℕ). next st.InField fields field (z ∷ rest) ≡ ended (fields ++ (field ∷ [])) (z ∷ rest)) (sym e) refl
end-line fields field c rest (inr e) = subst (λ (z : ℕ). next st.InField fields field (z ∷ rest) ≡ ended (fields ++ (field ∷ [])) (z ∷ rest)) (sym e) refl

end-open : (fields : List (List ℕ)) (field : List ℕ) → next st.InQuoted fields field [] ≡ ended (fields ++ (field ∷ [])) []
unfolding next_record
end-open fields field = refl

unquoted-end : (c : ℕ) → (c ≡ 13) ⊎ (c ≡ 10) → c ≢ 34
unquoted-end c (inl e) = λ q. cc (sym e ∙ q)
unquoted-end c (inr e) = λ q. cc (sym e ∙ q)

end-field : (fields : List (List ℕ)) (field bytes : List ℕ) → next st.InField fields field (44 ∷ bytes) ≡ next st.StartField (fields ++ (field ∷ [])) [] bytes
unfolding next_record
end-field fields field bytes = refl

comma-unquoted : ◌≢◌ {A = ℕ} 44 34
comma-unquoted = λ e. cc e

only-run : (fields : List (List ℕ)) (cell : Cell) (tail : List ℕ) → IsCell cell → Follows (only cell) tail
    → next st.StartField fields [] (cell_text cell ++ tail) ≡ ended (fields ++ (cell_bytes cell ∷ [])) tail
only-run fields (plain bytes) [] is follows = cell-run fields (plain bytes) [] is tt tt ∙ end-text fields bytes
only-run fields (quoted characters behind) [] is follows =
    cell-run fields (quoted characters behind) [] is tt tt ∙ end-text fields (characters_bytes characters ++ behind)
only-run fields (unclosed characters) [] is follows =
    open-quote fields (characters_text characters ++ []) ∙ quoted-run fields [] characters [] is ∙ end-open fields (characters_bytes characters)
only-run fields cell (c ∷ rest) is follows =
    cell-run fields cell (c ∷ rest) is follows.0 (unquoted-end c follows.1) ∙ end-line fields (cell_bytes cell) c rest follows.1

less : (cell : Cell) (cells : Cells) (tail : List ℕ) → Follows (comma cell cells) tail → Follows cells tail
less cell cells [] follows = tt
less cell cells (c ∷ rest) follows = follows

-- the cells of a record
pub cells-run : (fields : List (List ℕ)) (cells : Cells) (tail : List ℕ) → AreCells cells → Follows cells tail
    → next st.StartField fields [] (cells_text cells ++ tail) ≡ ended (fields ++ record_of cells) tail
cells-run fields (only cell) tail are follows = only-run fields cell tail are follows
cells-run fields (comma cell cells) tail are follows =
    ap (λ (u : List ℕ). next st.StartField fields [] u) (append_assoc (cell_text cell) (44 ∷ cells_text cells) tail)
    ∙ cell-run fields cell (44 ∷ (cells_text cells ++ tail)) are.0 are.1 comma-unquoted
    ∙ end-field fields (cell_bytes cell) (cells_text cells ++ tail)
    ∙ cells-run (fields ++ (cell_bytes cell ∷ [])) cells tail are.2 (less cell cells tail follows)
    ∙ ap (λ (f : List (List ℕ)). ended f tail) (append_assoc fields (cell_bytes cell ∷ []) (record_of cells))

-- ---- a record from its start
record-start : (c : ℕ) (bytes : List ℕ) → c ≢ 13 → c ≢ 10 → next st.StartRecord [] [] (c ∷ bytes) ≡ next st.StartField [] [] (c ∷ bytes)
unfolding next_record
record-start c bytes r n = rw (ne_eqb c 13 r, ne_eqb c 10 n) refl

record-begins : (cells : Cells) (tail : List ℕ) → AreCells cells → IsNoEmptyLine cells → next st.StartRecord [] [] (cells_text cells ++ tail) ≡ next st.StartField [] [] (cells_text cells ++ tail)
record-begins (only (plain [])) tail are some = absurd some
record-begins (only (plain (b ∷ bytes))) tail are some = record-start b (bytes ++ tail) are.0.0.2 are.0.0.1
record-begins (only (quoted characters behind)) tail are some = record-start 34 _ (λ e. cc e) (λ e. cc e)
record-begins (only (unclosed characters)) tail are some = record-start 34 _ (λ e. cc e) (λ e. cc e)
record-begins (comma (plain []) cells) tail are some = record-start 44 _ (λ e. cc e) (λ e. cc e)
record-begins (comma (plain (b ∷ bytes)) cells) tail are some = record-start b _ are.0.0.0.2 are.0.0.0.1
record-begins (comma (quoted characters behind) cells) tail are some = record-start 34 _ (λ e. cc e) (λ e. cc e)
record-begins (comma (unclosed characters) cells) tail are some = absurd are.1

pub record-run : (cells : Cells) (tail : List ℕ) → IsRecord cells → Follows cells tail → next st.StartRecord [] [] (cells_text cells ++ tail) ≡ ended (record_of cells) tail
record-run cells tail is follows = record-begins cells tail is.0 is.1 ∙ cells-run [] cells tail is.0 follows
