-- Every text is one of lines by the grammar.
use Rattle.std.proofs.Common.{◌≡◌, ◌≢◌, ◌==◌, ℕ, List, [], ◌∷◌, ◌++◌, get_or, refl, sym, ap, subst, ◌∙◌, append_assoc, inl, inr}
use Rattle.std.specs.List.{AllByRecursion}
use Rattle.std.proofs.lemmas.List.{append-nil}
use Rattle.std.proofs.lemmas.Bool.{cases_Bool, eqb-true, eqb-false}
use Rattle.table_grammar.specs.Cells.{Character, one, doubled, characters_text, IsCharacter, IsPlain, BeginsUnquoted, IsPlainText, Cell, plain, quoted, unclosed, cell_text, IsCell, IsClosed, Cells, only, comma, cells_text, AreCells, LastIsClosed, IsNoEmptyLine}
use Rattle.table_grammar.specs.TableTexts.{LineEnd, feed, return, return_feed, line_end_text, Lines, no_lines, empty_line, line, last_line, lines_text, AreLines}

-- ---- what a byte does between quotes and outside of them
pub data Stop (b : ℕ) : Type 0 where
  at_comma : b ≡ 44 → Stop b
  at_feed : b ≡ 10 → Stop b
  at_return : b ≡ 13 → Stop b
  goes : IsPlain b → Stop b

stop-of : (b : ℕ) → Stop b
stop-of b = elim (cases_Bool (b == 44)) [
  | inl e ↦ at_comma (eqb-true b 44 e)
  | inr c ↦ elim (cases_Bool (b == 10)) [
    | inl e ↦ at_feed (eqb-true b 10 e)
    | inr n ↦ elim (cases_Bool (b == 13)) [
      | inl e ↦ at_return (eqb-true b 13 e)
      | inr r ↦ goes (eqb-false b 44 c, eqb-false b 10 n, eqb-false b 13 r)
    ]
  ]
]

pub data Quote (b : ℕ) : Type 0 where
  is_quote : b ≡ 34 → Quote b
  is_other : b ≢ 34 → Quote b

quote-of : (b : ℕ) → Quote b
quote-of b = elim (cases_Bool (b == 34)) [ inl e ↦ is_quote (eqb-true b 34 e) | inr e ↦ is_other (eqb-false b 34 e) ]

-- ---- derivations of the rest of a text, from where a record, a cell, its plain bytes or what is in quotes begins
pub record OfLines (bytes : List ℕ) : Type 0 where
  pub lines : Lines
  pub are : AreLines lines
  pub is : lines_text lines ≡ bytes

pub data Ending (cells : Cells) (tail : List ℕ) : Type 0 where
  at_end : tail ≡ [] → Ending cells tail
  at_line : LastIsClosed cells → (end : LineEnd) (lines : Lines) → AreLines lines → tail ≡ line_end_text end ++ lines_text lines → Ending cells tail

pub record Row (bytes : List ℕ) : Type 0 where
  pub cells : Cells
  pub tail : List ℕ
  pub are : AreCells cells
  pub ending : Ending cells tail
  pub is : bytes ≡ cells_text cells ++ tail

pub data Rest (bytes : List ℕ) : Type 0 where
  no_more : bytes ≡ [] → Rest bytes
  more_cells : (more : List ℕ) → Row more → bytes ≡ 44 ∷ more → Rest bytes
  line_over : (end : LineEnd) (lines : Lines) → AreLines lines → bytes ≡ line_end_text end ++ lines_text lines → Rest bytes

pub record Field (bytes : List ℕ) : Type 0 where
  pub front : List ℕ
  pub rest : List ℕ
  pub are : AllByRecursion IsPlain front
  pub unquoted : BeginsUnquoted bytes → BeginsUnquoted front
  pub behind : Rest rest
  pub is : bytes ≡ front ++ rest

pub data Inside (bytes : List ℕ) : Type 0 where
  never : (characters : List Character) → AllByRecursion IsCharacter characters → bytes ≡ characters_text characters → Inside bytes
  closes : (characters : List Character) → AllByRecursion IsCharacter characters → (front rest : List ℕ) → IsPlainText front → Rest rest
      → bytes ≡ characters_text characters ++ 34 ∷ (front ++ rest) → Inside bytes

pub record Derived (bytes : List ℕ) : Type 0 where
  pub lines : OfLines bytes
  pub row : Row bytes
  pub field : Field bytes
  pub inside : Inside bytes
  pub after : Inside (34 ∷ bytes)

-- ---- one byte before a rest
ending-more : (cell : Cell) (cells : Cells) (tail : List ℕ) → Ending cells tail → Ending (comma cell cells) tail
ending-more cell cells tail (at_end e) = at_end e
ending-more cell cells tail (at_line closed end lines are e) = at_line closed end lines are e

row-of : (cell : Cell) (rest bytes : List ℕ) → IsCell cell → IsClosed cell → Rest rest → bytes ≡ cell_text cell ++ rest → Row bytes
row-of cell rest bytes is closed (no_more e) is_text = record { cells = only cell; tail = rest; are = is; ending = at_end e; is = is_text }
row-of cell rest bytes is closed (line_over end lines are e) is_text =
    record { cells = only cell; tail = rest; are = is; ending = at_line closed end lines are e; is = is_text }
row-of cell rest bytes is closed (more_cells more row e) is_text = record {
  cells = comma cell row.cells;
  tail = row.tail;
  are = (is, closed, row.are);
  ending = ending-more cell row.cells row.tail row.ending;
  is = is_text ∙ ap (λ u. cell_text cell ++ u) (e ∙ ap (λ u. 44 ∷ u) row.is) ∙ sym (append_assoc (cell_text cell) (44 ∷ cells_text row.cells) row.tail);
}

head-is : (b c : ℕ) (bytes rest : List ℕ) → b ≡ c → bytes ≡ rest → b ∷ bytes ≡ c ∷ rest
head-is b c bytes rest e f = ap (λ x. x ∷ bytes) e ∙ ap (λ u. c ∷ u) f

field-next : (b : ℕ) (bytes : List ℕ) → Derived bytes → Stop b → Field (b ∷ bytes)
field-next b bytes d (at_comma e) = record {
  front = [];
  rest = b ∷ bytes;
  are = tt;
  unquoted = λ u. tt;
  behind = more_cells bytes d.row (ap (λ x. x ∷ bytes) e);
  is = refl;
}
field-next b bytes d (at_feed e) = record {
  front = [];
  rest = b ∷ bytes;
  are = tt;
  unquoted = λ u. tt;
  behind = line_over feed d.lines.lines d.lines.are (head-is b 10 bytes (lines_text d.lines.lines) e (sym d.lines.is));
  is = refl;
}
field-next b bytes d (at_return e) = record {
  front = [];
  rest = b ∷ bytes;
  are = tt;
  unquoted = λ u. tt;
  behind = line_over return d.lines.lines d.lines.are (head-is b 13 bytes (lines_text d.lines.lines) e (sym d.lines.is));
  is = refl;
}
field-next b bytes d (goes p) = record {
  front = b ∷ d.field.front;
  rest = d.field.rest;
  are = (p, d.field.are);
  unquoted = λ u. u;
  behind = d.field.behind;
  is = ap (λ u. b ∷ u) d.field.is;
}

row-inside : (b : ℕ) (bytes : List ℕ) → b ≡ 34 → Inside bytes → Row (b ∷ bytes)
row-inside b bytes q (never characters are e) = record {
  cells = only (unclosed characters);
  tail = [];
  are = are;
  ending = at_end refl;
  is = head-is b 34 bytes (characters_text characters ++ []) q (e ∙ sym (append-nil (characters_text characters)));
}
row-inside b bytes q (closes characters are front rest p r e) =
    row-of (quoted characters front) rest (b ∷ bytes) (are, p) tt r
    (head-is b 34 bytes ((characters_text characters ++ (34 ∷ front)) ++ rest) q (e ∙ sym (append_assoc (characters_text characters) (34 ∷ front) rest)))

row-next : (b : ℕ) (bytes : List ℕ) → Derived bytes → Field (b ∷ bytes) → Quote b → Row (b ∷ bytes)
row-next b bytes d f (is_quote q) = row-inside b bytes q d.inside
row-next b bytes d f (is_other q) = row-of (plain f.front) f.rest (b ∷ bytes) (f.are, f.unquoted q) tt f.behind f.is

inside-one : (b : ℕ) (bytes : List ℕ) → b ≢ 34 → Inside bytes → Inside (b ∷ bytes)
inside-one b bytes q (never characters are e) = never (one b ∷ characters) (q, are) (ap (λ u. b ∷ u) e)
inside-one b bytes q (closes characters are front rest p r e) = closes (one b ∷ characters) (q, are) front rest p r (ap (λ u. b ∷ u) e)

inside-two : (b : ℕ) (bytes : List ℕ) → b ≡ 34 → Inside bytes → Inside (34 ∷ b ∷ bytes)
inside-two b bytes q (never characters are e) = never (doubled ∷ characters) (tt, are) (ap (λ u. 34 ∷ u) (head-is b 34 bytes _ q e))
inside-two b bytes q (closes characters are front rest p r e) = closes (doubled ∷ characters) (tt, are) front rest p r (ap (λ u. 34 ∷ u) (head-is b 34 bytes _ q e))

inside-next : (b : ℕ) (bytes : List ℕ) → Derived bytes → Quote b → Inside (b ∷ bytes)
inside-next b bytes d (is_quote q) = subst (λ (x : ℕ). Inside (x ∷ bytes)) (sym q) d.after
inside-next b bytes d (is_other q) = inside-one b bytes q d.inside

after-next : (b : ℕ) (bytes : List ℕ) → Derived bytes → Field (b ∷ bytes) → Quote b → Inside (34 ∷ b ∷ bytes)
after-next b bytes d f (is_quote q) = inside-two b bytes q d.inside
after-next b bytes d f (is_other q) = closes [] tt f.front f.rest (f.are, f.unquoted q) f.behind (ap (λ u. 34 ∷ u) f.is)

-- ---- a record that begins at a byte that ends no line is no empty line
first-of : (b c : ℕ) (bytes rest : List ℕ) → b ∷ bytes ≡ c ∷ rest → b ≡ c
first-of b c bytes rest e = ap (λ xs. get_or xs 0 0) e

not-empty : (b : ℕ) (bytes tail : List ℕ) → b ≢ 10 → b ≢ 13 → Ending (only (plain [])) tail → b ∷ bytes ≡ tail → ⊥
not-empty b bytes tail n r (at_end e) is = cc (is ∙ e)
not-empty b bytes tail n r (at_line closed feed lines are e) is = n (first-of b 10 bytes _ (is ∙ e))
not-empty b bytes tail n r (at_line closed return lines are e) is = r (first-of b 13 bytes _ (is ∙ e))
not-empty b bytes tail n r (at_line closed return_feed lines are e) is = r (first-of b 13 bytes _ (is ∙ e))

some-record : (b : ℕ) (bytes tail : List ℕ) (cells : Cells) → b ≢ 10 → b ≢ 13 → Ending cells tail → b ∷ bytes ≡ cells_text cells ++ tail → IsNoEmptyLine cells
some-record b bytes tail (only (plain [])) n r ending is = absurd (not-empty b bytes tail n r ending is)
some-record b bytes tail (only (plain (c ∷ front))) n r ending is = tt
some-record b bytes tail (only (quoted characters front)) n r ending is = tt
some-record b bytes tail (only (unclosed characters)) n r ending is = tt
some-record b bytes tail (comma cell cells) n r ending is = tt

lines-ending : (bytes tail : List ℕ) (cells : Cells) → AreCells cells → IsNoEmptyLine cells → Ending cells tail → bytes ≡ cells_text cells ++ tail → OfLines bytes
lines-ending bytes tail cells are some (at_end e) is = record {
  lines = last_line cells;
  are = (are, some);
  is = sym (is ∙ ap (λ u. cells_text cells ++ u) e ∙ append-nil (cells_text cells));
}
lines-ending bytes tail cells are some (at_line closed end lines are_lines e) is = record {
  lines = line cells end lines;
  are = ((are, some), closed, are_lines);
  is = sym (is ∙ ap (λ u. cells_text cells ++ u) e);
}

lines-row : (b : ℕ) (bytes : List ℕ) → b ≢ 10 → b ≢ 13 → Row (b ∷ bytes) → OfLines (b ∷ bytes)
lines-row b bytes n r row =
    lines-ending (b ∷ bytes) row.tail row.cells row.are (some-record b bytes row.tail row.cells n r row.ending row.is) row.ending row.is

comma-no : (b c : ℕ) → b ≡ 44 → (◌≡◌ {A = ℕ} 44 c → ⊥) → b ≢ c
comma-no b c e no-comma q = no-comma (sym e ∙ q)

lines-next : (b : ℕ) (bytes : List ℕ) → Derived bytes → Row (b ∷ bytes) → Stop b → OfLines (b ∷ bytes)
lines-next b bytes d row (at_feed e) = record { lines = empty_line feed d.lines.lines; are = d.lines.are; is = sym (head-is b 10 bytes _ e (sym d.lines.is)) }
lines-next b bytes d row (at_return e) = record { lines = empty_line return d.lines.lines; are = d.lines.are; is = sym (head-is b 13 bytes _ e (sym d.lines.is)) }
lines-next b bytes d row (at_comma e) = lines-row b bytes (comma-no b 10 e (λ q. cc q)) (comma-no b 13 e (λ q. cc q)) row
lines-next b bytes d row (goes p) = lines-row b bytes p.1 p.2 row

derived-next : (b : ℕ) (bytes : List ℕ) → Derived bytes → Field (b ∷ bytes) → Row (b ∷ bytes) → Derived (b ∷ bytes)
derived-next b bytes d f row = record {
  lines = lines-next b bytes d row (stop-of b);
  row = row;
  field = f;
  inside = inside-next b bytes d (quote-of b);
  after = after-next b bytes d f (quote-of b);
}

derived-none : Derived []
derived-none = record {
  lines = record { lines = no_lines; are = tt; is = refl };
  row = record { cells = only (plain []); tail = []; are = (tt, tt); ending = at_end refl; is = refl };
  field = record { front = []; rest = []; are = tt; unquoted = λ u. tt; behind = no_more refl; is = refl };
  inside = never [] tt refl;
  after = closes [] tt [] [] (tt, tt) (no_more refl) refl;
}

-- ---- each text
pub derived : (bytes : List ℕ) → Derived bytes
derived [] = derived-none
derived (b ∷ bytes) =
    let d = derived bytes in
    let f = field-next b bytes d (stop-of b) in
    derived-next b bytes d f (row-next b bytes d f (quote-of b))
