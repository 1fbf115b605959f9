-- A dictionary as callers see it: the rows as put in, and beside them the table that gives the basic variables by the
-- others. Source: Chvátal, Linear Programming.
use Rattle.std.specs.Prelude.{◌≡◌, ◌↔◌, ℕ, ◌*◌, Bool, false, List, [], ◌∷◌, ◌++◌, ◌<◌, ◌≤◌, length, map, take, filter, insert, slice_index, slice_index_or, slice_set, refl}
use Rattle.std.specs.Coded.{Coded, code_by, coded×, coded_ℕ, coded_bool, coded_list}
use Rattle.std.specs.List.{Contains}
use Rattle.std.specs.List.Sorted.{IsStrictlyIncreasing}
use Rattle.fraction_theory.specs.Code.{fraction_code}
use Rattle.fraction_theory.specs.Fraction.{Fraction}
use Rattle.linear_system.specs.Choices.{Choice, IsChoice, row_entry_terms}
use Rattle.fraction_theory.specs.Sums.{total}
use Rattle.linear_system.specs.Systems.{System, MeetsRows}
use Rattle.linear_dict.specs.Notes.{Noted, noted, noted_code, blank}
use Rattle.linear_dict.specs.Places.{place_in, is_among, IsSplit}
use Rattle.linear_dict.specs.Tables.{cell, table_of, pivoted_cell, widened}
use Rattle.linear_dict.specs.declared.index.Variable.{Variable}
use Rattle.linear_dict.specs.Indexes.{name_of}

pub record Dictionary : Type 0 where
  -- the names of the columns and of the rows as put in, and the rows' coefficients, row by row
  pub columns : List ℕ
  pub rows : List ℕ
  pub coefficients : List Fraction
  -- the names of the other variables by column place and of the basic ones by row place, and the table, row by row
  pub others : List ℕ
  pub basics : List ℕ
  pub table : List Fraction
  -- all names ascending, with a note for each
  pub names : List ℕ
  pub notes : List Noted
  -- whether a pivot was refused
  pub spent : Bool

abbrev pub dictionary_code : Coded Dictionary
dictionary_code = code_by (List ℕ × (List ℕ × (List Fraction × (List ℕ × (List ℕ × (List Fraction × (List ℕ × (List Noted × Bool))))))))
    (coded× (coded_list coded_ℕ) (coded× (coded_list coded_ℕ) (coded× (coded_list fraction_code) (coded× (coded_list coded_ℕ) (coded× (coded_list coded_ℕ)
    (coded× (coded_list fraction_code) (coded× (coded_list coded_ℕ) (coded× (coded_list noted_code) coded_bool))))))))
    (λ d. (d.columns, (d.rows, (d.coefficients, (d.others, (d.basics, (d.table, (d.names, (d.notes, d.spent)))))))))
    (λ p. record {
      columns = p.0;
      rows = p.1.0;
      coefficients = p.1.1.0;
      others = p.1.1.1.0;
      basics = p.1.1.1.1.0;
      table = p.1.1.1.1.1.0;
      names = p.1.1.1.1.1.1.0;
      notes = p.1.1.1.1.1.1.1.0;
      spent = p.1.1.1.1.1.1.1.1;
    })
    (λ _. refl)

-- the dictionary of these lists of numbers of some type
abbrev pub seen : {N : Type 0} → (N → Fraction) → List ℕ → List ℕ → List N → List ℕ → List ℕ → List N → List (Variable N) → Bool → Dictionary
seen value columns rows coefficients others basics table variables spent = record {
  columns = columns;
  rows = rows;
  coefficients = map value coefficients;
  others = others;
  basics = basics;
  table = map value table;
  names = map name_of variables;
  notes = map (λ v. noted value v.note) variables;
  spent = spent;
}

-- the note of the variable w
unfoldable pub note_of : Dictionary → ℕ → Noted
note_of d w = slice_index_or d.notes (place_in d.names w) blank

-- the entry of the basic variable b and the other variable w
unfoldable pub entry_of : Dictionary → ℕ → ℕ → Fraction
entry_of d b w = cell (length d.others) d.table (place_in d.basics b) (place_in d.others w)

-- the system of the rows as put in, with the prices and bounds of the notes
unfoldable pub system_in : Dictionary → System
system_in d = record {
  variables = d.names;
  columns = filter (is_among d.columns) d.names;
  rows = filter (is_among d.rows) d.names;
  coefficient = λ r j. cell (length d.columns) d.coefficients (place_in d.rows r) (place_in d.columns j);
  price = λ w. (note_of d w).price;
  low = λ w. (note_of d w).low;
  high = λ w. (note_of d w).high;
}

-- the choice of the table, each other variable at the bound that its note says
unfoldable pub choice_of : Dictionary → Choice
choice_of d = record { basic = is_among d.basics; high = λ w. (note_of d w).at_high; entry = entry_of d }

-- Basic and other variables are together the rows and columns, each name once. And unless it is spent, the table has
-- the same solutions as the rows as put in: it is the table of a choice. No bound, price or value stands in this.
pub record IsDictionary (d : Dictionary) : Type 0 where
  pub row_count : length d.rows ≡ length d.basics
  pub column_count : length d.columns ≡ length d.others
  pub coefficient_count : length d.coefficients ≡ length d.rows * length d.columns
  pub table_count : length d.table ≡ length d.basics * length d.others
  pub note_count : length d.notes ≡ length d.names
  pub ascending : IsStrictlyIncreasing d.names
  pub put_in : IsSplit d.names d.rows d.columns
  pub split : IsSplit d.names d.basics d.others
  pub solutions : d.spent ≡ false → IsChoice (system_in d) (choice_of d)

-- the dictionary after row place r and column place c have exchanged their names
unfoldable pub pivoted : Dictionary → ℕ → ℕ → Dictionary
pivoted d r c = record d {
  others = slice_set d.others c (slice_index d.basics r);
  basics = slice_set d.basics r (slice_index d.others c);
  table = table_of (length d.basics) (length d.others) (pivoted_cell (cell (length d.others) d.table) r c);
}

-- the dictionary with this note of the variable w
unfoldable pub with_note : Dictionary → ℕ → Noted → Dictionary
with_note d w n = record d { notes = slice_set d.notes (place_in d.names w) n }

-- A dictionary of one row, as put in: its columns are the others, its row is basic, and nothing is noted.
pub record IsStart {N : Type 0} (value : N → Fraction) (names : List ℕ) (row : ℕ) (entries : List N) (d : Dictionary) : Type 0 where
  pub live : d.spent ≡ false
  pub columns : d.columns ≡ names
  pub rows : d.rows ≡ row ∷ []
  pub coefficients : d.coefficients ≡ map value entries
  pub others : d.others ≡ names
  pub basics : d.basics ≡ row ∷ []
  pub table : d.table ≡ map value entries
  pub blank_notes : (w : ℕ) → Contains d.names w → note_of d w ≡ blank
  pub sound : IsDictionary d

-- The dictionary with one more row, which is basic at a new last place, where nothing is noted of it. Its entries are
-- named sums over the columns; all else stays.
pub record AddsRow {N : Type 0} (value : N → Fraction) (old : Dictionary) (row : ℕ) (entries : List N) (new : Dictionary) : Type 0 where
  pub live : new.spent ≡ false
  pub columns : new.columns ≡ old.columns
  pub rows : new.rows ≡ old.rows ++ row ∷ []
  pub coefficients : new.coefficients ≡ old.coefficients ++ map value entries
  pub others : new.others ≡ old.others
  pub basics : new.basics ≡ old.basics ++ row ∷ []
  pub table : take (length old.table) new.table ≡ old.table
  pub row_entries : (c : ℕ) → c < length old.others
      → cell (length old.others) new.table (length old.basics) c ≡ total (row_entry_terms (system_in new) (choice_of old) row (slice_index old.others c))
  pub notes : (w : ℕ) → Contains old.names w → note_of new w ≡ note_of old w
  pub blank_note : note_of new row ≡ blank
  pub sound : IsDictionary new

-- The dictionary with one more column, an other variable at a new last place, where nothing is noted of it. Its entries
-- are 0 in each row, so a point meets the rows exactly where it met them before; all else stays.
pub record AddsColumn (old : Dictionary) (column : ℕ) (new : Dictionary) : Type 0 where
  pub live : new.spent ≡ false
  pub columns : new.columns ≡ old.columns ++ column ∷ []
  pub rows : new.rows ≡ old.rows
  pub coefficients : new.coefficients ≡ widened (length old.rows) (length old.columns) old.coefficients
  pub others : new.others ≡ old.others ++ column ∷ []
  pub basics : new.basics ≡ old.basics
  pub table : new.table ≡ widened (length old.basics) (length old.others) old.table
  pub names : (rank : ℕ) × (rank ≤ length old.names) × (new.names ≡ insert old.names rank column)
  pub notes : (w : ℕ) → Contains old.names w → note_of new w ≡ note_of old w
  pub blank_note : note_of new column ≡ blank
  pub same_solutions : (v : ℕ → Fraction) → MeetsRows (system_in new) v ↔ MeetsRows (system_in old) v
  pub sound : IsDictionary new
