-- What posing a dictionary makes of prices and bounds.
use Rattle.std.specs.Prelude.{◌≡◌, ◌⊎◌, ℕ, ◌<◌, ◌+◌, pos, Bool, true, false, if◌then◌else◌, List, length, map, slice_index, slice_index_or}
use Rattle.std.specs.List.{Contains}
use Rattle.fraction_theory.specs.Fraction.{Fraction, whole, ◌+ℚ◌, ◌*ℚ◌}
use Rattle.fraction_theory.specs.Signs.{sign_of}
use Rattle.fraction_theory.specs.declared.Sign.{Sign}
use Rattle.fraction_theory.specs.declared.Sign.TheVariants.{Below, Zero, Above}
use Rattle.linear_system.specs.Choices.{at_bound, column_entry, reduced, value}
use Rattle.exact_fraction.specs.declared.Passed.{Passed}
use Rattle.linear_dict.specs.Causes.{IsPairOf}
use Rattle.linear_dict.specs.Dictionaries.{Dictionary, system_in, choice_of, note_of}
use Rattle.linear_dict.specs.Notes.{Noted}
use Rattle.linear_dict.specs.Places.{place_in}
use Rattle.simplex_core.specs.States.{IsReady}
use Rattle.simplex_core.specs.Turns.{noted_anew}
use Rattle.simplex_core.specs.declared.bounds.Bounds.{Bounds}

-- the numbers of a place
abbrev pub column_price : {N : Type 0} → (N → Fraction) → List N → ℕ → Fraction
column_price value prices k = slice_index_or (map value prices) k (whole (pos 0))

abbrev pub low_at : {N : Type 0} → (N → Fraction) → List (Bounds N) → ℕ → Fraction
low_at value bounds k = slice_index_or (map (λ b. value b.low) bounds) k (whole (pos 0))

abbrev pub high_at : {N : Type 0} → (N → Fraction) → List (Bounds N) → ℕ → Fraction
high_at value bounds k = slice_index_or (map (λ b. value b.high) bounds) k (whole (pos 0))

-- the note of a variable that does not stand at a bound yet
abbrev pub term_note : Fraction → Fraction → Fraction → Noted
term_note price low high = record { price = price; low = low; high = high; value = whole (pos 0); reduced = whole (pos 0); at_high = false }

-- those of a column and of a row by their places
abbrev pub column_note : {N : Type 0} → (N → Fraction) → List N → List (Bounds N) → ℕ → Noted
column_note value prices bounds k = term_note (column_price value prices k) (low_at value bounds k) (high_at value bounds k)

abbrev pub row_note : {N : Type 0} → (N → Fraction) → ℕ → List (Bounds N) → ℕ → Noted
row_note value columns bounds k = term_note (whole (pos 0)) (low_at value bounds (columns + k)) (high_at value bounds (columns + k))

-- e is d but that each of the names has the note of its place
pub record HasNotes (d : Dictionary) (names : List ℕ) (f : ℕ → Noted) (e : Dictionary) : Type 0 where
  pub is : e ≡ record d { notes = e.notes }
  pub count : length e.notes ≡ length d.names
  pub each : (k : ℕ) → k < length names → note_of e (slice_index names k) ≡ f k
  pub rest : (w : ℕ) → ¬ (Contains names w) → note_of e w ≡ note_of d w

-- d with these prices and bounds noted, and nothing else
pub record IsPut {N : Type 0} (value : N → Fraction) (d : Dictionary) (prices : List N) (bounds : List (Bounds N)) (f : Dictionary) : Type 0 where
  pub is : f ≡ record d { notes = f.notes }
  pub count : length f.notes ≡ length d.names
  pub columns : (k : ℕ) → k < length d.columns → note_of f (slice_index d.columns k) ≡ column_note value prices bounds k
  pub rows : (k : ℕ) → k < length d.rows → note_of f (slice_index d.rows k) ≡ row_note value (length d.columns) bounds k

-- The price p of a variable is the one that is noted, or else the variable is not basic, and had neither a price nor a reduced price.
abbrev pub KeepsPrice : Dictionary → ℕ → Fraction → Type 0
KeepsPrice d w p = ((note_of d w).price ≡ p) ⊎ (Contains d.others w × ((note_of d w).price ≡ whole (pos 0)) × ((note_of d w).reduced ≡ whole (pos 0)))

-- these prices of the columns do so, by their places
abbrev pub KeepsPrices : {N : Type 0} → (N → Fraction) → Dictionary → List N → Type 0
KeepsPrices value d prices = (k : ℕ) → k < length d.columns → KeepsPrice d (slice_index d.columns k) (column_price value prices k)

-- the price of a name, by its place among the columns
unfoldable pub price_put : {N : Type 0} → (N → Fraction) → Dictionary → List N → ℕ → Fraction
price_put value d prices w = column_price value prices (place_in d.columns w)

-- what the objective of these prices gains for a unit of a variable
unfoldable pub reduced_put : {N : Type 0} → (N → Fraction) → Dictionary → List N → ℕ → Fraction
reduced_put value d prices w = reduced (record (system_in d) { price = price_put value d prices }) (choice_of d) w

-- the notes of columns and rows with these prices and bounds that have their reduced prices
abbrev pub kept_column : {N : Type 0} → (N → Fraction) → Dictionary → List N → List (Bounds N) → ℕ → Noted
kept_column value d prices bounds k = record (column_note value prices bounds k) { reduced = reduced_put value d prices (slice_index d.columns k) }

abbrev pub kept_row : {N : Type 0} → (N → Fraction) → Dictionary → List (Bounds N) → ℕ → ℕ → Noted
kept_row value d bounds columns k = record (row_note value columns bounds k) { reduced = (note_of d (slice_index d.rows k)).reduced }

-- whether a reduced price of this sign asks for the high bound
abbrev pub asks_high : Sign → Bool
asks_high Below = false
asks_high Zero = false
asks_high Above = true

-- a note with this reduced price, at its high bound or at its low one
abbrev pub at_asked : Noted → Fraction → Bool → Noted
at_asked n price up = record n { value = if up then n.high else n.low; reduced = price; at_high = up }

-- The note of w with what the price of j makes in its reduced price, where w is an other variable.
unfoldable pub price_added : Dictionary → ℕ → ℕ → Noted
price_added d j w =
    if (choice_of d).basic w then note_of d w
    else record (note_of d w) { reduced = (note_of d w).reduced +ℚ (system_in d).price j *ℚ column_entry (choice_of d) j w }

-- an other variable's note with its reduced price
unfoldable pub reduced_note : Dictionary → ℕ → Noted
reduced_note d w = if (choice_of d).basic w then note_of d w else record (note_of d w) { reduced = reduced (system_in d) (choice_of d) w }

-- d with these prices and bounds, and the reduced prices of these, noted
abbrev pub IsPriced : {N : Type 0} → (N → Fraction) → Dictionary → List N → List (Bounds N) → Dictionary → Type 0
IsPriced value d prices bounds e = (f : Dictionary) × IsPut value d prices bounds f × (e ≡ noted_anew f (reduced_note f))

-- an other variable's note at the bound that its reduced price asks for
unfoldable pub asked_note : Dictionary → ℕ → Noted
asked_note d w = if (choice_of d).basic w then note_of d w else at_asked (note_of d w) (note_of d w).reduced (asks_high (sign_of (note_of d w).reduced))

-- The note of b with what the bound of the other variable w makes in its value, where b is basic.
unfoldable pub bound_added : Dictionary → ℕ → ℕ → Noted
bound_added d w b =
    if (choice_of d).basic b then record (note_of d b) { value = (note_of d b).value +ℚ (choice_of d).entry b w *ℚ at_bound (system_in d) (choice_of d) w }
    else note_of d b

-- a basic variable's note with the value that follows from the others
unfoldable pub value_note : Dictionary → ℕ → Noted
value_note d w = if (choice_of d).basic w then record (note_of d w) { value = value (system_in d) (choice_of d) w } else note_of d w

-- The dictionary d with these prices of its columns and bounds of its columns and then of its rows, each in the order in
-- which they were put in, is e, and ready. Its rows and its table stay.
pub record IsPosing {N : Type 0} (value : N → Fraction) (d : Dictionary) (prices : List N) (bounds : List (Bounds N)) (e : Dictionary) : Type 0 where
  pub columns : e.columns ≡ d.columns
  pub rows : e.rows ≡ d.rows
  pub coefficients : e.coefficients ≡ d.coefficients
  pub names : e.names ≡ d.names
  pub others : e.others ≡ d.others
  pub basics : e.basics ≡ d.basics
  pub table : e.table ≡ d.table
  pub price : (k : ℕ) → k < length d.columns → (system_in e).price (slice_index d.columns k) ≡ column_price value prices k
  pub column_low : (k : ℕ) → k < length d.columns → (system_in e).low (slice_index d.columns k) ≡ low_at value bounds k
  pub column_high : (k : ℕ) → k < length d.columns → (system_in e).high (slice_index d.columns k) ≡ high_at value bounds k
  pub row_low : (k : ℕ) → k < length d.rows → (system_in e).low (slice_index d.rows k) ≡ low_at value bounds (length d.columns + k)
  pub row_high : (k : ℕ) → k < length d.rows → (system_in e).high (slice_index d.rows k) ≡ high_at value bounds (length d.columns + k)
  pub ready : IsReady e

-- These prices and bounds can be posed, and e is a working pair of the system with them.
abbrev pub IsPairPosed : {N : Type 0} → (N → Fraction) → ℕ → Dictionary → List N → List (Bounds N) → Passed N → Type 0
IsPairPosed value bound d prices bounds e = (new : Dictionary) × IsPosing value d prices bounds new × IsPairOf value bound (system_in new) e
