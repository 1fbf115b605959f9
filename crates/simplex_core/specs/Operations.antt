-- Which sums x + a * b posing and a step ask.
use Rattle.std.specs.Prelude.{ℕ, pos}
use Rattle.std.specs.List.{Contains}
use Rattle.fraction_theory.specs.Fraction.{Fraction, whole}
use Rattle.linear_dict.specs.Dictionaries.{Dictionary, choice_of, entry_of, note_of, system_in}
use Rattle.linear_system.specs.Choices.{at_bound}

-- what adding the price of j to the reduced prices of d asks: of a basic variable the price times its entry at each other
-- one, added to the reduced price of that one; of an other variable its price, added to its own
pub data PriceShare (d : Dictionary) (j : ℕ) : Fraction → Fraction → Fraction → Type 0 where
  adding_scaled : (w : ℕ) → Contains d.basics j → Contains d.others w → PriceShare d j (note_of d w).reduced ((system_in d).price j) ((choice_of d).entry j w)
  adding_own : Contains d.others j → PriceShare d j (note_of d j).reduced ((system_in d).price j) (whole (pos 1))

-- what adding the bound of the other variable w to the values of d asks: the entry of each basic variable times the bound,
-- added to its value
pub data BoundShare (d : Dictionary) (w : ℕ) : Fraction → Fraction → Fraction → Type 0 where
  adding_bound : (b : ℕ) → Contains d.basics b → BoundShare d w (note_of d b).value ((choice_of d).entry b w) (at_bound (system_in d) (choice_of d) w)

-- what moving the note of w asks after v has left for k, by the new table of d: for a basic variable its entry at v times how
-- far v moves, added to its value; for an other one the price that k had times the entry of k, added to its reduced price
pub data MoveShare (d : Dictionary) (v k : ℕ) (far price : Fraction) (w : ℕ) : Fraction → Fraction → Fraction → Type 0 where
  adding_rise : Contains d.basics w → MoveShare d v k far price w (note_of d w).value (entry_of d w v) far
  adding_price : Contains d.others w → MoveShare d v k far price w (note_of d w).reduced price (entry_of d k w)

-- the same of any variable
pub data MovesShare (d : Dictionary) (v k : ℕ) (far price : Fraction) : Fraction → Fraction → Fraction → Type 0 where
  of_note : (w : ℕ) (x a b : Fraction) → MoveShare d v k far price w x a b → MovesShare d v k far price x a b
