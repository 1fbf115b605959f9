-- Choices: a split of a system's variables into basic and other ones, with the table that gives the basic ones by the
-- others, and a bound at which each other one stands.
-- Source: dictionaries (Chvátal, Linear Programming); variables at either bound (Dantzig).
use Rattle.std.specs.Prelude.{◌≡◌, ℕ, pos, Bool, true, false, not, ◌==◌, if◌then◌else◌, List, map, filter}
use Rattle.std.specs.List.{Contains}
use Rattle.fraction_theory.specs.Fraction.{Fraction, whole, ◌*ℚ◌}
use Rattle.fraction_theory.specs.Sums.{sum_by, Term, Product, total}
use Rattle.linear_system.specs.Systems.{System, MeetsRows}

pub record Choice : Type 0 where
  -- whether a variable is basic
  pub basic : ℕ → Bool
  -- whether an other variable stands at its high bound, and not at its low one
  pub high : ℕ → Bool
  -- of a basic and an other variable
  pub entry : ℕ → ℕ → Fraction

-- the basic variables, ascending
unfoldable pub basics : System → Choice → List ℕ
basics s h = filter h.basic s.variables

-- the other variables, ascending
unfoldable pub others : System → Choice → List ℕ
others s h = filter (λ w. not (h.basic w)) s.variables

-- At a point that meets the table, each basic variable is the sum of its entries times the others.
pub record MeetsTable (s : System) (h : Choice) (v : ℕ → Fraction) : Type 0 where
  pub basic : (b : ℕ) → Contains (basics s h) b → v b ≡ sum_by (λ w. h.entry b w *ℚ v w) (others s h)

-- The table has the same solutions as the rows. So for any values of the others there is one solution with these, and
-- no second: the table gives one, and fixes the basic variables. Without `to_table` too few variables could be basic,
-- and without `to_rows` too many.
pub record IsChoice (s : System) (h : Choice) : Type 0 where
  pub to_table : (v : ℕ → Fraction) → MeetsRows s v → MeetsTable s h v
  pub to_rows : (v : ℕ → Fraction) → MeetsTable s h v → MeetsRows s v

-- the bound at which an other variable stands
unfoldable pub at_bound : System → Choice → ℕ → Fraction
at_bound s h w = if h.high w then s.high w else s.low w

-- the value of a basic variable where the others stand at their bounds
unfoldable pub value_terms : System → Choice → ℕ → List Term
value_terms s h b = map (λ w. Product (h.entry b w) (at_bound s h w)) (others s h)

-- the value of a variable
unfoldable pub value : System → Choice → ℕ → Fraction
value s h w = if h.basic w then total (value_terms s h w) else at_bound s h w

-- how much column j rises where the other variable w rises by 1
unfoldable pub column_entry : Choice → ℕ → ℕ → Fraction
column_entry h j w = if h.basic j then h.entry j w else if j == w then whole (pos 1) else whole (pos 0)

-- how much row r's activity rises where w rises by 1, by the columns ascending
unfoldable pub row_entry_terms : System → Choice → ℕ → ℕ → List Term
row_entry_terms s h r w = map (λ j. Product (s.coefficient r j) (column_entry h j w)) s.columns

-- how much the objective rises where the other variable w rises by 1, by the columns ascending
unfoldable pub reduced_terms : System → Choice → ℕ → List Term
reduced_terms s h w = map (λ j. Product (s.price j) (column_entry h j w)) s.columns

-- the reduced price of a variable, 0 where it is basic
unfoldable pub reduced : System → Choice → ℕ → Fraction
reduced s h w = if h.basic w then whole (pos 0) else total (reduced_terms s h w)

-- From h to k the basic variable a and the other variable b change places, and no variable else. Nothing is said of
-- bounds, which may be chosen anew, nor of entries, which the split fixes.
pub record OneExchange (s : System) (h k : Choice) (a b : ℕ) : Type 0 where
  pub leaving : Contains s.variables a
  pub entering : Contains s.variables b
  pub leaves : (h.basic a ≡ true) × (k.basic a ≡ false)
  pub enters : (h.basic b ≡ false) × (k.basic b ≡ true)
  pub stays : (w : ℕ) → Contains s.variables w → ¬ (w ≡ a) → ¬ (w ≡ b) → h.basic w ≡ k.basic w
