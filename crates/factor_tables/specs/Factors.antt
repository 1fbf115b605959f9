-- Factors by pair, as records give them.
use Rattle.std.specs.Prelude.{◌≡◌, ◌≢◌, ℕ, ◌≤◌, ◌==◌, ◌&&◌, ℤ, pos, Bool, false, List, All, AllPairs, Contains, ◌⊎◌, get_or, is_some, unwrap_or, unsigned_abs}
use Rattle.std.specs.List.{list_any}
use Rattle.std.specs.Map.{lookup}
use Rattle.market_data.specs.Scales.{most_factor}
use Rattle.market_data.specs.declared.scales.FactorPlaces.{FactorPlaces}
use Rattle.factor_tables.specs.declared.by_pair.Column.{Column}
use Rattle.factor_tables.specs.declared.by_pair.Column.TheVariants as column
use Rattle.factor_tables.specs.declared.by_pair.ListedFactor.{ListedFactor}
use Rattle.factor_tables.specs.declared.by_pair.Pairs.{Pairs}

-- a branch's row, with the number of a bus or the row of an outage
abbrev pub Pair : Type 0
Pair = ℕ × ℕ

-- a record: its pair, and the factor
abbrev pub Entry : Type 0
Entry = Pair × ℤ

-- a record as it is told
abbrev pub listed_entry : ListedFactor → Entry
listed_entry listed = ((listed.branch, listed.of), listed.factor)

-- a table: how many places its factors may have, and its records with their factors in 10^-9
pub record FactorRecords : Type 0 where
  pub places : FactorPlaces
  pub entries : List Entry

abbrev pub same_pair : Pair → Pair → Bool
same_pair p q = (p.0 == q.0) && (p.1 == q.1)

-- whether some record has this pair
abbrev pub has_pair : List Entry → Pair → Bool
has_pair entries pair = is_some (lookup (same_pair pair) entries)

-- the factor of the record of a pair, 0 where there is none
abbrev pub factor_at : List Entry → Pair → ℤ
factor_at entries pair = unwrap_or (lookup (same_pair pair) entries) (pos 0)

-- what a pair's factor is: that of a record of the pair, and 0 where no record has it
abbrev pub IsFactorOfPair : List Entry → Pair → ℤ → Type 0
IsFactorOfPair entries pair factor = Contains entries (pair, factor) ⊎ ((has_pair entries pair ≡ false) × (factor ≡ pos 0))

-- no pair stands twice, so that a pair has one record at most
abbrev pub HasNoPairTwice : List Entry → Type 0
HasNoPairTwice entries = AllPairs (λ a b. a.0 ≢ b.0) entries

-- the row of a pair that a table of this kind is asked for
abbrev pub marked_row : Column → Pair → ℕ
marked_row column.Bus pair = pair.0
marked_row column.Outage pair = pair.1

-- whether some record is of this row
abbrev pub has_row : Column → List Entry → ℕ → Bool
has_row kind entries row = list_any (λ entry. marked_row kind entry.0 == row) entries

-- whether some record is of this branch
abbrev pub has_branch : List Entry → ℕ → Bool
has_branch entries row = has_row column.Bus entries row

-- whether some record is of this outage
abbrev pub has_outage : List Entry → ℕ → Bool
has_outage entries row = has_row column.Outage entries row

-- the rows of the records are marked and no others, no pair stands twice, and no factor is too great
pub record ArePairFactors (kind : Column) (pairs : Pairs) : Type 0 where
  pub marked : (row : ℕ) → get_or pairs.marked.items row false ≡ has_row kind pairs.by_pair.entries row
  pub once : HasNoPairTwice pairs.by_pair.entries
  pub sizes : All (λ entry. unsigned_abs entry.1 ≤ most_factor) pairs.by_pair.entries
