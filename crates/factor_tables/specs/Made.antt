-- Tables of factors that are made of numbers: the records are those that are handed in, each factor in 10^-9.
use Rattle.std.specs.Prelude.{◌≢◌, ◌≤◌, ◌*◌, pos, ◌*ℤ◌, List, All, AllPairs, map, unsigned_abs}
use Rattle.market_data.specs.Scales.{most_factor, place_step}
use Rattle.market_data.specs.declared.scales.FactorPlaces.{FactorPlaces}
use Rattle.factor_tables.specs.declared.made.MadeFactor.{MadeFactor}
use Rattle.factor_tables.specs.Factors.{Entry, FactorRecords, Pair}

-- the pair of a record
abbrev pub made_pair : MadeFactor → Pair
made_pair made = (made.branch, made.of)

-- the record as the table holds it: its pair, and so many units of the last place in 10^-9
abbrev pub made_entry : FactorPlaces → MadeFactor → Entry
made_entry places made = (made_pair made, made.units *ℤ pos (place_step places))

-- no pair stands twice
abbrev pub AreApart : List MadeFactor → Type 0
AreApart records = AllPairs (λ a b. made_pair a ≢ made_pair b) records

-- no factor's size is above 1000
abbrev pub AreInBounds : FactorPlaces → List MadeFactor → Type 0
AreInBounds places records = All (λ made. unsigned_abs made.units * place_step places ≤ most_factor) records

-- the table of these records, in their order
abbrev pub made_table : FactorPlaces → List MadeFactor → FactorRecords
made_table places records = record { places = places; entries = map (made_entry places) records }
