-- A record of a table: the numbers in its cells.
use Rattle.std.specs.Prelude.{ℕ, ◌*◌, ◌≤◌, ◌^◌, ℤ, pos, ◌*ℤ◌, Bool, true, false, codes, nat_lt, unsigned_abs, if◌then◌else◌, Option, Some, None, Result, Ok, Err}
use Rattle.std.specs.Option.{option_map_or}
use Rattle.std.specs.Str.{bytes_eq}
use Rattle.record_reading.specs.Records.{Record, cell_of}
use Rattle.record_reading.specs.Steps.{and_then, or_as}
use Rattle.csv_table.specs.Table.{number_in}
use Rattle.record_reading.specs.declared.FrameFault.TheVariants as frame
use Rattle.record_reading.specs.declared.Why.TheVariants as why
use Rattle.factor_tables.specs.declared.cells.FactorRecord.{FactorRecord}
use Rattle.factor_tables.specs.declared.cells.OffsetRecord.{OffsetRecord}
use Rattle.factor_tables.specs.declared.cells.PenaltyRecord.{PenaltyRecord}
use Rattle.factor_tables.specs.declared.table_fault.TableFault.{TableFault}
use Rattle.factor_tables.specs.declared.table_fault.TableFault.TheVariants as fault
use Rattle.market_data.specs.Scales.{most_factor, mw_places, place_count, place_step, price_places}
use Rattle.market_data.specs.declared.scales.FactorPlaces.{FactorPlaces}
use Rattle.market_data.specs.Participants.{IsDatum}

-- ---- the numbers of a record
-- the number in a cell, in units of so many places
abbrev pub number : ℕ → Record → ℕ → ℕ → Result ℤ TableFault
number line r col places = or_as fault.Frame (number_in line r col places)

-- the factor that is so many units of the last of its places, in 10^-9; none where its size is above 1000
abbrev pub factor_of_units : FactorPlaces → ℤ → Option ℤ
factor_of_units places units = if nat_lt most_factor (unsigned_abs units * place_step places) then None else Some (units *ℤ pos (place_step places))

-- the factor in the third cell, which has at most so many places
unfoldable pub factor_cell : FactorPlaces → ℕ → Record → Result ℤ TableFault
factor_cell places line r = and_then (number line r 2 (place_count places)) (λ units. option_map_or Ok (factor_of_units places units) (Err (fault.Frame (frame.Cell line 3 why.Bounds))))

-- the numbers of a record of factors, from left to right
unfoldable pub record_in : FactorPlaces → ℕ → Record → Result FactorRecord TableFault
record_in places line r =
    and_then (number line r 0 0) (λ branch.
    and_then (number line r 1 0) (λ of.
    and_then (factor_cell places line r) (λ factor.
    Ok (record { branch = branch; of = of; factor = factor }))))

-- the numbers of a record of offsets
unfoldable pub offset_in : ℕ → Record → Result OffsetRecord TableFault
offset_in line r =
    and_then (number line r 0 0) (λ branch.
    and_then (number line r 1 mw_places) (λ mw.
    Ok (record { branch = branch; mw = mw })))

-- whether the second cell of a record of penalties names the limit after an outage, or that in the base
unfoldable pub post_in : ℕ → Record → Result Bool TableFault
post_in line r = if bytes_eq (cell_of r 1) (codes "base") then Ok false else if bytes_eq (cell_of r 1) (codes "post") then Ok true else Err (fault.Kind line)

-- a record of penalties: which limit it names, then its numbers
unfoldable pub penalty_in : ℕ → Record → Result PenaltyRecord TableFault
penalty_in line r =
    and_then (post_in line r) (λ post.
    and_then (number line r 0 0) (λ branch.
    and_then (number line r 2 price_places) (λ price.
    and_then (number line r 3 mw_places) (λ excess.
    Ok (record { branch = branch; post = post; softness = record { price = price; most_excess = excess } })))))

-- ---- what is known of numbers that were read
pub record FactorIsRead (r : FactorRecord) : Type 0 where
  pub branch : IsDatum r.branch
  pub of : IsDatum r.of
  pub factor : unsigned_abs r.factor ≤ most_factor

pub record OffsetIsRead (r : OffsetRecord) : Type 0 where
  pub branch : IsDatum r.branch
  pub mw : IsDatum r.mw

pub record PenaltyIsRead (r : PenaltyRecord) : Type 0 where
  pub branch : IsDatum r.branch
  pub price : IsDatum r.softness.price
  pub excess : IsDatum r.softness.most_excess
