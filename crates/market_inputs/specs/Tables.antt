-- What the bytes of the tables of a network stand for.
use Rattle.std.specs.Prelude.{◌≡◌, ◌≢◌, ℕ, ◌≤◌, nat_lt, ℤ, List, [], length, All, Some, Result, Ok, Err}
use Rattle.csv_table.specs.Table.{frame_of, table_of}
use Rattle.record_reading.specs.Steps.{and_then, or_as}
use Rattle.market_data.specs.Participants.{IsUnit}
use Rattle.market_data.specs.Scales.{most_outages, most_units, most_reserves}
use Rattle.market_data.specs.declared.scales.FactorPlaces.{FactorPlaces}
use Rattle.market_model.specs.Market.{AreUnitOutages, HaveRoom}
use Rattle.market_model.specs.declared.participants.Reserve.{Reserve}
use Rattle.net_case.specs.Networks.{LiveNetwork}
use Rattle.net_case.specs.NetworkReading.{unit_list_of}
use Rattle.factor_tables.specs.Covering.{cover_of}
use Rattle.factor_tables.specs.Factors.{FactorRecords}
use Rattle.factor_tables.specs.Offsets.{OffsetEntry, offsets_of}
use Rattle.factor_tables.specs.OutageNumbers.{outage_rows_of}
use Rattle.factor_tables.specs.Penalties.{PenaltyEntry, penalties_of}
use Rattle.factor_tables.specs.Tables.{shift_of, loss_of}
use Rattle.outage_list.specs.Listing.{AreOutages, IsListed}
use Rattle.outage_list.specs.declared.listing.OutageFault.{OutageFault}
use Rattle.outage_list.specs.declared.listing.OutageFault.TheVariants as outage
use Rattle.outage_list.specs.UnitListing.{unit_outages_of}
use Rattle.outage_list.specs.declared.unit_listing.UnitOutages.{UnitOutages}
use Rattle.offer_book.specs.Offers.{AreBlocks}
use Rattle.offer_book.specs.OfferTable.{blocks_of_table}
use Rattle.offer_book.specs.Reserving.{reserve_header, reserve_of_table}
use Rattle.refusal_text.specs.declared.refusals.Input.TheVariants as input
use Rattle.refusal_text.specs.declared.refusals.Refusal.{Refusal}
use Rattle.refusal_text.specs.declared.refusals.Refusal.TheVariants as refusal
use Rattle.market_inputs.specs.declared.offers.Offered.{Offered}
use Rattle.market_inputs.specs.declared.tables.Tables.{Tables}
use Rattle.market_inputs.specs.Files.{SizedGrid}
use Rattle.market_inputs.specs.Steps.{Is, Then}

-- ---- the tables of factors and of outages
-- the factors may have so many places
abbrev pub shift_in : FactorPlaces → LiveNetwork → Result (List ℕ) Refusal → Result FactorRecords Refusal
shift_in places network bytes = and_then bytes (λ text. or_as (refusal.Table input.Ptdf) (shift_of network text places))

abbrev pub loss_in : FactorPlaces → LiveNetwork → Result (List ℕ) Refusal → Result FactorRecords Refusal
loss_in places network bytes = and_then bytes (λ text. or_as (refusal.Table input.Lodf) (loss_of network text places))

abbrev pub outage_numbers_in : Result (List ℕ) Refusal → Result (List ℤ) Refusal
outage_numbers_in bytes = and_then bytes (λ text. or_as (refusal.Table input.Contingencies) (outage_rows_of text))

-- numbers as outages of a network, or the first that is none
pub record AreListed (network : LiveNetwork) (numbers : List ℤ) (told : Result (List ℕ) Refusal) : Type 0 where
  pub listed : Result (List ℕ) OutageFault
  pub is : IsListed network numbers listed
  pub made : listed ≢ Err outage.Memory
  pub same : told ≡ or_as refusal.Outages listed

abbrev pub AreOutagesIn : LiveNetwork → Result (List ℕ) Refusal → Result (List ℕ) Refusal → Type 0
AreOutagesIn network bytes told = Then (Is (outage_numbers_in bytes)) (AreListed network) told

-- outages that a market may be asked to stand
pub record MayBeLost (network : LiveNetwork) (rows : List ℕ) : Type 0 where
  pub count : length rows ≤ most_outages
  pub are : AreOutages network rows

-- the three tables of a network: the shift factors come first, then the outage factors and the outages
abbrev pub AreTables : FactorPlaces → LiveNetwork → SizedGrid → Result Tables Refusal → Type 0
AreTables places network grid told =
    Then (Is (shift_in places network grid.ptdf)) (λ shift.
    Then (Is (loss_in places network grid.lodf)) (λ loss.
    Then (AreOutagesIn network grid.contingencies) (λ outages.
    Is (Ok (record { shift = shift; loss = loss; outages = outages }))))) told

-- ---- the table of outages of units
abbrev pub unit_outages_in : LiveNetwork → Result (List ℕ) Refusal → Result UnitOutages Refusal
unit_outages_in network bytes = and_then bytes (λ text. or_as refusal.UnitOutages (unit_outages_of network text))

-- outages of units that a market may be asked to stand
abbrev pub MayLoseUnits : LiveNetwork → UnitOutages → Type 0
MayLoseUnits network lost = AreUnitOutages (length network.units) lost.lost lost.pickups

-- ---- what the two tables of factors lack
-- for the outages that are listed, of branches and of units
abbrev pub cover_in : LiveNetwork → Tables → UnitOutages → Result (Unit {0}) Refusal
cover_in network tables lost = or_as refusal.Uncovered (cover_of network tables.shift.entries tables.loss.entries tables.outages (nat_lt 0 (length lost.lost)))

-- ---- the tables of offers, of reserves, of offsets and of penalties
-- the units of a network, and their blocks
abbrev pub offers_in : LiveNetwork → Result (List ℕ) Refusal → Result Offered Refusal
offers_in network bytes =
    and_then bytes (λ text.
    and_then (or_as refusal.Offers (blocks_of_table (unit_list_of network) text)) (λ blocks.
    Ok (record { units = (unit_list_of network).units; blocks = blocks })))

-- the units of a network, and blocks that they have room for
pub record AreOffered (network : LiveNetwork) (offered : Offered) : Type 0 where
  pub units_are : offered.units ≡ (unit_list_of network).units
  pub count : length offered.units ≤ most_units
  pub units : All (IsUnit (length network.buses)) offered.units
  pub blocks : AreBlocks (length offered.units) offered.blocks
  pub room : HaveRoom offered.units offered.blocks

-- what the live units of a network offer of spinning reserve, and how much is needed
abbrev pub reserves_in : LiveNetwork → Result (List ℕ) Refusal → Result Reserve Refusal
reserves_in network bytes = and_then bytes (λ text. or_as refusal.Reserves (reserve_of_table (unit_list_of network) text))

-- a table of reserves that has no records
abbrev pub ListsNoReserve : List ℕ → Type 0
ListsNoReserve text = frame_of reserve_header (Some most_reserves) (table_of text) ≡ Ok []

abbrev pub offsets_in : LiveNetwork → Result (List ℕ) Refusal → Result (List OffsetEntry) Refusal
offsets_in network bytes = and_then bytes (λ text. or_as (refusal.Table input.Offsets) (offsets_of network text))

abbrev pub penalties_in : LiveNetwork → Result (List ℕ) Refusal → Result (List PenaltyEntry) Refusal
penalties_in network bytes = and_then bytes (λ text. or_as (refusal.Table input.Penalties) (penalties_of network text))
