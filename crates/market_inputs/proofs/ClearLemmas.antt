-- The steps of a clear: parts of the work that are told of as one come in the order of the files.
use Rattle.std.proofs.Common.{List, Result, Ok, map}
use Rattle.case_text.specs.Matrices.{CaseMatrices}
use Rattle.market_model.specs.declared.participants.Line.{Line}
use Rattle.market_model.specs.declared.participants.Parts.{Parts}
use Rattle.market_model.specs.declared.participants.Reserve.{Reserve}
use Rattle.market_data.specs.declared.scales.FactorPlaces.{FactorPlaces}
use Rattle.net_case.specs.Networks.{LiveNetwork}
use Rattle.net_case.specs.declared.live_parts.PostRating.{PostRating}
use Rattle.factor_tables.specs.Offsets.{OffsetEntry}
use Rattle.outage_list.specs.declared.unit_listing.UnitOutages.{UnitOutages}
use Rattle.refusal_text.specs.declared.refusals.Refusal.{Refusal}
use Rattle.market_inputs.specs.declared.covering.Covered.{Covered}
use Rattle.market_inputs.specs.declared.offers.Offered.{Offered}
use Rattle.market_inputs.specs.declared.tables.Tables.{Tables}
use Rattle.market_inputs.specs.Cases.{IsJoinedNetwork, IsReadNetwork, matrices_in}
use Rattle.market_inputs.specs.Clearing.{AreCovered, AreCoveredUnits, AreLimitedParts, AreListedLines, AreMarketParts, ArePricedLines, IsClearMarket, limited_of, line_of, market_of, whole_of}
use Rattle.market_inputs.specs.Files.{SizedTables}
use Rattle.market_inputs.specs.Steps.{Is, Then}
use Rattle.market_inputs.specs.Tables.{AreTables, cover_in, offers_in, offsets_in, penalties_in, reserves_in, unit_outages_in}
use Rattle.market_inputs.proofs.StepLemmas.{then-made, then-map, then-then}

module _ (network : LiveNetwork) (files : SizedTables) (told : Result Parts Refusal) where
  -- ---- the outages of units
  module _ (tables : Tables) (R : UnitOutages → Result Parts Refusal → Type 0) where
    abbrev units_first : Type 0
    units_first = Then (Is (unit_outages_in network files.unit_outages)) (λ lost. Then (Is (cover_in network tables lost)) (λ _. R lost)) told

    units-read : Then (AreCoveredUnits network tables files.unit_outages) R told → units_first
    units-read h =
        then-map _ (λ (lost : UnitOutages). Then (Then (Is (cover_in network tables lost)) (λ _. Is (Ok lost))) R) _ told
        (λ lost. then-made (Is (cover_in network tables lost)) (λ _. lost) R told)
        (then-then (Is (unit_outages_in network files.unit_outages)) (λ lost. Then (Is (cover_in network tables lost)) (λ _. Is (Ok lost))) R told h)

  -- ---- the tables, and the outages of units behind them
  module _ (places : FactorPlaces) (R : Covered → Result Parts Refusal → Type 0) where
    abbrev covered : Tables → UnitOutages → Covered
    covered tables lost = record { tables = tables; lost = lost }

    abbrev tables_first : Type 0
    tables_first = Then (AreTables places network files.grid) (λ tables.
        Then (Is (unit_outages_in network files.unit_outages)) (λ lost.
        Then (Is (cover_in network tables lost)) (λ _. R (covered tables lost)))) told

    tables-read : Then (AreCovered places network files) R told → tables_first
    tables-read h =
        then-map _ (λ (tables : Tables). Then (Then (AreCoveredUnits network tables files.unit_outages) (λ lost. Is (Ok (covered tables lost)))) R) _ told
        (λ tables behind. units-read tables (λ lost. R (covered tables lost)) (then-made (AreCoveredUnits network tables files.unit_outages) (covered tables) R told behind))
        (then-then (AreTables places network files.grid) (λ tables. Then (AreCoveredUnits network tables files.unit_outages) (λ lost. Is (Ok (covered tables lost)))) R told h)

  -- ---- the offsets, and the penalties behind them
  module _ (R : List Line → Result Parts Refusal → Type 0) where
    abbrev lines_first : Type 0
    lines_first = Then (Is (offsets_in network files.offsets)) (λ moved.
        Then (Is (penalties_in network files.penalties)) (λ priced. R (map (line_of moved priced) network.branches))) told

    lines-read : Then (AreListedLines network files.offsets files.penalties) R told → lines_first
    lines-read h =
        then-map _ (λ (moved : List OffsetEntry). Then (ArePricedLines network moved files.penalties) R) _ told
        (λ moved. then-made (Is (penalties_in network files.penalties)) (λ priced. map (line_of moved priced) network.branches) R told)
        (then-then (Is (offsets_in network files.offsets)) (λ moved. ArePricedLines network moved files.penalties) R told h)

  -- ---- the reserve, and the lines behind it
  module _ (tables : Tables) (offered : Offered) where
    abbrev lines_behind : Reserve → Result Parts Refusal → Type 0
    lines_behind reserve = Then (AreListedLines network files.offsets files.penalties) (λ lines. Is (Ok (limited_of network tables offered reserve lines)))

    abbrev reserve_behind : Result Parts Refusal → Type 0
    reserve_behind = Then (Is (reserves_in network files.reserves)) lines_behind

    module _ (R : Parts → Result Parts Refusal → Type 0) where
      abbrev reserve_first : Type 0
      reserve_first = Then (Is (reserves_in network files.reserves)) (λ reserve.
          Then (Is (offsets_in network files.offsets)) (λ moved.
          Then (Is (penalties_in network files.penalties)) (λ priced. R (limited_of network tables offered reserve (map (line_of moved priced) network.branches))))) told

      reserve-read : Then reserve_behind R told → reserve_first
      reserve-read h =
          then-map _ (λ (reserve : Reserve). Then (lines_behind reserve) R) _ told
          (λ reserve behind. lines-read (λ lines. R (limited_of network tables offered reserve lines))
          (then-made (AreListedLines network files.offsets files.penalties) (limited_of network tables offered reserve) R told behind))
          (then-then (Is (reserves_in network files.reserves)) lines_behind R told h)

  -- ---- the offers, and the reserve behind them
  module _ (tables : Tables) (R : Parts → Result Parts Refusal → Type 0) where
    abbrev offers_first : Type 0
    offers_first = Then (Is (offers_in network files.offers)) (λ offered.
        Then (Is (reserves_in network files.reserves)) (λ reserve.
        Then (Is (offsets_in network files.offsets)) (λ moved.
        Then (Is (penalties_in network files.penalties)) (λ priced. R (limited_of network tables offered reserve (map (line_of moved priced) network.branches)))))) told

    offers-read : Then (AreLimitedParts network tables files) R told → offers_first
    offers-read h =
        then-map _ (λ (offered : Offered). Then (reserve_behind tables offered) R) _ told
        (λ offered. reserve-read tables offered R)
        (then-then (Is (offers_in network files.offers)) (reserve_behind tables) R told h)

-- ---- all files
module _ (rating : PostRating) (places : FactorPlaces) (files : SizedTables) (told : Result Parts Refusal) where
  abbrev behind_cover : LiveNetwork → Tables → UnitOutages → Result Parts Refusal → Type 0
  behind_cover network tables lost = Then (Is (offers_in network files.offers)) (λ offered.
      Then (Is (reserves_in network files.reserves)) (λ reserve.
      Then (Is (offsets_in network files.offsets)) (λ moved.
      Then (Is (penalties_in network files.penalties)) (λ priced. Is (Ok (market_of places network tables lost offered reserve moved priced))))))

  abbrev behind_units : LiveNetwork → Tables → UnitOutages → Result Parts Refusal → Type 0
  behind_units network tables lost = Then (Is (cover_in network tables lost)) (λ _. behind_cover network tables lost)

  abbrev behind_tables : LiveNetwork → Tables → Result Parts Refusal → Type 0
  behind_tables network tables = Then (Is (unit_outages_in network files.unit_outages)) (behind_units network tables)

  abbrev behind_network : LiveNetwork → Result Parts Refusal → Type 0
  behind_network network = Then (AreTables places network files.grid) (behind_tables network)

  -- the parts that are made of tables that lack nothing
  abbrev made_whole : LiveNetwork → Covered → Result Parts Refusal → Type 0
  made_whole network covered = Then (AreLimitedParts network covered.tables files) (λ limited. Is (Ok (whole_of places network covered limited)))

  parts-read : (network : LiveNetwork) → AreMarketParts places files network told → behind_network network told
  parts-read network h =
      then-map (AreTables places network files.grid) _ (behind_tables network) told
      (λ tables. then-map (Is (unit_outages_in network files.unit_outages)) _ (behind_units network tables) told
      (λ lost. then-map (Is (cover_in network tables lost)) _ (λ _. behind_cover network tables lost) told
      (λ _. offers-read network files told tables (λ limited. Is (Ok (whole_of places network (record { tables = tables; lost = lost }) limited))))))
      (tables-read network files told places (made_whole network) h)

  -- a network that is read, and then its parts, is a market
  pub market-read : Then (IsReadNetwork rating files.grid.case) (AreMarketParts places files) told → IsClearMarket rating places files told
  market-read h =
      then-map (Is (matrices_in files.grid.case)) _ _ told
      (λ (matrices : CaseMatrices). then-map (IsJoinedNetwork rating matrices) (AreMarketParts places files) behind_network told parts-read)
      (then-then (Is (matrices_in files.grid.case)) (IsJoinedNetwork rating) (AreMarketParts places files) told h)
