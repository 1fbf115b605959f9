-- What the bytes of the files of a clear stand for.
use Rattle.std.specs.Prelude.{◌≡◌, true, false, Bool, ℕ, ◌≤◌, ◌==◌, ℤ, pos, List, [], ◌∷◌, All, length, map, unwrap_or, unsigned_abs, if◌then◌else◌, Result, Ok}
use Rattle.std.specs.List.{enumerate_from, flat_map}
use Rattle.market_data.specs.declared.participants.Bus.{Bus}
use Rattle.market_data.specs.Participants.{IsDatum}
use Rattle.market_data.specs.Scales.{most_factor}
use Rattle.market_data.specs.declared.scales.FactorPlaces.{FactorPlaces}
use Rattle.market_model.specs.declared.participants.Factor.{Factor}
use Rattle.market_model.specs.declared.participants.Line.{Line}
use Rattle.market_model.specs.declared.participants.Parts.{Parts}
use Rattle.market_model.specs.declared.participants.Reserve.{Reserve}
use Rattle.market_model.specs.Market.{AreTableFactors, IsLine, IsReserve, bare_parts}
use Rattle.net_case.specs.Networks.{LiveNetwork}
use Rattle.net_case.specs.declared.live_parts.NetBranch.{NetBranch}
use Rattle.net_case.specs.declared.live_parts.PostRating.{PostRating}
use Rattle.factor_tables.specs.Factors.{Entry, factor_at}
use Rattle.factor_tables.specs.Offsets.{OffsetEntry, offset_at}
use Rattle.factor_tables.specs.Penalties.{PenaltyEntry, softness_at}
use Rattle.factor_tables.specs.declared.penalty_list.Softness.{Softness}
use Rattle.outage_list.specs.declared.unit_listing.UnitOutages.{UnitOutages}
use Rattle.refusal_text.specs.declared.refusals.Refusal.{Refusal}
use Rattle.market_inputs.specs.declared.covering.Covered.{Covered}
use Rattle.market_inputs.specs.declared.offers.Offered.{Offered}
use Rattle.market_inputs.specs.declared.tables.Tables.{Tables}
use Rattle.market_inputs.specs.Cases.{IsJoinedNetwork, matrices_in}
use Rattle.market_inputs.specs.Files.{SizedTables}
use Rattle.market_inputs.specs.Steps.{Is, Then}
use Rattle.market_inputs.specs.Tables.{AreOffered, AreTables, cover_in, offers_in, offsets_in, penalties_in, reserves_in, unit_outages_in}
use Rattle.market_model.specs.Lines.{IsPenalty}

-- ---- lines
-- the penalty of the record of a branch's limit, after an outage or in the base; one of nothing where it has none
abbrev pub softness_for : List PenaltyEntry → ℕ → Bool → Softness
softness_for penalties row post = unwrap_or (softness_at penalties (row, post)) (record { price = pos 0; most_excess = pos 0 })

-- a live branch with its limits and their penalties, and the offset of its record or 0
abbrev pub line_of : List OffsetEntry → List PenaltyEntry → NetBranch → Line
line_of offsets penalties branch = record {
  row = branch.row;
  base = branch.base;
  post = branch.post;
  base_price = (softness_for penalties branch.row false).price;
  base_excess = (softness_for penalties branch.row false).most_excess;
  post_price = (softness_for penalties branch.row true).price;
  post_excess = (softness_for penalties branch.row true).most_excess;
  offset = unwrap_or (offset_at offsets branch.row) (pos 0);
}

-- what tables give to a line is as every line of a market has it
pub record IsTabled (line : Line) : Type 0 where
  pub base : IsPenalty line.base_price line.base_excess
  pub post : IsPenalty line.post_price line.post_excess
  pub offset : IsDatum line.offset

-- ---- factors
-- a factor, where it is not 0
abbrev pub unless_0 : Factor → List Factor
unless_0 factor = if unsigned_abs factor.value == 0 then [] else factor ∷ []

-- the factors of the line at a place that are not 0, by the places of the others
abbrev pub factors_of_line : {B : Type 0} → (B → ℤ) → ℕ → List B → List Factor
factors_of_line value line others = flat_map (λ other. unless_0 (record { line = line; of = other.0; value = value other.1 })) (enumerate_from 0 others)

-- the factors of lines that are not 0, line by line
abbrev pub factors_by : {A B : Type 0} → (A → B → ℤ) → List A → List B → List Factor
factors_by value lines others = flat_map (λ line. factors_of_line (value line.1) line.0 others) (enumerate_from 0 lines)

-- the factors of branches that are not 0, in the columns of others by their names
abbrev pub named_factors : {B : Type 0} → (B → ℕ) → List Entry → List NetBranch → List B → List Factor
named_factors name table branches others = factors_by (λ branch other. factor_at table (branch.row, name other)) branches others

-- the shift factors of branches for buses
abbrev pub shift_by : List Entry → List NetBranch → List Bus → List Factor
shift_by shift branches buses = named_factors (λ bus. bus.number) shift branches buses

-- the factors of branches for lost ones
abbrev pub loss_by : List Entry → List NetBranch → List Factor
loss_by loss branches = named_factors (λ lost. lost.row) loss branches branches

-- no factor is too great
abbrev pub AreSmall : List Factor → Type 0
AreSmall factors = All (λ factor. unsigned_abs factor.value ≤ most_factor) factors

-- ---- the market
-- the market of a network with its tables of factors of so many places, its outages of units, its offers, its reserve, its offsets and its penalties
abbrev pub market_of : FactorPlaces → LiveNetwork → Tables → UnitOutages → Offered → Reserve → List OffsetEntry → List PenaltyEntry → Parts
market_of places network tables lost offered reserve offsets penalties = record (bare_parts network.buses offered.units offered.blocks) {
  lines = map (line_of offsets penalties) network.branches;
  outages = tables.outages;
  factor_places = places;
  shift = shift_by tables.shift.entries network.branches network.buses;
  loss = loss_by tables.loss.entries network.branches;
  unit_outages = lost.lost;
  pickups = lost.pickups;
  reserve = reserve;
}

-- ---- what the market is made of
-- the outages of units of a table's bytes, where the tables lack nothing for any outage
abbrev pub AreCoveredUnits : LiveNetwork → Tables → Result (List ℕ) Refusal → Result UnitOutages Refusal → Type 0
AreCoveredUnits network tables bytes told =
    Then (Is (unit_outages_in network bytes)) (λ lost.
    Then (Is (cover_in network tables lost)) (λ _. Is (Ok lost))) told

-- the three tables of a network and its outages of units, where the tables lack nothing
abbrev pub AreCovered : FactorPlaces → LiveNetwork → SizedTables → Result Covered Refusal → Type 0
AreCovered places network files told =
    Then (AreTables places network files.grid) (λ tables.
    Then (AreCoveredUnits network tables files.unit_outages) (λ lost. Is (Ok (record { tables = tables; lost = lost })))) told

-- the lines of a network with these offsets, and with the penalties of a table's bytes
abbrev pub ArePricedLines : LiveNetwork → List OffsetEntry → Result (List ℕ) Refusal → Result (List Line) Refusal → Type 0
ArePricedLines network moved penalties told = Then (Is (penalties_in network penalties)) (λ priced. Is (Ok (map (line_of moved priced) network.branches))) told

-- the lines of a network with the offsets and the penalties of the bytes of two tables
abbrev pub AreListedLines : LiveNetwork → Result (List ℕ) Refusal → Result (List ℕ) Refusal → Result (List Line) Refusal → Type 0
AreListedLines network offsets penalties told = Then (Is (offsets_in network offsets)) (λ moved. ArePricedLines network moved penalties) told

-- lines of the branches of a network, in their order, as every market has them
pub record AreLinesOf (network : LiveNetwork) (lines : List Line) : Type 0 where
  pub each : All IsLine lines
  pub rows : map (λ line. line.row) lines ≡ map (λ branch. branch.row) network.branches

-- the parts that have units, blocks, reserve, and lines with their factors, and no buses and no outages
abbrev pub limited_of : LiveNetwork → Tables → Offered → Reserve → List Line → Parts
limited_of network tables offered reserve lines = record (bare_parts [] offered.units offered.blocks) {
  lines = lines;
  shift = shift_by tables.shift.entries network.branches network.buses;
  loss = loss_by tables.loss.entries network.branches;
  reserve = reserve;
}

abbrev pub AreLimitedParts : LiveNetwork → Tables → SizedTables → Result Parts Refusal → Type 0
AreLimitedParts network tables files told =
    Then (Is (offers_in network files.offers)) (λ offered.
    Then (Is (reserves_in network files.reserves)) (λ reserve.
    Then (AreListedLines network files.offsets files.penalties) (λ lines. Is (Ok (limited_of network tables offered reserve lines))))) told

-- units, blocks, lines and reserve of a network as every market has them
pub record AreLimited (network : LiveNetwork) (parts : Parts) : Type 0 where
  pub offered : AreOffered network (record { units = parts.units; blocks = parts.blocks })
  pub lines : AreLinesOf network parts.lines
  pub shift : AreTableFactors (length network.branches) (length network.buses) parts.shift
  pub loss : AreTableFactors (length network.branches) (length network.branches) parts.loss
  pub reserve : IsReserve (length parts.units) parts.reserve

-- the same parts with the buses of a network and its outages, whose factors have so many places
abbrev pub whole_of : FactorPlaces → LiveNetwork → Covered → Parts → Parts
whole_of places network covered limited = record limited {
  buses = network.buses;
  outages = covered.tables.outages;
  unit_outages = covered.lost.lost;
  pickups = covered.lost.pickups;
  factor_places = places;
}

-- the parts of the market of a network with its tables
abbrev pub AreMarketParts : FactorPlaces → SizedTables → LiveNetwork → Result Parts Refusal → Type 0
AreMarketParts places files network told =
    Then (AreCovered places network files) (λ covered.
    Then (AreLimitedParts network covered.tables files) (λ limited. Is (Ok (whole_of places network covered limited)))) told

-- ---- the files of a clear
-- What the bytes of the files of a clear stand for, or the first fault. The factors may have so many places. The case comes first, then the three tables, the outages of
-- units and what the tables lack for all outages, the offers, the reserve, the offsets and the penalties.
abbrev pub IsClearMarket : PostRating → FactorPlaces → SizedTables → Result Parts Refusal → Type 0
IsClearMarket rating places files told =
    Then (Is (matrices_in files.grid.case)) (λ matrices.
    Then (IsJoinedNetwork rating matrices) (λ network.
    Then (AreTables places network files.grid) (λ tables.
    Then (Is (unit_outages_in network files.unit_outages)) (λ lost.
    Then (Is (cover_in network tables lost)) (λ _.
    Then (Is (offers_in network files.offers)) (λ offered.
    Then (Is (reserves_in network files.reserves)) (λ reserve.
    Then (Is (offsets_in network files.offsets)) (λ moved.
    Then (Is (penalties_in network files.penalties)) (λ priced.
    Is (Ok (market_of places network tables lost offered reserve moved priced))))))))))) told
