-- What every market keeps.
use Rattle.std.specs.Prelude.{false, ◌≡◌, ◌≢◌, ℕ, ◌<◌, ◌≤◌, pos, ◌≤ℤ◌, ◌<ℤ◌, List, [], length, map, slice_index_or, All, AllPairs, IfSome, Contains, unsigned_abs}
use Rattle.market_data.specs.Participants.{IsDatum, IsBus, IsUnit}
use Rattle.market_data.specs.Scales.{share_one, most_blocks, most_buses, most_factor, most_lines, most_outages, most_pickups, most_units}
use Rattle.market_data.specs.declared.participants.Bus.{Bus}
use Rattle.market_data.specs.declared.participants.Unit as unit
use Rattle.market_data.specs.declared.scales.FactorPlaces.TheVariants.{Six}
use Rattle.market_model.specs.declared.participants.Block.{Block}
use Rattle.market_model.specs.declared.participants.Factor.{Factor}
use Rattle.market_model.specs.declared.participants.Line.{Line}
use Rattle.market_model.specs.declared.participants.Parts.{Parts}
use Rattle.market_model.specs.declared.participants.Pickup.{Pickup}
use Rattle.market_model.specs.declared.participants.Reserve.{Reserve}
use Rattle.market_model.specs.declared.participants.ReserveOffer.{ReserveOffer}
use Rattle.market_model.specs.declared.participants.Side.{Side}
use Rattle.market_model.specs.Lines.{IsPenalty}
use Rattle.market_model.specs.Reserves.{no_reserve}
use Rattle.market_model.specs.Stairs.{stair_in, offered, room_of}

-- a block of one of so many units
pub record IsBlock (units : ℕ) (block : Block) : Type 0 where
  pub unit : block.unit < units
  pub quantity : pos 0 ≤ℤ block.quantity
  pub price : IsDatum block.price

-- the blocks of a unit on a side offer no more than the unit has room for
abbrev pub HasRoom : List Block → ℕ → unit.Unit → Type 0
HasRoom blocks place u = (side : Side) → offered (stair_in place side blocks) ≤ℤ room_of side u

-- no unit's blocks offer more than it has room for
abbrev pub HaveRoom : List unit.Unit → List Block → Type 0
HaveRoom units blocks = (place : ℕ) (d : unit.Unit) → place < length units → HasRoom blocks place (slice_index_or units place d)

pub record IsLine (line : Line) : Type 0 where
  pub row : 1 ≤ line.row
  pub base : IfSome line.base (λ mw. pos 0 ≤ℤ mw)
  pub post : IfSome line.post (λ mw. pos 0 ≤ℤ mw)
  pub base_penalty : IsPenalty line.base_price line.base_excess
  pub post_penalty : IsPenalty line.post_price line.post_excess
  pub offset : IsDatum line.offset

-- a factor of one of so many lines, for one of so many buses or lost lines
pub record IsTableFactor (lines others : ℕ) (factor : Factor) : Type 0 where
  pub line : factor.line < lines
  pub of : factor.of < others
  pub size : unsigned_abs factor.value ≤ most_factor

-- factors of which no two are of one pair
pub record AreTableFactors (lines others : ℕ) (factors : List Factor) : Type 0 where
  pub each : All (IsTableFactor lines others) factors
  pub distinct : AllPairs (λ f g. f.line ≡ g.line → f.of ≢ g.of) factors

-- what one of so many units picks up at one of so many outages: a part of the output above 0, and no more than all of it
pub record IsPickup (outages units : ℕ) (pickup : Pickup) : Type 0 where
  pub outage : pickup.outage < outages
  pub taker : pickup.taker < units
  pub above : pos 0 <ℤ pickup.share
  pub most : pickup.share ≤ℤ pos share_one

-- outages of some of so many units, none of them twice, and what is picked up at these
pub record AreUnitOutages (units : ℕ) (outages : List ℕ) (records : List Pickup) : Type 0 where
  pub count : length outages ≤ most_units
  pub each : All (λ u. u < units) outages
  pub distinct : AllPairs (λ a b. a ≢ b) outages
  pub record_count : length records ≤ most_pickups
  pub pickups : All (IsPickup (length outages) units) records

-- an offer of reserve of one of so many units
pub record IsReserveOffer (units : ℕ) (offer : ReserveOffer) : Type 0 where
  pub unit : offer.unit < units
  pub quantity : pos 0 ≤ℤ offer.quantity
  pub price : IsDatum offer.price

-- offers of some of so many units, no unit twice, and a need; or none of it
pub record IsReserve (units : ℕ) (r : Reserve) : Type 0 where
  pub count : length r.offers ≤ most_units
  pub each : All (IsReserveOffer units) r.offers
  pub distinct : AllPairs (λ a b. a ≢ b) (map (λ offer. offer.unit) r.offers)
  pub need : pos 0 ≤ℤ r.need
  pub unlisted : r.listed ≡ false → r ≡ no_reserve

-- the parts of a market that has nothing but buses, units and blocks, and tables of six places
abbrev pub bare_parts : List Bus → List unit.Unit → List Block → Parts
bare_parts buses units blocks = record { buses = buses; units = units; blocks = blocks; lines = []; outages = []; shift = []; loss = []; unit_outages = []; pickups = []; factor_places = Six; reserve = no_reserve }

pub record IsMarket (parts : Parts) : Type 0 where
  pub bus_count : length parts.buses ≤ most_buses
  pub unit_count : length parts.units ≤ most_units
  pub block_count : length parts.blocks ≤ most_blocks
  pub line_count : length parts.lines ≤ most_lines
  pub outage_count : length parts.outages ≤ most_outages
  pub buses : All IsBus parts.buses
  pub bus_numbers : AllPairs (λ a b. a ≢ b) (map (λ bus. bus.number) parts.buses)
  pub units : All (IsUnit (length parts.buses)) parts.units
  -- units stand in the order of their gen rows, so by place and by row are one order
  pub unit_rows : AllPairs (λ a b. a < b) (map (λ unit. unit.row) parts.units)
  pub blocks : All (IsBlock (length parts.units)) parts.blocks
  pub room : HaveRoom parts.units parts.blocks
  pub lines : All IsLine parts.lines
  pub line_rows : AllPairs (λ a b. a ≢ b) (map (λ line. line.row) parts.lines)
  pub outages : All (Contains (map (λ line. line.row) parts.lines)) parts.outages
  pub outages_distinct : AllPairs (λ a b. a ≢ b) parts.outages
  pub shift : AreTableFactors (length parts.lines) (length parts.buses) parts.shift
  pub loss : AreTableFactors (length parts.lines) (length parts.lines) parts.loss
  pub unit_outages : AreUnitOutages (length parts.units) parts.unit_outages parts.pickups
  pub reserve : IsReserve (length parts.units) parts.reserve
