-- The frame of a market: what no edit changes. It is the factors with how many places each may have, the places and sides of blocks, the units with their fixed parts, the outages,
-- the offsets, which limits there are with their penalties and excesses, and whether there is reserve, with its offers.
-- Source: own.
use Rattle.std.specs.Prelude.{◌≡◌, pos, map, option_map}
use Rattle.market_data.specs.declared.participants.Bus.{Bus}
use Rattle.market_model.specs.declared.participants.Block.{Block}
use Rattle.market_model.specs.declared.participants.Line.{Line}
use Rattle.market_model.specs.declared.participants.Parts.{Parts}

abbrev pub bus_frame : Bus → Bus
bus_frame bus = record bus { pd = pos 0 }

abbrev pub block_frame : Block → Block
block_frame block = record block { quantity = pos 0; price = pos 0 }

abbrev pub line_frame : Line → Line
line_frame line = record line { base = option_map (λ mw. pos 0) line.base; post = option_map (λ mw. pos 0) line.post }

-- the market with 0 for each number that an edit can change: loads, quantities, prices, limits and the need of reserve
abbrev pub frame : Parts → Parts
frame m = record m { buses = map bus_frame m.buses; blocks = map block_frame m.blocks; lines = map line_frame m.lines; reserve = record m.reserve { need = pos 0 } }

abbrev pub SameFrame : Parts → Parts → Type 0
SameFrame m n = frame m ≡ frame n
