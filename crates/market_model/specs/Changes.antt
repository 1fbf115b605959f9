-- A market with one number changed.
use Rattle.std.specs.Prelude.{ℕ, ℤ, Bool, Some, slice_set, if◌then◌else◌}
use Rattle.market_model.specs.declared.participants.Line.{Line}
use Rattle.market_model.specs.declared.participants.Parts.{Parts}
use Rattle.market_model.specs.Dispatch.{bus_at, block_at, line_at}

abbrev pub with_price : Parts → ℕ → ℤ → Parts
with_price m block price = record m { blocks = slice_set m.blocks block (record (block_at m block) { price = price }) }

abbrev pub with_quantity : Parts → ℕ → ℤ → Parts
with_quantity m block mw = record m { blocks = slice_set m.blocks block (record (block_at m block) { quantity = mw }) }

-- its load; the shunt stays
abbrev pub with_demand : Parts → ℕ → ℤ → Parts
with_demand m bus pd = record m { buses = slice_set m.buses bus (record (bus_at m bus) { pd = pd }) }

-- a line with another limit, after an outage or in the base
abbrev pub line_with : Line → Bool → ℤ → Line
line_with line post mw = if post then record line { post = Some mw } else record line { base = Some mw }

abbrev pub with_limit : Parts → ℕ → Bool → ℤ → Parts
with_limit m line post mw = record m { lines = slice_set m.lines line (line_with (line_at m line) post mw) }

-- the reserve that is needed
abbrev pub with_need : Parts → ℤ → Parts
with_need m mw = record m { reserve = record m.reserve { need = mw } }
