-- The lines that tell residuals.
use Rattle.std.specs.Prelude.{ℕ, ◌+◌, List, ◌++◌, codes, decimal, Option, Some, None}
use Rattle.line_text.specs.Decimals.{decimal_text}
use Rattle.market_data.specs.Scales.{factor_places, scaled_reactance_places}
use Rattle.factor_residuals.specs.declared.spots.Spot.{Spot}
use Rattle.factor_residuals.specs.declared.spots.Residual.{Residual}

-- the bus or the loop of a residual, and the bus or the outage of its column
unfoldable pub place_text : Spot → List ℕ
place_text s = codes " at " ++ decimal s.at ++ codes " for " ++ decimal s.of ++ codes "\n"

-- the greatest, whose unit is 10 ^ -places
unfoldable pub most_line : List ℕ → ℕ → Spot → List ℕ
most_line kind places s = kind ++ codes " most " ++ decimal_text places s.value ++ place_text s

-- the first beyond its bound, which is in a tenth of the unit
unfoldable pub over_line : List ℕ → ℕ → Option Spot → List ℕ
over_line kind places None = kind ++ codes " within\n"
over_line kind places (Some s) = kind ++ codes " over " ++ decimal_text places s.value ++ codes " bound " ++ decimal_text (places + 1) s.bound ++ place_text s

-- two lines, or one where there is no place
abbrev pub lines_of : List ℕ → ℕ → Option Spot → Option Spot → List ℕ
lines_of kind places None over = kind ++ codes " none\n"
lines_of kind places (Some most) over = most_line kind places most ++ over_line kind places over

unfoldable pub residual_lines : List ℕ → ℕ → Residual → List ℕ
residual_lines kind places r = lines_of kind places r.most r.over

-- decimals of a reactance times a ratio, times a factor
abbrev pub loop_places : ℕ
loop_places = scaled_reactance_places + factor_places

-- the residuals at the buses and round the loops, of shift factors and of outage factors
unfoldable pub residuals_text : Residual → Residual → Residual → Residual → List ℕ
residuals_text bus round outage_bus outage_round =
    residual_lines (codes "bus") factor_places bus ++ residual_lines (codes "loop") loop_places round
    ++ residual_lines (codes "outage bus") factor_places outage_bus ++ residual_lines (codes "outage loop") loop_places outage_round
