-- The units in which data are whole numbers, and the most of what is given.
use Rattle.std.specs.Prelude.{◌≡◌, ◌⊎◌, ℕ, ◌+◌, ◌*◌, ◌^◌}
use Rattle.market_data.specs.declared.scales.FactorPlaces.{FactorPlaces}
use Rattle.market_data.specs.declared.scales.FactorPlaces.TheVariants.{Six, Nine}

-- decimals of MW: a datum is a number of 10^-9 MW
abbrev pub mw_places : ℕ
mw_places = 9

-- one MW as a datum
abbrev pub mw_one : ℕ
mw_one = 10 ^ mw_places

-- decimals of prices: a datum is a number of 10^-6 per MWh
abbrev pub price_places : ℕ
price_places = 6

-- a price of 1 per MWh as a datum
abbrev pub price_one : ℕ
price_one = 10 ^ price_places

-- decimals of money and welfare, a product of the two
abbrev pub money_places : ℕ
money_places = 15

-- decimals of factors: a datum is a number of 10^-9
abbrev pub factor_places : ℕ
factor_places = 9

-- a factor of 1 as a datum: of how many parts a factor is a number
abbrev pub factor_one : ℕ
factor_one = 10 ^ factor_places

-- the greatest size of a factor as a datum: that of 1000
abbrev pub most_factor : ℕ
most_factor = 10 ^ 12

-- how many decimals the factors of tables have at the most
abbrev pub place_count : FactorPlaces → ℕ
place_count Six = 6
place_count Nine = 9

-- how many data make one of the last of these places
abbrev pub place_step : FactorPlaces → ℕ
place_step Six = 1000
place_step Nine = 1

-- decimals of shares of a lost unit's output: a datum is a number of 10^-6
abbrev pub share_places : ℕ
share_places = 6

-- a share of 1, all of it, as a datum
abbrev pub share_one : ℕ
share_one = 10 ^ share_places

-- the greatest size of a share that a table may state, as a datum: that of 1000
abbrev pub most_share : ℕ
most_share = 10 ^ 9

-- a share times a factor as a datum: of how many parts a pickup factor is a number
abbrev pub pickup_one : ℕ
pickup_one = share_one * factor_one

-- decimals of reactances and of ratios: of both a datum is a number of 10^-9
abbrev pub reactance_places : ℕ
reactance_places = 9

-- a ratio of 1 as a datum
abbrev pub ratio_one : ℕ
ratio_one = 10 ^ reactance_places

-- the greatest size of a reactance as a datum: that of 1000
abbrev pub most_reactance : ℕ
most_reactance = 10 ^ 12

-- the greatest ratio as a datum: that of 10
abbrev pub most_ratio : ℕ
most_ratio = 10 ^ 10

-- decimals of a reactance times a ratio
abbrev pub scaled_reactance_places : ℕ
scaled_reactance_places = 2 * reactance_places

-- the greatest size of a reactance times a ratio as a datum
abbrev pub most_scaled_reactance : ℕ
most_scaled_reactance = 10 ^ 22

-- the most of each part
abbrev pub most_buses : ℕ
most_buses = 1000

abbrev pub most_units : ℕ
most_units = 1000

-- of all units
abbrev pub most_blocks : ℕ
most_blocks = 4000

-- branches
abbrev pub most_lines : ℕ
most_lines = 2000

abbrev pub most_outages : ℕ
most_outages = 500

-- records of what is picked up of the outputs of lost units
abbrev pub most_pickups : ℕ
most_pickups = 5000

-- penalties: one for each limit that the most branches can have
abbrev pub most_penalties : ℕ
most_penalties = 2 * most_lines

-- records of reserve: an offer of each unit, and a need
abbrev pub most_reserves : ℕ
most_reserves = most_units + 1

-- how many buses a ring that is made may have: at these sizes each of its factors is a whole number of 10^-6
abbrev pub IsRingSize : ℕ → Type 0
IsRingSize buses = (buses ≡ 4) ⊎ (buses ≡ 8) ⊎ (buses ≡ 16) ⊎ (buses ≡ 32) ⊎ (buses ≡ 64)
