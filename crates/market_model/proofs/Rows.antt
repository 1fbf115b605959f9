-- Worked rows: the definitions give the numbers that were worked out by hand.
use Rattle.std.specs.Prelude.{◌≡◌, ℕ, ◌*◌, ◌^◌, ◌<◌, ℤ, pos, neg_ℤ, ◌≤ℤ◌, ◌<ℤ◌, All, [], ◌∷◌, slice_index_or, refl}
use Rattle.std.proofs.Common.{zero, suc, arith, ap, inl, inr, subst, subst₂}
use Rattle.std.proofs.lemmas.Int.{ints}
use Rattle.fraction_theory.specs.Divisors.{gcd, gcd_in}
use Rattle.fraction_theory.specs.Fraction.{Fraction, whole, over, ◌+ℚ◌, ◌-ℚ◌, ◌*ℚ◌, neg_ℚ, same_fraction}
use Rattle.fraction_theory.specs.Sums.{sum_by}
use Rattle.fraction_theory.specs.Order.{◌≤ℚ◌, ◌<ℚ◌}
use Rattle.fraction_theory.proofs.OrderLaws.{three_ways, <ℚ_irrefl, whole-≤ℚ}
use Rattle.market_model.specs.declared.participants.Side.TheVariants.{Sell, Buy}
use Rattle.market_model.specs.declared.participants.Parts.{Parts}
use Rattle.market_model.specs.declared.answered.Duals.{Duals}
use Rattle.std.specs.List.Sorted.{IsStrictlyIncreasing}
use Rattle.std.proofs.lemmas.List.Kept.{AllPairs-from_increasing}
use Rattle.market_data.specs.Participants.{IsBus, IsUnit}
use Rattle.market_data.specs.declared.participants.Unit as unit
use Rattle.market_model.specs.Stairs.{stair_in}
use Rattle.market_model.specs.Valued.{energy_duals}
use Rattle.market_model.proofs.PlainMarkets.{plain_market, distinct_by_rise}
use Rattle.market_model.specs.Market.{bare_parts, IsMarket, IsBlock, HasRoom}
use Rattle.market_model.specs.Dispatch.{Dispatch, places, injection, balance, output, demand, accepted, quantity, dispatch_by}
use Rattle.market_model.specs.Optimality.{Feasible, Supports, BlockSupported, welfare, congestion_by, price_by, welfare_for}
use Rattle.market_model.specs.Settlement.{paid, pays, surplus}
use Rattle.market_model.proofs.MarketSums.{fixed_part, most_raised, needed-at_most}
use Rattle.market_model.proofs.WholeDispatch.{from_whole-<ℚ, from_whole-≤ℚ}
use Rattle.market_model.proofs.Optimum.{law_of_the_optimum, law_of_no_limits}
use Rattle.market_model.specs.LimitRows.{rows}
use Rattle.market_model.proofs.EnergyAlone.{is_energy_dispatch}
use Rattle.market_model.proofs.RowLaws.{no_rows, supported_bare, supports_bare, empty_bare, full_bare, feasible_bare}

-- whole numbers in order are not the other way
not_below : (m n : ℤ) → m ≤ℤ n → ¬ (whole n <ℚ whole m)
not_below m n h k = let p : n <ℤ m = from_whole-<ℚ n m k in Prim.omega (arith, ints)

-- The three-bus row: a load of 60 MW at the third bus; a unit at each of the first two sells 100 MW, at 10 and at 30.
abbrev pub three_buses : Parts
three_buses = bare_parts
    (record { number = 1; pd = pos 0; gs = pos 0 } ∷ record { number = 2; pd = pos 0; gs = pos 0 } ∷ record { number = 3; pd = pos (60 * 10 ^ 9); gs = pos 0 } ∷ [])
    (record { row = 1; bus = 0; fixed = pos 0; up = pos (100 * 10 ^ 9); down = pos 0 } ∷ record { row = 2; bus = 1; fixed = pos 0; up = pos (100 * 10 ^ 9); down = pos 0 } ∷ [])
    (record { unit = 0; side = Sell; quantity = pos (100 * 10 ^ 9); price = pos (10 * 10 ^ 6) } ∷ record { unit = 1; side = Sell; quantity = pos (100 * 10 ^ 9); price = pos (30 * 10 ^ 6) } ∷ [])

-- 60 MW of the first block, none of the second
abbrev pub first_only : Dispatch
first_only = dispatch_by (whole (pos (60 * 10 ^ 9)) ∷ whole (pos 0) ∷ [])

-- a price of energy of 10, and no limit that has one
abbrev pub energy_at_ten : Duals Fraction
energy_at_ten = energy_duals (whole (pos (10 * 10 ^ 6))) []

pub three_buses-welfare : welfare three_buses first_only ≡ whole (neg_ℤ (pos (600 * 10 ^ 15)))
unfolding welfare_for rows ◌+ℚ◌ ◌*ℚ◌ neg_ℚ over whole gcd gcd_in
three_buses-welfare = same_fraction (welfare three_buses first_only) (whole (neg_ℤ (pos (600 * 10 ^ 15)))) refl refl

pub three_buses-balance : balance three_buses first_only ≡ whole (pos 0)
unfolding balance injection ◌+ℚ◌ ◌*ℚ◌ neg_ℚ over whole gcd gcd_in
three_buses-balance = same_fraction (balance three_buses first_only) (whole (pos 0)) refl refl

-- unit 1 is paid 600 for 60 MW, and the load pays as much
pub three_buses-paid : paid three_buses first_only energy_at_ten 0 ≡ whole (pos (600 * 10 ^ 15))
unfolding paid output price_by congestion_by rows ◌+ℚ◌ ◌*ℚ◌ neg_ℚ over whole gcd gcd_in
three_buses-paid = same_fraction (paid three_buses first_only energy_at_ten 0) (whole (pos (600 * 10 ^ 15))) refl refl

pub three_buses-pays : pays three_buses energy_at_ten 2 ≡ whole (pos (600 * 10 ^ 15))
unfolding pays demand price_by congestion_by rows ◌+ℚ◌ ◌*ℚ◌ neg_ℚ over whole gcd gcd_in
three_buses-pays = same_fraction (pays three_buses energy_at_ten 2) (whole (pos (600 * 10 ^ 15))) refl refl

pub three_buses-feasible : Feasible three_buses first_only
three_buses-feasible = feasible_bare three_buses first_only (no_rows three_buses refl) refl (is_energy_dispatch three_buses refl first_only refl refl above within) three_buses-balance
  where
    above : (j : ℕ) → j < 2 → whole (pos 0) ≤ℚ accepted first_only j
    above zero h = whole-≤ℚ (pos 0) (pos (60 * 10 ^ 9)) (Prim.omega (arith, ints))
    above (suc zero) h = whole-≤ℚ (pos 0) (pos 0) (Prim.omega (arith, ints))
    above (suc (suc j)) h = absurd (Prim.omega arith)

    within : (j : ℕ) → j < 2 → accepted first_only j ≤ℚ quantity three_buses j
    within zero h = whole-≤ℚ (pos (60 * 10 ^ 9)) (pos (100 * 10 ^ 9)) (Prim.omega (arith, ints))
    within (suc zero) h = whole-≤ℚ (pos 0) (pos (100 * 10 ^ 9)) (Prim.omega (arith, ints))
    within (suc (suc j)) h = absurd (Prim.omega arith)

pub three_buses-supports : Supports three_buses first_only energy_at_ten
three_buses-supports = supports_bare three_buses energy_at_ten first_only (no_rows three_buses refl) refl refl blocks
  where
    blocks : (j : ℕ) → j < 2 → BlockSupported three_buses first_only energy_at_ten j
    blocks zero h = supported_bare three_buses energy_at_ten first_only (no_rows three_buses refl) refl 0
        (λ k. absurd (<ℚ_irrefl (whole (pos (10 * 10 ^ 6))) k))
        (λ k. absurd (<ℚ_irrefl (whole (pos (10 * 10 ^ 6))) k))
    blocks (suc zero) h = supported_bare three_buses energy_at_ten first_only (no_rows three_buses refl) refl 1
        (λ k. absurd (not_below (pos (10 * 10 ^ 6)) (pos (30 * 10 ^ 6)) (Prim.omega (arith, ints)) k))
        (λ k. refl)
    blocks (suc (suc j)) h = absurd (Prim.omega arith)

whole-apart : (m n : ℤ) → whole m ≡ whole n → m ≡ n
unfolding whole
whole-apart m n e = ap (λ (f : Fraction). f.num) e

-- no other price of energy supports it
pub three_buses-one_price : (d : Duals Fraction) → Supports three_buses first_only d → d.energy ≡ whole (pos (10 * 10 ^ 6))
three_buses-one_price d s = elim (three_ways d.energy (whole (pos (10 * 10 ^ 6)))) [
  | inl below ↦ let wrong : pos (60 * 10 ^ 9) ≡ pos 0 = whole-apart (pos (60 * 10 ^ 9)) (pos 0) (empty_bare three_buses d first_only (no_rows three_buses refl) refl 0 (s.blocks 0 (Prim.omega arith)) below) in absurd (Prim.omega (arith, ints))
  | inr rest ↦ elim rest [
    | inl same ↦ same
    | inr above ↦ let wrong : pos (60 * 10 ^ 9) ≡ pos (100 * 10 ^ 9) = whole-apart (pos (60 * 10 ^ 9)) (pos (100 * 10 ^ 9)) (full_bare three_buses d first_only (no_rows three_buses refl) refl 0 (s.blocks 0 (Prim.omega arith)) above) in absurd (Prim.omega (arith, ints))
  ]
]

pub three_buses-market : IsMarket three_buses
unfolding stair_in
three_buses-market = plain_market three_buses.buses three_buses.units three_buses.blocks (record {
  bus_count = Prim.omega arith;
  unit_count = Prim.omega arith;
  block_count = Prim.omega arith;
  buses = buses;
  bus_numbers = distinct_by_rise (1 ∷ 2 ∷ 3 ∷ []) (AllPairs-from_increasing (1 ∷ 2 ∷ 3 ∷ []) numbers);
  units = units;
  unit_rows = AllPairs-from_increasing (1 ∷ 2 ∷ []) rows;
  blocks = blocks;
  room = room;
})
  where
    numbers : IsStrictlyIncreasing (1 ∷ 2 ∷ 3 ∷ [])
    numbers zero h = Prim.omega arith
    numbers (suc zero) h = Prim.omega arith
    numbers (suc (suc k)) h = absurd (Prim.omega arith)

    rows : IsStrictlyIncreasing (1 ∷ 2 ∷ [])
    rows zero h = Prim.omega arith
    rows (suc k) h = absurd (Prim.omega arith)

    room : (place : ℕ) (d : unit.Unit) → place < 2 → HasRoom three_buses.blocks place (slice_index_or three_buses.units place d)
    room zero d h Sell = Prim.omega (arith, ints)
    room zero d h Buy = Prim.omega (arith, ints)
    room (suc zero) d h Sell = Prim.omega (arith, ints)
    room (suc zero) d h Buy = Prim.omega (arith, ints)
    room (suc (suc k)) d h side = absurd (Prim.omega arith)

    buses : All IsBus three_buses.buses
    buses zero d h = record { load = Prim.omega (arith, ints); shunt = Prim.omega (arith, ints) }
    buses (suc zero) d h = record { load = Prim.omega (arith, ints); shunt = Prim.omega (arith, ints) }
    buses (suc (suc zero)) d h = record { load = Prim.omega (arith, ints); shunt = Prim.omega (arith, ints) }
    buses (suc (suc (suc k))) d h = absurd (Prim.omega arith)

    units : All (IsUnit 3) three_buses.units
    units zero d h = record { row = Prim.omega arith; bus = Prim.omega arith; fixed = Prim.omega arith; up = Prim.omega (arith, ints); down = Prim.omega (arith, ints) }
    units (suc zero) d h = record { row = Prim.omega arith; bus = Prim.omega arith; fixed = Prim.omega arith; up = Prim.omega (arith, ints); down = Prim.omega (arith, ints) }
    units (suc (suc k)) d h = absurd (Prim.omega arith)

    blocks : All (IsBlock 2) three_buses.blocks
    blocks zero d h = record { unit = Prim.omega arith; quantity = Prim.omega (arith, ints); price = Prim.omega arith }
    blocks (suc zero) d h = record { unit = Prim.omega arith; quantity = Prim.omega (arith, ints); price = Prim.omega arith }
    blocks (suc (suc k)) d h = absurd (Prim.omega arith)

-- so no dispatch of it is worth more than -600
pub three_buses-best : (y : Dispatch) → Feasible three_buses y → welfare three_buses y ≤ℚ whole (neg_ℤ (pos (600 * 10 ^ 15)))
three_buses-best y fy =
    subst (λ t. welfare three_buses y ≤ℚ t) three_buses-welfare
    (law_of_the_optimum three_buses energy_at_ten first_only y three_buses-market three_buses-feasible three_buses-supports fy)

pub three_buses-surplus : surplus three_buses first_only energy_at_ten ≡ whole (pos 0)
three_buses-surplus = law_of_no_limits three_buses energy_at_ten first_only three_buses-market (no_rows three_buses refl) three_buses-balance

-- The row of a dispatchable load: a third unit, at bus 3, buys up to 30 MW at 40 and up to 20 MW at 5.
abbrev pub with_buyer : Parts
with_buyer = bare_parts
    three_buses.buses
    (record { row = 1; bus = 0; fixed = pos 0; up = pos (100 * 10 ^ 9); down = pos 0 } ∷ record { row = 2; bus = 1; fixed = pos 0; up = pos (100 * 10 ^ 9); down = pos 0 } ∷ record { row = 3; bus = 2; fixed = pos 0; up = pos 0; down = pos (50 * 10 ^ 9) } ∷ [])
    (record { unit = 0; side = Sell; quantity = pos (100 * 10 ^ 9); price = pos (10 * 10 ^ 6) } ∷ record { unit = 1; side = Sell; quantity = pos (100 * 10 ^ 9); price = pos (30 * 10 ^ 6) } ∷ record { unit = 2; side = Buy; quantity = pos (30 * 10 ^ 9); price = pos (40 * 10 ^ 6) } ∷ record { unit = 2; side = Buy; quantity = pos (20 * 10 ^ 9); price = pos (5 * 10 ^ 6) } ∷ [])

-- 90 MW of the first unit, of which the buyer takes 30
abbrev pub bought : Dispatch
bought = dispatch_by (whole (pos (90 * 10 ^ 9)) ∷ whole (pos 0) ∷ whole (pos (30 * 10 ^ 9)) ∷ whole (pos 0) ∷ [])

pub with_buyer-welfare : welfare with_buyer bought ≡ whole (pos (300 * 10 ^ 15))
unfolding welfare_for rows ◌+ℚ◌ ◌*ℚ◌ neg_ℚ over whole gcd gcd_in
with_buyer-welfare = same_fraction (welfare with_buyer bought) (whole (pos (300 * 10 ^ 15))) refl refl

pub with_buyer-balance : balance with_buyer bought ≡ whole (pos 0)
unfolding balance injection ◌+ℚ◌ ◌*ℚ◌ neg_ℚ over whole gcd gcd_in
with_buyer-balance = same_fraction (balance with_buyer bought) (whole (pos 0)) refl refl

-- what the buyer puts out, and is paid
pub with_buyer-output : output with_buyer bought 2 ≡ whole (neg_ℤ (pos (30 * 10 ^ 9)))
unfolding output ◌+ℚ◌ ◌*ℚ◌ neg_ℚ over whole gcd gcd_in
with_buyer-output = same_fraction (output with_buyer bought 2) (whole (neg_ℤ (pos (30 * 10 ^ 9)))) refl refl

pub with_buyer-paid : paid with_buyer bought energy_at_ten 2 ≡ whole (neg_ℤ (pos (300 * 10 ^ 15)))
unfolding paid output price_by congestion_by rows ◌+ℚ◌ ◌*ℚ◌ neg_ℚ over whole gcd gcd_in
with_buyer-paid = same_fraction (paid with_buyer bought energy_at_ten 2) (whole (neg_ℤ (pos (300 * 10 ^ 15)))) refl refl

pub with_buyer-surplus : surplus with_buyer bought energy_at_ten ≡ whole (pos 0)
unfolding surplus demand output price_by congestion_by rows ◌+ℚ◌ ◌*ℚ◌ neg_ℚ over whole gcd gcd_in
with_buyer-surplus = same_fraction (surplus with_buyer bought energy_at_ten) (whole (pos 0)) refl refl

pub with_buyer-feasible : Feasible with_buyer bought
with_buyer-feasible = feasible_bare with_buyer bought (no_rows with_buyer refl) refl (is_energy_dispatch with_buyer refl bought refl refl above within) with_buyer-balance
  where
    above : (j : ℕ) → j < 4 → whole (pos 0) ≤ℚ accepted bought j
    above zero h = whole-≤ℚ (pos 0) (pos (90 * 10 ^ 9)) (Prim.omega (arith, ints))
    above (suc zero) h = whole-≤ℚ (pos 0) (pos 0) (Prim.omega (arith, ints))
    above (suc (suc zero)) h = whole-≤ℚ (pos 0) (pos (30 * 10 ^ 9)) (Prim.omega (arith, ints))
    above (suc (suc (suc zero))) h = whole-≤ℚ (pos 0) (pos 0) (Prim.omega (arith, ints))
    above (suc (suc (suc (suc j)))) h = absurd (Prim.omega arith)

    within : (j : ℕ) → j < 4 → accepted bought j ≤ℚ quantity with_buyer j
    within zero h = whole-≤ℚ (pos (90 * 10 ^ 9)) (pos (100 * 10 ^ 9)) (Prim.omega (arith, ints))
    within (suc zero) h = whole-≤ℚ (pos 0) (pos (100 * 10 ^ 9)) (Prim.omega (arith, ints))
    within (suc (suc zero)) h = whole-≤ℚ (pos (30 * 10 ^ 9)) (pos (30 * 10 ^ 9)) (Prim.omega (arith, ints))
    within (suc (suc (suc zero))) h = whole-≤ℚ (pos 0) (pos (20 * 10 ^ 9)) (Prim.omega (arith, ints))
    within (suc (suc (suc (suc j)))) h = absurd (Prim.omega arith)

pub with_buyer-supports : Supports with_buyer bought energy_at_ten
with_buyer-supports = supports_bare with_buyer energy_at_ten bought (no_rows with_buyer refl) refl refl blocks
  where
    blocks : (j : ℕ) → j < 4 → BlockSupported with_buyer bought energy_at_ten j
    blocks zero h = supported_bare with_buyer energy_at_ten bought (no_rows with_buyer refl) refl 0
        (λ k. absurd (<ℚ_irrefl (whole (pos (10 * 10 ^ 6))) k))
        (λ k. absurd (<ℚ_irrefl (whole (pos (10 * 10 ^ 6))) k))
    blocks (suc zero) h = supported_bare with_buyer energy_at_ten bought (no_rows with_buyer refl) refl 1
        (λ k. absurd (not_below (pos (10 * 10 ^ 6)) (pos (30 * 10 ^ 6)) (Prim.omega (arith, ints)) k))
        (λ k. refl)
    blocks (suc (suc zero)) h = supported_bare with_buyer energy_at_ten bought (no_rows with_buyer refl) refl 2
        (λ k. refl)
        (λ k. absurd (not_below (pos (10 * 10 ^ 6)) (pos (40 * 10 ^ 6)) (Prim.omega (arith, ints)) k))
    blocks (suc (suc (suc zero))) h = supported_bare with_buyer energy_at_ten bought (no_rows with_buyer refl) refl 3
        (λ k. absurd (not_below (pos (5 * 10 ^ 6)) (pos (10 * 10 ^ 6)) (Prim.omega (arith, ints)) k))
        (λ k. refl)
    blocks (suc (suc (suc (suc j)))) h = absurd (Prim.omega arith)

-- The row of a shunt and a fixed part: bus 2 has a shunt of 5 MW, and the unit there runs at 20 MW at least.
abbrev pub with_shunt : Parts
with_shunt = bare_parts
    (record { number = 1; pd = pos 0; gs = pos 0 } ∷ record { number = 2; pd = pos 0; gs = pos (5 * 10 ^ 9) } ∷ record { number = 3; pd = pos (60 * 10 ^ 9); gs = pos 0 } ∷ [])
    (record { row = 1; bus = 0; fixed = pos 0; up = pos (100 * 10 ^ 9); down = pos 0 } ∷ record { row = 2; bus = 1; fixed = pos (20 * 10 ^ 9); up = pos (80 * 10 ^ 9); down = pos 0 } ∷ [])
    (record { unit = 0; side = Sell; quantity = pos (100 * 10 ^ 9); price = pos (10 * 10 ^ 6) } ∷ record { unit = 1; side = Sell; quantity = pos (80 * 10 ^ 9); price = pos (30 * 10 ^ 6) } ∷ [])

-- 45 MW of the first unit
abbrev pub less_sold : Dispatch
less_sold = dispatch_by (whole (pos (45 * 10 ^ 9)) ∷ whole (pos 0) ∷ [])

pub with_shunt-welfare : welfare with_shunt less_sold ≡ whole (neg_ℤ (pos (450 * 10 ^ 15)))
unfolding welfare_for rows ◌+ℚ◌ ◌*ℚ◌ neg_ℚ over whole gcd gcd_in
with_shunt-welfare = same_fraction (welfare with_shunt less_sold) (whole (neg_ℤ (pos (450 * 10 ^ 15)))) refl refl

-- the second bus puts in 20 less 5, and all is in balance
pub with_shunt-injection : injection with_shunt less_sold 1 ≡ whole (pos (15 * 10 ^ 9))
unfolding injection ◌+ℚ◌ ◌*ℚ◌ neg_ℚ over whole gcd gcd_in
with_shunt-injection = same_fraction (injection with_shunt less_sold 1) (whole (pos (15 * 10 ^ 9))) refl refl

pub with_shunt-balance : balance with_shunt less_sold ≡ whole (pos 0)
unfolding balance injection ◌+ℚ◌ ◌*ℚ◌ neg_ℚ over whole gcd gcd_in
with_shunt-balance = same_fraction (balance with_shunt less_sold) (whole (pos 0)) refl refl

pub with_shunt-supports : Supports with_shunt less_sold energy_at_ten
with_shunt-supports = supports_bare with_shunt energy_at_ten less_sold (no_rows with_shunt refl) refl refl blocks
  where
    blocks : (j : ℕ) → j < 2 → BlockSupported with_shunt less_sold energy_at_ten j
    blocks zero h = supported_bare with_shunt energy_at_ten less_sold (no_rows with_shunt refl) refl 0
        (λ k. absurd (<ℚ_irrefl (whole (pos (10 * 10 ^ 6))) k))
        (λ k. absurd (<ℚ_irrefl (whole (pos (10 * 10 ^ 6))) k))
    blocks (suc zero) h = supported_bare with_shunt energy_at_ten less_sold (no_rows with_shunt refl) refl 1
        (λ k. absurd (not_below (pos (10 * 10 ^ 6)) (pos (30 * 10 ^ 6)) (Prim.omega (arith, ints)) k))
        (λ k. refl)
    blocks (suc (suc j)) h = absurd (Prim.omega arith)

-- the second unit puts out its fixed part and is paid for it, and the bus pays for its shunt
pub with_shunt-output : output with_shunt less_sold 1 ≡ whole (pos (20 * 10 ^ 9))
unfolding output ◌+ℚ◌ ◌*ℚ◌ neg_ℚ over whole gcd gcd_in
with_shunt-output = same_fraction (output with_shunt less_sold 1) (whole (pos (20 * 10 ^ 9))) refl refl

pub with_shunt-paid : paid with_shunt less_sold energy_at_ten 1 ≡ whole (pos (200 * 10 ^ 15))
unfolding paid output price_by congestion_by rows ◌+ℚ◌ ◌*ℚ◌ neg_ℚ over whole gcd gcd_in
with_shunt-paid = same_fraction (paid with_shunt less_sold energy_at_ten 1) (whole (pos (200 * 10 ^ 15))) refl refl

pub with_shunt-pays : pays with_shunt energy_at_ten 1 ≡ whole (pos (50 * 10 ^ 15))
unfolding pays demand price_by congestion_by rows ◌+ℚ◌ ◌*ℚ◌ neg_ℚ over whole gcd gcd_in
with_shunt-pays = same_fraction (pays with_shunt energy_at_ten 1) (whole (pos (50 * 10 ^ 15))) refl refl

pub with_shunt-surplus : surplus with_shunt less_sold energy_at_ten ≡ whole (pos 0)
unfolding surplus demand output price_by congestion_by rows ◌+ℚ◌ ◌*ℚ◌ neg_ℚ over whole gcd gcd_in
with_shunt-surplus = same_fraction (surplus with_shunt less_sold energy_at_ten) (whole (pos 0)) refl refl

-- The short row: a load of 250 MW, of which the two units can serve 200.
abbrev pub short : Parts
short = bare_parts
    (record { number = 1; pd = pos 0; gs = pos 0 } ∷ record { number = 2; pd = pos 0; gs = pos 0 } ∷ record { number = 3; pd = pos (250 * 10 ^ 9); gs = pos 0 } ∷ [])
    three_buses.units
    three_buses.blocks

pub short-market : IsMarket short
short-market = plain_market short.buses short.units short.blocks (record {
  bus_count = Prim.omega arith;
  unit_count = Prim.omega arith;
  block_count = Prim.omega arith;
  buses = buses;
  bus_numbers = three_buses-market.bus_numbers;
  units = three_buses-market.units;
  unit_rows = three_buses-market.unit_rows;
  blocks = three_buses-market.blocks;
  room = three_buses-market.room;
})
  where
    buses : All IsBus short.buses
    buses zero d h = record { load = Prim.omega (arith, ints); shunt = Prim.omega (arith, ints) }
    buses (suc zero) d h = record { load = Prim.omega (arith, ints); shunt = Prim.omega (arith, ints) }
    buses (suc (suc zero)) d h = record { load = Prim.omega (arith, ints); shunt = Prim.omega (arith, ints) }
    buses (suc (suc (suc k))) d h = absurd (Prim.omega arith)

short-needed : sum_by (demand short) (places 3) -ℚ sum_by (fixed_part short) (places 2) ≡ whole (pos (250 * 10 ^ 9))
unfolding demand ◌+ℚ◌ ◌*ℚ◌ neg_ℚ over whole gcd gcd_in
short-needed = same_fraction (sum_by (demand short) (places 3) -ℚ sum_by (fixed_part short) (places 2)) (whole (pos (250 * 10 ^ 9))) refl refl

short-offered : sum_by (λ block. most_raised block.side (whole block.quantity)) short.blocks ≡ whole (pos (200 * 10 ^ 9))
unfolding ◌+ℚ◌ ◌*ℚ◌ neg_ℚ over whole gcd gcd_in
short-offered = same_fraction (sum_by (λ block. most_raised block.side (whole block.quantity)) short.blocks) (whole (pos (200 * 10 ^ 9))) refl refl

-- what its blocks raise is at most 200, and what is to be raised is 250
pub short-infeasible : (x : Dispatch) → ¬ (Feasible short x)
short-infeasible x f =
    let needed : whole (pos (250 * 10 ^ 9)) ≤ℚ whole (pos (200 * 10 ^ 9)) = subst₂ ◌≤ℚ◌ short-needed short-offered (needed-at_most short x short-market f.blocks f.balanced) in
    let wrong : pos (250 * 10 ^ 9) ≤ℤ pos (200 * 10 ^ 9) = from_whole-≤ℚ (pos (250 * 10 ^ 9)) (pos (200 * 10 ^ 9)) needed in
    Prim.omega (arith, ints)
