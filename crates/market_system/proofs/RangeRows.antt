-- The row of three big buses: numbers of 127 bits don't hold its welfare, and the sum that they don't hold is a working pair.
use Rattle.std.specs.Prelude.{◌≡◌, ◌≢◌, ℕ, ◌^◌, ◌<◌, ◌-◌, pos, neg_ℤ, Bool, true, [], ◌∷◌, All, slice_index_or, if◌then◌else◌, None, refl}
use Rattle.std.proofs.Common.{zero, suc, arith, ap, ap₂, sym, subst, subst₂, inl, inr, ◌∙◌}
use Rattle.std.proofs.lemmas.Int.{ints}
use Rattle.fraction_theory.specs.Divisors.{gcd, gcd_in, lcm}
use Rattle.fraction_theory.specs.Fraction.{Fraction, whole, over, ◌+ℚ◌, ◌*ℚ◌, neg_ℚ, same_fraction}
use Rattle.fraction_theory.specs.Order.{◌≤ℚ◌}
use Rattle.fraction_theory.specs.Sums.{Plain, term_value, prefix}
use Rattle.fraction_theory.proofs.SumLaws.{prefix-more}
use Rattle.fraction_theory.proofs.OrderLaws.{whole-≤ℚ, <ℚ_irrefl}
use Rattle.exact_fraction.specs.declared.Op.TheVariants.{Plus}
use Rattle.exact_fraction.specs.declared.Passed.{Passed}
use Rattle.exact_fraction.specs.Passes.{IsTooLarge, SumPasses}
use Rattle.market_model.specs.declared.participants.Side.TheVariants.{Sell, Buy}
use Rattle.market_model.specs.declared.participants.Parts.{Parts}
use Rattle.market_model.specs.declared.answered.Duals.{Duals}
use Rattle.std.specs.List.Sorted.{IsStrictlyIncreasing}
use Rattle.std.proofs.lemmas.List.Kept.{AllPairs-from_increasing}
use Rattle.market_data.specs.Participants.{IsBus, IsUnit}
use Rattle.market_data.specs.declared.participants.Unit as unit
use Rattle.market_model.specs.Stairs.{stair_in}
use Rattle.market_model.specs.Valued.{energy_duals}
use Rattle.market_model.proofs.EnergyAlone.{is_energy_dispatch}
use Rattle.market_model.proofs.PlainMarkets.{plain_market, distinct_by_rise}
use Rattle.market_model.specs.Market.{bare_parts, IsMarket, IsBlock, HasRoom}
use Rattle.market_model.specs.Dispatch.{Dispatch, injection, balance, accepted, quantity, dispatch_by}
use Rattle.market_model.specs.Optimality.{Feasible, Supports, BlockSupported, welfare_terms}
use Rattle.market_model.proofs.RowLaws.{no_rows, supported_bare, supports_bare, feasible_bare}
use Rattle.market_model.specs.NamedSums.{term_at}
use Rattle.market_model.specs.SumTables.{welfare_of_all}
use Rattle.linear_system.specs.Choices.{Choice}
use Rattle.market_system.specs.MarketNumbers.{IsRightChoice, NamedSum, of_welfare}
use Rattle.market_system.specs.MarketSystem.{choice_dispatch, choice_duals}
use Rattle.market_system.specs.WorkingPairs.{IsRangeOf}
use Rattle.market_system.proofs.SystemLaws.{nothing, block_choice, block_choice_is}
use Rattle.market_system.proofs.BlockChoices.{block_choice_dispatch, block_choice_energy}
use Rattle.market_system.proofs.PairCases.{law_of_the_pairs}

-- 9223372036.854775807 MW, and the same number as a price
abbrev most : ℕ
most = 2 ^ 63 - 1

-- each bus demands as much as the unit there offers, at that price
abbrev pub big_buses : Parts
big_buses = bare_parts
    (record { number = 1; pd = pos most; gs = pos 0 } ∷ record { number = 2; pd = pos most; gs = pos 0 } ∷ record { number = 3; pd = pos most; gs = pos 0 } ∷ [])
    (record { row = 1; bus = 0; fixed = pos 0; up = pos most; down = pos 0 } ∷ record { row = 2; bus = 1; fixed = pos 0; up = pos most; down = pos 0 } ∷ record { row = 3; bus = 2; fixed = pos 0; up = pos most; down = pos 0 } ∷ [])
    (record { unit = 0; side = Sell; quantity = pos most; price = pos most } ∷ record { unit = 1; side = Sell; quantity = pos most; price = pos most } ∷ record { unit = 2; side = Sell; quantity = pos most; price = pos most } ∷ [])

-- all is sold
abbrev pub all_sold : Dispatch
all_sold = dispatch_by (whole (pos most) ∷ whole (pos most) ∷ whole (pos most) ∷ [])

abbrev pub at_most_price : Duals Fraction
at_most_price = energy_duals (whole (pos most)) []

big_buses-market : IsMarket big_buses
unfolding stair_in
big_buses-market = plain_market big_buses.buses big_buses.units big_buses.blocks (record {
  bus_count = Prim.omega arith;
  unit_count = Prim.omega arith;
  block_count = Prim.omega arith;
  buses = buses;
  bus_numbers = distinct_by_rise (1 ∷ 2 ∷ 3 ∷ []) (AllPairs-from_increasing (1 ∷ 2 ∷ 3 ∷ []) numbers);
  units = units;
  unit_rows = AllPairs-from_increasing (1 ∷ 2 ∷ 3 ∷ []) numbers;
  blocks = blocks;
  room = room;
})
  where
    numbers : IsStrictlyIncreasing (1 ∷ 2 ∷ 3 ∷ [])
    numbers zero h = Prim.omega arith
    numbers (suc zero) h = Prim.omega arith
    numbers (suc (suc k)) h = absurd (Prim.omega arith)

    room : (place : ℕ) (d : unit.Unit) → place < 3 → HasRoom big_buses.blocks place (slice_index_or big_buses.units place d)
    room zero d h Sell = Prim.omega (arith, ints)
    room zero d h Buy = Prim.omega (arith, ints)
    room (suc zero) d h Sell = Prim.omega (arith, ints)
    room (suc zero) d h Buy = Prim.omega (arith, ints)
    room (suc (suc zero)) d h Sell = Prim.omega (arith, ints)
    room (suc (suc zero)) d h Buy = Prim.omega (arith, ints)
    room (suc (suc (suc k))) d h side = absurd (Prim.omega arith)

    buses : All IsBus big_buses.buses
    buses zero d h = record { load = Prim.omega (arith, ints); shunt = Prim.omega (arith, ints) }
    buses (suc zero) d h = record { load = Prim.omega (arith, ints); shunt = Prim.omega (arith, ints) }
    buses (suc (suc zero)) d h = record { load = Prim.omega (arith, ints); shunt = Prim.omega (arith, ints) }
    buses (suc (suc (suc k))) d h = absurd (Prim.omega arith)

    units : All (IsUnit 3) big_buses.units
    units zero d h = record { row = Prim.omega arith; bus = Prim.omega arith; fixed = Prim.omega arith; up = Prim.omega (arith, ints); down = Prim.omega (arith, ints) }
    units (suc zero) d h = record { row = Prim.omega arith; bus = Prim.omega arith; fixed = Prim.omega arith; up = Prim.omega (arith, ints); down = Prim.omega (arith, ints) }
    units (suc (suc zero)) d h = record { row = Prim.omega arith; bus = Prim.omega arith; fixed = Prim.omega arith; up = Prim.omega (arith, ints); down = Prim.omega (arith, ints) }
    units (suc (suc (suc k))) d h = absurd (Prim.omega arith)

    blocks : All (IsBlock 3) big_buses.blocks
    blocks zero d h = record { unit = Prim.omega arith; quantity = Prim.omega (arith, ints); price = Prim.omega arith }
    blocks (suc zero) d h = record { unit = Prim.omega arith; quantity = Prim.omega (arith, ints); price = Prim.omega arith }
    blocks (suc (suc zero)) d h = record { unit = Prim.omega arith; quantity = Prim.omega (arith, ints); price = Prim.omega arith }
    blocks (suc (suc (suc k))) d h = absurd (Prim.omega arith)

big_buses-balance : balance big_buses all_sold ≡ whole (pos 0)
unfolding balance injection ◌+ℚ◌ ◌*ℚ◌ neg_ℚ over whole gcd gcd_in
big_buses-balance = same_fraction (balance big_buses all_sold) (whole (pos 0)) refl refl

big_buses-feasible : Feasible big_buses all_sold
big_buses-feasible = feasible_bare big_buses all_sold (no_rows big_buses refl) refl (is_energy_dispatch big_buses refl all_sold refl refl above within) big_buses-balance
  where
    above : (j : ℕ) → j < 3 → whole (pos 0) ≤ℚ accepted all_sold j
    above zero h = whole-≤ℚ (pos 0) (pos most) (Prim.omega (arith, ints))
    above (suc zero) h = whole-≤ℚ (pos 0) (pos most) (Prim.omega (arith, ints))
    above (suc (suc zero)) h = whole-≤ℚ (pos 0) (pos most) (Prim.omega (arith, ints))
    above (suc (suc (suc j))) h = absurd (Prim.omega arith)

    within : (j : ℕ) → j < 3 → accepted all_sold j ≤ℚ quantity big_buses j
    within zero h = whole-≤ℚ (pos most) (pos most) (Prim.omega (arith, ints))
    within (suc zero) h = whole-≤ℚ (pos most) (pos most) (Prim.omega (arith, ints))
    within (suc (suc zero)) h = whole-≤ℚ (pos most) (pos most) (Prim.omega (arith, ints))
    within (suc (suc (suc j))) h = absurd (Prim.omega arith)

big_buses-supports : Supports big_buses all_sold at_most_price
big_buses-supports = supports_bare big_buses at_most_price all_sold (no_rows big_buses refl) refl refl blocks
  where
    blocks : (j : ℕ) → j < 3 → BlockSupported big_buses all_sold at_most_price j
    blocks zero h = supported_bare big_buses at_most_price all_sold (no_rows big_buses refl) refl 0 (λ k. refl) (λ k. absurd (<ℚ_irrefl (whole (pos most)) k))
    blocks (suc zero) h = supported_bare big_buses at_most_price all_sold (no_rows big_buses refl) refl 1 (λ k. refl) (λ k. absurd (<ℚ_irrefl (whole (pos most)) k))
    blocks (suc (suc zero)) h = supported_bare big_buses at_most_price all_sold (no_rows big_buses refl) refl 2 (λ k. refl) (λ k. absurd (<ℚ_irrefl (whole (pos most)) k))
    blocks (suc (suc (suc j))) h = absurd (Prim.omega arith)

all_high : ℕ → Bool
all_high j = true

-- the choice in which the first block is basic, and the others stand at their quantities
abbrev chosen : Choice
chosen = block_choice big_buses refl all_high 0 (Prim.omega arith)

all_are_sold : choice_dispatch big_buses nothing chosen ≡ all_sold
unfolding all_high
all_are_sold = block_choice_dispatch big_buses refl big_buses-market all_sold refl refl big_buses-balance all_high 0 (Prim.omega arith) each
  where
    each : (j : ℕ) → j < 3 → j ≢ 0 → accepted all_sold j ≡ (if all_high j then quantity big_buses j else whole (pos 0))
    each zero h n = refl
    each (suc zero) h n = refl
    each (suc (suc zero)) h n = refl
    each (suc (suc (suc j))) h n = absurd (Prim.omega arith)

at_that_price : choice_duals big_buses nothing chosen ≡ at_most_price
unfolding all_high
at_that_price = ap (λ e. energy_duals e []) (block_choice_energy big_buses refl big_buses-market all_sold refl refl big_buses-balance all_high 0 (Prim.omega arith))

chosen-best : IsRightChoice big_buses nothing chosen
chosen-best = record {
  feasible = subst (Feasible big_buses) (sym all_are_sold) big_buses-feasible;
  supported = subst₂ (Supports big_buses) (sym all_are_sold) (sym at_that_price) big_buses-supports;
}

-- the second sum of the welfare, and its third term
abbrev pub too_large : Passed Fraction
too_large = record { op = Plus; left = whole (neg_ℤ (pos 170141183460469231694793815568465002498)); right = whole (neg_ℤ (pos 85070591730234615847396907784232501249)) }

left_is : prefix 2 (welfare_terms big_buses all_sold) ≡ too_large.left
unfolding ◌+ℚ◌ ◌*ℚ◌ neg_ℚ over whole gcd gcd_in
left_is = same_fraction (prefix 2 (welfare_terms big_buses all_sold)) too_large.left refl refl

right_is : term_value (term_at (welfare_terms big_buses all_sold) 2) ≡ too_large.right
unfolding ◌+ℚ◌ ◌*ℚ◌ neg_ℚ over whole gcd gcd_in
right_is = same_fraction (term_value (term_at (welfare_terms big_buses all_sold) 2)) too_large.right refl refl

passes : SumPasses (2 ^ 127 - 1) too_large.left too_large.right
unfolding SumPasses lcm gcd gcd_in whole
passes = inr (inr (inl (Prim.omega arith)))

all_is : too_large.left +ℚ too_large.right ≡ prefix 3 (welfare_terms big_buses all_sold)
all_is = ap₂ ◌+ℚ◌ (sym left_is) (sym right_is) ∙ sym (prefix-more 2 (welfare_terms big_buses all_sold) (Plain (whole (pos 0))) (Prim.omega arith))

sum_is_large : IsTooLarge (2 ^ 127 - 1) (too_large.left +ℚ too_large.right)
unfolding ◌+ℚ◌ over whole gcd gcd_in
sum_is_large = inl (Prim.omega arith)

-- the welfare is a sum of money at that choice
welfare_named : NamedSum big_buses nothing chosen None (welfare_terms big_buses all_sold)
welfare_named = subst (λ (y : Dispatch). NamedSum big_buses nothing chosen None (welfare_terms big_buses y)) all_are_sold (of_welfare _ chosen-best welfare_of_all)

pub big_buses-range : IsRangeOf big_buses [] (2 ^ 127 - 1) too_large
big_buses-range =
    (law_of_the_pairs big_buses [] nothing chosen (2 ^ 127 - 1) too_large big_buses-market ([], refl, tt) (block_choice_is big_buses refl all_high 0 (Prim.omega arith))).sum None (welfare_terms big_buses all_sold) welfare_named (record {
      place = 2;
      step = record {
        inside = Prim.omega arith;
        before = inl (sym left_is);
        next = inl (sym right_is);
        after = inl all_is;
      };
      passes = passes;
      too_large = subst (IsTooLarge (2 ^ 127 - 1)) all_is sum_is_large;
    })
