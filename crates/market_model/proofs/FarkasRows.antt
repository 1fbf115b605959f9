-- Worked rows of infeasible markets: the bounds are the numbers that were worked out by hand.
use Rattle.std.specs.Prelude.{◌≡◌, ◌*◌, ◌^◌, ℤ, pos, negsuc, neg_ℤ, [], ◌∷◌, refl}
use Rattle.fraction_theory.specs.Divisors.{gcd, gcd_in}
use Rattle.fraction_theory.specs.Fraction.{Fraction, whole, over, ◌+ℚ◌, ◌*ℚ◌, neg_ℚ, same_fraction}
use Rattle.fraction_theory.specs.Signs.{sign_of}
use Rattle.market_model.specs.declared.participants.Parts.{Parts}
use Rattle.market_model.specs.declared.answered.Duals.{Duals}
use Rattle.market_model.specs.Dispatch.{injection, balance}
use Rattle.market_model.specs.Optimality.{congestion_by, price_by, unit_price}
use Rattle.market_model.specs.Valued.{energy_duals}
use Rattle.market_model.specs.LimitRows.{rows}
use Rattle.market_model.specs.Infeasibility.{farkas_bound}
use Rattle.market_model.proofs.Rows.{short}
use Rattle.market_model.specs.Market.{bare_parts}

-- a plain price of energy, and no limit that has one
abbrev energy_at : ℤ → Duals Fraction
energy_at e = energy_duals (whole e) []

-- The short row: all that can be sold leaves 50 MW of the load.
short-bound : farkas_bound short (energy_at (pos 1)) ≡ whole (neg_ℤ (pos (50 * 10 ^ 9)))
unfolding farkas_bound unit_price balance injection price_by congestion_by rows sign_of ◌+ℚ◌ ◌*ℚ◌ neg_ℚ over whole gcd gcd_in
short-bound = same_fraction (farkas_bound short (energy_at (pos 1))) (whole (neg_ℤ (pos (50 * 10 ^ 9)))) refl refl

-- The row of a unit that is held at 60 MW, with no blocks: with a load of 10^-9 MW more the bound is that, below 0.
abbrev held : ℤ → Parts
held load = bare_parts
    (record { number = 1; pd = pos 0; gs = pos 0 } ∷ record { number = 2; pd = load; gs = pos 0 } ∷ [])
    (record { row = 1; bus = 0; fixed = pos (60 * 10 ^ 9); up = pos 0; down = pos 0 } ∷ [])
    []

held-bound : farkas_bound (held (pos 60000000001)) (energy_at (pos 1)) ≡ whole (negsuc 0)
unfolding farkas_bound unit_price balance injection congestion_by price_by rows ◌+ℚ◌ ◌*ℚ◌ neg_ℚ over whole gcd gcd_in
held-bound = same_fraction (farkas_bound (held (pos 60000000001)) (energy_at (pos 1))) (whole (negsuc 0)) refl refl

held-bound-over : farkas_bound (held (pos 0)) (energy_at (negsuc 0)) ≡ whole (neg_ℤ (pos (60 * 10 ^ 9)))
unfolding farkas_bound unit_price balance injection congestion_by price_by rows ◌+ℚ◌ ◌*ℚ◌ neg_ℚ over whole gcd gcd_in
held-bound-over = same_fraction (farkas_bound (held (pos 0)) (energy_at (negsuc 0))) (whole (neg_ℤ (pos (60 * 10 ^ 9)))) refl refl
