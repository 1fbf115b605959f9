-- What units are paid for a MW, where prices by bus are those of duals.
use Rattle.std.specs.Prelude.{◌≡◌, ℕ, ◌<◌, ◌++◌, ◌∷◌, pos, length, map, filter}
use Rattle.std.proofs.Common.{ap, ap₂}
use Rattle.fraction_theory.specs.Fraction.{Fraction, neg_ℚ, ◌*ℚ◌}
use Rattle.fraction_theory.specs.Sums.{Plain, Product, total}
use Rattle.market_model.specs.declared.answered.Duals.{Duals}
use Rattle.market_model.specs.declared.participants.Parts.{Parts}
use Rattle.market_model.specs.Dispatch.{Dispatch, unit_at, output, demand, places}
use Rattle.market_model.specs.LimitRows.{loses_unit, row_pickup, rows}
use Rattle.market_model.specs.Market.{IsMarket}
use Rattle.market_model.specs.Optimality.{bus_price, net_shadow_price, own_price, own_terms, ArePricesOf}
use Rattle.market_model.specs.Settlement.{surplus_terms_by, surplus_terms, paid_terms, pay_of_load, pay_of_unit}
use Rattle.market_model.proofs.PlaceLists.{map_same}
use Rattle.market_model.specs.declared.answered.Load.{Load}
use Rattle.market_model.specs.declared.answered.UnitPay.{UnitPay}
use Rattle.market_model.proofs.ListSteps.{map-map}

-- what loads pay less what units are paid, term by term
pub surplus_terms-made : (m : Parts) (x : Dispatch) (price : ℕ → Fraction) (d : Duals Fraction)
    → surplus_terms_by m x price d ≡ map (λ i. Plain (price i *ℚ demand m i)) (places (length m.buses)) ++ map (λ u. Plain (neg_ℚ (own_price m d price u *ℚ output m x u))) (places (length m.units))
surplus_terms-made m x price d =
    ap₂ ◌++◌ (map-map (pay_of_load m price) (λ (l : Load Fraction). Plain l.pays) (places (length m.buses)))
    (map-map (pay_of_unit m x price d) (λ (u : UnitPay Fraction). Plain (neg_ℚ u.paid)) (places (length m.units)))

module _ (m : Parts) (d : Duals Fraction) (price : ℕ → Fraction) (market : IsMarket m) (priced : ArePricesOf m d price) where
  -- the terms of a unit's own price are those of the duals
  pub own_at : (u : ℕ) → u < length m.units → own_terms m d price u ≡ own_terms m d (bus_price m d) u
  own_at u lt =
      ap (λ t. Plain t ∷ map (λ r. Product (neg_ℚ (net_shadow_price m d r)) (row_pickup m r.line r.cause)) (filter (λ r. loses_unit m u r.cause) (rows m)))
      (priced (unit_at m u).bus (market.units u (record { row = 0; bus = 0; fixed = pos 0; up = pos 0; down = pos 0 }) lt).bus)

  -- and so is that price
  pub at_unit : (u : ℕ) → u < length m.units → own_price m d price u ≡ own_price m d (bus_price m d) u
  at_unit u lt = ap total (own_at u lt)

  -- and so is what loads and units pay and are paid
  pub loads_same : map (pay_of_load m price) (places (length m.buses)) ≡ map (pay_of_load m (bus_price m d)) (places (length m.buses))
  loads_same = map_same (pay_of_load m price) (pay_of_load m (bus_price m d)) (length m.buses) (λ i lt. ap (λ t. record { mw = demand m i; pays = t *ℚ demand m i }) (priced i lt))

  pub units_same : (x : Dispatch) → map (pay_of_unit m x price d) (places (length m.units)) ≡ map (pay_of_unit m x (bus_price m d) d) (places (length m.units))
  units_same x = map_same (pay_of_unit m x price d) (pay_of_unit m x (bus_price m d) d) (length m.units) (λ u lt. ap (λ t. record { mw = output m x u; paid = t *ℚ output m x u }) (at_unit u lt))

  -- and what is left is the surplus of the duals
  pub left_at : (x : Dispatch) → surplus_terms_by m x price d ≡ surplus_terms m x d
  left_at x = ap₂ paid_terms loads_same (units_same x)
