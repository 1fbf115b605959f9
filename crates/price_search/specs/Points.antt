-- A dispatch as the search for its prices is handed it, and the caps.
use Rattle.std.specs.Prelude.{◌≡◌, length, map}
use Rattle.fraction_theory.specs.Fraction.{Fraction}
use Rattle.limit_screen.specs.Flows.{flows_at}
use Rattle.market_model.specs.declared.participants.Parts.{Parts}
use Rattle.market_model.specs.Dispatch.{Dispatch, dispatch_with}
use Rattle.price_dict.specs.Reached.{AreReached}
use Rattle.price_system.specs.PriceSystem.{Caps}
use Rattle.price_search.specs.declared.point.PriceCaps.{PriceCaps}
use Rattle.price_search.specs.declared.point.PricePoint.{PricePoint}

-- these are the numbers of the dispatch, the flows that it makes, and what it reaches
pub record IsPointOf {N : Type 0} (value : N → Fraction) (m : Parts) (x : Dispatch) (p : PricePoint N) : Type 0 where
  pub blocks : length p.accepted.now ≡ length m.blocks
  pub offers : length p.reserved.now ≡ length m.reserve.offers
  pub dispatch : x ≡ dispatch_with (map value p.accepted.now) (map value p.reserved.now)
  pub flows : map value p.flows.now ≡ flows_at m x
  pub reached : AreReached m x p.reached

-- the caps that these numbers are
abbrev pub caps_at : {N : Type 0} → (N → Fraction) → PriceCaps N → Caps
caps_at value c = record { most = value c.most; factor = value c.factor; range = value c.range }
