use Rattle.std.proofs.Common.{◌∙◌, ◌++◌, List, map, ap, sym}
use Rattle.fraction_theory.specs.Fraction.{Fraction}
use Rattle.market_system.specs.MarketSystem.{objective_price, offer_columns}
use Rattle.market_dict.proofs.ColumnLists.{mapped_none}
use Rattle.market_dict.proofs.posing.first_prices.Goals as goal

pub returns : goal.returns
returns g c =
    let m = c.args.market.now in
    c.in_ok-push_offer_prices.ensures ∙ ap (λ (xs : List Fraction). xs ++ map (objective_price m) (offer_columns m)) c.in_ok-prices.ensures ∙ sym (mapped_none m (objective_price m))
