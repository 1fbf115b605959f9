use Rattle.std.proofs.Common.{◌∙◌, ◌++◌, List, map, ap, sym}
use Rattle.fraction_theory.specs.Fraction.{Fraction}
use Rattle.market_system.specs.MarketSystem.{low as low_of, high as high_of, offer_columns}
use Rattle.market_dict.proofs.ColumnLists.{mapped_none}
use Rattle.market_dict.proofs.posing.first_column_bounds.Goals as goal

pub returns : goal.returns
returns g c =
    let m = c.args.market.now in
    record {
      lows = c.in_ok-push_offer_bounds.ensures.lows ∙ ap (λ (xs : List Fraction). xs ++ map (low_of m) (offer_columns m)) c.in_ok-bounds.ensures.lows ∙ sym (mapped_none m (low_of m));
      highs = c.in_ok-push_offer_bounds.ensures.highs ∙ ap (λ (xs : List Fraction). xs ++ map (high_of m) (offer_columns m)) c.in_ok-bounds.ensures.highs ∙ sym (mapped_none m (high_of m));
    }
