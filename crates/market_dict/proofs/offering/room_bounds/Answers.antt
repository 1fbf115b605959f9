use Rattle.std.proofs.Common.{◌∙◌, [], ◌∷◌, ap}
use Rattle.fraction_theory.specs.Fraction.{Fraction, neg_ℚ}
use Rattle.market_model.proofs.RoomLemmas.{listed-inside}
use Rattle.market_dict.proofs.offering.room_bounds.Goals as goal

pub room_down-down-requires : goal.room_down-down-requires
room_down-down-requires g c = listed-inside c.args.market.now c.args.unit c.requires

pub room_quantity-requires : goal.room_quantity-requires
room_quantity-requires g c = listed-inside c.args.market.now c.args.unit c.requires

pub returns : goal.returns
returns g c = record {
  lows = ap (λ (x : Fraction). x ∷ []) (c.neg.ensures ∙ ap neg_ℚ c.room_down-down.ensures);
  highs = ap (λ (x : Fraction). x ∷ []) c.room_quantity.ensures.room;
}
