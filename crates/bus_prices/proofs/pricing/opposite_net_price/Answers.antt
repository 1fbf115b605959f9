use Rattle.std.proofs.Common.{◌∙◌}
use Rattle.fraction_theory.proofs.SignLaws.{sign_of_is}
use Rattle.fraction_theory.specs.declared.Sign.TheVariants.{Zero}
use Rattle.market_model.specs.Valued.{dual_at}
use Rattle.market_model.proofs.OneSidedDuals.{not_zero_side}
use Rattle.bus_prices.proofs.PriceLemmas.{lower_alone, upper_alone}
use Rattle.bus_prices.proofs.pricing.opposite_net_price.Goals as goal

pub returns-in-Zero : goal.returns-in-Zero
returns-in-Zero g c = c.neg.ensures ∙ lower_alone (g.N.Exact.value c.args.dual.now.up) (g.N.Exact.value c.args.dual.now.down) (sign_of_is (g.N.Exact.value c.args.dual.now.down) Zero c.in-Zero.ensures)

pub returns-in-Below : goal.returns-in-Below
returns-in-Below g c =
    upper_alone (g.N.Exact.value c.args.dual.now.up) (g.N.Exact.value c.args.dual.now.down)
    (not_zero_side (dual_at g.N.Exact.value c.args.dual.now) c.sign.result c.requires c.sign.ensures c.in-Below.is)
