-- The caps by duals, and what is refused for them.
use Rattle.std.specs.Prelude.{◌≡◌, pos}
use Rattle.std.proofs.Common.{ap, ap₂, subst, subst₂, sym, ◌∙◌}
use Rattle.fraction_theory.specs.Fraction.{Fraction, whole, ◌+ℚ◌, ◌*ℚ◌}
use Rattle.fraction_theory.specs.Order.{◌≤ℚ◌}
use Rattle.fraction_theory.specs.Signs.{abs_ℚ}
use Rattle.fraction_theory.specs.Sums.{total}
use Rattle.fraction_theory.proofs.OrderLaws.{+ℚ-≤ℚ, ≤ℚ_refl}
use Rattle.first_prices.specs.FirstCaps.{AreCapsBy, share}
use Rattle.market_model.specs.declared.answered.Duals.{Duals}
use Rattle.market_model.specs.declared.participants.Parts.{Parts}
use Rattle.market_model.specs.Dispatch.{Dispatch}
use Rattle.market_model.specs.Market.{IsMarket}
use Rattle.market_model.specs.Optimality.{ProperDuals}
use Rattle.price_dict.specs.Reached.{reached_rows}
use Rattle.price_system.specs.PriceSystem.{Caps}
use Rattle.price_search.specs.Caps.{ArePriceCaps, IsFactor, IsGreatestFactor, IsRoundedUp, named_price_terms}
use Rattle.price_search.proofs.CapSums.{prices_all}
use Rattle.price_search.proofs.GreatestLemmas.{sized}

-- ---- what prices of a sum make of a MW, and twice that
pub share_is : (most factor all one part : Fraction) → one ≡ whole (pos 1) → all ≡ one +ℚ factor → part ≡ most *ℚ all → part ≡ share most factor
share_is most factor all one part is more made = made ∙ ap (λ t. most *ℚ t) (more ∙ ap (λ t. t +ℚ factor) is)

pub twice : (most factor part both : Fraction) → part ≡ share most factor → both ≡ part +ℚ part → both ≡ share most factor +ℚ share most factor
twice most factor part both e made = made ∙ ap₂ ◌+ℚ◌ e e

-- ---- the caps
module _ (m : Parts) (x : Dispatch) (d : Duals Fraction) (c : Caps) (sum own energy both : Fraction) (sums : sum ≡ total (named_price_terms d)) (size : own ≡ abs_ℚ d.energy)
    (shares : both ≡ share c.most c.factor +ℚ share c.most c.factor) (range : c.range ≡ energy +ℚ both) where
  pub are_caps : IsMarket m → ProperDuals m d → sum ≤ℚ c.most → (f : Fraction) → IsGreatestFactor m (reached_rows m x) f → f ≤ℚ c.factor → own ≤ℚ energy → AreCapsBy m x d c
  are_caps market proper most f is more least = record {
    factors = sized m x f c.factor is more;
    sums = subst (λ t. t ≤ℚ c.most) (sums ∙ prices_all m market d proper) most;
    range = subst₂ ◌≤ℚ◌ (ap₂ ◌+ℚ◌ size shares) (sym range) (+ℚ-≤ℚ own energy both both least (≤ℚ_refl both));
  }

  pub told_caps : IsRoundedUp sum c.most → IsFactor m x c.factor → IsRoundedUp own energy → ArePriceCaps m x d c
  told_caps most factor rounded = record {
    most = subst (λ t. IsRoundedUp t c.most) sums most;
    factor = factor;
    energy = energy;
    sized = subst (λ t. IsRoundedUp t energy) size rounded;
    range = range ∙ ap (λ t. energy +ℚ t) shares;
  }
