-- The prices and bounds of a market's dictionary, one after the other.
use Rattle.std.specs.Prelude.{◌≡◌, ℕ}
use Rattle.std.proofs.Common.{ap, ◌∙◌}
use Rattle.fraction_theory.specs.Fraction.{Fraction, whole, neg_ℚ}
use Rattle.market_model.specs.declared.participants.Block.{Block}
use Rattle.market_model.specs.declared.participants.Parts.{Parts}
use Rattle.market_model.specs.Dispatch.{signed_by_side, block_at, quantity}

-- ---- a block's price and quantity
pub priced : (m : Parts) (k : ℕ) (block : Block) (price : Fraction) → block ≡ block_at m k → price ≡ neg_ℚ (signed_by_side block.side (whole block.price)) → price ≡ neg_ℚ (signed_by_side (block_at m k).side (whole (block_at m k).price))
priced m k block price at e = e ∙ ap (λ (b : Block). neg_ℚ (signed_by_side b.side (whole b.price))) at

pub quantity_read : (m : Parts) (k : ℕ) (block : Block) (high : Fraction) → block ≡ block_at m k → high ≡ whole block.quantity → high ≡ quantity m k
quantity_read m k block high at e = e ∙ ap (λ (b : Block). whole b.quantity) at
