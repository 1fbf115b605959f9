-- Dispatches of whole numbers: bounds and support by the order of whole numbers.
use Rattle.std.specs.Prelude.{◌≡◌, ℕ, ◌<◌, [], ℤ, pos, ◌≤ℤ◌, ◌<ℤ◌, length}
use Rattle.std.proofs.Common.{arith, ap, sym, ◌∙◌, subst}
use Rattle.std.proofs.lemmas.Int.{ints}
use Rattle.fraction_theory.specs.Fraction.{Fraction, whole}
use Rattle.fraction_theory.specs.Order.{◌≤ℚ◌, ◌<ℚ◌}
use Rattle.fraction_theory.proofs.OrderLaws.{whole-≤ℚ}
use Rattle.market_model.specs.declared.participants.Side.{Side}
use Rattle.market_model.specs.declared.participants.Side.TheVariants.{Sell, Buy}
use Rattle.market_model.specs.declared.participants.Parts.{Parts}
use Rattle.market_model.specs.declared.answered.Duals.{Duals}
use Rattle.market_model.specs.Dispatch.{Dispatch, IsDispatch, block_at, accepted}
use Rattle.market_model.specs.Optimality.{BlockSupported, Gains, Loses}
use Rattle.market_model.specs.LimitRows.{rows}
use Rattle.market_model.specs.Reserves.{no_reserve}
use Rattle.market_model.proofs.EnergyAlone.{is_energy_dispatch}
use Rattle.market_model.proofs.RowLaws.{supported_bare}

-- the order of whole numbers, from that of their fractions and to it
pub whole-<ℚ : (m n : ℤ) → m <ℤ n → whole m <ℚ whole n
unfolding whole
whole-<ℚ m n h = record { cross = Prim.omega (arith, ints) }

pub from_whole-<ℚ : (m n : ℤ) → whole m <ℚ whole n → m <ℤ n
unfolding whole
from_whole-<ℚ m n h = Prim.omega (arith, ints, h.cross)

pub from_whole-≤ℚ : (m n : ℤ) → whole m ≤ℚ whole n → m ≤ℤ n
unfolding whole
from_whole-≤ℚ m n h = Prim.omega (arith, ints, h.cross)

-- as `Gains` and `Loses`, of whole numbers
abbrev pub whole_gains : Side → ℤ → ℤ → Type 0
whole_gains Sell price worth = price <ℤ worth
whole_gains Buy price worth = worth <ℤ price

abbrev pub whole_loses : Side → ℤ → ℤ → Type 0
whole_loses Sell price worth = worth <ℤ price
whole_loses Buy price worth = price <ℤ worth

pub gains-from_whole : (side : Side) (price worth : ℤ) → Gains side (whole price) (whole worth) → whole_gains side price worth
gains-from_whole Sell price worth h = from_whole-<ℚ price worth h
gains-from_whole Buy price worth h = from_whole-<ℚ worth price h

pub loses-from_whole : (side : Side) (price worth : ℤ) → Loses side (whole price) (whole worth) → whole_loses side price worth
loses-from_whole Sell price worth h = from_whole-<ℚ worth price h
loses-from_whole Buy price worth h = from_whole-<ℚ price worth h

-- a block that takes a whole number is supported by a whole price of energy where it is by whole numbers, in a market without rows
pub block_supported-by_whole : (m : Parts) (d : Duals Fraction) (x : Dispatch) (j : ℕ) (energy taken : ℤ) → rows m ≡ [] → m.reserve ≡ no_reserve → d.energy ≡ whole energy → accepted x j ≡ whole taken
    → (whole_gains (block_at m j).side (block_at m j).price energy → taken ≡ (block_at m j).quantity)
    → (whole_loses (block_at m j).side (block_at m j).price energy → taken ≡ pos 0) → BlockSupported m x d j
block_supported-by_whole m d x j energy taken bare alone e f full empty =
    supported_bare m d x bare alone j
    (λ g. f ∙ ap whole (full (gains-from_whole (block_at m j).side (block_at m j).price energy (subst (λ t. Gains (block_at m j).side (whole (block_at m j).price) t) e g))))
    (λ g. f ∙ ap whole (empty (loses-from_whole (block_at m j).side (block_at m j).price energy (subst (λ t. Loses (block_at m j).side (whole (block_at m j).price) t) e g))))

-- whole numbers within the blocks' bounds are a dispatch
pub is_dispatch-by_whole : (m : Parts) (x : Dispatch) (taken : ℕ → ℤ) → m.reserve ≡ no_reserve → x.reserve ≡ [] → length x.blocks ≡ length m.blocks
    → ((j : ℕ) → j < length m.blocks → accepted x j ≡ whole (taken j))
    → ((j : ℕ) → j < length m.blocks → pos 0 ≤ℤ taken j) → ((j : ℕ) → j < length m.blocks → taken j ≤ℤ (block_at m j).quantity) → IsDispatch m x
is_dispatch-by_whole m x taken alone none count same above within =
    is_energy_dispatch m alone x none count
    (λ j lt. subst (λ t. whole (pos 0) ≤ℚ t) (sym (same j lt)) (whole-≤ℚ (pos 0) (taken j) (above j lt)))
    (λ j lt. subst (λ t. t ≤ℚ whole (block_at m j).quantity) (sym (same j lt)) (whole-≤ℚ (taken j) (block_at m j).quantity (within j lt)))
