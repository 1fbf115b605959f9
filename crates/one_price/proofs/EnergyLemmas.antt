-- The prices that energy may have lie side by side.
use Rattle.std.specs.Prelude.{◌≡◌, ℕ, ◌<◌, [], ◌∷◌, length, refl}
use Rattle.std.proofs.Common.{subst₂, sym}
use Rattle.fraction_theory.specs.Fraction.{Fraction, ◌+ℚ◌, ◌-ℚ◌}
use Rattle.fraction_theory.specs.Order.{◌≤ℚ◌}
use Rattle.fraction_theory.proofs.FieldLaws.{ring_ℚ}
use Rattle.fraction_theory.proofs.OrderLaws.{<ℚ-≤ℚ_trans, NonNeg-one, by_le1, ≤ℚ-<ℚ_trans}
use Rattle.fraction_theory.proofs.Ring.{at, by_ring, pone, pneg, ◌⊕◌}
use Rattle.market_model.specs.declared.answered.Duals.{Duals}
use Rattle.market_model.specs.declared.participants.Parts.{Parts}
use Rattle.market_model.specs.declared.participants.Side.{Side}
use Rattle.market_model.specs.declared.participants.Side.TheVariants.{Sell, Buy}
use Rattle.market_model.specs.Dispatch.{Dispatch, accepted, block_at, quantity, zero}
use Rattle.market_model.specs.Optimality.{BlockSupported, Gains, Loses, Supports, congestion_by, energy_worth, price, price_by, unit_price}
use Rattle.one_price.specs.FirstPrices.{with_energy}
use Rattle.one_price.specs.Laws.{LawOfEnergyBetween}

-- ---- what a unit's energy is worth at another price of energy: as much more as that price is more
beyond : (p q congestion lost room : Fraction) → ((q +ℚ congestion) +ℚ lost) -ℚ room ≡ (((p +ℚ congestion) +ℚ lost) -ℚ room) +ℚ (q -ℚ p)
beyond p q c l r =
    by_ring ring_ℚ (p ∷ q ∷ c ∷ l ∷ r ∷ []) (((at 1 ⊕ at 2) ⊕ at 3) ⊕ pneg (at 4)) ((((at 0 ⊕ at 2) ⊕ at 3) ⊕ pneg (at 4)) ⊕ (at 1 ⊕ pneg (at 0))) refl

pub worth_beyond : (m : Parts) (d : Duals Fraction) (q : Fraction) (u : ℕ) → energy_worth m (with_energy d q) u ≡ energy_worth m d u +ℚ (q -ℚ d.energy)
unfolding unit_price price_by congestion_by
worth_beyond m d q u = beyond d.energy q _ _ _

more : (w e p q : Fraction) → p ≤ℚ q → (w +ℚ (p -ℚ e)) ≤ℚ (w +ℚ (q -ℚ e))
more w e p q h = by_le1 (w ∷ e ∷ p ∷ q ∷ []) (at 0 ⊕ (at 2 ⊕ pneg (at 1))) (at 0 ⊕ (at 3 ⊕ pneg (at 1))) pone (at 2) (at 3) NonNeg-one h refl

pub worth_grows : (m : Parts) (d : Duals Fraction) (p q : Fraction) (u : ℕ) → p ≤ℚ q → energy_worth m (with_energy d p) u ≤ℚ energy_worth m (with_energy d q) u
worth_grows m d p q u h = subst₂ ◌≤ℚ◌ (sym (worth_beyond m d p u)) (sym (worth_beyond m d q u)) (more (energy_worth m d u) d.energy p q h)

-- ---- blocks
-- what gains at a worth gains at one of the two round it, and so what loses
gained : (s : Side) (c low w high : Fraction) (X : Type 0) → low ≤ℚ w → w ≤ℚ high → (Gains s c low → X) → (Gains s c high → X) → Gains s c w → X
gained Sell c low w high X h k a b g = b (<ℚ-≤ℚ_trans c w high g k)
gained Buy c low w high X h k a b g = a (≤ℚ-<ℚ_trans low w c h g)

lost : (s : Side) (c low w high : Fraction) (X : Type 0) → low ≤ℚ w → w ≤ℚ high → (Loses s c low → X) → (Loses s c high → X) → Loses s c w → X
lost Sell c low w high X h k a b g = a (≤ℚ-<ℚ_trans low w c h g)
lost Buy c low w high X h k a b g = b (<ℚ-≤ℚ_trans c w high g k)

-- a block is supported by duals at which a MW of its unit is worth no less than at some that support it, and no more than at others
pub supported_between : (m : Parts) (x : Dispatch) (low d high : Duals Fraction) (j : ℕ) → energy_worth m low (block_at m j).unit ≤ℚ energy_worth m d (block_at m j).unit
    → energy_worth m d (block_at m j).unit ≤ℚ energy_worth m high (block_at m j).unit → BlockSupported m x low j → BlockSupported m x high j → BlockSupported m x d j
supported_between m x low d high j up down a b =
    let u : ℕ = (block_at m j).unit in
    let least : Fraction = energy_worth m low u in
    let w : Fraction = energy_worth m d u in
    let most : Fraction = energy_worth m high u in
    record {
      full = gained (block_at m j).side (price m j) least w most (accepted x j ≡ quantity m j) up down a.full b.full;
      empty = lost (block_at m j).side (price m j) least w most (accepted x j ≡ zero) up down a.empty b.empty;
    }

-- duals support a dispatch at another price of energy, where its blocks are supported
pub supported_at : (m : Parts) (x : Dispatch) (d : Duals Fraction) (p : Fraction) → Supports m x d → ((j : ℕ) → j < length m.blocks → BlockSupported m x (with_energy d p) j)
    → Supports m x (with_energy d p)
supported_at m x d p holds each = record {
  blocks = each;
  rows = λ s c. let h = holds.rows s c in record { up = h.up; down = h.down };
  offers = λ n h. let o = holds.offers n h in record { full = o.full; empty = o.empty };
  need = record { sign = holds.need.sign; met = holds.need.met };
  rooms = λ u c. let h = holds.rooms u c in record { sign = h.sign; used_up = h.used_up };
}

pub law_of_energy_between : LawOfEnergyBetween
law_of_energy_between m x d p q r low high above below = supported_at m x (with_energy d p) r low
    (λ j h.
    supported_between m x (with_energy d p) (with_energy d r) (with_energy d q) j (worth_grows m d p r (block_at m j).unit above) (worth_grows m d r q (block_at m j).unit below)
    (low.blocks j h) (high.blocks j h))
