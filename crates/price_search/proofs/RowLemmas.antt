-- Rows that are reached, and what is refused for their flows.
use Rattle.std.specs.Prelude.{◌≡◌, ℕ, ◌<◌, Bool, List, Contains, if◌then◌else◌, length, map, slice_index_or}
use Rattle.std.proofs.Common.{◌∙◌, ap, sym}
use Rattle.fraction_theory.specs.Fraction.{Fraction, neg_ℚ, whole}
use Rattle.fraction_theory.proofs.ListSums.{Contains-from_filter}
use Rattle.exact_fraction.specs.declared.Passed.{Passed}
use Rattle.market_model.specs.declared.limits.Row.{Row}
use Rattle.market_model.specs.declared.participants.Parts.{Parts}
use Rattle.market_model.specs.Dispatch.{Dispatch, accepted, block_at, offer_at, quantity, reserve_quantity, reserved, zero}
use Rattle.market_model.specs.LimitRows.{carried, flow, limit, rows}
use Rattle.market_model.specs.Market.{IsMarket}
use Rattle.market_model.specs.SumTables.{IsFlowRefusal}
use Rattle.limit_screen.specs.Flows.{carried_at, flows_at}
use Rattle.limit_screen.specs.Reaching.{reaches}
use Rattle.limit_screen.proofs.ScreenLemmas.{flow_refusal_same, row_terms}
use Rattle.std.proofs.Common.{get_or}
use Rattle.std.proofs.lemmas.List.{get_or-map}
use Rattle.market_model.specs.declared.participants.Block.{Block}
use Rattle.market_model.specs.declared.participants.ReserveOffer.{ReserveOffer}
use Rattle.market_model.specs.declared.participants.Side.{Side}
use Rattle.market_model.specs.declared.participants.Side.TheVariants.{Sell}
use Rattle.market_model.specs.Optimality.{price}
use Rattle.market_model.specs.Reserves.{offer_price, reserve_units}
use Rattle.limit_screen.specs.Reaching.{are_same, used_up_units, uses_up}
use Rattle.price_system.specs.PriceSystem.{Caps, most_room_price}
use Rattle.price_dict.specs.Reached.{reached_rows}

pub is_row : (m : Parts) (x : Dispatch) (r : Row) → Contains (reached_rows m x) r → Contains (rows m) r
is_row m x r c = (Contains-from_filter (λ q. reaches (flow m x q) (limit m q)) (rows m) r c).0

pub refused_there : (m : Parts) (x : Dispatch) (fs : List Fraction) → fs ≡ flows_at m x → (r : Row) (bound : ℕ) (p : Passed Fraction) → IsMarket m → Contains (reached_rows m x) r
    → IsFlowRefusal m (carried_at m fs) r bound p → IsFlowRefusal m (carried m x) r bound p
refused_there m x fs is r bound p market c h = flow_refusal_same m (carried_at m fs) (carried m x) r bound p (row_terms m x fs is r market (is_row m x r c)) h

-- a room that is used up
pub room_low : (m : Parts) (x : Dispatch) (c : Caps) (u : ℕ) → Contains (used_up_units m x) u → neg_ℚ c.most ≡ neg_ℚ (most_room_price m x c u)
room_low m x c u among = ap (λ (b : Bool). neg_ℚ (if b then c.most else zero)) (sym (Contains-from_filter (uses_up m x) (reserve_units m) u among).1)

-- numbers that are read
pub read_at : {N : Type 0} (value : N → Fraction) (xs : List N) (k : ℕ) (d : N) → k < length xs → value (get_or xs k d) ≡ slice_index_or (map value xs) k zero
read_at value xs k d lt = sym (get_or-map value xs k d zero lt)

-- a bound of what a MW is worth, by what was read
module _ (F : Side → Bool → Bool → Fraction → Fraction → Fraction) (m : Parts) (x : Dispatch) (k : ℕ) (a q p cap l : Fraction) where
  pub block_worth : (b : Block) (most : Fraction) → b ≡ block_at m k → a ≡ accepted x k → q ≡ whole b.quantity → p ≡ whole b.price → cap ≡ most → l ≡ F b.side (are_same a zero) (are_same a q) p cap
      → l ≡ F (block_at m k).side (are_same (accepted x k) zero) (are_same (accepted x k) (quantity m k)) (price m k) most
  block_worth b most at ea eq ep ec e =
      e ∙ ap (λ (t : Fraction). F b.side (are_same a zero) (are_same a t) p cap) eq ∙ ap (λ (t : Fraction). F b.side (are_same a zero) (are_same a (whole b.quantity)) t cap) ep
      ∙ ap (λ (t : Block). F t.side (are_same a zero) (are_same a (whole t.quantity)) (whole t.price) cap) at
      ∙ ap (λ (t : Fraction). F (block_at m k).side (are_same t zero) (are_same t (quantity m k)) (price m k) cap) ea
      ∙ ap (λ (t : Fraction). F (block_at m k).side (are_same (accepted x k) zero) (are_same (accepted x k) (quantity m k)) (price m k) t) ec

  pub offer_worth : (o : ReserveOffer) → o ≡ offer_at m k → a ≡ reserved x k → q ≡ whole o.quantity → p ≡ whole o.price → l ≡ F Sell (are_same a zero) (are_same a q) p cap
      → l ≡ F Sell (are_same (reserved x k) zero) (are_same (reserved x k) (reserve_quantity m k)) (offer_price m k) cap
  offer_worth o at ea eq ep e =
      e ∙ ap (λ (t : Fraction). F Sell (are_same a zero) (are_same a t) p cap) eq ∙ ap (λ (t : Fraction). F Sell (are_same a zero) (are_same a (whole o.quantity)) t cap) ep
      ∙ ap (λ (t : ReserveOffer). F Sell (are_same a zero) (are_same a (whole t.quantity)) (whole t.price) cap) at
      ∙ ap (λ (t : Fraction). F Sell (are_same t zero) (are_same t (reserve_quantity m k)) (offer_price m k) cap) ea
