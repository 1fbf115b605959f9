-- Spinning reserve: what units keep ready beside what they put out, of which so much is needed.
-- Wood and Wollenberg, Power Generation, Operation and Control: spinning reserve. A unit's energy and its reserve share its room.
use Rattle.std.specs.Prelude.{◌==◌, ◌||◌, ℕ, pos, Bool, false, List, [], ◌∷◌, ◌++◌, length, map, filter, Contains}
use Rattle.fraction_theory.specs.Fraction.{Fraction, whole, neg_ℚ}
use Rattle.fraction_theory.specs.Order.{◌≤ℚ◌, ◌<ℚ◌}
use Rattle.fraction_theory.specs.Sums.{Term, Plain, Product, total}
use Rattle.market_model.specs.declared.participants.Parts.{Parts}
use Rattle.market_model.specs.declared.participants.Reserve.{Reserve}
use Rattle.market_model.specs.declared.participants.ReserveOffer.{ReserveOffer}
use Rattle.market_model.specs.Dispatch.{Dispatch, places, offer_at, unit_at, blocks_of, block_term, reserved}

-- that of a market of energy alone: it is not listed, none is offered and none is needed
abbrev pub no_reserve : Reserve
no_reserve = record { listed = false; offers = []; need = pos 0 }

-- how much is needed in all
abbrev pub reserve_need : Parts → Fraction
reserve_need m = whole m.reserve.need

abbrev pub offer_price : Parts → ℕ → Fraction
offer_price m n = whole (offer_at m n).price

-- the offers, by place
abbrev pub offer_places : Parts → List ℕ
offer_places m = places (length m.reserve.offers)

-- whether a unit offers reserve
abbrev pub offers_among : List ReserveOffer → ℕ → Bool
offers_among [] u = false
offers_among (o ∷ os) u = (o.unit == u) || offers_among os u

abbrev pub offers_reserve : Parts → ℕ → Bool
offers_reserve m u = offers_among m.reserve.offers u

-- the units that do, in the order of the units
abbrev pub reserve_units : Parts → List ℕ
reserve_units m = filter (offers_reserve m) (places (length m.units))

-- the offers of a unit
abbrev pub offers_of : Parts → ℕ → List ℕ
offers_of m u = filter (λ n. (offer_at m n).unit == u) (offer_places m)

-- ---- at a dispatch
abbrev pub reserved_term : Dispatch → ℕ → Term
reserved_term x n = Plain (reserved x n)

-- the reserve that is accepted in all
abbrev pub reserve_terms : Parts → Dispatch → List Term
reserve_terms m x = map (reserved_term x) (offer_places m)

unfoldable pub reserve : Parts → Dispatch → Fraction
reserve m x = total (reserve_terms m x)

-- what a unit uses of its room: what it sells, less what it buys, and its reserve
abbrev pub room_terms : Parts → Dispatch → ℕ → List Term
room_terms m x u = map (block_term m x) (blocks_of m u) ++ map (reserved_term x) (offers_of m u)

unfoldable pub room_used : Parts → Dispatch → ℕ → Fraction
room_used m x u = total (room_terms m x u)

-- its room: by how much it may raise its fixed part in all
abbrev pub room : Parts → ℕ → Fraction
room m u = whole (unit_at m u).up

-- a unit uses more than its room
abbrev pub IsRoomPassed : Parts → Dispatch → ℕ → Type 0
IsRoomPassed m x u = room m u <ℚ room_used m x u

-- these units use no more than their rooms
abbrev pub KeepRooms : Parts → List ℕ → Dispatch → Type 0
KeepRooms m us x = (u : ℕ) → Contains us u → room_used m x u ≤ℚ room m u

-- what the accepted reserve costs
abbrev pub reserve_cost_terms : Parts → Dispatch → List Term
reserve_cost_terms m x = map (λ n. Product (neg_ℚ (offer_price m n)) (reserved x n)) (offer_places m)
