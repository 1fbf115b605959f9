-- The reasons that there may be against a certificate of a market, and the first of them.
-- Source: own, of what is feasible, what duals support and what shows a market infeasible.
use Rattle.std.specs.Prelude.{◌≡◌, ℕ, ◌+◌, ◌==◌, ◌&&◌, ◌||◌, ◌*ℤ◌, pos, int_lt, Bool, not, List, [], ◌∷◌, ◌++◌, length, Option, Some, None, option_map, if◌then◌else◌}
use Rattle.std.specs.List.{find, list_any}
use Rattle.std.specs.Option.{option_or}
use Rattle.fraction_theory.specs.Fraction.{Fraction, neg_ℚ}
use Rattle.market_data.specs.Scales.{place_count}
use Rattle.market_data.specs.declared.scales.FactorPlaces.{FactorPlaces}
use Rattle.market_model.specs.declared.answered.Dual.{Dual}
use Rattle.market_model.specs.declared.answered.Duals.{Duals}
use Rattle.market_model.specs.declared.participants.Parts.{Parts}
use Rattle.market_model.specs.declared.participants.Side.{Side}
use Rattle.market_model.specs.declared.participants.Side.TheVariants.{Sell, Buy}
use Rattle.market_model.specs.declared.answered.RoomDual.{RoomDual}
use Rattle.market_model.specs.Dispatch.{Dispatch, zero, places, block_at, unit_at, offer_at, accepted, quantity, reserved, reserve_quantity, balance}
use Rattle.market_model.specs.Infeasibility.{farkas_bound}
use Rattle.market_model.specs.declared.limits.Row.{Row}
use Rattle.market_model.specs.LimitRows.{rows, row_id, limit, most_flow, flow, penalty}
use Rattle.market_model.specs.Optimality.{price, energy_worth, reserve_worth, names_room, names_row}
use Rattle.market_model.specs.Reserves.{offer_places, offer_price, reserve, reserve_need, reserve_units, room, room_used}
use Rattle.limit_rows.specs.Naming.{has_name}
use Rattle.cert_verify.specs.declared.verdicts.Reason.{Reason}
use Rattle.cert_verify.specs.declared.verdicts.Reason.TheVariants as reason
use Rattle.cert_verify.specs.declared.verdicts.Verdict.{Verdict}
use Rattle.cert_verify.specs.declared.verdicts.Verdict.TheVariants as verdict

-- ---- numbers
-- whether x is below y, by cross multiplication
unfoldable pub is_below : Fraction → Fraction → Bool
is_below x y = int_lt (x.num *ℤ pos y.den) (y.num *ℤ pos x.den)

abbrev pub differ : Fraction → Fraction → Bool
differ x y = is_below x y || is_below y x

-- a flow passes a limit on either side
abbrev pub passes : Fraction → Fraction → Bool
passes flow limit = is_below flow (neg_ℚ limit) || is_below limit flow

-- accepted MW are none of a quantity
abbrev pub is_outside : Fraction → Fraction → Bool
is_outside mw quantity = is_below mw zero || is_below quantity mw

abbrev pub has_negative : Dual Fraction → Bool
has_negative e = is_below e.up zero || is_below e.down zero

-- more of a block of this side and price gains, where a MW of its unit is worth `worth`; any of it loses
abbrev pub is_gaining : Side → Fraction → Fraction → Bool
is_gaining Sell price worth = is_below price worth
is_gaining Buy price worth = is_below worth price

abbrev pub is_losing : Side → Fraction → Fraction → Bool
is_losing Sell price worth = is_below worth price
is_losing Buy price worth = is_below price worth

-- it gains and is not accepted whole, or loses and is accepted
abbrev pub breaks_support : Side → Fraction → Fraction → Fraction → Fraction → Bool
breaks_support side price worth quantity mw = (is_gaining side price worth && differ mw quantity) || (is_losing side price worth && differ mw zero)

-- ---- the same of a market
abbrev pub has_no_row : Parts → Dual Fraction → Bool
has_no_row m e = not (list_any (has_name m e.row) (rows m))

-- the flow of a row passes the most that it may be
abbrev pub is_overloaded : Parts → Dispatch → Row → Bool
is_overloaded m x r = passes (flow m x r) (most_flow m r)

-- a price of one side of a limit does not support the flow towards that side: it is of a flow that does not reach the limit, less than
-- the penalty of one that exceeds it, or more than that of one that has excess left
abbrev pub breaks_side : Parts → Row → Fraction → Fraction → Bool
breaks_side m r price f =
    (is_below zero price && is_below f (limit m r))
    || (is_below (limit m r) f && is_below price (penalty m r))
    || (is_below (penalty m r) price && differ f (most_flow m r))

-- one of two prices of a row does not
abbrev pub breaks_row : Parts → Row → Fraction → Fraction → Fraction → Bool
breaks_row m r up down f = breaks_side m r up f || breaks_side m r down (neg_ℚ f)

abbrev pub has_slack : Parts → Dispatch → Dual Fraction → Bool
has_slack m x e = list_any (λ r. has_name m e.row r && breaks_row m r e.up e.down (flow m x r)) (rows m)

-- a row that no dual names has no price, and its flow exceeds its limit all the same
abbrev pub is_unpriced : Parts → Dispatch → List (Dual Fraction) → Row → Bool
is_unpriced m x ds r = not (names_row ds (row_id m r)) && breaks_row m r zero zero (flow m x r)

abbrev pub is_beyond : Parts → Dispatch → ℕ → Bool
is_beyond m x j = is_outside (accepted x j) (quantity m j)

abbrev pub is_unsupported : Parts → Dispatch → Duals Fraction → ℕ → Bool
is_unsupported m x d j = breaks_support (block_at m j).side (price m j) (energy_worth m d (block_at m j).unit) (quantity m j) (accepted x j)

-- ---- and of its reserve
-- the unit of that gen row offers reserve
abbrev pub has_offer : Parts → ℕ → Bool
has_offer m row = list_any (λ u. (unit_at m u).row == row) (reserve_units m)

abbrev pub is_offer_beyond : Parts → Dispatch → ℕ → Bool
is_offer_beyond m x n = is_outside (reserved x n) (reserve_quantity m n)

-- an offer is as a sell
abbrev pub is_offer_unsupported : Parts → Dispatch → Duals Fraction → ℕ → Bool
is_offer_unsupported m x d n = breaks_support Sell (offer_price m n) (reserve_worth m d (offer_at m n).unit) (reserve_quantity m n) (reserved x n)

-- more than the room of a unit is used of it
abbrev pub is_overfull : Parts → Dispatch → ℕ → Bool
is_overfull m x u = is_below (room m u) (room_used m x u)

-- a price above 0 of what is not used up
abbrev pub is_slack : Fraction → Fraction → Fraction → Bool
is_slack price used all = is_below zero price && differ used all

abbrev pub has_room_slack : Parts → Dispatch → RoomDual Fraction → Bool
has_room_slack m x e = list_any (λ u. ((unit_at m u).row == e.unit) && is_slack e.price (room_used m x u) (room m u)) (reserve_units m)

-- ---- reasons, each of the first place that has it
-- the reason of the first that a test finds
abbrev pub of_first : {X : Type 0} → (X → Reason) → (X → Bool) → List X → Option Reason
of_first because test xs = option_map because (find test xs)

-- that, where this is so
abbrev pub where_so : Bool → Reason → Option Reason
where_so so because = if so then Some because else None

-- factors had other places than the market's
abbrev pub places_reason : Parts → FactorPlaces → Option Reason
places_reason m had = where_so (not (place_count had == place_count m.factor_places)) reason.Places

abbrev pub count_reason : Parts → Dispatch → Option Reason
count_reason m x = where_so (not ((length x.blocks == length m.blocks) && (length x.reserve == length m.reserve.offers))) reason.Count

abbrev pub row_reason : Parts → List (Dual Fraction) → Option Reason
row_reason m ds = of_first (λ e. reason.NoRow e.row) (has_no_row m) ds

-- a unit whose room is named offers no reserve, or is named again
abbrev pub unit_reason : Parts → List (RoomDual Fraction) → Option Reason
unit_reason m [] = None
unit_reason m (e ∷ es) = if not (has_offer m e.unit) || names_room es e.unit then Some (reason.NoUnit e.unit) else unit_reason m es

abbrev pub sign_reason : List (Dual Fraction) → Option Reason
sign_reason ds = of_first (λ e. reason.Sign e.row) has_negative ds

abbrev pub need_sign_reason : Fraction → Option Reason
need_sign_reason price = where_so (is_below price zero) reason.NeedSign

abbrev pub room_sign_reason : List (RoomDual Fraction) → Option Reason
room_sign_reason ds = of_first (λ e. reason.RoomSign e.unit) (λ e. is_below e.price zero) ds

abbrev pub block_reason : Parts → Dispatch → Option Reason
block_reason m x = of_first (λ j. reason.Block (j + 1)) (is_beyond m x) (places (length m.blocks))

abbrev pub reserve_reason : Parts → Dispatch → Option Reason
reserve_reason m x = of_first (λ n. reason.Reserve (n + 1)) (is_offer_beyond m x) (offer_places m)

abbrev pub balance_reason : Parts → Dispatch → Option Reason
balance_reason m x = where_so (differ (balance m x) zero) reason.Balance

abbrev pub need_reason : Parts → Dispatch → Option Reason
need_reason m x = where_so (is_below (reserve m x) (reserve_need m)) reason.Need

-- over all rows of the market
abbrev pub limit_reason : Parts → Dispatch → Option Reason
limit_reason m x = of_first (λ r. reason.Limit (row_id m r)) (is_overloaded m x) (rows m)

-- over all units that offer reserve
abbrev pub room_reason : Parts → Dispatch → Option Reason
room_reason m x = of_first (λ u. reason.Room (unit_at m u).row) (is_overfull m x) (reserve_units m)

abbrev pub slack_reason : Parts → Dispatch → List (Dual Fraction) → Option Reason
slack_reason m x ds = of_first (λ e. reason.Slack e.row) (has_slack m x) ds

-- behind those that are named, in the market's order
abbrev pub unpriced_reason : Parts → Dispatch → List (Dual Fraction) → Option Reason
unpriced_reason m x ds = of_first (λ r. reason.Slack (row_id m r)) (is_unpriced m x ds) (rows m)

abbrev pub need_slack_reason : Parts → Dispatch → Fraction → Option Reason
need_slack_reason m x price = where_so (is_slack price (reserve m x) (reserve_need m)) reason.NeedSlack

abbrev pub room_slack_reason : Parts → Dispatch → List (RoomDual Fraction) → Option Reason
room_slack_reason m x ds = of_first (λ e. reason.RoomSlack e.unit) (has_room_slack m x) ds

abbrev pub support_reason : Parts → Dispatch → Duals Fraction → Option Reason
support_reason m x d = of_first (λ j. reason.Support (j + 1)) (is_unsupported m x d) (places (length m.blocks))

abbrev pub reserve_support_reason : Parts → Dispatch → Duals Fraction → Option Reason
reserve_support_reason m x d = of_first (λ n. reason.ReserveSupport (n + 1)) (is_offer_unsupported m x d) (offer_places m)

abbrev pub bound_reason : Parts → Duals Fraction → Option Reason
bound_reason m d = where_so (not (is_below (farkas_bound m d) zero)) reason.Bound

-- ---- the first reason
abbrev pub first_of : List (Option Reason) → Option Reason
first_of [] = None
first_of (o ∷ os) = option_or o (first_of os)

-- there is none
abbrev pub NoneOf : List (Option Reason) → Type 0
NoneOf reasons = first_of reasons ≡ None

-- against what duals name, with their signs
abbrev pub dual_reasons : Parts → Duals Fraction → List (Option Reason)
dual_reasons m d = row_reason m d.limits ∷ unit_reason m d.rooms ∷ sign_reason d.limits ∷ need_sign_reason d.reserve ∷ room_sign_reason d.rooms ∷ []

-- against the parts of a dispatch and duals, before anything is added up
abbrev pub part_reasons : Parts → Dispatch → Duals Fraction → List (Option Reason)
part_reasons m x d = count_reason m x ∷ (dual_reasons m d ++ block_reason m x ∷ reserve_reason m x ∷ [])

-- against its balance and its reserve
abbrev pub sum_reasons : Parts → Dispatch → List (Option Reason)
sum_reasons m x = balance_reason m x ∷ need_reason m x ∷ []

-- against its flows, and what it uses of rooms
abbrev pub limit_reasons : Parts → Dispatch → List (Option Reason)
limit_reasons m x = limit_reason m x ∷ room_reason m x ∷ []

-- against the prices of rows, of reserve and of rooms, at what these come to
abbrev pub slack_reasons : Parts → Dispatch → Duals Fraction → List (Option Reason)
slack_reasons m x d = slack_reason m x d.limits ∷ unpriced_reason m x d.limits ∷ need_slack_reason m x d.reserve ∷ room_slack_reason m x d.rooms ∷ []

-- all of these, which are told of sums over the dispatch
abbrev pub flow_reasons : Parts → Dispatch → Duals Fraction → List (Option Reason)
flow_reasons m x d = sum_reasons m x ++ limit_reasons m x ++ slack_reasons m x d

-- against a dispatch and duals that support it
abbrev pub optimal_reasons : Parts → Dispatch → Duals Fraction → List (Option Reason)
optimal_reasons m x d = part_reasons m x d ++ flow_reasons m x d ++ support_reason m x d ∷ reserve_support_reason m x d ∷ []

-- against duals that show that nothing is feasible
abbrev pub farkas_reasons : Parts → Duals Fraction → List (Option Reason)
farkas_reasons m d = dual_reasons m d ++ bound_reason m d ∷ []

-- yes where there is no reason against
abbrev pub verdict_of : Option Reason → Verdict
verdict_of None = verdict.Yes
verdict_of (Some why) = verdict.No why
