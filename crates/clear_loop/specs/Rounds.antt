-- What is in hand between two rounds of a clear, and what a round comes to.
use Rattle.std.specs.Prelude.{◌≡◌, ◌⊎◌, ℕ, Option, Some, List, Result, Ok, Err}
use Rattle.fraction_theory.specs.Fraction.{Fraction}
use Rattle.exact_fraction.specs.declared.Passed.{Passed}
use Rattle.linear_dict.specs.Dictionaries.{Dictionary}
use Rattle.market_model.specs.declared.answered.Duals.{Duals}
use Rattle.market_model.specs.declared.answered.Farkas.{Farkas}
use Rattle.market_model.specs.declared.participants.Parts.{Parts}
use Rattle.market_model.specs.Dispatch.{Dispatch}
use Rattle.market_model.specs.Fitting.{FitsMarket}
use Rattle.market_model.specs.Infeasibility.{IsFarkas}
use Rattle.market_model.specs.declared.limits.Row.{Row}
use Rattle.market_model.specs.LimitRows.{carried}
use Rattle.market_model.specs.Optimality.{all_of}
use Rattle.market_model.specs.RightAnswers.{IsRight, dispatch_in}
use Rattle.market_model.specs.SumTables.{IsRefusedAmong, RoomSum}
use Rattle.market_model.specs.Valued.{answer_at, duals_at, farkas_at}
use Rattle.market_system.specs.Growth.{PricesOnly}
use Rattle.market_system.specs.Ties.{IsFirstFor}
use Rattle.market_system.specs.WorkingPairs.{IsRangeOf}
use Rattle.limit_screen.specs.Flows.{carried_at, flows_at, IsFlowsRefusal}
use Rattle.limit_screen.specs.Reaching.{IsReach}
use Rattle.limit_screen.specs.Rooms.{AllKeepRooms, IsWorstRoom}
use Rattle.limit_screen.specs.Screening.{AllKeep, IsWorstBy}
use Rattle.market_model.specs.Stops.{StopsBy}
use Rattle.market_dict.specs.Chosen.{IsChosen}
use Rattle.market_dict.specs.Findings.{IsSolvedBy}
use Rattle.market_dict.specs.Holding.{HoldsMarket}
use Rattle.market_dict.specs.PricesAndBounds.{ArePricesAndBounds}
use Rattle.market_dict.specs.Takings.{limits_of}
use Rattle.market_dict.specs.declared.taking.Taking.{Taking}
use Rattle.market_dict.specs.declared.taking.Taking.TheVariants as taking
use Rattle.market_model.specs.declared.stops.Stop.{Stop}
use Rattle.limit_rows.specs.Refusals.{IsAnyFlowRefusal}
use Rattle.clear_loop.specs.Growing.{GrowsByOne}
use Rattle.clear_loop.specs.Keeping.{AreListed}
use Rattle.clear_loop.specs.declared.hand.Hand.{Hand}
use Rattle.clear_loop.specs.declared.reached.ReachedAnswer.{ReachedAnswer}
use Rattle.clear_loop.specs.declared.rounds.Ended.{Ended}
use Rattle.clear_loop.specs.declared.rounds.Round.{Round}
use Rattle.clear_loop.specs.declared.rounds.Round.TheVariants as round
use Rattle.clear_loop.specs.declared.screen.Screened.{Screened}
use Rattle.clear_loop.specs.declared.screen.Screened.TheVariants as screened

-- a dictionary that holds the market over these limits and rooms
abbrev pub HoldsStart : Parts → List Taking → Option Dictionary → Type 0
HoldsStart m ts start = (d : Dictionary) × (start ≡ Some d) × HoldsMarket m ts d

-- a start over what is in hand, with the prices and bounds of the market over that, and its limits with their names
pub record IsInHand {N : Type 0} (value : N → Fraction) (m : Parts) (h : Hand N) : Type 0 where
  pub start : HoldsStart m h.taken.takings h.warm
  pub posing : ArePricesAndBounds value m h.taken.takings h.posing
  pub listed : AreListed m h.taken

-- where some rows are taken, all rows of the market keep at a dispatch what they may be, and all units that offer reserve their rooms
pub record KeepsAll (m : Parts) (taken : List Row) (x : Dispatch) : Type 0 where
  pub limits : AllKeep m taken (carried m x)
  pub rooms : AllKeepRooms m x

-- a dispatch and duals solve the market over some limits and rooms, and where these are taken all are kept
pub record IsSolution (m : Parts) (ts : List Taking) (x : Dispatch) (d : Duals Fraction) : Type 0 where
  pub solved : IsSolvedBy m ts x d
  pub kept : KeepsAll m (limits_of ts) x

-- what a look at all limits and rooms comes to at a dispatch, where some rows are taken: the worst of the limits that are broken, or where
-- all are kept the worst room that is passed, or what the dispatch carries and reaches
abbrev pub IsScreened : {N : Type 0} → (N → Fraction) → Parts → List Row → Dispatch → Screened N → Type 0
IsScreened value m taken x (screened.Worst (taking.Limit row)) = IsWorstBy m taken (carried m x) row
IsScreened value m taken x (screened.Worst (taking.Room unit)) = AllKeep m taken (carried m x) × IsWorstRoom m x unit
IsScreened value m taken x (screened.Within reach) = KeepsAll m taken x × IsReach value m x reach

-- an operation refused where all limits and rooms are looked at: in the flows of the dispatch, in that of a row, or in what is used of a room
abbrev pub IsLookRefusal : Parts → Dispatch → ℕ → Passed Fraction → Type 0
IsLookRefusal m x bound p = IsFlowsRefusal m x bound p ⊎ IsAnyFlowRefusal m (carried_at m (flows_at m x)) bound p ⊎ IsRefusedAmong (RoomSum m x) bound p

-- a right answer, whose dispatch is of all the best the one that goes first, with what this carries and reaches, and which is that of a choice; or
-- duals that show that nothing is feasible; with prices of no other rows
abbrev pub IsEnd : {N : Type 0} → (N → Fraction) → Parts → List Row → Result (ReachedAnswer N) (Farkas N) → Type 0
IsEnd value m g (Ok r) =
    FitsMarket m r.answer × IsRight m (answer_at value r.answer) × IsFirstFor m (all_of m) (dispatch_in (answer_at value r.answer)) × PricesOnly m g (duals_at value r.answer.duals)
    × IsReach value m (dispatch_in (answer_at value r.answer)) r.reach × IsChosen m (answer_at value r.answer)
IsEnd value m g (Err f) = IsFarkas m (farkas_at value f) × PricesOnly m g (duals_at value f.duals)

-- the clear ends so, with a dictionary that holds the market over what is taken
pub record IsEnded {N : Type 0} (value : N → Fraction) (m : Parts) (e : Ended N) : Type 0 where
  pub holds : HoldsMarket m e.taken.takings e.dict
  pub listed : AreListed m e.taken
  pub end : IsEnd value m (limits_of e.taken.takings) e.end

-- what a round over this comes to: one limit or room more, or the end
abbrev pub IsRound : {N : Type 0} → (N → Fraction) → Parts → List Taking → Round N → Type 0
IsRound value m ts (round.Grown hand) = IsInHand value m hand × GrowsByOne m ts hand.taken.takings
IsRound value m ts (round.Done ended) = IsEnded value m ended × (ended.taken.takings ≡ ts)

-- where numbers became too large, the two are a working pair of the market over rows reached from those taken
abbrev pub StopsInRange : {N : Type 0} → (N → Fraction) → ℕ → Parts → List Row → Stop N → Type 0
StopsInRange value bound m taken stop = StopsBy value (IsRangeOf m taken bound) stop
