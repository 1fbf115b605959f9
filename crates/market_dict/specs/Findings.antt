-- What a market comes to over some of its limits and rooms.
use Rattle.std.specs.Prelude.{◌≡◌, ℕ, List, map}
use Rattle.fraction_theory.specs.Fraction.{Fraction}
use Rattle.linear_system.specs.Choices.{Choice, IsChoice}
use Rattle.linear_dict.specs.Causes.{IsPairOf}
use Rattle.linear_dict.specs.Dictionaries.{Dictionary, choice_of, system_in}
use Rattle.simplex_core.specs.Outcomes.{ShowsChoice}
use Rattle.simplex_core.specs.States.{state_of}
use Rattle.simplex_theory.specs.States.{IsSolved}
use Rattle.market_model.specs.declared.participants.Parts.{Parts}
use Rattle.market_model.specs.declared.stops.Stop.{Stop}
use Rattle.market_model.specs.declared.answered.Duals.{Duals}
use Rattle.market_model.specs.Dispatch.{Dispatch, dispatch_with}
use Rattle.market_model.specs.Optimality.{ProperDuals}
use Rattle.market_model.specs.Stops.{OnPassed}
use Rattle.market_model.specs.Valued.{duals_at}
use Rattle.market_system.specs.MarketNumbers.{IsFarkasOf}
use Rattle.market_system.specs.MarketSystem.{system_of, choice_dispatch, choice_duals}
use Rattle.market_system.specs.SolvedLaws.{AnswersBy, HasMargin}
use Rattle.market_system.specs.Ties.{IsFirstFor}
use Rattle.market_dict.specs.Holding.{HoldsMarket, HoldsSystem}
use Rattle.market_dict.specs.Takings.{taken_of}
use Rattle.market_dict.specs.declared.solving.First.{First}
use Rattle.market_dict.specs.declared.solving.Found.{Found}
use Rattle.market_dict.specs.declared.solving.Found.TheVariants.{Best, Nothing}
use Rattle.market_dict.specs.declared.taking.Taking.{Taking}

-- the dispatch and the duals are those of a choice of basic variables that solves the market over these limits and rooms
pub record IsSolvedBy (m : Parts) (ts : List Taking) (x : Dispatch) (d : Duals Fraction) : Type 0 where
  pub choice : Choice
  pub is_choice : IsChoice (system_of m (taken_of ts)) choice
  pub dispatch : x ≡ choice_dispatch m (taken_of ts) choice
  pub duals : d ≡ choice_duals m (taken_of ts) choice
  pub answers : AnswersBy m (taken_of ts) choice

-- The duals are those of a variable that is stuck at a choice: they show that no dispatch of the market is feasible. The margin is what the
-- variable leaves of the bound that it violates.
pub record IsStuckBy (m : Parts) (ts : List Taking) (d : Duals Fraction) (margin : Fraction) : Type 0 where
  pub choice : Choice
  pub is_choice : IsChoice (system_of m (taken_of ts)) choice
  pub shows : IsFarkasOf m (taken_of ts) choice d
  pub proper : ProperDuals m d
  pub leaves : HasMargin m d margin

-- a dictionary that holds the market over these limits and rooms, with a best point of it
abbrev pub HoldsBest : Parts → List Taking → Dictionary → Type 0
HoldsBest m ts d = HoldsSystem m ts d × ShowsChoice d × IsSolved (system_in d) (state_of d)

-- beside it what is accepted of blocks and of offers of reserve, which the duals of its choice support
abbrev pub ShowsBest : {N : Type 0} → (N → Fraction) → Parts → List Taking → Dictionary → List N → List N → Type 0
ShowsBest value m ts d blocks reserve = HoldsBest m ts d × IsSolvedBy m ts (dispatch_with (map value blocks) (map value reserve)) (choice_duals m (taken_of ts) (choice_of d))

-- such a dictionary and a best dispatch; or one that still holds the market, and duals that show that no dispatch of it is feasible
abbrev pub IsFound : {N : Type 0} → (N → Fraction) → Parts → List Taking → Found N → Type 0
IsFound value m ts (Best d blocks reserve) = ShowsBest value m ts d blocks reserve
IsFound value m ts (Nothing d duals margin) = HoldsMarket m ts d × IsStuckBy m ts (duals_at value duals) (value margin)

-- such a dictionary and of the best dispatches for these limits and rooms the one that goes first
abbrev pub IsFirstFound : {N : Type 0} → (N → Fraction) → Parts → List Taking → First N → Type 0
IsFirstFound value m ts f = ShowsBest value m ts f.dict f.dispatch f.reserve × IsFirstFor m (taken_of ts) (dispatch_with (map value f.dispatch) (map value f.reserve))

-- where numbers became too large, they are a working pair of the market's system over these limits and rooms
abbrev pub IsPairOver : {N : Type 0} → (N → Fraction) → ℕ → Parts → List Taking → Stop N → Type 0
IsPairOver value bound m ts stop = OnPassed stop (IsPairOf value bound (system_of m (taken_of ts)))
