-- How what is taken of a market grows, limits and rooms alike: one by one, each because a best dispatch for those before it passes it.
use Rattle.std.specs.Prelude.{◌≡◌, List, [], ◌∷◌, ◌++◌, Contains}
use Rattle.market_model.specs.declared.participants.Parts.{Parts}
use Rattle.market_model.specs.Dispatch.{Dispatch}
use Rattle.market_model.specs.Reserves.{room, IsRoomPassed}
use Rattle.market_model.specs.Optimality.{BestFor}
use Rattle.market_system.specs.Growth.{Broken}
use Rattle.market_dict.specs.Takings.{IsTaking, limits_of, rooms_of, taken_of}
use Rattle.market_dict.specs.declared.taking.Taking.{Taking}
use Rattle.market_dict.specs.declared.taking.Taking.TheVariants as taking

-- a limit or a room that is not among these
abbrev pub IsNew : List Taking → Taking → Type 0
IsNew ts (taking.Limit r) = ¬ (Contains (limits_of ts) r)
IsNew ts (taking.Room u) = ¬ (Contains (rooms_of ts) u)

-- a dispatch passes it
abbrev pub IsPassedTaking : Parts → Dispatch → Taking → Type 0
IsPassedTaking m x (taking.Limit r) = Broken m x r
IsPassedTaking m x (taking.Room u) = IsRoomPassed m x u

-- what is taken with one limit or room more of the market behind, which is not among it, and which a best dispatch for it passes
abbrev pub GrowsByOne : Parts → List Taking → List Taking → Type 0
GrowsByOne m ts new = (t : Taking) × (new ≡ ts ++ t ∷ []) × IsTaking m t × IsNew ts t × ((x : Dispatch) × BestFor m (taken_of ts) x × IsPassedTaking m x t)

-- What may be taken of the market where this was before: just that; or with one limit or room more behind what may be taken, which is new
-- there, and which a best dispatch for all that stands before it passes. Nothing is let go, and nothing is taken that no such dispatch passes.
pub data Grown (m : Parts) (before : List Taking) : List Taking → Type 0 where
  none_more : Grown m before before
  one_more : (ts new : List Taking) → Grown m before ts → GrowsByOne m ts new → Grown m before new
