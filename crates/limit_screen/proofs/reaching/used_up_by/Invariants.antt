use Rattle.std.proofs.Common.{◌≡◌, ◌&&◌}
use Rattle.std.specs.List.{filter}
use Rattle.market_model.specs.Dispatch.{Dispatch, places}
use Rattle.market_model.specs.Reserves.{offers_reserve}
use Rattle.limit_screen.specs.Reaching.{uses_up}
use Rattle.limit_screen.specs.Rooms.{AreRoomsUsed}
use Rattle.limit_screen.proofs.reaching.used_up_by.Given as goal

abbrev pub invariant-loop-unit : goal.invariant-loop-unit
invariant-loop-unit g l = (x : Dispatch) → AreRoomsUsed g.N.Exact.value l.market x l.used → l.units.items ≡ filter (λ u. offers_reserve l.market u && uses_up l.market x u) (places l.unit)
