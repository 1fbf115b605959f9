use Rattle.std.proofs.Common.{◌≡◌, false}
use Rattle.std.specs.Prelude.{◌==◌, filter}
use Rattle.std.specs.List.{list_any}
use Rattle.market_model.specs.Dispatch.{places, unit_at}
use Rattle.market_model.specs.Reserves.{offers_reserve}
use Rattle.cert_verify.proofs.rooms.has_offer.Given as goal

-- none of the units before this one is it
abbrev pub invariant-loop-at : goal.invariant-loop-at
invariant-loop-at l = list_any (λ u. (unit_at l.market u).row == l.row) (filter (offers_reserve l.market) (places l.at)) ≡ false
