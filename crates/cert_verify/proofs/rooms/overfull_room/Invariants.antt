use Rattle.std.proofs.Common.{◌≡◌, None}
use Rattle.std.specs.Prelude.{filter}
use Rattle.std.specs.List.{find}
use Rattle.market_model.specs.Dispatch.{places}
use Rattle.market_model.specs.Reserves.{offers_reserve}
use Rattle.cert_verify.specs.Certified.{certified_dispatch}
use Rattle.cert_verify.specs.Reasons.{is_overfull}
use Rattle.cert_verify.proofs.rooms.overfull_room.Given as goal

-- none of the units before this one is
abbrev pub invariant-loop-at : goal.invariant-loop-at
invariant-loop-at g l =
    find (is_overfull l.market (certified_dispatch g.N.Exact.value l.dispatch)) (filter (offers_reserve l.market) (places l.at)) ≡ None
