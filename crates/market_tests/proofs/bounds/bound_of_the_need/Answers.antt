use Rattle.std.proofs.Common.{ap, map, sym}
use Rattle.cert_sums.specs.Named.{priced_by, room_priced_by}
use Rattle.market_tests.proofs.NothingNamed.{no_room_named, nothing_named, unpriced}
use Rattle.market_tests.proofs.bounds.bound_of_the_need.Goals as goal

pub farkas_bound-requires-clause-named : goal.farkas_bound-requires-clause-named
farkas_bound-requires-clause-named c = (unpriced, sym (ap (map (priced_by c.args.market.now unpriced)) (nothing_named c.args.market.now)))

pub farkas_bound-requires-clause-rooms : goal.farkas_bound-requires-clause-rooms
farkas_bound-requires-clause-rooms c = (unpriced, sym (ap (map (room_priced_by c.args.market.now unpriced)) (no_room_named c.args.market.now)))
