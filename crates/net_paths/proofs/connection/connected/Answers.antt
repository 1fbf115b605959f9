use Rattle.std.proofs.Common.{arith, length, sym}
use Rattle.net_paths.specs.Searching.{visit_at}
use Rattle.net_paths.proofs.WayLemmas.{renamed, visited_joined, joined_visited, not_none}
use Rattle.net_paths.proofs.connection.connected.Goals as goal

pub bus_number-requires : goal.bus_number-requires
bus_number-requires c = omega (arith, c.in-Some.ensures.0, c.in_ok-search.ensures.visits.room, c.bus_count-places.ensures)

pub returns-in-Some-clause-stop : goal.returns-in-Some-clause-stop
returns-in-Some-clause-stop c =
    let network = c.args.network.now in
    let search = c.in_ok-search.search in
    let whole = renamed c.live_branches.result.now network.branches c.bus_count-places.result (length network.buses) 0 search c.live_branches.ensures.list c.bus_count-places.ensures c.in_ok-search.ensures in
    record {
      place = c.in-Some.place;
      within = omega (arith, c.in-Some.ensures.0, whole.visits.room);
      number_is = sym c.bus_number.ensures;
      apart = λ h. not_none (visit_at search.seen.items c.in-Some.place) c.in-Some.ensures.1
          (joined_visited network.branches (length network.buses) 0 search.visits search.seen.items whole.visits whole.closed c.in-Some.place h);
      first = λ p lt. visited_joined network.branches (length network.buses) 0 search.visits search.seen.items whole.visits p (c.in-Some.ensures.2 p lt);
    }

pub returns-clause-joined : goal.returns-clause-joined
returns-clause-joined c = λ p lt.
    let network = c.args.network.now in
    let search = c.in_ok-search.search in
    let whole = renamed c.live_branches.result.now network.branches c.bus_count-places.result (length network.buses) 0 search c.live_branches.ensures.list c.bus_count-places.ensures c.in_ok-search.ensures in
    visited_joined network.branches (length network.buses) 0 search.visits search.seen.items whole.visits p (c.in-None.ensures p (omega (arith, lt, whole.visits.room)))
