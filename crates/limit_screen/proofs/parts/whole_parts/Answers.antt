use Rattle.std.proofs.Common.{map}
use Rattle.limit_screen.specs.Flows.{carried_at}
use Rattle.limit_screen.proofs.PartLemmas.{parts_of}
use Rattle.limit_screen.proofs.parts.whole_parts.Goals as goal

pub returns : goal.returns
returns g c =
    let value = g.N.Exact.value in
    let m = c.args.market.now in
    parts_of m (map value c.carried_flows.result.now) (carried_at m (map value c.args.flows.now)) (record { carried = c.in_ok-floors.field-0 })
    c.carried_flows.ensures.is c.in_ok-floors.ensures
