use Rattle.std.proofs.Common.{◌∙◌, sym}
use Rattle.outage_list.proofs.UnitLemmas.{live-place}
use Rattle.outage_list.proofs.pickup_records.place_named.Goals as goal

pub returns-in-Some-clause-live : goal.returns-in-Some-clause-live
returns-in-Some-clause-live c = live-place c.args.network.now _ c.in-Some.place (sym c.unit_place.ensures ∙ c.in-Some.is)
