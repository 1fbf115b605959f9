use Rattle.net_paths.specs.Detours.{IsLiveRow}
use Rattle.outage_choice.proofs.ChoiceLemmas.{outage-parts, parts-outage}
use Rattle.outage_choice.proofs.laws.outages_part_no_bus.Goals as goal

pub returns : goal.returns
returns c = λ network row is. (λ out. ((out.branch, out.live), outage-parts network is row out), λ given. parts-outage network is row given.0 given.1)
