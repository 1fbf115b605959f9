use Rattle.std.proofs.Common.{◌∙◌, map, ap}
use Rattle.linear_dict.specs.Dictionaries.{note_of, choice_of}
use Rattle.linear_system.specs.Choices.{reduced}
use Rattle.market_system.specs.MarketSystem.{system_of}
use Rattle.market_dict.specs.Takings.{taken_of}
use Rattle.market_dict.proofs.HoldingLaws.{shown_reduced}
use Rattle.market_dict.proofs.ListedLemmas.{map-members}
use Rattle.market_dict.proofs.reading.duals.Goals as goal

pub returns : goal.returns
returns g c = λ ts holds.
    let m = c.args.market.now in
    let d = c.args.dict.now in
    c.duals_by.ensures ts (reduced (system_of m (taken_of ts)) (choice_of d)) holds.holds
    (ap (map g.N.Exact.value) c.slice.ensures ∙ c.in_ok-prices.ensures
    ∙ map-members (λ w. (note_of d w).reduced) (reduced (system_of m (taken_of ts)) (choice_of d)) d.names (λ w k. shown_reduced m ts d holds c.requires.shows w k))
