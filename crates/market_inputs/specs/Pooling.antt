-- What the bytes of a case and of offers stand for.
use Rattle.std.specs.Prelude.{ℕ, List, Result, Ok}
use Rattle.market_model.specs.declared.participants.Parts.{Parts}
use Rattle.market_model.specs.Market.{bare_parts}
use Rattle.net_case.specs.Networks.{LiveNetwork}
use Rattle.net_case.specs.declared.live_parts.Branches.TheVariants as branches
use Rattle.refusal_text.specs.declared.refusals.Refusal.{Refusal}
use Rattle.market_inputs.specs.declared.offers.Offered.{Offered}
use Rattle.market_inputs.specs.Cases.{matrices_in, network_in}
use Rattle.market_inputs.specs.Steps.{Is, Then}
use Rattle.market_inputs.specs.Tables.{offers_in}

-- the market of a network's buses and units, without branches
abbrev pub pool_of : LiveNetwork → Offered → Parts
pool_of network offered = bare_parts network.buses offered.units offered.blocks

-- the market that the bytes of a case and of offers stand for, or the first fault: the whole case is read before the offers
abbrev pub IsPoolMarket : Result (List ℕ) Refusal → Result (List ℕ) Refusal → Result Parts Refusal → Type 0
IsPoolMarket case offers told =
    Then (Is (matrices_in case)) (λ matrices.
    Then (Is (network_in branches.Skip matrices)) (λ network.
    Then (Is (offers_in network offers)) (λ offered.
    Is (Ok (pool_of network offered))))) told
