-- What the whole bytes of files stand for, one after another: a market, or what is checked.
use Rattle.std.specs.Prelude.{ℕ, List, Result}
use Rattle.market_data.specs.declared.scales.FactorPlaces.{FactorPlaces}
use Rattle.market_model.specs.declared.participants.Parts.{Parts}
use Rattle.market_tables.specs.Tables.{GridTexts, MarketTexts}
use Rattle.net_case.specs.declared.live_parts.PostRating.{PostRating}
use Rattle.refusal_text.specs.declared.refusals.Input.TheVariants as input
use Rattle.refusal_text.specs.declared.refusals.Refusal.{Refusal}
use Rattle.refusal_text.specs.declared.refusals.Refusal.TheVariants as refusal
use Rattle.market_inputs.specs.Checking.{AreInputs}
use Rattle.market_inputs.specs.Clearing.{IsClearMarket}
use Rattle.market_inputs.specs.Files.{sized, sized_grid, sized_tables}
use Rattle.market_inputs.specs.Pooling.{IsPoolMarket}
use Rattle.market_inputs.specs.declared.checking.Inputs.{Inputs}

-- what a case and offers stand for: the market of `pool`, or the first fault
abbrev pub IsPool : List ℕ → List ℕ → Result Parts Refusal → Type 0
IsPool case offers told = IsPoolMarket (sized (refusal.TooLong input.Case) case) (sized (refusal.TooLong input.Offers) offers) told

-- what the tables of a market stand for, by the rating after an outage and the places that factors may have: the market of `clear`, or the first fault
abbrev pub IsLimited : PostRating → FactorPlaces → MarketTexts → Result Parts Refusal → Type 0
IsLimited rating places texts told = IsClearMarket rating places (sized_tables texts) told

-- what a case and its tables stand for, whose factors may have so many places: what `check` works on, or the first fault
abbrev pub IsCheck : FactorPlaces → GridTexts → Result Inputs Refusal → Type 0
IsCheck places texts told = AreInputs places (sized_grid texts) told
