use Rattle.std.proofs.Common.{◌≡◌, ◌++◌, map}
use Rattle.market_model.specs.Dispatch.{places}
use Rattle.market_system.specs.MarketSystem.{block_columns, name, offer_name}
use Rattle.market_dict.proofs.names.first_names.Given as goal

abbrev pub invariant-loop-place : goal.invariant-loop-place
invariant-loop-place l = l.names ≡ places l.place

abbrev pub invariant-loop-place-2 : goal.invariant-loop-place-2
invariant-loop-place-2 l = l.names ≡ map (name l.market) (block_columns l.market) ++ map (offer_name l.market) (places l.place)
