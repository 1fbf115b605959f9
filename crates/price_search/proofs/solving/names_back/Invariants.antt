use Rattle.std.proofs.Common.{◌≡◌, reverse, take}
use Rattle.price_search.proofs.solving.names_back.Given as goal

abbrev pub invariant-loop-place : goal.invariant-loop-place
invariant-loop-place g l = l.names ≡ take l.place (reverse l.dict.columns)
