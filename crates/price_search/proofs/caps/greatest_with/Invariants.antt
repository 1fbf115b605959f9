use Rattle.price_search.specs.Caps.{IsGreatestWith}
use Rattle.price_search.proofs.caps.greatest_with.Given as goal

abbrev pub invariant-loop-place : goal.invariant-loop-place
invariant-loop-place g l = IsGreatestWith l.market l.row l.place (g.N.Exact.value l.fn.number) (g.N.Exact.value l.greatest)
