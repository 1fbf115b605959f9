use Rattle.std.proofs.Common.{◌≡◌, map, take}
use Rattle.fraction_theory.specs.Sums.{total}
use Rattle.market_model.specs.Valued.{dual_at}
use Rattle.price_search.specs.Caps.{limit_price_terms}
use Rattle.price_search.proofs.caps.sum_of_limits.Given as goal

abbrev pub invariant-loop-dual : goal.invariant-loop-dual
invariant-loop-dual g l = g.N.Exact.value l.sum ≡ total (limit_price_terms (take l.dual-index (map (dual_at g.N.Exact.value) l.limits)))
