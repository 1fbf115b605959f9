use Rattle.std.proofs.Common.{◌≡◌, take}
use Rattle.std.specs.Prelude.{map}
use Rattle.fraction_theory.specs.Fraction.{whole}
use Rattle.fraction_theory.specs.Sums.{sum_by}
use Rattle.flow_guess.specs.Links.{link_branch}
use Rattle.flow_guess.specs.Guesses.{low_flow, high_flow, link_out}
use Rattle.flow_guess.proofs.bounds.outflow.Given as goal

abbrev pub invariant-loop-link : goal.invariant-loop-link
invariant-loop-link l =
    (whole l.range.least ≡ sum_by (link_out l.bus (low_flow l.guess) (high_flow l.guess)) (map link_branch (take l.link-index l.links)))
    × (whole l.range.most ≡ sum_by (link_out l.bus (high_flow l.guess) (low_flow l.guess)) (map link_branch (take l.link-index l.links)))
