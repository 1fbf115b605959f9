use Rattle.std.proofs.Common.{◌≡◌, length}
use Rattle.std.specs.Prelude.{◌==◌, pos, if◌then◌else◌}
use Rattle.std.specs.List.{range_with_len}
use Rattle.fraction_theory.specs.Fraction.{whole}
use Rattle.fraction_theory.specs.Sums.{sum_by}
use Rattle.flow_guess.specs.Links.{link_network}
use Rattle.flow_guess.specs.Guesses.{error_at}
use Rattle.flow_guess.proofs.bounds.all_errors.Given as goal

abbrev pub invariant-loop-bus : goal.invariant-loop-bus
invariant-loop-bus l = whole l.sum ≡ sum_by
    (λ bus. if bus == l.reference then whole (pos 0) else error_at (link_network (length l.guess.angles.items) l.links) l.guess l.transfer bus) (range_with_len 0 l.bus)
