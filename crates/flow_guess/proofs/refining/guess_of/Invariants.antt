use Rattle.std.proofs.Common.{◌≡◌, length}
use Rattle.flow_guess.proofs.refining.guess_of.Given as goal

abbrev pub invariant-loop : goal.invariant-loop
invariant-loop l = (l.guess.scale ≡ l.scale) × (length l.guess.angles.items ≡ l.buses)
