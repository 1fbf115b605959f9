use Rattle.std.proofs.Common.{◌≡◌, length}
use Rattle.settled_answer.proofs.repricing.bus_prices.Given as goal

abbrev pub invariant-loop : goal.invariant-loop
invariant-loop g l = length l.by_bus ≡ l.counter
