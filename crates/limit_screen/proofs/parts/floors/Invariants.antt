use Rattle.std.proofs.Common.{◌≡◌, length, map}
use Rattle.limit_screen.specs.Bounds.{AreFloors}
use Rattle.limit_screen.proofs.parts.floors.Given as goal

abbrev pub invariant-loop-number : goal.invariant-loop-number
invariant-loop-number g l = record { count : length l.parts.items ≡ l.number-index; floors : AreFloors (map g.N.Exact.value l.numbers) l.parts.items }
