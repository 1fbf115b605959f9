use Rattle.std.proofs.Common.{◌≡◌, map, take}
use Rattle.clear_loop.proofs.sameness.are_same.Given as goal

-- what stands before this place is the same
abbrev pub invariant-loop-place : goal.invariant-loop-place
invariant-loop-place g l = map g.N.Exact.value (take l.place l.one) ≡ map g.N.Exact.value (take l.place l.other)
