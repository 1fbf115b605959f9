use Rattle.std.proofs.Common.{◌≡◌, take}
use Rattle.flow_guess.proofs.guesser.copied.Given as goal

abbrev pub invariant-loop-link : goal.invariant-loop-link
invariant-loop-link l = l.list ≡ take l.link-index l.links
