use Rattle.market_system.specs.Growth.{Growth}
use Rattle.market_dict.specs.Takings.{limits_of}
use Rattle.clear_loop.specs.Growing.{Grown}
use Rattle.clear_loop.specs.Rounds.{IsInHand}
use Rattle.clear_loop.proofs.HandLemmas.{left_over}
use Rattle.clear_loop.proofs.rounds.all_rounds.Given as goal

-- what is in hand has grown from what was in hand first
abbrev pub invariant-loop-next : goal.invariant-loop-next
invariant-loop-next g l = IsInHand g.N.Exact.value l.market l.hand × Growth l.market (limits_of l.fn.first.taken.takings) (limits_of l.hand.taken.takings)
    × Grown l.market l.fn.first.taken.takings l.hand.taken.takings

-- the limits and rooms that are not in hand
abbrev pub decreases-loop-next : goal.decreases-loop-next
decreases-loop-next g l = left_over l.market l.hand.taken.takings
