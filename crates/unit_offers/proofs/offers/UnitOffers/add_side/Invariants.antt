use Rattle.std.proofs.Common.{◌≡◌, ◌≤◌, ◌+◌, length, take}
use Rattle.unit_offers.specs.Adding.{AreAdded}
use Rattle.unit_offers.proofs.offers.UnitOffers.add_side.Given as goal

-- the blocks of the steps so far were added
abbrev pub invariant-loop-step : goal.invariant-loop-step
invariant-loop-step l = record {
  added : AreAdded l.place l.side (take l.step-index l.steps) l.initial.self l.self;
  long : length l.self.blocks ≡ length l.initial.self.blocks + l.step-index;
  rounded : l.self.rounded ≤ length l.self.blocks;
}
