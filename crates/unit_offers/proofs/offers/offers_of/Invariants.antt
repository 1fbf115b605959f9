use Rattle.std.proofs.Common.{take}
use Rattle.unit_offers.specs.Adding.{IsWithin}
use Rattle.unit_offers.proofs.OfferLemmas.{AreOffered}
use Rattle.unit_offers.proofs.offers.offers_of.Given as goal

-- the blocks so far are the offers of the units so far
abbrev pub invariant-loop-place : goal.invariant-loop-place
invariant-loop-place l = record {
  offered : AreOffered l.costs l.fn.steps (take l.place l.list.units) l.offers;
  within : IsWithin l.offers;
}
