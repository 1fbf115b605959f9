use Rattle.std.proofs.Common.{◌≡◌, ◌++◌, take}
use Rattle.std.specs.List.{flat_map}
use Rattle.prepared_text.specs.OfferText.{offer_line}
use Rattle.prepared_text.proofs.offers.put_offers.Given as goal

-- the lines of the blocks so far
abbrev pub invariant-loop-block : goal.invariant-loop-block
invariant-loop-block l = l.text ≡ l.initial.text ++ flat_map (offer_line l.list) (take l.block-index l.blocks)
