use Rattle.std.proofs.Common.{◌≡◌, ℕ, ◌<◌, pos, length, get_or}
use Rattle.std.specs.Prelude.{◌^◌, ◌*ℤ◌, None}
use Rattle.flow_guess.specs.declared.links.Link.{Link}
use Rattle.flow_guess.specs.Links.{link_network}
use Rattle.flow_guess.specs.Told.{IsToldOf}
use Rattle.flow_guess.proofs.told.all_told.Given as goal

abbrev pub invariant-loop-link : goal.invariant-loop-link
invariant-loop-link l =
    (length l.all ≡ l.link-index)
    × ((places : ℕ) → l.transfer.parts ≡ l.part *ℤ pos (10 ^ places) → (i : ℕ) → i < l.link-index → (d : Link)
    → IsToldOf (link_network (length l.guess.angles.items) l.links) l.reference l.transfer.source l.transfer.sink places (get_or l.links i d) (get_or l.all i None))
