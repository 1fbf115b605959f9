use Rattle.std.proofs.Common.{◌≡◌, ◌∙◌, sym, w64}
use mir.Val.{to_z, of_z}
use Rattle.std.proofs.lemmas.Int.{to_z-of_z}
use Rattle.outage_list.proofs.ListingLemmas.{live-row}
use Rattle.outage_list.proofs.listing.outage_of.Goals as goal

pub without-requires : goal.without-requires
without-requires c =
    let size : to_z w64 (of_z w64 c.args.number) ≡ c.args.number = to_z-of_z w64 _ c.ranges.number in
    rw size (live-row c.args.network.now c.args.number (rw size at (sym c.is_live_branch.ensures ∙ c.if-not-is_live_branch.false)))
