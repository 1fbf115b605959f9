use Rattle.std.proofs.Common.{◌≡◌, ◌∙◌, Some, None, length, map, sym, ap, refl, w64}
use Rattle.std.specs.List.{find}
use mir.Val.{to_z, of_z}
use Rattle.outage_list.specs.UnitListing.{is_uneven, listed_by, lost_units, pickup_of, share_sum}
use Rattle.outage_list.proofs.OutageLemmas.{outages-kept, outages-whole, sum-exact}
use Rattle.outage_list.proofs.unit_listing.listed_by.Goals as goal

pub returns-in-Some-clause-is : goal.returns-in-Some-clause-is
unfolding listed_by
returns-in-Some-clause-is c =
    let ts = c.args.unit_pickups.now in
    let found : find (is_uneven ts) (lost_units ts) ≡ Some c.in-Some.unit = ap (find (is_uneven ts)) (sym (c.slice.ensures ∙ c.in_ok-lost.ensures)) ∙ sym c.uneven.ensures ∙ c.in-Some.is in
    let sum : to_z w64 (of_z w64 c.share_sum.result) ≡ share_sum ts c.in-Some.unit = sum-exact (length c.args.network.now.units) c.in-Some.unit ts c.share_sum.result c.requires.kept c.requires.few c.share_sum.ensures in
    λ _. rw (sum, c.row_at.ensures, found) refl

pub returns-clause-is : goal.returns-clause-is
unfolding listed_by
returns-clause-is c =
    let ts = c.args.unit_pickups.now in
    let found : find (is_uneven ts) (lost_units ts) ≡ None = ap (find (is_uneven ts)) (sym (c.slice.ensures ∙ c.in_ok-lost.ensures)) ∙ sym c.uneven.ensures ∙ c.in_default.is in
    let pickups = c.in_ok-pickups.ensures ∙ ap (λ lost. map (pickup_of lost) ts) (c.slice-2.ensures ∙ c.in_ok-lost.ensures) in
    λ _. rw (found, c.in_ok-lost.ensures, pickups) refl

pub returns-clause-kept : goal.returns-clause-kept
returns-clause-kept c =
    let ts = c.args.unit_pickups.now in
    let found : find (is_uneven ts) (lost_units ts) ≡ None = ap (find (is_uneven ts)) (sym (c.slice.ensures ∙ c.in_ok-lost.ensures)) ∙ sym c.uneven.ensures ∙ c.in_default.is in
    let pickups = c.in_ok-pickups.ensures ∙ ap (λ lost. map (pickup_of lost) ts) (c.slice-2.ensures ∙ c.in_ok-lost.ensures) in
    rw (c.in_ok-lost.ensures, pickups) (outages-kept (length c.args.network.now.units) ts c.units-units.ensures.network.unit_count c.requires.few c.requires.kept found)

pub returns-clause-whole : goal.returns-clause-whole
returns-clause-whole c =
    let ts = c.args.unit_pickups.now in
    let found : find (is_uneven ts) (lost_units ts) ≡ None = ap (find (is_uneven ts)) (sym (c.slice.ensures ∙ c.in_ok-lost.ensures)) ∙ sym c.uneven.ensures ∙ c.in_default.is in
    let pickups = c.in_ok-pickups.ensures ∙ ap (λ lost. map (pickup_of lost) ts) (c.slice-2.ensures ∙ c.in_ok-lost.ensures) in
    rw (c.in_ok-lost.ensures, pickups) (outages-whole (length c.args.network.now.units) ts c.units-units.ensures.network.unit_count c.requires.few c.requires.kept found)
