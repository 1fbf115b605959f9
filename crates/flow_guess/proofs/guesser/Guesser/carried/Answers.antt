use Rattle.std.proofs.Common.{rules, arith, ◌≡◌, ◌∙◌, ℕ, ap, subst, subst₂, pos, to_z, of_z}
use Rattle.std.specs.Int.{w128}
use Rattle.std.specs.Prelude.{ℤ, ◌*ℤ◌, ◌^◌, List}
use Rattle.std.proofs.lemmas.Int.{ints}
use Rattle.flow_guess.proofs.NetSums.{of_ok}
use Rattle.flow_guess.specs.declared.links.Link.{Link}
use Rattle.flow_guess.specs.Links.{Grid, grid_network, link_network}
use Rattle.flow_guess.specs.Told.{AreNearest}
use Rattle.flow_guess.proofs.guesser.Guesser.carried.Goals as goal

pub returns-clause-nearest : goal.returns-clause-nearest
returns-clause-nearest c =
    let part = to_z w128 (of_z w128 c.part_of-part.result) in
    let units = to_z w128 (of_z w128 c.ten_to-units.result) in
    let units_is : units ≡ pos (10 ^ c.args.places) = omega (arith, ints, c.ten_to-units.ensures.is) in
    let same : to_z w128 (of_z w128 c.parts_of.result) ≡ c.parts_of.result = search rules in
    of_ok c.all_told.result c.all_told.ensures.nearest
    (λ told h. subst (λ (grid : Grid). AreNearest (grid_network grid) grid.reference c.args.source c.args.sink c.args.places grid.links told) c.self.view_is
    (subst₂ (λ (n : ℕ) (links : List Link). AreNearest (link_network n links) c.self.inside.reference c.args.source c.args.sink c.args.places links told) c.in_ok-guess.ensures.1 c.slice-links.ensures
    (h c.args.places (same ∙ c.parts_of.ensures ∙ ap (λ (z : ℤ). part *ℤ z) units_is))))
