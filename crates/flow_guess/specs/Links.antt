-- Links as the branches of a network.
use Rattle.std.specs.Prelude.{ℕ, ◌<◌, pos, ◌<ℤ◌, List, map}
use Rattle.fraction_theory.specs.Fraction.{whole, recip_ℚ}
use Rattle.network_theory.specs.Networks.{Branch, Network}
use Rattle.flow_guess.specs.declared.links.Link.{Link}

-- a susceptance is 1 over a reactance
abbrev pub link_branch : Link → Branch
link_branch link = record { from = link.from; to = link.to; susceptance = recip_ℚ (whole link.reactance) }

abbrev pub link_network : ℕ → List Link → Network
link_network buses links = record { buses = buses; branches = map link_branch links }

-- The link is between buses, of which there are so many, with a reactance above 0.
pub record IsLink (buses : ℕ) (link : Link) : Type 0 where
  pub from : link.from < buses
  pub to : link.to < buses
  pub reactance : pos 0 <ℤ link.reactance

-- so many buses, of which one is the reference, and the links between them
pub record Grid : Type 0 where
  pub buses : ℕ
  pub reference : ℕ
  pub links : List Link

abbrev pub grid_network : Grid → Network
grid_network grid = link_network grid.buses grid.links
