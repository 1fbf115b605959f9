-- Networks of buses and branches by the DC model: a flow is a susceptance times a difference of angles.
-- Source: the DC power flow (Wood and Wollenberg, Power Generation, Operation, and Control).
use Rattle.std.specs.Prelude.{◌≡◌, ℕ, ◌<◌, ◌==◌, pos, List, [], ◌∷◌, ◌⊎◌, not, filter, length, slice_index_or}
use Rattle.std.specs.List.{Contains, range_with_len, remove}
use Rattle.fraction_theory.specs.Fraction.{Fraction, whole, ◌+ℚ◌, ◌-ℚ◌, ◌*ℚ◌, neg_ℚ, recip_ℚ}
use Rattle.fraction_theory.specs.Order.{◌<ℚ◌}
use Rattle.fraction_theory.specs.Sums.{sum_by}

-- A branch between the buses at two places, and its susceptance, which is 1 over its reactance: the power that it carries for
-- each unit of the angle between its ends. A flow from the first bus to the second is above 0.
pub record Branch : Type 0 where
  pub from : ℕ
  pub to : ℕ
  pub susceptance : Fraction

-- So many buses, and the branches between them. Several may join the same two; one that leads from a bus to itself carries nothing.
pub record Network : Type 0 where
  pub buses : ℕ
  pub branches : List Branch

-- the places of the buses
abbrev pub places : Network → List ℕ
places n = range_with_len 0 n.buses

-- The branch is between buses of the network, with a reactance above 0.
pub record IsBranchOf (n : Network) (b : Branch) : Type 0 where
  pub from : b.from < n.buses
  pub to : b.to < n.buses
  pub susceptance : whole (pos 0) <ℚ b.susceptance

pub record IsTheoryNetwork (n : Network) : Type 0 where
  pub branches : (b : Branch) → Contains n.branches b → IsBranchOf n b

-- ---- flows and injections, by the angle at each place
abbrev pub flow : (ℕ → Fraction) → Branch → Fraction
flow angle b = b.susceptance *ℚ (angle b.from -ℚ angle b.to)

-- the flows that leave the bus at a place, over branches from it
unfoldable pub leaving : Network → (ℕ → Fraction) → ℕ → Fraction
leaving n angle i = sum_by (flow angle) (filter (λ b. b.from == i) n.branches)

-- the flows that enter it, over branches to it
unfoldable pub entering : Network → (ℕ → Fraction) → ℕ → Fraction
entering n angle i = sum_by (flow angle) (filter (λ b. b.to == i) n.branches)

-- what is put in at the bus: what leaves it less what enters it
abbrev pub injection : Network → (ℕ → Fraction) → ℕ → Fraction
injection n angle i = leaving n angle i -ℚ entering n angle i

-- the same by two other numbers of each branch: what leaves by the one less what enters by the other
abbrev pub net_outflow : Network → (Branch → Fraction) → (Branch → Fraction) → ℕ → Fraction
net_outflow n leaves enters i = sum_by leaves (filter (λ b. b.from == i) n.branches) -ℚ sum_by enters (filter (λ b. b.to == i) n.branches)

-- ---- which buses are joined
-- a branch has the one place at one end and the other place at the other, either way round
pub record AreNeighbours (n : Network) (i j : ℕ) : Type 0 where
  pub branch : Branch
  pub there : Contains n.branches branch
  pub ends : ((branch.from ≡ i) × (branch.to ≡ j)) ⊎ ((branch.from ≡ j) × (branch.to ≡ i))

-- from a place on, each of these is a neighbour of the one before it, and the last one is the other place
abbrev pub Lead : Network → List ℕ → ℕ → ℕ → Type 0
Lead n [] i j = i ≡ j
Lead n (k ∷ ks) i j = AreNeighbours n i k × Lead n ks k j

-- a chain of neighbours leads from one place to another
pub record AreLinked (n : Network) (i j : ℕ) : Type 0 where
  pub chain : List ℕ
  pub lead : Lead n chain i j

-- each bus is joined to the reference
pub record IsConnected (n : Network) (reference : ℕ) : Type 0 where
  pub joined : (i : ℕ) → i < n.buses → AreLinked n i reference

-- ---- solutions
-- the places of the buses other than the reference
abbrev pub others : Network → ℕ → List ℕ
others n reference = filter (λ i. not (i == reference)) (places n)

-- The angle at the reference is 0, and each other bus has the injection that is wanted of it.
pub record IsSolution (n : Network) (reference : ℕ) (wanted angle : ℕ → Fraction) : Type 0 where
  pub at_reference : angle reference ≡ whole (pos 0)
  pub injections : (i : ℕ) → i < n.buses → ¬ (i ≡ reference) → injection n angle i ≡ wanted i

-- ---- transfers
-- 1 is put in at the source and taken out at the sink, and nothing elsewhere. The flows at such angles are the factors of the
-- transfer: a shift factor is one of a transfer to the reference.
pub record IsTransfer (n : Network) (angle : ℕ → Fraction) (source sink : ℕ) : Type 0 where
  pub source_is : source < n.buses
  pub sink_is : sink < n.buses
  pub source_has : injection n angle source ≡ whole (pos 1)
  pub sink_has : injection n angle sink ≡ neg_ℚ (whole (pos 1))
  pub elsewhere : (i : ℕ) → i < n.buses → ¬ (i ≡ source) → ¬ (i ≡ sink) → injection n angle i ≡ whole (pos 0)

-- ---- outages, after the line outage distribution factors of Wood and Wollenberg
-- The branch stands at the place in the list.
pub record StandsAt (n : Network) (place : ℕ) (b : Branch) : Type 0 where
  pub within : place < length n.branches
  pub there : slice_index_or n.branches place b ≡ b

-- the network after the outage of the branch at a place: the same buses and the other branches
abbrev pub without : Network → ℕ → Network
without n place = record { buses = n.buses; branches = remove n.branches place }

-- angles, and so many times those of a transfer besides
abbrev pub moved : (ℕ → Fraction) → Fraction → (ℕ → Fraction) → ℕ → Fraction
moved angle times transfer i = angle i +ℚ times *ℚ transfer i

-- what a branch takes over of each unit that the lost one carried, by the angles of the transfer between the ends of the lost one
abbrev pub outage_factor : (ℕ → Fraction) → Branch → Branch → Fraction
outage_factor transfer lost b = flow transfer b *ℚ recip_ℚ (whole (pos 1) -ℚ flow transfer lost)
