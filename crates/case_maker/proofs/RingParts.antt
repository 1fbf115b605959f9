-- The parts of a ring, place by place, and what its first buses make.
use Rattle.std.proofs.Common.{◌≡◌, ◌≤◌, ◌<◌, ◌+◌, ◌*◌, ◌∙◌, ℕ, List, [], map, flat_map, refl, ap, arith}
use Rattle.market_data.specs.declared.participants.Unit as unit
use Rattle.market_data.specs.declared.participants.Bus.{Bus}
use Rattle.market_model.specs.declared.participants.Block.{Block}
use Rattle.market_model.specs.declared.participants.Factor.{Factor}
use Rattle.market_model.specs.declared.participants.Parts.{Parts}
use Rattle.market_model.specs.Dispatch.{places, bus_at, unit_at, block_at, line_at}
use Rattle.market_model.specs.Market.{bare_parts}
use Rattle.case_maker.specs.Rings.{ring_blocks, ring_bus, drawn, ring_factors, half_sold, ring_branch, ring_loss, ring_of, ring_shift, ring_unit, with_bus}
use Rattle.case_maker.proofs.PlaceLists.{at-place, first-of, flat-more, map-more, second-of}

-- ---- a ring with its first buses
abbrev pub first_buses : ℕ → ℕ → ℕ → Parts
first_buses n seed k = record (bare_parts
    (map (λ i. ring_bus i (drawn seed i)) (places k))
    (map ring_unit (places k))
    (flat_map (λ i. ring_blocks i (drawn seed i)) (places k))) {
      lines = map (λ i. ring_branch i (drawn seed i)) (places k);
      outages = map (λ i. i + 1) (places k);
      shift = ring_factors (ring_shift n) n;
      loss = ring_factors ring_loss n;
    }

pub no-bus : (n seed : ℕ) (bare : Parts) (buses : List Bus) (units : List unit.Unit) (blocks : List Block) (shift loss : List Factor)
    → bare ≡ bare_parts buses units blocks → buses ≡ [] → units ≡ [] → blocks ≡ [] → shift ≡ ring_factors (ring_shift n) n → loss ≡ ring_factors ring_loss n
    → (let m : Parts = record bare { shift = shift; loss = loss } in m ≡ first_buses n seed 0)
no-bus n seed bare buses units blocks shift loss a b c d e f = rw (a, b, c, d, e, f) refl

pub all-buses : (n seed k : ℕ) (m : Parts) → k ≤ n → n ≤ k → m ≡ first_buses n seed k → m ≡ ring_of n seed
all-buses n seed k m p q is = is ∙ ap (first_buses n seed) (let e : k ≡ n = omega (arith, p, q) in e)

pub one-bus_more : (n seed k : ℕ) (old new : Parts) → old ≡ first_buses n seed k → new ≡ with_bus old k (drawn seed k) → new ≡ first_buses n seed (k + 1)
one-bus_more n seed k old new e h =
    let m : Parts = with_bus (first_buses n seed k) k (drawn seed k) in
    let buses : m.buses ≡ map (λ i. ring_bus i (drawn seed i)) (places (k + 1)) = map-more (λ i. ring_bus i (drawn seed i)) k in
    let units : m.units ≡ map ring_unit (places (k + 1)) = map-more ring_unit k in
    let blocks : m.blocks ≡ flat_map (λ i. ring_blocks i (drawn seed i)) (places (k + 1)) = flat-more (λ i. ring_blocks i (drawn seed i)) k in
    let lines : m.lines ≡ map (λ i. ring_branch i (drawn seed i)) (places (k + 1)) = map-more (λ i. ring_branch i (drawn seed i)) k in
    let outages : m.outages ≡ map (λ i. i + 1) (places (k + 1)) = map-more (λ i. i + 1) k in
    h ∙ ap (λ (p : Parts). with_bus p k (drawn seed k)) e
    ∙ ap (λ xs. record m { buses = xs }) buses
    ∙ ap (λ xs. record (first_buses n seed (k + 1)) { units = xs; blocks = m.blocks; lines = m.lines; outages = m.outages }) units
    ∙ ap (λ xs. record (first_buses n seed (k + 1)) { blocks = xs; lines = m.lines; outages = m.outages }) blocks
    ∙ ap (λ xs. record (first_buses n seed (k + 1)) { lines = xs; outages = m.outages }) lines
    ∙ ap (λ xs. record (first_buses n seed (k + 1)) { outages = xs }) outages

-- ---- the parts of a ring by place
module _ (n seed : ℕ) where
  pub bus-at : (i : ℕ) → i < n → bus_at (ring_of n seed) i ≡ ring_bus i (drawn seed i)
  bus-at i lt = at-place (λ k. ring_bus k (drawn seed k)) n i _ lt

  pub unit-at : (i : ℕ) → i < n → unit_at (ring_of n seed) i ≡ ring_unit i
  unit-at i lt = at-place ring_unit n i _ lt

  pub line-at : (i : ℕ) → i < n → line_at (ring_of n seed) i ≡ ring_branch i (drawn seed i)
  line-at i lt = at-place (λ k. ring_branch k (drawn seed k)) n i _ lt

  pub first-block : (i : ℕ) → i < n → block_at (ring_of n seed) (2 * i) ≡ half_sold i (drawn seed i).first_price
  first-block i lt = first-of (λ k. half_sold k (drawn seed k).first_price) (λ k. half_sold k (drawn seed k).second_price) 0 n i i _ lt (omega arith)

  pub second-block : (i : ℕ) → i < n → block_at (ring_of n seed) (2 * i + 1) ≡ half_sold i (drawn seed i).second_price
  second-block i lt = second-of (λ k. half_sold k (drawn seed k).first_price) (λ k. half_sold k (drawn seed k).second_price) 0 n i i _ lt (omega arith)
