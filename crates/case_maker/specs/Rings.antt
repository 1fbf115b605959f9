-- Ring networks that are made from a seed. Every bus has a load and a unit that can serve it, and each branch may be lost.
use Rattle.std.specs.Prelude.{ℕ, ◌+◌, ◌-◌, ◌*◌, ◌/◌, ◌%◌, ◌^◌, ◌==◌, nat_lt, ℤ, pos, neg_ℤ, Some, List, [], ◌∷◌, ◌++◌, map, if◌then◌else◌}
use Rattle.std.specs.List.{flat_map}
use Rattle.std.proofs.Common.{zero, suc}
use Rattle.market_data.specs.Scales.{factor_one, mw_one, price_one}
use Rattle.market_data.specs.declared.participants.Bus.{Bus}
use Rattle.market_data.specs.declared.participants.Unit as unit
use Rattle.market_model.specs.declared.participants.Block.{Block}
use Rattle.market_model.specs.declared.participants.Factor.{Factor}
use Rattle.market_model.specs.declared.participants.Line.{Line}
use Rattle.market_model.specs.declared.participants.Parts.{Parts}
use Rattle.market_model.specs.declared.participants.Side.TheVariants.{Sell}
use Rattle.market_model.specs.Dispatch.{places}
use Rattle.market_model.specs.Market.{bare_parts}
use Rattle.case_maker.specs.declared.draws.Drawn.{Drawn}
use Rattle.market_model.specs.Lines.{hard_line}

-- ---- draws
-- a linear congruential generator, with the numbers of MMIX (Knuth, The Art of Computer Programming, volume 2, 3.3.4)
unfoldable pub next_state : ℕ → ℕ
next_state s = (s * 6364136223846793005 + 1442695040888963407) % 2 ^ 64

-- the state after so many draws
unfoldable pub state : ℕ → ℕ → ℕ
state seed zero = seed
state seed (suc k) = next_state (state seed k)

-- a draw, the first being 1: the upper 31 bits of the state after it
unfoldable pub draw : ℕ → ℕ → ℕ
draw seed k = state seed k / 2 ^ 33

-- what the draws 4i + 1 to 4i + 4 make of bus i and of the branch that leaves it, the first bus being 0
abbrev pub drawn : ℕ → ℕ → Drawn
drawn seed i = record {
  load = 10 + draw seed (4 * i + 1) % 41;
  first_price = 10 + draw seed (4 * i + 2) % 91;
  second_price = 10 + draw seed (4 * i + 2) % 91 + draw seed (4 * i + 3) % 50;
  base_limit = 20 + draw seed (4 * i + 4) % 40;
  post_limit = 20 + draw seed (4 * i + 4) % 40 + 20;
}

-- ---- participants
-- a whole number of MW, and a whole price per MWh
abbrev pub mw : ℕ → ℤ
mw n = pos (n * mw_one)

abbrev pub per_mwh : ℕ → ℤ
per_mwh n = pos (n * price_one)

abbrev pub ring_bus : ℕ → Drawn → Bus
ring_bus i d = record { number = i + 1; pd = mw d.load; gs = pos 0 }

-- each bus has a unit, which may sell 100 MW
abbrev pub ring_unit : ℕ → unit.Unit
ring_unit i = record { row = i + 1; bus = i; fixed = pos 0; up = mw 100; down = pos 0 }

-- a block of 50 MW that a unit sells
abbrev pub half_sold : ℕ → ℕ → Block
half_sold i price = record { unit = i; side = Sell; quantity = mw 50; price = per_mwh price }

abbrev pub ring_blocks : ℕ → Drawn → List Block
ring_blocks i d = half_sold i d.first_price ∷ half_sold i d.second_price ∷ []

-- the branch from bus i to the next one, and from the last bus to the first
abbrev pub ring_branch : ℕ → Drawn → Line
ring_branch i d = hard_line (i + 1) (Some (mw d.base_limit)) (Some (mw d.post_limit)) (pos 0)

-- ---- factors
-- so many of so many parts, in 10^-9
abbrev pub share : ℕ → ℕ → ℤ
share parts n = pos (parts * factor_one / n)

-- All branches are alike, and what bus i puts in leaves at the first bus. Two ways lead there, and each carries the part of the ring that the
-- other one is: against the i branches before the bus, and along the n - i from it on.
abbrev pub ring_shift : ℕ → ℕ → ℕ → ℤ
ring_shift n l i = if nat_lt l i then neg_ℤ (share (n - i) n) else share i n

-- what a lost branch carried goes the other way round, over all the others
abbrev pub ring_loss : ℕ → ℕ → ℤ
ring_loss l lost = if l == lost then pos 0 else neg_ℤ (pos (factor_one))

abbrev pub factor_by : (ℕ → ℕ → ℤ) → ℕ → ℕ → Factor
factor_by value l i = record { line = l; of = i; value = value l i }

-- a factor for each pair, line by line, also where it is 0
abbrev pub ring_factors : (ℕ → ℕ → ℤ) → ℕ → List Factor
ring_factors value n = flat_map (λ l. map (factor_by value l) (places n)) (places n)

-- ---- the ring
-- the market of a ring of n buses; each branch is an outage
abbrev pub ring_of : ℕ → ℕ → Parts
ring_of n seed = record (bare_parts
    (map (λ i. ring_bus i (drawn seed i)) (places n))
    (map ring_unit (places n))
    (flat_map (λ i. ring_blocks i (drawn seed i)) (places n))) {
      lines = map (λ i. ring_branch i (drawn seed i)) (places n);
      outages = map (λ i. i + 1) (places n);
      shift = ring_factors (ring_shift n) n;
      loss = ring_factors ring_loss n;
    }

-- a market with one bus more: with its unit, its blocks and the branch that leaves it, which is an outage too
abbrev pub with_bus : Parts → ℕ → Drawn → Parts
with_bus m i d = record m {
  buses = m.buses ++ ring_bus i d ∷ [];
  units = m.units ++ ring_unit i ∷ [];
  blocks = m.blocks ++ ring_blocks i d;
  lines = m.lines ++ ring_branch i d ∷ [];
  outages = m.outages ++ (i + 1) ∷ [];
}
