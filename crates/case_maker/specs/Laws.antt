-- What rings come to: every one has a feasible dispatch, and its limits are as many as its branches squared.
use Rattle.std.specs.Prelude.{◌≡◌, ℕ, ◌*◌, ◌≤◌, length}
use Rattle.market_model.specs.Dispatch.{Dispatch}
use Rattle.market_model.specs.LimitRows.{rows}
use Rattle.market_model.specs.Optimality.{Feasible}
use Rattle.case_maker.specs.Rings.{ring_of}
use Rattle.market_data.specs.Scales.{IsRingSize}

-- there is a feasible dispatch
abbrev pub LawOfServing : Type 0
LawOfServing = (n seed : ℕ) → IsRingSize n → seed ≤ 4294967295 → (x : Dispatch) × Feasible (ring_of n seed) x

-- how many there are of each part, and of limits
pub record HasCounts (n seed : ℕ) : Type 0 where
  pub buses : length (ring_of n seed).buses ≡ n
  pub units : length (ring_of n seed).units ≡ n
  pub blocks : length (ring_of n seed).blocks ≡ 2 * n
  pub lines : length (ring_of n seed).lines ≡ n
  pub outages : length (ring_of n seed).outages ≡ n
  pub limits : length (rows (ring_of n seed)) ≡ n * n

abbrev pub LawOfTheCounts : Type 0
LawOfTheCounts = (n seed : ℕ) → IsRingSize n → HasCounts n seed
