-- Lines with hard limits, and with limits that give way at a penalty.
-- Transmission constraint penalty factors: what operators let a limit be exceeded for.
use Rattle.std.specs.Prelude.{ℕ, ℤ, pos, ◌≤ℤ◌, ◌<ℤ◌, Option}
use Rattle.market_model.specs.declared.participants.Line.{Line}

-- a line whose limits are hard
abbrev pub hard_line : ℕ → Option ℤ → Option ℤ → ℤ → Line
hard_line row base post offset = record {
  row = row;
  base = base;
  post = post;
  base_price = pos 0;
  base_excess = pos 0;
  post_price = pos 0;
  post_excess = pos 0;
  offset = offset;
}

-- the penalty of a limit and the most by which it may be exceeded: neither below 0, and the second above 0 at a penalty alone
pub record IsPenalty (price excess : ℤ) : Type 0 where
  pub costs : pos 0 ≤ℤ price
  pub exceeds : pos 0 ≤ℤ excess
  pub priced : pos 0 <ℤ excess → pos 0 <ℤ price
