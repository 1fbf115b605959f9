-- How many lines have limits.
use Rattle.std.specs.Prelude.{◌≡◌, ℕ, Bool, true, false, length, filter}
use Rattle.market_model.specs.declared.participants.Parts.{Parts}
use Rattle.market_model.specs.Dispatch.{places, line_at}
use Rattle.market_model.specs.LimitRows.{has_limit}
use Rattle.limit_rows.specs.declared.counting.LimitCounts.{LimitCounts}

-- how many of the first lines have a limit after outages, or else in the base
abbrev pub limits_to : Parts → Bool → ℕ → ℕ
limits_to m post k = length (filter (λ l. has_limit post (line_at m l)) (places k))

-- the numbers of all lines
pub record AreLimitCounts (m : Parts) (counts : LimitCounts) : Type 0 where
  pub base : counts.base ≡ limits_to m false (length m.lines)
  pub post : counts.post ≡ limits_to m true (length m.lines)
