-- The rows of a market one by one, in order.
use Rattle.std.specs.Prelude.{◌≡◌, ℕ, ◌+◌, List, [], ◌∷◌, ◌++◌, length, Option, MatchOption, drop}
use Rattle.std.specs.List.{flat_map}
use Rattle.market_model.specs.declared.participants.Parts.{Parts}
use Rattle.market_model.specs.Dispatch.{places}
use Rattle.market_model.specs.declared.limits.Cause.{Cause}
use Rattle.market_model.specs.declared.limits.Row.{Row}
use Rattle.market_model.specs.LimitRows.{causes, rows_among, rows_of, lines_among}

-- the lines from a place on
abbrev pub lines_from : Parts → ℕ → List ℕ
lines_from m line = drop line (places (length m.lines))

-- the rows of the first of some causes from a line on, and all of the causes behind it
abbrev pub rows_under : Parts → ℕ → List Cause → List Row
rows_under m line [] = []
rows_under m line (cause ∷ behind) = rows_among m cause (lines_from m line) ++ flat_map (rows_of m) behind

-- the rows from a line on of the cause at a place, and those of the causes behind it
abbrev pub rows_from : Parts → ℕ → ℕ → List Row
rows_from m place line = rows_under m line (drop place (causes m))

-- the first line from a place on that has a limit under a cause
abbrev pub IsNextLine : Parts → Cause → ℕ → Option ℕ → Type 0
IsNextLine m cause line found = MatchOption found (lines_among m cause (lines_from m line) ≡ []) (λ l. lines_among m cause (lines_from m line) ≡ l ∷ lines_among m cause (lines_from m (l + 1)))
