-- The text of a table of penalties by which each limit of a network gives way.
use Rattle.std.specs.Prelude.{ℕ, Bool, true, false, List, [], ◌∷◌, ◌++◌, map, filter, codes, decimal, is_some, if◌then◌else◌}
use Rattle.std.specs.List.{flat_map}
use Rattle.csv_table.specs.Table.{header_line}
use Rattle.line_text.specs.Decimals.{decimal_text}
use Rattle.market_data.specs.Scales.{mw_places, price_places}
use Rattle.net_case.specs.Networks.{LiveNetwork}
use Rattle.net_case.specs.declared.live_parts.NetBranch.{NetBranch}
use Rattle.factor_tables.specs.Penalties.{Limit, PenaltyEntry, branch_limit, penalty_header}
use Rattle.factor_tables.specs.declared.penalty_list.Softness.{Softness}

-- ---- the entries
-- the limits that a branch has: that in the base, then that after an outage
abbrev pub limits_of : NetBranch → List Limit
limits_of branch = map (λ post. (branch.row, post)) (filter (λ post. is_some (branch_limit post branch)) (false ∷ true ∷ []))

-- each of them gives way by the same penalty
abbrev pub soft_limits : Softness → NetBranch → List PenaltyEntry
soft_limits softness branch = map (λ limit. (limit, softness)) (limits_of branch)

-- so do the limits of all live branches
abbrev pub all_soft : LiveNetwork → Softness → List PenaltyEntry
all_soft network softness = flat_map (soft_limits softness) network.branches

-- ---- the text
-- the word of the limit after an outage, or of that in the base
abbrev pub limit_word : Bool → List ℕ
limit_word post = if post then codes "post" else codes "base"

-- the line of an entry: its branch's row, its limit, the price and the most excess in MW, as decimals without zeros at their end
abbrev pub penalty_line : PenaltyEntry → List ℕ
penalty_line entry =
    decimal entry.0.0 ++ codes "," ++ limit_word entry.0.1 ++ codes "," ++ decimal_text price_places entry.1.price ++ codes "," ++ decimal_text mw_places entry.1.most_excess ++ codes "\n"

unfoldable pub branch_lines : Softness → NetBranch → List ℕ
branch_lines softness branch = flat_map penalty_line (soft_limits softness branch)

-- the header, then a line for each limit of each live branch
unfoldable pub penalty_text : LiveNetwork → Softness → List ℕ
penalty_text network softness = header_line penalty_header ++ flat_map (branch_lines softness) network.branches
