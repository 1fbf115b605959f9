-- What the tables lack of the limits and outages of a market.
use Rattle.std.specs.Prelude.{ℕ, ◌==◌, ◌||◌, ◌&&◌, not, Bool, List, length, nat_lt, is_some, Result, Ok, Err}
use Rattle.std.specs.List.{find, list_any}
use Rattle.std.specs.Option.{option_map_or}
use Rattle.net_case.specs.Networks.{LiveNetwork}
use Rattle.net_case.specs.declared.live_parts.NetBranch.{NetBranch}
use Rattle.factor_tables.specs.declared.covering.Uncovered.{Uncovered}
use Rattle.factor_tables.specs.declared.covering.Uncovered.TheVariants as uncovered
use Rattle.factor_tables.specs.Factors.{Entry, has_branch, has_outage}

-- whether an outage is listed
abbrev pub is_listed : List ℕ → ℕ → Bool
is_listed outages row = list_any (λ outage. outage == row) outages

-- a base limit, an outage of its own, or a post-outage limit while some outage is listed, of a branch or of a unit
unfoldable pub needs_shift : List ℕ → Bool → NetBranch → Bool
needs_shift outages units branch = is_some branch.base || is_listed outages branch.row || (is_some branch.post && (nat_lt 0 (length outages) || units))

-- a branch that needs a record in the shift table and has none
abbrev pub lacks_shift : List Entry → List ℕ → Bool → NetBranch → Bool
lacks_shift shift outages units branch = needs_shift outages units branch && not (has_branch shift branch.row)

-- the first live branch that lacks a record in the shift table, and else the first outage that has none in the outage table
unfoldable pub cover_of : LiveNetwork → List Entry → List Entry → List ℕ → Bool → Result (Unit {0}) Uncovered
cover_of network shift loss outages units =
    option_map_or (λ branch. Err (uncovered.NoShift branch.row)) (find (lacks_shift shift outages units) network.branches)
    (option_map_or (λ outage. Err (uncovered.NoLoss outage)) (find (λ outage. not (has_outage loss outage)) outages) (Ok tt))
