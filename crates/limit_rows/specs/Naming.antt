-- Limit rows by their names.
use Rattle.std.specs.Prelude.{◌≡◌, ℕ, Bool}
use Rattle.market_model.specs.declared.answered.RowId.{RowId}
use Rattle.market_model.specs.declared.limits.Cause.{Cause}
use Rattle.market_model.specs.declared.limits.Row.{Row}
use Rattle.market_model.specs.declared.participants.Parts.{Parts}
use Rattle.market_model.specs.LimitRows.{outage_of, row_id, unit_of}
use Rattle.market_model.specs.Optimality.{same_id}

-- a cause that loses the branch and the unit of these rows, of which 0 is none
pub record IsCauseNamed (m : Parts) (cause : Cause) (branch_row unit_row : ℕ) : Type 0 where
  pub branch : outage_of m cause ≡ branch_row
  pub unit : unit_of m cause ≡ unit_row

-- a row of this name
abbrev pub has_name : Parts → RowId → Row → Bool
has_name m name r = same_id (row_id m r) name
