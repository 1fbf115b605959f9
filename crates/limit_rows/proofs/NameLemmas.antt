-- The row of a name.
use Rattle.std.specs.Prelude.{◌≡◌, ℕ, Some, Contains}
use Rattle.std.specs.List.{position}
use Rattle.std.proofs.Common.{get_or}
use Rattle.std.proofs.lemmas.List.Quantifiers.{position-Some}
use Rattle.market_model.specs.declared.answered.RowId.{RowId}
use Rattle.market_model.specs.declared.participants.Parts.{Parts}
use Rattle.market_model.specs.declared.limits.Row.{Row}
use Rattle.market_model.specs.declared.limits.Cause.TheVariants.{Base}
use Rattle.market_model.specs.LimitRows.{row_id, rows}
use Rattle.market_model.proofs.ChangeLemmas.{same_default}
use Rattle.limit_rows.specs.Naming.{has_name}
use Rattle.limit_rows.proofs.PlaceLemmas.{same_name}

-- a name with a place is that of a row
pub named_row : (m : Parts) (name : RowId) (i : ℕ) → position (has_name m name) (rows m) ≡ Some i → (r : Row) × Contains (rows m) r × (row_id m r ≡ name)
named_row m name i e =
    let none : Row = record { line = 0; cause = Base } in
    let found = position-Some (has_name m name) (rows m) i none e in
    let r = get_or (rows m) i none in
    (r, (i, found.0, same_default (rows m) i r none found.0), same_name (row_id m r) name found.1)
