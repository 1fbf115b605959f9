-- The rows under a cause.
use Rattle.std.specs.Prelude.{◌≡◌, length}
use Rattle.market_model.specs.declared.participants.Parts.{Parts}
use Rattle.market_model.specs.declared.limits.Cause.{Cause}
use Rattle.market_model.specs.LimitRows.{rows_of}
use Rattle.market_model.proofs.RowMembers.{row_on, lines_of}
use Rattle.limit_rows.proofs.GroupLemmas.{length-map}

pub length-rows_of : (m : Parts) (cause : Cause) → length (rows_of m cause) ≡ length (lines_of m cause)
length-rows_of m cause = length-map (row_on cause) (lines_of m cause)
