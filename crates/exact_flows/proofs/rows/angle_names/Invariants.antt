use Rattle.std.proofs.Common.{◌≡◌, ◌<◌, ℕ, length}
use Rattle.std.specs.Prelude.{slice_index}
use Rattle.exact_flows.specs.Building.{bus_of}
use Rattle.exact_flows.proofs.rows.angle_names.Given as goal

abbrev pub invariant-loop-column : goal.invariant-loop-column
invariant-loop-column l = (length l.names ≡ l.column) × ((c : ℕ) → c < length l.names → slice_index l.names c ≡ bus_of l.reference c)
