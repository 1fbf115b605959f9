use Rattle.std.proofs.Common.{List, ℕ, Err, refl, subst}
use Rattle.scaled_decimal.specs.Reading.{Reads}
use Rattle.cost_reading.proofs.cells.number.Goals as goal

pub returns-in-Err : goal.returns-in-Err
returns-in-Err c =
    (c.in-Err.fault, refl, subst (λ (bytes : List ℕ). Reads c.args.places bytes (Err c.in-Err.fault)) c.cell.ensures c.in-Err.ensures.means)
