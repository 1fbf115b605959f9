use Rattle.cost_reading.proofs.cells.sign.Goals as goal

pub returns-in-Ok : goal.returns-in-Ok
returns-in-Ok c = rw c.cell.ensures at c.in-Ok.ensures.means
