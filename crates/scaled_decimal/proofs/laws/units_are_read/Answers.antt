use Rattle.scaled_decimal.proofs.ReadingLaws as readings
use Rattle.scaled_decimal.proofs.laws.units_are_read.Goals as goal

pub returns : goal.returns
returns c = readings.Reads-units_of
