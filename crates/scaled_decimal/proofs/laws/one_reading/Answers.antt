use Rattle.scaled_decimal.proofs.ReadingLaws as readings
use Rattle.scaled_decimal.proofs.laws.one_reading.Goals as goal

pub returns : goal.returns
returns c = readings.one_reading
