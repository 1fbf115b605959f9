use Rattle.scaled_decimal.proofs.ReadingLaws as readings
use Rattle.scaled_decimal.proofs.laws.numbers_are_told.Goals as goal

pub returns : goal.returns
returns c = readings.is_number_text-IsNumber
