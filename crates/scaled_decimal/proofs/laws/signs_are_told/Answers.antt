use Rattle.scaled_decimal.proofs.ReadingLaws as readings
use Rattle.scaled_decimal.proofs.laws.signs_are_told.Goals as goal

pub returns : goal.returns
returns c = readings.HasSign-sign_in
