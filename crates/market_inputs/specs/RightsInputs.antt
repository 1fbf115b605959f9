-- What the bytes of a table of transmission rights stand for.
use Rattle.std.specs.Prelude.{ℕ, List, Result}
use Rattle.record_reading.specs.Steps.{and_then, or_as}
use Rattle.market_model.specs.declared.participants.Parts.{Parts}
use Rattle.market_model.specs.declared.participants.TransmissionRight.{TransmissionRight}
use Rattle.refusal_text.specs.declared.refusals.Refusal.{Refusal}
use Rattle.refusal_text.specs.declared.refusals.Refusal.TheVariants as refusal
use Rattle.rights_test.specs.RightsTable.{rights_of_table}

-- the rights between buses of a market, or the first fault
abbrev pub rights_in : Parts → Result (List ℕ) Refusal → Result (List TransmissionRight) Refusal
rights_in m bytes = and_then bytes (λ text. or_as refusal.Rights (rights_of_table m text))
