-- What the bytes of a table of edits and those of a certificate stand for.
use Rattle.std.specs.Prelude.{◌≡◌, ℕ, List, Result, Ok, Err}
use Rattle.fraction_theory.specs.Fraction.{Fraction}
use Rattle.record_reading.specs.Steps.{and_then, or_as}
use Rattle.cert_format.specs.Certificates.{cert_at}
use Rattle.cert_format.specs.Grammar.{cert_read}
use Rattle.cert_format.specs.declared.certificate.Cert.{Cert}
use Rattle.edit_table.specs.EditTable.{steps_of_table}
use Rattle.edit_table.specs.declared.Step.{Step}
use Rattle.refusal_text.specs.declared.refusals.Refusal.{Refusal}
use Rattle.refusal_text.specs.declared.refusals.Refusal.TheVariants as refusal
use Rattle.market_inputs.specs.declared.stops.InputStop.{InputStop}
use Rattle.market_inputs.specs.declared.stops.InputStop.TheVariants as stop

-- the steps of a table of edits
abbrev pub steps_in : Result (List ℕ) Refusal → Result (List Step) Refusal
steps_in bytes = and_then bytes (λ text. or_as refusal.Edits (steps_of_table text))

-- the certificate of a text, of numbers whose parts are at most `most`
abbrev pub certificate_in : ℕ → Result (List ℕ) Refusal → Result (Cert Fraction) Refusal
certificate_in most bytes = and_then bytes (λ text. or_as refusal.Certificate (cert_read most text))

-- what was read has this value, or this is the fault; want of memory may come at any time
abbrev pub IsReadAs : {N : Type 0} → (N → Fraction) → Result (Cert Fraction) Refusal → Result (Cert N) InputStop → Type 0
IsReadAs value stands (Ok cert) = stands ≡ Ok (cert_at value cert)
IsReadAs value stands (Err (stop.Refused r)) = stands ≡ Err r
IsReadAs value stands (Err stop.Memory) = Unit {0}
