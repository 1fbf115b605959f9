-- What the whole bytes of files stand for.
use Rattle.std.specs.Prelude.{ℕ, List, Result, Ok, Err}
use Rattle.fraction_theory.specs.Fraction.{Fraction}
use Rattle.market_model.specs.declared.participants.Parts.{Parts}
use Rattle.market_model.specs.declared.participants.TransmissionRight.{TransmissionRight}
use Rattle.market_data.specs.declared.scales.FactorPlaces.{FactorPlaces}
use Rattle.net_case.specs.declared.live_parts.PostRating.{PostRating}
use Rattle.cert_format.specs.Certificates.{cert_at}
use Rattle.cert_format.specs.declared.certificate.Cert.{Cert}
use Rattle.edit_table.specs.declared.Step.{Step}
use Rattle.edit_replay.specs.Replays.{edited_by}
use Rattle.refusal_text.specs.declared.refusals.Input.TheVariants as input
use Rattle.refusal_text.specs.declared.refusals.Refusal.{Refusal}
use Rattle.refusal_text.specs.declared.refusals.Refusal.TheVariants as refusal
use Rattle.market_tables.specs.Tables.{MarketTexts}
use Rattle.market_inputs.specs.Files.{sized}
use Rattle.market_inputs.specs.Replaying.{certificate_in, steps_in}
use Rattle.market_inputs.specs.RightsInputs.{rights_in}
use Rattle.market_inputs.specs.Steps.{Is, Then}
use Rattle.market_inputs.specs.Making.{AreFactorInputs}
use Rattle.market_inputs.specs.declared.making.FactorInputs.{FactorInputs}
use Rattle.market_inputs.specs.declared.stops.InputStop.{InputStop}
use Rattle.market_inputs.specs.Texts.{IsLimited}
use Rattle.command_answers.specs.declared.replaying.Replayed.{Replayed}
use Rattle.command_answers.specs.declared.rights.Entitled.{Entitled}
use Rattle.command_answers.specs.declared.verifying.Certified.{Certified}

-- ---- a market with steps
pub record MarketSteps : Type 0 where
  pub market : Parts
  pub steps : List Step

-- those that were read
abbrev pub market_steps : Replayed → MarketSteps
market_steps made = record { market = made.market; steps = made.steps }

abbrev pub steps_with : Result Replayed InputStop → Result MarketSteps InputStop
steps_with (Ok made) = Ok (market_steps made)
steps_with (Err stop) = Err stop

-- what these texts and a table of edits stand for; the edits come last
abbrev pub IsReplayed : PostRating → FactorPlaces → MarketTexts → List ℕ → Result MarketSteps Refusal → Type 0
IsReplayed rating places texts edits told =
    Then (IsLimited rating places texts) (λ market.
    Then (Is (steps_in (sized (refusal.TooLong input.Edits) edits))) (λ steps.
    Is (Ok (record { market = market; steps = steps })))) told

-- ---- a market with a certificate
pub record MarketCertificate : Type 0 where
  pub market : Parts
  pub certificate : Cert Fraction

-- those that were read
abbrev pub certificate_with : {N : Type 0} → (N → Fraction) → Result (Certified N) InputStop → Result MarketCertificate InputStop
certificate_with value (Ok made) = Ok (record { market = made.market; certificate = cert_at value made.certificate })
certificate_with value (Err stop) = Err stop

-- what these and the text of a certificate stand for, whose numbers have parts of at most `most`: the market after the edits; the certificate comes
-- last
abbrev pub IsCertified : ℕ → PostRating → FactorPlaces → MarketTexts → List ℕ → List ℕ → Result MarketCertificate Refusal → Type 0
IsCertified most rating places texts edits certificate told =
    Then (IsReplayed rating places texts edits) (λ replayed.
    Then (Is (certificate_in most (sized (refusal.TooLong input.Certificate) certificate))) (λ read.
    Is (Ok (record { market = edited_by replayed.market replayed.steps; certificate = read })))) told

-- ---- a certificate alone
-- what its text stands for
abbrev pub IsCertificate : ℕ → List ℕ → Result (Cert Fraction) Refusal → Type 0
IsCertificate most certificate told = Is (certificate_in most (sized (refusal.TooLong input.Certificate) certificate)) told

-- ---- a market with transmission rights
pub record MarketRights : Type 0 where
  pub market : Parts
  pub rights : List TransmissionRight

-- those that were read
abbrev pub market_rights : Entitled → MarketRights
market_rights made = record { market = made.market; rights = made.rights }

abbrev pub rights_with : Result Entitled InputStop → Result MarketRights InputStop
rights_with (Ok made) = Ok (market_rights made)
rights_with (Err stop) = Err stop

-- what these texts and a table of rights stand for; the rights come last
abbrev pub AreEntitled : PostRating → FactorPlaces → MarketTexts → List ℕ → Result MarketRights Refusal → Type 0
AreEntitled rating places texts rights told =
    Then (IsLimited rating places texts) (λ market.
    Then (Is (rights_in market (sized (refusal.TooLong input.Rights) rights))) (λ held.
    Is (Ok (record { market = market; rights = held })))) told

-- ---- the making of factors
-- what a case and a table of outages stand for
abbrev pub IsFactorWork : List ℕ → List ℕ → Result FactorInputs Refusal → Type 0
IsFactorWork case contingencies told = AreFactorInputs case contingencies told
