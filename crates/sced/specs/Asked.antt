-- What the words of a run ask, with what the files that they name stand for, or their first fault.
use Rattle.std.specs.Prelude.{ℕ, List, Option, Result, Ok}
use Rattle.fraction_theory.specs.Fraction.{Fraction}
use Rattle.number_bits.specs.Bits.{most_of}
use Rattle.number_bits.specs.declared.NumberBits.{NumberBits}
use Rattle.number_bits.specs.declared.NumberBits.TheVariants.{Bits127}
use Rattle.outside_store.specs.Files.{Files}
use Rattle.market_model.specs.declared.participants.Parts.{Parts}
use Rattle.market_model.specs.declared.participants.TransmissionRight.{TransmissionRight}
use Rattle.cert_format.specs.declared.certificate.Cert.{Cert}
use Rattle.edit_table.specs.declared.Step.{Step}
use Rattle.command_words.specs.Words.{AsksCheck, AsksClear, AsksFactors, AsksMigrate, AsksPool, AsksReplay, AsksRights, AsksVerify, CheckNames, FactorNames, MarketNames}
use Rattle.market_inputs.specs.declared.checking.Inputs.{Inputs}
use Rattle.market_inputs.specs.declared.making.FactorInputs.{FactorInputs}
use Rattle.refusal_text.specs.declared.refusals.Refusal.{Refusal}
use Rattle.command_answers.specs.Inputs.{MarketCertificate, MarketRights, MarketSteps}
use Rattle.command_files.specs.Standing.{AreCheckFiles, AreClearFiles, AreFactorFiles, ArePoolFiles, AreReplayFiles, AreRightsFiles, AreVerifyFiles, IsMigratedFile}

-- to clear a market, as if no branch had a limit or within the limits
pub data AsksToClear (files : Files) (words : List (List ℕ)) (told : Result Parts Refusal) : Type 0 where
  as_pool : (case offers : List ℕ) → AsksPool words case offers → ArePoolFiles files case offers told → AsksToClear files words told
  as_clear : (names : MarketNames) (file : Option (List ℕ)) → AsksClear words names file → AreClearFiles files names told → AsksToClear files words told

-- the greatest size of a numerator or a denominator that the words ask for: that of 127 bits where they say nothing
abbrev pub clear_bound : {files : Files} {words : List (List ℕ)} {told : Result Parts Refusal} → AsksToClear files words told → ℕ
clear_bound (as_pool case offers asks stands) = most_of Bits127
clear_bound (as_clear names file asks stands) = most_of names.bits

-- steps of a market
pub record AsksToReplay (files : Files) (words : List (List ℕ)) (told : Result MarketSteps Refusal) : Type 0 where
  pub names : MarketNames
  pub edits : List ℕ
  pub certificate : Option (List ℕ)
  pub asks : AsksReplay words names edits certificate
  pub stand : AreReplayFiles files names edits told

-- whether a certificate holds of a market
pub record AsksToVerify (files : Files) (words : List (List ℕ)) (told : Result MarketCertificate Refusal) : Type 0 where
  pub names : MarketNames
  pub edits : Option (List ℕ)
  pub certificate : List ℕ
  pub asks : AsksVerify words names edits certificate
  pub stand : AreVerifyFiles files names edits certificate told

-- whether rights to what the limits of a market earn fit, and what they are paid
pub record AsksForRights (files : Files) (words : List (List ℕ)) (told : Result MarketRights Refusal) : Type 0 where
  pub names : MarketNames
  pub rights : List ℕ
  pub asks : AsksRights words names rights
  pub stand : AreRightsFiles files names rights told

-- to write a certificate anew
pub record AsksToMigrate (files : Files) (words : List (List ℕ)) (told : Result (Cert Fraction) Refusal) : Type 0 where
  pub certificate : List ℕ
  pub out : List ℕ
  pub bits : NumberBits
  pub asks : AsksMigrate words certificate out bits
  pub stand : IsMigratedFile files certificate bits told

-- how far tables of factors are from those of the network
pub record AsksToCheck (files : Files) (words : List (List ℕ)) (told : Result Inputs Refusal) : Type 0 where
  pub names : CheckNames
  pub asks : AsksCheck words names
  pub stand : AreCheckFiles files names told

-- tables of the shift factors and the outage factors of a network
pub record AsksForFactors (files : Files) (words : List (List ℕ)) (told : Result FactorInputs Refusal) : Type 0 where
  pub names : FactorNames
  pub asks : AsksFactors words names
  pub stand : AreFactorFiles files names told

-- this market, these steps of this market, this certificate of this market, and these rights to what its limits earn
abbrev pub AsksMarket : Files → List (List ℕ) → Parts → Type 0
AsksMarket files words m = AsksToClear files words (Ok m)

abbrev pub AsksSteps : Files → List (List ℕ) → Parts → List Step → Type 0
AsksSteps files words m steps = AsksToReplay files words (Ok (record { market = m; steps = steps }))

abbrev pub AsksVerdict : Files → List (List ℕ) → Parts → Cert Fraction → Type 0
AsksVerdict files words m c = AsksToVerify files words (Ok (record { market = m; certificate = c }))

abbrev pub AsksHeld : Files → List (List ℕ) → Parts → List TransmissionRight → Type 0
AsksHeld files words m rights = AsksForRights files words (Ok (record { market = m; rights = rights }))
