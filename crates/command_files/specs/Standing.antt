-- What the files that words name stand for, and what is right to tell of them.
use Rattle.std.specs.Prelude.{◌≡◌, ℕ, List, Option, Some, None, Result, is_some}
use Rattle.fraction_theory.specs.Fraction.{Fraction}
use Rattle.outside_store.specs.Files.{Files}
use Rattle.cert_format.specs.declared.certificate.Cert.{Cert}
use Rattle.number_bits.specs.Bits.{most_of}
use Rattle.number_bits.specs.declared.NumberBits.{NumberBits}
use Rattle.market_inputs.specs.declared.checking.Inputs.{Inputs}
use Rattle.market_inputs.specs.declared.making.FactorInputs.{FactorInputs}
use Rattle.market_inputs.specs.Texts.{IsPool, IsLimited, IsCheck}
use Rattle.market_model.specs.declared.participants.Parts.{Parts}
use Rattle.market_tables.specs.Tables.{GridTexts, MarketTexts}
use Rattle.refusal_text.specs.declared.refusals.Refusal.{Refusal}
use Rattle.edit_table.specs.EditTable.{edit_header}
use Rattle.factor_tables.specs.OutageNumbers.{outage_header}
use Rattle.command_words.specs.Words.{CheckNames, FactorNames, MarketNames}
use Rattle.command_answers.specs.Factors.{TellsFactors}
use Rattle.command_answers.specs.Inputs.{AreEntitled, IsCertificate, IsCertified, IsFactorWork, IsReplayed, MarketCertificate, MarketRights, MarketSteps}
use Rattle.command_answers.specs.Tellings.{Telling, Tells}
use Rattle.command_files.specs.Reading.{HaveGridTexts, HaveTexts, IsTableFile, source_of}

-- the files of a pool stand for this market, or this is their first fault
pub record ArePoolFiles (files : Files) (case_name offers_name : List ℕ) (told : Result Parts Refusal) : Type 0 where
  pub case : List ℕ
  pub offers : List ℕ
  pub case_is : files case_name ≡ Some case
  pub offers_is : files offers_name ≡ Some offers
  pub market : IsPool case offers told

-- those of a clear do
pub record AreClearFiles (files : Files) (names : MarketNames) (told : Result Parts Refusal) : Type 0 where
  pub texts : MarketTexts
  pub have : HaveTexts files names texts
  pub market : IsLimited names.rating names.places texts told

-- those of a replay stand for this market and these steps
pub record AreReplayFiles (files : Files) (names : MarketNames) (edits_name : List ℕ) (told : Result MarketSteps Refusal) : Type 0 where
  pub texts : MarketTexts
  pub edits : List ℕ
  pub have : HaveTexts files names texts
  pub edits_are : files edits_name ≡ Some edits
  pub steps : IsReplayed names.rating names.places texts edits told

-- those of a verification stand for this market, edited, and this certificate
pub record AreVerifyFiles (files : Files) (names : MarketNames) (edits_name : Option (List ℕ)) (certificate_name : List ℕ) (told : Result MarketCertificate Refusal) : Type 0 where
  pub texts : MarketTexts
  pub edits : List ℕ
  pub certificate : List ℕ
  pub have : HaveTexts files names texts
  pub edits_are : IsTableFile files (source_of edit_header edits_name) edits
  pub certificate_is : files certificate_name ≡ Some certificate
  pub certified : IsCertified (most_of names.bits) names.rating names.places texts edits certificate told

-- those of a clear with rights stand for this market and these rights
pub record AreRightsFiles (files : Files) (names : MarketNames) (rights_name : List ℕ) (told : Result MarketRights Refusal) : Type 0 where
  pub texts : MarketTexts
  pub rights : List ℕ
  pub have : HaveTexts files names texts
  pub rights_are : files rights_name ≡ Some rights
  pub entitled : AreEntitled names.rating names.places texts rights told

-- that of a certificate which is written anew stands for it, whose numbers may have so many bits
pub record IsMigratedFile (files : Files) (certificate_name : List ℕ) (bits : NumberBits) (told : Result (Cert Fraction) Refusal) : Type 0 where
  pub certificate : List ℕ
  pub certificate_is : files certificate_name ≡ Some certificate
  pub read : IsCertificate (most_of bits) certificate told

-- those of a check stand for these inputs
pub record AreCheckFiles (files : Files) (names : CheckNames) (told : Result Inputs Refusal) : Type 0 where
  pub texts : GridTexts
  pub have : HaveGridTexts files names.tables texts
  pub inputs : IsCheck names.places texts told

-- those of which tables of factors are made stand for this network, its reactances and these outages
pub record AreFactorFiles (files : Files) (names : FactorNames) (told : Result FactorInputs Refusal) : Type 0 where
  pub case : List ℕ
  pub outages : List ℕ
  pub case_is : files names.case ≡ Some case
  pub outages_are : IsTableFile files (source_of outage_header names.contingencies) outages
  pub work : IsFactorWork case outages told

-- what these come to, with a table of outage factors where a file is named for it, and factors of so many places
abbrev pub TellsFactorsOf : FactorNames → FactorInputs → Telling → Type 0
TellsFactorsOf names = TellsFactors (is_some names.lodf_out) names.places

-- ---- where the files are told
-- what is told is right for what the files stand for
abbrev pub OfFiles : {A : Type 0} → Option Files → (Files → Result A Refusal → Type 0) → (A → Telling → Type 0) → Telling → Type 0
OfFiles None stand right t = Unit {0}
OfFiles (Some files) stand right t = Tells (stand files) right t
