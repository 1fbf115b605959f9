-- What is right to tell of the words of a run and of the files that they name.
use Rattle.std.specs.Prelude.{◌≡◌, ◌⊎◌, ℕ, List, [], ◌∷◌, Option, Some, None}
use Rattle.number_bits.specs.Bits.{most_of}
use Rattle.number_bits.specs.declared.NumberBits.{NumberBits}
use Rattle.number_bits.specs.declared.NumberBits.TheVariants.{Bits127}
use Rattle.outside_store.specs.Files.{Files}
use Rattle.command_words.specs.Words.{AsksCheck, AsksClear, AsksFactors, AsksMake, AsksMigrate, AsksNothing, AsksPool, AsksReplay, AsksRights, AsksVerify, CheckNames, FactorNames, MarketNames, NamesToWrite}
use Rattle.command_answers.specs.Checking.{TellsCheck}
use Rattle.command_answers.specs.Clearing.{TellsClear}
use Rattle.command_answers.specs.Making.{MakesTo}
use Rattle.command_answers.specs.Migrating.{TellsMigration}
use Rattle.command_answers.specs.Replaying.{TellsReplay}
use Rattle.command_answers.specs.Rights.{TellsRights}
use Rattle.command_answers.specs.Tellings.{Telling, certified, map_outputs, tabled, telling_of}
use Rattle.command_answers.specs.Verifying.{TellsVerdict}
use Rattle.command_answers.specs.declared.told.Outputs.{Outputs}
use Rattle.command_answers.specs.declared.status.Status.{Status}
use Rattle.command_answers.specs.declared.status.Status.TheVariants as status
use Rattle.command_files.specs.Standing.{AreCheckFiles, AreClearFiles, AreFactorFiles, ArePoolFiles, AreReplayFiles, AreRightsFiles, AreVerifyFiles, IsMigratedFile, OfFiles, TellsFactorsOf}
use Rattle.sced.specs.Runs.{Ends, FailsAt, Outside}
use Rattle.sced.specs.declared.run.Work.{Work}

-- ---- the words
-- a file that is named, with the bytes that there are for it, before others
abbrev pub named_bytes : Option (List ℕ) → Option (List ℕ) → List (List ℕ × List ℕ) → List (List ℕ × List ℕ)
named_bytes (Some name) (Some bytes) others = (name, bytes) ∷ others
named_bytes (Some name) None others = others
named_bytes None bytes others = others

-- the files that are named for outputs, with the bytes that there are for them, in the order in which they are written
abbrev pub named_outputs : Outputs (List ℕ) → Outputs (List ℕ) → List (List ℕ × List ℕ)
named_outputs names outputs = named_bytes names.ptdf outputs.ptdf (named_bytes names.lodf outputs.lodf (named_bytes names.certificate outputs.certificate []))

-- a file of this name is named for an output
abbrev pub IsOutputFile : Outputs (List ℕ) → List ℕ → Type 0
IsOutputFile names file = (names.ptdf ≡ Some file) ⊎ (names.lodf ≡ Some file) ⊎ (names.certificate ≡ Some file)

-- the files that are named for what is told, and those with the bytes that there are for them
abbrev pub names_for : Work → Outputs (List ℕ)
names_for work = map_outputs (λ name. name.now) work.files

abbrev pub written_by : Work → List (List ℕ × List ℕ)
written_by work = named_outputs (names_for work) (telling_of work.told).outputs

-- The words are refused, or what is told is right for the files that they name. The files that there are to write are a certificate: that
-- which a clear or a replay has, where the words name a file for it, or one that is written anew; or tables of factors that are made, that of
-- shift factors first. Numbers have the bound that the words ask for, that of 127 bits where they say nothing.
pub data AnswersTo (files : Option Files) (words : List (List ℕ)) (t : Telling) : List (List ℕ × List ℕ) → Type 0 where
  refused : AsksNothing words → t.status ≡ status.Usage → AnswersTo files words t []
  pooled : (case offers : List ℕ) → AsksPool words case offers → OfFiles files (λ f. ArePoolFiles f case offers) (TellsClear (most_of Bits127)) t → AnswersTo files words t []
  cleared : (names : MarketNames) (file : Option (List ℕ)) → AsksClear words names file → OfFiles files (λ f. AreClearFiles f names) (TellsClear (most_of names.bits)) t
      → AnswersTo files words t (named_outputs (certified file) t.outputs)
  replayed : (names : MarketNames) (edits : List ℕ) (file : Option (List ℕ)) → AsksReplay words names edits file
      → OfFiles files (λ f. AreReplayFiles f names edits) (TellsReplay (most_of names.bits)) t → AnswersTo files words t (named_outputs (certified file) t.outputs)
  verified : (names : MarketNames) (edits : Option (List ℕ)) (certificate : List ℕ) → AsksVerify words names edits certificate
      → OfFiles files (λ f. AreVerifyFiles f names edits certificate) (TellsVerdict (most_of names.bits)) t → AnswersTo files words t []
  entitled : (names : MarketNames) (rights : List ℕ) → AsksRights words names rights → OfFiles files (λ f. AreRightsFiles f names rights) (TellsRights (most_of names.bits)) t → AnswersTo files words t []
  migrated : (certificate out : List ℕ) (bits : NumberBits) → AsksMigrate words certificate out bits → OfFiles files (λ f. IsMigratedFile f certificate bits) TellsMigration t
      → AnswersTo files words t (named_outputs (certified (Some out)) t.outputs)
  checked : (names : CheckNames) → AsksCheck words names → OfFiles files (λ f. AreCheckFiles f names) TellsCheck t → AnswersTo files words t []
  factored : (names : FactorNames) → AsksFactors words names → OfFiles files (λ f. AreFactorFiles f names) (TellsFactorsOf names) t
      → AnswersTo files words t (named_outputs (tabled names.ptdf_out names.lodf_out) t.outputs)
  made : (buses seed : ℕ) → AsksMake words buses seed → MakesTo (most_of Bits127) buses seed t → AnswersTo files words t []

-- what is told is right for the words and for the files that these name, and so is the file that is written
pub record Answers (words : List (List ℕ)) (before after : Outside) (s : Status) : Type 0 where
  pub telling : Telling
  pub written : List (List ℕ × List ℕ)
  pub right : AnswersTo before.files words telling written
  pub ends : Ends telling written before.files after.files before.taken after.taken s
  -- where a write or a put failed, a failure of one that was asked for is counted
  pub failed : s ≡ status.WriteFailed → FailsAt (NamesToWrite words) written before after
