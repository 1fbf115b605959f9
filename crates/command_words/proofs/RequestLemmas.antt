-- What a request that was read asks for.
use Rattle.std.proofs.Common.{◌≡◌, subst, Bor, List, Option}
use Rattle.clap.specs.Words.{Text}
use Rattle.command_words.specs.Requests.{Asks, names_of_factors, names_of_market, names_to_check, text_of_name}
use Rattle.command_words.specs.Words.{AsksCheck, AsksClear, AsksFactors, AsksMake, AsksMigrate, AsksPool, AsksReplay, AsksRights, AsksVerify}
use Rattle.command_words.specs.declared.words.CheckFiles.{CheckFiles}
use Rattle.command_words.specs.declared.words.ClearFiles.{ClearFiles}
use Rattle.command_words.specs.declared.words.FactorFiles.{FactorFiles}
use Rattle.command_words.specs.declared.words.MigrateFiles.{MigrateFiles}
use Rattle.command_words.specs.declared.words.PoolFiles.{PoolFiles}
use Rattle.command_words.specs.declared.words.ReplayFiles.{ReplayFiles}
use Rattle.command_words.specs.declared.words.Request.{Request}
use Rattle.command_words.specs.declared.words.Request.TheVariants as request
use Rattle.command_words.specs.declared.words.RightsFiles.{RightsFiles}
use Rattle.command_words.specs.declared.words.RingWords.{RingWords}
use Rattle.command_words.specs.declared.words.VerifyFiles.{VerifyFiles}

pub asks-pool : (words : List Text) (r : Request) (files : PoolFiles) → r ≡ request.Pool files → Asks words r → AsksPool words files.case.now files.offers.now
asks-pool words r files is asks = subst (Asks words) is asks

pub asks-clear : (words : List Text) (r : Request) (files : ClearFiles) → r ≡ request.Clear files → Asks words r
    → AsksClear words (names_of_market files.market) (text_of_name files.certificate)
asks-clear words r files is asks = subst (Asks words) is asks

pub asks-replay : (words : List Text) (r : Request) (files : ReplayFiles) → r ≡ request.Replay files → Asks words r
    → AsksReplay words (names_of_market files.market) files.edits.now (text_of_name files.certificate)
asks-replay words r files is asks = subst (Asks words) is asks

pub asks-verify : (words : List Text) (r : Request) (files : VerifyFiles) → r ≡ request.Verify files → Asks words r
    → AsksVerify words (names_of_market files.market) (text_of_name files.edits) files.certificate.now
asks-verify words r files is asks = subst (Asks words) is asks

pub asks-check : (words : List Text) (r : Request) (files : CheckFiles (Bor Text) (Option (Bor Text))) → r ≡ request.Check files → Asks words r → AsksCheck words (names_to_check files)
asks-check words r files is asks = subst (Asks words) is asks

pub asks-factors : (words : List Text) (r : Request) (files : FactorFiles (Bor Text) (Option (Bor Text))) → r ≡ request.Factors files → Asks words r → AsksFactors words (names_of_factors files)
asks-factors words r files is asks = subst (Asks words) is asks

pub asks-rights : (words : List Text) (r : Request) (files : RightsFiles) → r ≡ request.Rights files → Asks words r → AsksRights words (names_of_market files.market) files.rights.now
asks-rights words r files is asks = subst (Asks words) is asks

pub asks-migrate : (words : List Text) (r : Request) (files : MigrateFiles) → r ≡ request.Migrate files → Asks words r → AsksMigrate words files.certificate.now files.out.now files.bits
asks-migrate words r files is asks = subst (Asks words) is asks

pub asks-make : (words : List Text) (r : Request) (ring : RingWords) → r ≡ request.Make ring → Asks words r → AsksMake words ring.buses ring.seed
asks-make words r ring is asks = subst (Asks words) is asks
