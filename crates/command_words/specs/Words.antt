-- The words that the program takes, by the command that `clap` reads them by.
use Rattle.std.specs.Borrow.{Bor}
use Rattle.std.specs.Prelude.{◌≡◌, ◌⊎◌, ◌≤◌, ⊤, ℕ, Bool, true, false, List, [], ◌∷◌, codes, is_some, map, pos, All, Option, Some, None, option_and_then, option_map, unwrap_or, if◌then◌else◌}
use Rattle.std.specs.Option.{option_map_or}
use Rattle.std.specs.Str.{bytes_eq}
use Rattle.std.specs.Str.Parse.{IsNumeral, digits_value, without_leading_plus}
use Rattle.clap.specs.Words.{App, Kinds, Row, Rule, Text, fault_of, first_of, new_app, new_rule, one_of, subcommand_of, with_rule, with_subcommand}
use Rattle.clap.specs.declared.builder.value_parser.ValueParser.{ValueParser}
use Rattle.clap.specs.declared.builder.value_parser.ValueParser.TheVariants.{Names, Signed}
use Rattle.market_data.specs.declared.scales.FactorPlaces.{FactorPlaces}
use Rattle.market_data.specs.declared.scales.FactorPlaces.TheVariants as factor_places
use Rattle.market_data.specs.Scales.{IsRingSize}
use Rattle.market_tables.specs.declared.GridTables.{GridTables}
use Rattle.net_case.specs.declared.live_parts.PostRating.{PostRating}
use Rattle.net_case.specs.declared.live_parts.PostRating.TheVariants as post
use Rattle.number_bits.specs.declared.NumberBits.{NumberBits}
use Rattle.number_bits.specs.declared.NumberBits.TheVariants as number_bits
use Rattle.command_words.specs.declared.words.CheckFiles.{CheckFiles}
use Rattle.command_words.specs.declared.words.FactorFiles.{FactorFiles}
use Rattle.command_words.specs.declared.words.MarketFiles.{MarketFiles}

-- a list of names, as a command borrows it
abbrev pub NameList : Type 0
NameList = Bor (List (Bor Text))

-- the list has these names, wherever it lies
abbrev pub Spells : NameList → List Text → Type 0
Spells names texts = map (λ name. name.now) names.now ≡ texts

-- a list of these names
abbrev pub spelled : List Text → NameList
spelled texts = record { ref_ptr = (0, 0); now = map (λ text. record { ref_ptr = (0, 0); now = text }) texts }

-- the letters of the ratings
abbrev pub rating_words : List Text
rating_words = codes "a" ∷ codes "b" ∷ codes "c" ∷ []

-- the numbers of places that the factors of tables may have
abbrev pub place_words : List Text
place_words = codes "6" ∷ codes "9" ∷ []

-- the numbers of bits that the numerators and denominators of numbers may have
abbrev pub bits_words : List Text
bits_words = codes "127" ∷ codes "1023" ∷ []

-- the numbers of buses that a ring may have
abbrev pub size_words : List Text
size_words = codes "4" ∷ codes "8" ∷ codes "16" ∷ codes "32" ∷ codes "64" ∷ []

-- an option `--NAME FILE`, at most once
abbrev pub table_rule : Text → Rule
table_rule name = record (new_rule name) { long = Some name; value_names = 1 }

-- one that must be there
abbrev pub file_rule : Text → Rule
file_rule name = record (table_rule name) { required = true }

-- one that takes one of these names alone
abbrev pub choice_rule : Text → NameList → Rule
choice_rule name names = record (table_rule name) { parser = Some (Names names) }

-- a value without a name, which must be there
abbrev pub value_rule : Text → ValueParser → Rule
value_rule name parser = record (new_rule name) { required = true; parser = Some parser }

abbrev pub with_table : App → Text → App
with_table a name = with_rule a (table_rule name)

abbrev pub with_file : App → Text → App
with_file a name = with_rule a (file_rule name)

-- `pool --case FILE --offers FILE`
abbrev pub pool_app : App
pool_app = with_file (with_file (new_app (codes "pool")) (codes "case")) (codes "offers")

-- a command with the files of a market with limits: `--case FILE --ptdf FILE --offers FILE`
abbrev pub with_needed : App → App
with_needed a = with_file (with_file (with_file a (codes "case")) (codes "ptdf")) (codes "offers")

-- and where they are named `--lodf FILE`, `--contingencies FILE`, `--unit-outages FILE`, `--reserves FILE`, `--offsets FILE` and `--penalties FILE`
abbrev pub with_tables : App → App
with_tables a = with_table (with_table (with_table (with_table (with_table (with_table a (codes "lodf")) (codes "contingencies")) (codes "unit-outages")) (codes "reserves")) (codes "offsets")) (codes "penalties")

-- and where it is there `--factor-places NUMBER`
abbrev pub with_places : App → NameList → App
with_places a places = with_rule a (choice_rule (codes "factor-places") places)

-- and where it is there `--number-bits NUMBER`
abbrev pub with_bits : App → NameList → App
with_bits a bits = with_rule a (choice_rule (codes "number-bits") bits)

-- all these, and where it is there `--post-rating LETTER`
abbrev pub with_market : App → NameList → NameList → NameList → App
with_market a ratings places bits = with_bits (with_places (with_rule (with_tables (with_needed a)) (choice_rule (codes "post-rating") ratings)) places) bits

-- `clear` with the files of a market, and where it is named `--certificate FILE`
abbrev pub clear_app : NameList → NameList → NameList → App
clear_app ratings places bits = with_table (with_market (new_app (codes "clear")) ratings places bits) (codes "certificate")

-- `replay` with the files of a market and `--edits FILE`, and where it is named `--certificate FILE`
abbrev pub replay_app : NameList → NameList → NameList → App
replay_app ratings places bits = with_table (with_file (with_market (new_app (codes "replay")) ratings places bits) (codes "edits")) (codes "certificate")

-- `verify` with the files of a market and `--certificate FILE`, and where it is named `--edits FILE`
abbrev pub verify_app : NameList → NameList → NameList → App
verify_app ratings places bits = with_file (with_table (with_market (new_app (codes "verify")) ratings places bits) (codes "edits")) (codes "certificate")

-- `rights` with the files of a market and `--rights FILE`
abbrev pub rights_app : NameList → NameList → NameList → App
rights_app ratings places bits = with_file (with_market (new_app (codes "rights")) ratings places bits) (codes "rights")

-- `check --case FILE --ptdf FILE`, and where they are there `--lodf FILE`, `--contingencies FILE` and `--factor-places NUMBER`
abbrev pub check_app : NameList → App
check_app places = with_places (with_table (with_table (with_file (with_file (new_app (codes "check")) (codes "case")) (codes "ptdf")) (codes "lodf")) (codes "contingencies")) places

-- `factors --case FILE --ptdf-out FILE`, and where they are there `--lodf-out FILE`, `--contingencies FILE` and `--factor-places NUMBER`
abbrev pub factors_app : NameList → App
factors_app places = with_places (with_table (with_table (with_file (with_file (new_app (codes "factors")) (codes "case")) (codes "ptdf-out")) (codes "lodf-out")) (codes "contingencies")) places

-- `migrate --certificate FILE --out FILE`, and where it is there `--number-bits NUMBER`
abbrev pub migrate_app : NameList → App
migrate_app bits = with_bits (with_file (with_file (new_app (codes "migrate")) (codes "certificate")) (codes "out")) bits

-- `make N SEED`; N is one of the sizes, and SEED from 0 to 4294967295
abbrev pub make_app : NameList → App
make_app sizes = with_rule (with_rule (new_app (codes "make")) (value_rule (codes "N") (Names sizes))) (value_rule (codes "SEED") (Signed (pos 0) (pos 4294967295)))

-- a command that tells its version, and that one of its subcommands must follow, of which `help` is none
abbrev pub needs_subcommand : App → App
needs_subcommand a = record a { top = record a.top { has_version = true; subcommand_required = true; disable_help_subcommand = true } }

-- the program's command over the lists of the sizes of rings, of the ratings, and of the numbers of places and of bits; it has nine subcommands
unfoldable pub sced_app_over : NameList → NameList → NameList → NameList → App
sced_app_over sizes ratings places bits =
    with_subcommand (with_subcommand (with_subcommand (with_subcommand (with_subcommand (with_subcommand (with_subcommand (with_subcommand (with_subcommand
    (needs_subcommand (new_app (codes "sced")))
    pool_app.top) (clear_app ratings places bits).top) (replay_app ratings places bits).top) (verify_app ratings places bits).top) (rights_app ratings places bits).top)
    (check_app places).top) (factors_app places).top) (migrate_app bits).top) (make_app sizes).top

-- the program's command
unfoldable pub sced_app : App
sced_app = sced_app_over (spelled size_words) (spelled rating_words) (spelled place_words) (spelled bits_words)

abbrev pub is_fault : Kinds → Bool
is_fault [] = false
is_fault (k ∷ kinds) = true

-- whether the command refuses the words, for another cause than memory; words that ask for help or the version are refused
unfoldable pub refuses : List Text → Bool
refuses words = is_fault (fault_of sced_app words)

-- the words ask for nothing that the program does
abbrev pub AsksNothing : List Text → Type 0
AsksNothing words = refuses words ≡ true

-- the file that an option names, of a subcommand's options with their values, where it is given
abbrev pub file_of : Text → List Row → Text
file_of name rows = unwrap_or (first_of name rows) []

-- the rating that a letter stands for, where it stands for one
abbrev pub rating_named : Text → Option PostRating
rating_named letter =
    if bytes_eq letter (codes "a") then Some post.A
    else if bytes_eq letter (codes "b") then Some post.B
    else if bytes_eq letter (codes "c") then Some post.C
    else None

-- the rating that its option names, and C where it is not there
abbrev pub rating_of : List Row → PostRating
rating_of rows = unwrap_or (option_and_then rating_named (first_of (codes "post-rating") rows)) post.C

-- the number of places that a word stands for, where it stands for one
abbrev pub places_named : Text → Option FactorPlaces
places_named word =
    if bytes_eq word (codes "6") then Some factor_places.Six
    else if bytes_eq word (codes "9") then Some factor_places.Nine
    else None

-- the number of places that its option tells, and 6 where it is not there
abbrev pub places_of : List Row → FactorPlaces
places_of rows = unwrap_or (option_and_then places_named (first_of (codes "factor-places") rows)) factor_places.Six

-- the number of bits that a word stands for, where it stands for one
abbrev pub bits_named : Text → Option NumberBits
bits_named word =
    if bytes_eq word (codes "127") then Some number_bits.Bits127
    else if bytes_eq word (codes "1023") then Some number_bits.Bits1023
    else None

-- the number of bits that its option tells, and 127 where it is not there
abbrev pub bits_of : List Row → NumberBits
bits_of rows = unwrap_or (option_and_then bits_named (first_of (codes "number-bits") rows)) number_bits.Bits127

-- the letter of a rating, and a number of places and one of bits as words
abbrev pub rating_word : PostRating → Text
rating_word post.A = codes "a"
rating_word post.B = codes "b"
rating_word post.C = codes "c"

abbrev pub place_word : FactorPlaces → Text
place_word factor_places.Six = codes "6"
place_word factor_places.Nine = codes "9"

abbrev pub bits_word : NumberBits → Text
bits_word number_bits.Bits127 = codes "127"
bits_word number_bits.Bits1023 = codes "1023"

-- each letter, each number of places and each number of bits that the command takes stands for that of which it is the word
abbrev pub LawOfChoices : Type 0
LawOfChoices = All (λ word. option_map rating_word (rating_named word) ≡ Some word) rating_words
    × All (λ word. option_map place_word (places_named word) ≡ Some word) place_words
    × All (λ word. option_map bits_word (bits_named word) ≡ Some word) bits_words

-- the command takes the words, which enter this subcommand with these options
pub record Enters (words : List Text) (name : Text) (rows : List Row) : Type 0 where
  pub taken : refuses words ≡ false
  pub entered : subcommand_of sced_app words ≡ Some (name, rows)

-- each of these options is there, with a value
abbrev pub AreGiven : List Text → List Row → Type 0
AreGiven [] rows = ⊤
AreGiven (name ∷ names) rows = (is_some (first_of name rows) ≡ true) × AreGiven names rows

-- the words enter `pool`, and these are the names of the case's file and of the offers'
pub record AsksPool (words : List Text) (case offers : Text) : Type 0 where
  pub rows : List Row
  pub enters : Enters words (codes "pool") rows
  pub given : AreGiven (codes "case" ∷ codes "offers" ∷ []) rows
  pub case_is : case ≡ file_of (codes "case") rows
  pub offers_is : offers ≡ file_of (codes "offers") rows

-- the names of a case and of the tables that are to fit it; those of the outage factors and of the outages may be left out
abbrev pub GridNames : Type 0
GridNames = GridTables Text (Option Text)

-- the names that options give
abbrev pub grid_names : List Row → GridNames
grid_names rows = record {
  case = file_of (codes "case") rows;
  ptdf = file_of (codes "ptdf") rows;
  lodf = first_of (codes "lodf") rows;
  contingencies = first_of (codes "contingencies") rows;
}

-- the names of the files that `check` reads, and how many places the factors in them have
abbrev pub CheckNames : Type 0
CheckNames = CheckFiles Text (Option Text)

-- those that options give
abbrev pub check_names : List Row → CheckNames
check_names rows = record { tables = grid_names rows; places = places_of rows }

-- the names of the files of a market with limits, of which some may be left out, the rating that limits branches after outages, how many
-- places the factors have, and how many bits numbers have
abbrev pub MarketNames : Type 0
MarketNames = MarketFiles Text (Option Text)

-- those that options give
abbrev pub market_names : List Row → MarketNames
market_names rows = record {
  tables = record {
    grid = grid_names rows;
    unit_outages = first_of (codes "unit-outages") rows;
    offers = file_of (codes "offers") rows;
    reserves = first_of (codes "reserves") rows;
    offsets = first_of (codes "offsets") rows;
    penalties = first_of (codes "penalties") rows;
  };
  rating = rating_of rows;
  places = places_of rows;
  bits = bits_of rows;
}

-- the words enter `clear`, and these are the names of the market's files, and of the certificate's, which may be left out
pub record AsksClear (words : List Text) (names : MarketNames) (certificate : Option Text) : Type 0 where
  pub rows : List Row
  pub enters : Enters words (codes "clear") rows
  pub given : AreGiven (codes "case" ∷ codes "ptdf" ∷ codes "offers" ∷ []) rows
  pub names_are : names ≡ market_names rows
  pub certificate_is : certificate ≡ first_of (codes "certificate") rows

-- the words enter `replay`, and these are the names of the market's files, of the edits', and of the certificate's, which may be left out
pub record AsksReplay (words : List Text) (names : MarketNames) (edits : Text) (certificate : Option Text) : Type 0 where
  pub rows : List Row
  pub enters : Enters words (codes "replay") rows
  pub given : AreGiven (codes "case" ∷ codes "ptdf" ∷ codes "offers" ∷ codes "edits" ∷ []) rows
  pub names_are : names ≡ market_names rows
  pub edits_is : edits ≡ file_of (codes "edits") rows
  pub certificate_is : certificate ≡ first_of (codes "certificate") rows

-- the words enter `verify`, and these are the names of the market's files, of the edits', which may be left out, and of the certificate's
pub record AsksVerify (words : List Text) (names : MarketNames) (edits : Option Text) (certificate : Text) : Type 0 where
  pub rows : List Row
  pub enters : Enters words (codes "verify") rows
  pub given : AreGiven (codes "case" ∷ codes "ptdf" ∷ codes "offers" ∷ codes "certificate" ∷ []) rows
  pub names_are : names ≡ market_names rows
  pub edits_is : edits ≡ first_of (codes "edits") rows
  pub certificate_is : certificate ≡ file_of (codes "certificate") rows

-- the words enter `rights`, and these are the names of the market's files, and of the rights'
pub record AsksRights (words : List Text) (names : MarketNames) (rights : Text) : Type 0 where
  pub rows : List Row
  pub enters : Enters words (codes "rights") rows
  pub given : AreGiven (codes "case" ∷ codes "ptdf" ∷ codes "offers" ∷ codes "rights" ∷ []) rows
  pub names_are : names ≡ market_names rows
  pub rights_is : rights ≡ file_of (codes "rights") rows

-- the words enter `migrate`, and these are the names of the certificate that it reads and of the file that it writes, and how many bits
-- numbers have
pub record AsksMigrate (words : List Text) (certificate out : Text) (bits : NumberBits) : Type 0 where
  pub rows : List Row
  pub enters : Enters words (codes "migrate") rows
  pub given : AreGiven (codes "certificate" ∷ codes "out" ∷ []) rows
  pub certificate_is : certificate ≡ file_of (codes "certificate") rows
  pub out_is : out ≡ file_of (codes "out") rows
  pub bits_is : bits ≡ bits_of rows

-- the words enter `check`, and these are the names of its files
pub record AsksCheck (words : List Text) (names : CheckNames) : Type 0 where
  pub rows : List Row
  pub enters : Enters words (codes "check") rows
  pub given : AreGiven (codes "case" ∷ codes "ptdf" ∷ []) rows
  pub names_are : names ≡ check_names rows

-- the names of the case and of the outages that `factors` reads, of which the latter may be left out; those of the tables of shift and of
-- outage factors that it writes, of which the latter may be left out; and how many places their factors have
abbrev pub FactorNames : Type 0
FactorNames = FactorFiles Text (Option Text)

-- those that options give
abbrev pub factor_names : List Row → FactorNames
factor_names rows = record {
  case = file_of (codes "case") rows;
  contingencies = first_of (codes "contingencies") rows;
  ptdf_out = file_of (codes "ptdf-out") rows;
  lodf_out = first_of (codes "lodf-out") rows;
  places = places_of rows;
}

-- the words enter `factors`, and these are the names of its files
pub record AsksFactors (words : List Text) (names : FactorNames) : Type 0 where
  pub rows : List Row
  pub enters : Enters words (codes "factors") rows
  pub given : AreGiven (codes "case" ∷ codes "ptdf-out" ∷ []) rows
  pub names_are : names ≡ factor_names rows

-- the text writes this number in decimal digits, before which a plus may stand
abbrev pub Writes : Text → ℕ → Type 0
Writes text n = IsNumeral 10 (without_leading_plus text) × (n ≡ digits_value 10 (without_leading_plus text))

-- the words enter `make`, and its two values are texts of the number of the ring's buses and of the seed; `clap` reads a seed without a minus, which only 0 may have
pub record AsksMake (words : List Text) (buses seed : ℕ) : Type 0 where
  pub rows : List Row
  pub enters : Enters words (codes "make") rows
  pub size_text : Text
  pub size_given : first_of (codes "N") rows ≡ Some size_text
  pub size_written : Writes size_text buses
  pub seed_text : Text
  pub seed_given : one_of (codes "SEED") rows ≡ Some seed_text
  pub seed_written : Writes seed_text seed
  pub is_size : IsRingSize buses
  pub is_small : seed ≤ 4294967295

-- the number of buses that a word of the sizes stands for; the command takes no other
abbrev pub size_named : Text → ℕ
size_named word =
    if bytes_eq word (codes "8") then 8
    else if bytes_eq word (codes "16") then 16
    else if bytes_eq word (codes "32") then 32
    else if bytes_eq word (codes "64") then 64
    else 4

-- the number of buses that the words give
abbrev pub size_of : List Row → ℕ
size_of rows = option_map_or size_named (first_of (codes "N") rows) 4

-- where the words give a seed of 32 bits, it is this one
abbrev pub ReadsSeed : List Row → ℕ → Type 0
ReadsSeed rows seed = (text : Text) (n : ℕ) → one_of (codes "SEED") rows ≡ Some text → Writes text n → n ≤ 4294967295 → seed ≡ n

-- `pool` reads this file, of these two
abbrev pub IsPoolFile : Text → Text → Text → Type 0
IsPoolFile case offers file = (file ≡ case) ⊎ (file ≡ offers)

-- this is the case or a table of these names
abbrev pub IsGridFile : GridNames → Text → Type 0
IsGridFile names file = (file ≡ names.case) ⊎ (file ≡ names.ptdf) ⊎ (names.lodf ≡ Some file) ⊎ (names.contingencies ≡ Some file)

-- `check` reads this file, of those of these names
abbrev pub IsCheckFile : CheckNames → Text → Type 0
IsCheckFile names file = IsGridFile names.tables file

-- `factors` reads this file, of those of these names
abbrev pub IsFactorFile : FactorNames → Text → Type 0
IsFactorFile names file = (file ≡ names.case) ⊎ (names.contingencies ≡ Some file)

-- `factors` writes this file, of those of these names
abbrev pub IsFactorTable : FactorNames → Text → Type 0
IsFactorTable names file = (file ≡ names.ptdf_out) ⊎ (names.lodf_out ≡ Some file)

-- this is a file of the market of these names
abbrev pub IsMarketFile : MarketNames → Text → Type 0
IsMarketFile names file = IsGridFile names.tables.grid file ⊎ (names.tables.unit_outages ≡ Some file) ⊎ (file ≡ names.tables.offers)
    ⊎ (names.tables.reserves ≡ Some file) ⊎ (names.tables.offsets ≡ Some file) ⊎ (names.tables.penalties ≡ Some file)

-- `replay` reads this file, of those of the market and the edits
abbrev pub IsReplayFile : MarketNames → Text → Text → Type 0
IsReplayFile names edits file = IsMarketFile names file ⊎ (file ≡ edits)

-- `verify` reads this file, of those of the market, the edits and the certificate
abbrev pub IsVerifyFile : MarketNames → Option Text → Text → Text → Type 0
IsVerifyFile names edits certificate file = IsMarketFile names file ⊎ (edits ≡ Some file) ⊎ (file ≡ certificate)

-- `rights` reads this file, of those of the market and the rights
abbrev pub IsRightsFile : MarketNames → Text → Text → Type 0
IsRightsFile names rights file = IsMarketFile names file ⊎ (file ≡ rights)

-- the words name this file for `pool` to read
abbrev pub NamesForPool : List Text → Text → Type 0
NamesForPool words file = (case : Text) × (offers : Text) × AsksPool words case offers × IsPoolFile case offers file

-- the words name this file for `clear` to read
abbrev pub NamesForClear : List Text → Text → Type 0
NamesForClear words file = (names : MarketNames) × (certificate : Option Text) × AsksClear words names certificate × IsMarketFile names file

-- the words name this file for `replay` to read
abbrev pub NamesForReplay : List Text → Text → Type 0
NamesForReplay words file = (names : MarketNames) × (edits : Text) × (certificate : Option Text)
    × AsksReplay words names edits certificate × IsReplayFile names edits file

-- the words name this file for `verify` to read
abbrev pub NamesForVerify : List Text → Text → Type 0
NamesForVerify words file = (names : MarketNames) × (edits : Option Text) × (certificate : Text)
    × AsksVerify words names edits certificate × IsVerifyFile names edits certificate file

-- the words name this file for `check` to read
abbrev pub NamesForCheck : List Text → Text → Type 0
NamesForCheck words file = (names : CheckNames) × AsksCheck words names × IsCheckFile names file

-- the words name this file for `rights` to read
abbrev pub NamesForRights : List Text → Text → Type 0
NamesForRights words file = (names : MarketNames) × (rights : Text) × AsksRights words names rights × IsRightsFile names rights file

-- the words name this file as the certificate that `migrate` reads
abbrev pub NamesForMigrate : List Text → Text → Type 0
NamesForMigrate words file = (certificate : Text) × (out : Text) × (bits : NumberBits) × AsksMigrate words certificate out bits × (file ≡ certificate)

-- the words name this file for `factors` to read
abbrev pub NamesForFactors : List Text → Text → Type 0
NamesForFactors words file = (names : FactorNames) × AsksFactors words names × IsFactorFile names file

-- the words name this file for reading
abbrev pub NamesFile : List Text → Text → Type 0
NamesFile words file = NamesForPool words file ⊎ NamesForClear words file ⊎ NamesForReplay words file ⊎ NamesForVerify words file ⊎ NamesForCheck words file
    ⊎ NamesForRights words file ⊎ NamesForMigrate words file ⊎ NamesForFactors words file

-- the words name this file as the certificate that `clear` writes
abbrev pub ClearWrites : List Text → Text → Type 0
ClearWrites words file = (names : MarketNames) × AsksClear words names (Some file)

-- the words name this file as the certificate that `replay` writes
abbrev pub ReplayWrites : List Text → Text → Type 0
ReplayWrites words file = (names : MarketNames) × (edits : Text) × AsksReplay words names edits (Some file)

-- the words name this file as the certificate that `migrate` writes
abbrev pub MigrateWrites : List Text → Text → Type 0
MigrateWrites words file = (certificate : Text) × (bits : NumberBits) × AsksMigrate words certificate file bits

-- the words name this file as a table of factors that `factors` writes
abbrev pub FactorsWrite : List Text → Text → Type 0
FactorsWrite words file = (names : FactorNames) × AsksFactors words names × IsFactorTable names file

-- the words name this file for writing
abbrev pub NamesToWrite : List Text → Text → Type 0
NamesToWrite words file = ClearWrites words file ⊎ ReplayWrites words file ⊎ MigrateWrites words file ⊎ FactorsWrite words file
