-- What is told is told of the one thing that the words ask.
use Rattle.std.specs.Prelude.{◌≡◌, ℕ, true, false, List, Option, Some, codes, Result}
use Rattle.std.specs.Str.{bytes_eq}
use Rattle.std.proofs.Common.{refl, sym, subst, ◌∙◌}
use Rattle.fraction_theory.specs.Fraction.{Fraction}
use Rattle.outside_store.specs.Files.{Files}
use Rattle.cert_format.specs.declared.certificate.Cert.{Cert}
use Rattle.number_bits.specs.Bits.{most_of}
use Rattle.clap.specs.Words as clap_words
use Rattle.market_model.specs.declared.participants.Parts.{Parts}
use Rattle.refusal_text.specs.declared.refusals.Refusal.{Refusal}
use Rattle.market_inputs.specs.Files.{sized_grid}
use Rattle.market_inputs.specs.declared.checking.Inputs.{Inputs}
use Rattle.market_inputs.specs.declared.making.FactorInputs.{FactorInputs}
use Rattle.market_inputs.proofs.OnceLemmas.{OfOne, factor-inputs-once, inputs-once, pool-once}
use Rattle.market_inputs.specs.Texts.{IsLimited, IsCheck}
use Rattle.command_words.specs.Words.{AsksClear, AsksMake, AsksPool, CheckNames, Enters, FactorNames, GridNames, MarketNames, refuses}
use Rattle.command_words.proofs.WordsLemmas.{asks-once, checks-once, clears-once, enters-one, factors-once, makes-once, migrates-once, names-apart, replays-once, rights-once, verifies-once}
use Rattle.number_bits.specs.declared.NumberBits.{NumberBits}
use Rattle.number_bits.specs.declared.NumberBits.TheVariants.{Bits127}
use Rattle.command_answers.specs.Checking.{TellsCheck}
use Rattle.command_answers.specs.Clearing.{TellsClear}
use Rattle.command_answers.specs.Inputs.{AreEntitled, IsCertificate, IsCertified, IsFactorWork, IsReplayed, MarketCertificate, MarketRights, MarketSteps}
use Rattle.command_answers.specs.Migrating.{TellsMigration}
use Rattle.command_answers.specs.Replaying.{TellsReplay}
use Rattle.command_answers.specs.Rights.{TellsRights}
use Rattle.command_answers.specs.Making.{MakesTo}
use Rattle.command_answers.specs.Tellings.{ComesTo, Telling, Tells}
use Rattle.command_answers.specs.Verifying.{TellsVerdict}
use Rattle.command_answers.proofs.RoundTripLemmas.{certified-once, entitled-once, limited-once, replayed-once}
use Rattle.sced.specs.Asked.{AsksForFactors, AsksForRights, AsksToCheck, AsksToClear, AsksToMigrate, AsksToReplay, AsksToVerify, as_clear, as_pool, clear_bound}
use Rattle.edit_table.specs.EditTable.{edit_header}
use Rattle.factor_tables.specs.OutageNumbers.{outage_header}
use Rattle.market_tables.specs.Tables.{GridTexts, MarketTexts}
use Rattle.market_tables.proofs.EachLemmas.{same-grid, same-tables}
use Rattle.command_files.specs.Reading.{HaveGridTexts, HaveTexts, IsTableFile, Source, grid_sources, header_alone, in_file, source_of, table_sources}
use Rattle.sced.specs.Told.{AnswersTo, checked, cleared, entitled, factored, made, migrated, pooled, refused, replayed, verified}
use Rattle.command_files.specs.Standing.{AreCheckFiles, AreClearFiles, AreFactorFiles, ArePoolFiles, AreReplayFiles, AreRightsFiles, AreVerifyFiles, IsMigratedFile, TellsFactorsOf}

-- ---- files stand for one market, or have one first fault
pub same-bytes : (a b : List ℕ) (o : Option (List ℕ)) → o ≡ Some a → o ≡ Some b → a ≡ b
same-bytes a b o first second = Prim.cc

pub same-table : (files : Files) (source : Source) (a b : List ℕ) → IsTableFile files source a → IsTableFile files source b → a ≡ b
same-table files (in_file name) a b first second = same-bytes a b (files name) first second
same-table files (header_alone header) a b first second = first ∙ sym second

same-texts : (files : Files) (names : MarketNames) (a b : MarketTexts) → HaveTexts files names a → HaveTexts files names b → a ≡ b
same-texts files names a b h k = same-tables (IsTableFile files) (same-table files) (table_sources names) a b h k

pool-files-once : (files : Files) (case offers : List ℕ) → OfOne (ArePoolFiles files case offers)
pool-files-once files case offers a b h k =
    let same_case = same-bytes k.case h.case (files case) k.case_is h.case_is in
    let same_offers = same-bytes k.offers h.offers (files offers) k.offers_is h.offers_is in
    pool-once _ _ a b h.market (rw (same_case, same_offers) at k.market)

same-grid-texts : (files : Files) (names : GridNames) (a b : GridTexts) → HaveGridTexts files names a → HaveGridTexts files names b → a ≡ b
same-grid-texts files names a b h k = same-grid (IsTableFile files) (same-table files) (grid_sources names) a b h k

check-files-once : (files : Files) (names : CheckNames) → OfOne (AreCheckFiles files names)
check-files-once files names a b h k =
    inputs-once names.places (sized_grid h.texts) a b h.inputs (subst (λ texts. IsCheck names.places texts b) (same-grid-texts files names.tables k.texts h.texts k.have h.have) k.inputs)

clear-files-once : (files : Files) (names : MarketNames) → OfOne (AreClearFiles files names)
clear-files-once files names a b h k =
    limited-once names.rating names.places h.texts a b h.market (subst (λ texts. IsLimited names.rating names.places texts b) (same-texts files names k.texts h.texts k.have h.have) k.market)

replay-files-once : (files : Files) (names : MarketNames) (edits : List ℕ) → OfOne (AreReplayFiles files names edits)
replay-files-once files names edits a b h k =
    let same_edits = same-bytes k.edits h.edits (files edits) k.edits_are h.edits_are in
    let steps = subst (λ texts. IsReplayed names.rating names.places texts k.edits b) (same-texts files names k.texts h.texts k.have h.have) k.steps in
    replayed-once names.rating names.places h.texts h.edits a b h.steps (subst (λ table. IsReplayed names.rating names.places h.texts table b) same_edits steps)

verify-files-once : (files : Files) (names : MarketNames) (edits : Option (List ℕ)) (certificate : List ℕ) → OfOne (AreVerifyFiles files names edits certificate)
verify-files-once files names edits certificate a b h k =
    let same_edits = same-table files (source_of edit_header edits) k.edits h.edits k.edits_are h.edits_are in
    let same_certificate = same-bytes k.certificate h.certificate (files certificate) k.certificate_is h.certificate_is in
    let certified = subst (λ texts. IsCertified (most_of names.bits) names.rating names.places texts k.edits k.certificate b) (same-texts files names k.texts h.texts k.have h.have) k.certified in
    let edited = subst (λ table. IsCertified (most_of names.bits) names.rating names.places h.texts table k.certificate b) same_edits certified in
    certified-once (most_of names.bits) names.rating names.places h.texts h.edits h.certificate a b h.certified (subst (λ text. IsCertified (most_of names.bits) names.rating names.places h.texts h.edits text b) same_certificate edited)

rights-files-once : (files : Files) (names : MarketNames) (rights : List ℕ) → OfOne (AreRightsFiles files names rights)
rights-files-once files names rights a b h k =
    let same_rights = same-bytes k.rights h.rights (files rights) k.rights_are h.rights_are in
    let entitled = subst (λ texts. AreEntitled names.rating names.places texts k.rights b) (same-texts files names k.texts h.texts k.have h.have) k.entitled in
    entitled-once names.rating names.places h.texts h.rights a b h.entitled (subst (λ table. AreEntitled names.rating names.places h.texts table b) same_rights entitled)

factor-work-once : (case outages : List ℕ) → OfOne (IsFactorWork case outages)
factor-work-once case outages = factor-inputs-once case outages

factor-files-once : (files : Files) (names : FactorNames) → OfOne (AreFactorFiles files names)
factor-files-once files names a b h k =
    let same_case = same-bytes k.case h.case (files names.case) k.case_is h.case_is in
    let same_outages = same-table files (source_of outage_header names.contingencies) k.outages h.outages k.outages_are h.outages_are in
    factor-work-once h.case h.outages a b h.work (subst (λ o. IsFactorWork h.case o b) same_outages (subst (λ c. IsFactorWork c k.outages b) same_case k.work))

migrated-file-once : (files : Files) (certificate : List ℕ) (bits : NumberBits) → OfOne (IsMigratedFile files certificate bits)
migrated-file-once files certificate bits a b h k =
    sym h.read ∙ subst (λ text. IsCertificate (most_of bits) text b) (same-bytes k.certificate h.certificate (files certificate) k.certificate_is h.certificate_is) k.read

-- what is told is told of what the files stand for, or of their first fault
told-of : {A : Type 0} (stand : Result A Refusal → Type 0) (right : A → Telling → Type 0) (r : Result A Refusal) (t : Telling) → OfOne stand → stand r → Tells stand right t → ComesTo right r t
told-of {A} stand right r t once here tells = subst (λ (x : Result A Refusal). ComesTo right x t) (once tells.told r tells.stands here) tells.comes

-- ---- the words
-- words that enter a subcommand are taken, and enter no other
pub not-refused : (words : List (List ℕ)) (name : List ℕ) (rows : List clap_words.Row) → refuses words ≡ true → Enters words name rows → ⊥
not-refused words name rows nothing enters = let taken = enters.taken in cc (nothing, taken)

pub no-other : (words : List (List ℕ)) (name other : List ℕ) (rows rows' : List clap_words.Row) → bytes_eq name other ≡ false → Enters words name rows → Enters words other rows' → ⊥
no-other words name other rows rows' apart enters enters' = enters-one words name other rows rows' (names-apart name other apart) enters enters'

-- words that ask to clear a market enter `pool` or `clear`
pub data EntersMarket (words : List (List ℕ)) : Type 0 where
  enters_pool : (rows : List clap_words.Row) → Enters words (codes "pool") rows → EntersMarket words
  enters_clear : (rows : List clap_words.Row) → Enters words (codes "clear") rows → EntersMarket words

entered : (files : Files) (words : List (List ℕ)) (r : Result Parts Refusal) → AsksToClear files words r → EntersMarket words
entered files words r (as_pool case offers asks stands) = enters_pool asks.rows asks.enters
entered files words r (as_clear names file asks stands) = enters_clear asks.rows asks.enters

neither : (words : List (List ℕ)) (name : List ℕ) (rows : List clap_words.Row) → bytes_eq name (codes "pool") ≡ false → bytes_eq name (codes "clear") ≡ false → Enters words name rows → EntersMarket words → ⊥
neither words name rows no_pool no_clear enters (enters_pool rows' h) = no-other words name (codes "pool") rows rows' no_pool enters h
neither words name rows no_pool no_clear enters (enters_clear rows' h) = no-other words name (codes "clear") rows rows' no_clear enters h

taken-market : (words : List (List ℕ)) → refuses words ≡ true → EntersMarket words → ⊥
taken-market words nothing (enters_pool rows h) = not-refused words _ rows nothing h
taken-market words nothing (enters_clear rows h) = not-refused words _ rows nothing h

-- what is told is what these files come to
module _ (files : Files) (words : List (List ℕ)) (t : Telling) where
  pooled-told : (r : Result Parts Refusal) (case offers : List ℕ) → AsksPool words case offers → Tells (ArePoolFiles files case offers) (TellsClear (most_of Bits127)) t → (asks : AsksToClear files words r) → ComesTo (TellsClear (clear_bound asks)) r t
  pooled-told r case offers asked told (as_clear names file asks stands) = absurd (no-other words (codes "pool") (codes "clear") asked.rows asks.rows refl asked.enters asks.enters)
  pooled-told r case offers asked told (as_pool case' offers' asks stands) =
      let same = asks-once words case' offers' case offers asks asked in
      let here : ArePoolFiles files case offers r = subst (λ o. ArePoolFiles files case o r) same.1 (subst (λ c. ArePoolFiles files c offers' r) same.0 stands) in
      told-of (ArePoolFiles files case offers) (TellsClear (most_of Bits127)) r t (pool-files-once files case offers) here told

  cleared-told : (r : Result Parts Refusal) (names : MarketNames) (file : Option (List ℕ)) → AsksClear words names file → Tells (AreClearFiles files names) (TellsClear (most_of names.bits)) t → (asks : AsksToClear files words r)
      → ComesTo (TellsClear (clear_bound asks)) r t
  cleared-told r names file asked told (as_pool case offers asks stands) = absurd (no-other words (codes "pool") (codes "clear") asks.rows asked.rows refl asks.enters asked.enters)
  cleared-told r names file asked told (as_clear names' file' asks stands) =
      let same = (clears-once words names' names file' file asks asked).0 in
      let here : AreClearFiles files names r = subst (λ (n : MarketNames). AreClearFiles files n r) same stands in
      subst (λ (n : MarketNames). ComesTo (TellsClear (most_of n.bits)) r t) (sym same) (told-of (AreClearFiles files names) (TellsClear (most_of names.bits)) r t (clear-files-once files names) here told)

  pub clear-told : (w : List (List ℕ × List ℕ)) (r : Result Parts Refusal) → AnswersTo (Some files) words t w → (asks : AsksToClear files words r) → ComesTo (TellsClear (clear_bound asks)) r t
  clear-told _ r (refused nothing usage) asks = absurd (taken-market words nothing (entered files words r asks))
  clear-told _ r (pooled case offers asked told) asks = pooled-told r case offers asked told asks
  clear-told _ r (cleared names file asked told) asks = cleared-told r names file asked told asks
  clear-told _ r (replayed names edits file asked told) asks = absurd (neither words (codes "replay") asked.rows refl refl asked.enters (entered files words r asks))
  clear-told _ r (verified names edits certificate asked told) asks = absurd (neither words (codes "verify") asked.rows refl refl asked.enters (entered files words r asks))
  clear-told _ r (entitled names held asked told) asks = absurd (neither words (codes "rights") asked.rows refl refl asked.enters (entered files words r asks))
  clear-told _ r (migrated old out bits asked told) asks = absurd (neither words (codes "migrate") asked.rows refl refl asked.enters (entered files words r asks))
  clear-told _ r (checked names asked told) asks = absurd (neither words (codes "check") asked.rows refl refl asked.enters (entered files words r asks))
  clear-told _ r (factored names asked told) asks = absurd (neither words (codes "factors") asked.rows refl refl asked.enters (entered files words r asks))
  clear-told _ r (made buses seed asked told) asks = absurd (neither words (codes "make") asked.rows refl refl asked.enters (entered files words r asks))

  pub replay-told : (w : List (List ℕ × List ℕ)) (r : Result MarketSteps Refusal) → AnswersTo (Some files) words t w → (asks : AsksToReplay files words r) → ComesTo (TellsReplay (most_of asks.names.bits)) r t
  replay-told _ r (refused nothing usage) asks = absurd (not-refused words _ asks.asks.rows nothing asks.asks.enters)
  replay-told _ r (pooled case offers asked told) asks = absurd (no-other words (codes "pool") (codes "replay") asked.rows asks.asks.rows refl asked.enters asks.asks.enters)
  replay-told _ r (cleared names file asked told) asks = absurd (no-other words (codes "clear") (codes "replay") asked.rows asks.asks.rows refl asked.enters asks.asks.enters)
  replay-told _ r (verified names edits certificate asked told) asks = absurd (no-other words (codes "verify") (codes "replay") asked.rows asks.asks.rows refl asked.enters asks.asks.enters)
  replay-told _ r (entitled names held asked told) asks = absurd (no-other words (codes "rights") (codes "replay") asked.rows asks.asks.rows refl asked.enters asks.asks.enters)
  replay-told _ r (migrated old out bits asked told) asks = absurd (no-other words (codes "migrate") (codes "replay") asked.rows asks.asks.rows refl asked.enters asks.asks.enters)
  replay-told _ r (checked names asked told) asks = absurd (no-other words (codes "check") (codes "replay") asked.rows asks.asks.rows refl asked.enters asks.asks.enters)
  replay-told _ r (factored names asked told) asks = absurd (no-other words (codes "factors") (codes "replay") asked.rows asks.asks.rows refl asked.enters asks.asks.enters)
  replay-told _ r (made buses seed asked told) asks = absurd (no-other words (codes "make") (codes "replay") asked.rows asks.asks.rows refl asked.enters asks.asks.enters)
  replay-told _ r (replayed names edits file asked told) asks =
      let same = replays-once words asks.names names asks.edits edits asks.certificate file asks.asks asked in
      let here : AreReplayFiles files names edits r =
      subst (λ (x : List ℕ). AreReplayFiles files names x r) same.1 (subst (λ (x : MarketNames). AreReplayFiles files x asks.edits r) same.0 asks.stand) in
      subst (λ (n : MarketNames). ComesTo (TellsReplay (most_of n.bits)) r t) (sym same.0) (told-of (AreReplayFiles files names edits) (TellsReplay (most_of names.bits)) r t (replay-files-once files names edits) here told)

  pub verify-told : (w : List (List ℕ × List ℕ)) (r : Result MarketCertificate Refusal) → AnswersTo (Some files) words t w → (asks : AsksToVerify files words r) → ComesTo (TellsVerdict (most_of asks.names.bits)) r t
  verify-told _ r (refused nothing usage) asks = absurd (not-refused words _ asks.asks.rows nothing asks.asks.enters)
  verify-told _ r (pooled case offers asked told) asks = absurd (no-other words (codes "pool") (codes "verify") asked.rows asks.asks.rows refl asked.enters asks.asks.enters)
  verify-told _ r (cleared names file asked told) asks = absurd (no-other words (codes "clear") (codes "verify") asked.rows asks.asks.rows refl asked.enters asks.asks.enters)
  verify-told _ r (replayed names edits file asked told) asks = absurd (no-other words (codes "replay") (codes "verify") asked.rows asks.asks.rows refl asked.enters asks.asks.enters)
  verify-told _ r (entitled names held asked told) asks = absurd (no-other words (codes "rights") (codes "verify") asked.rows asks.asks.rows refl asked.enters asks.asks.enters)
  verify-told _ r (migrated old out bits asked told) asks = absurd (no-other words (codes "migrate") (codes "verify") asked.rows asks.asks.rows refl asked.enters asks.asks.enters)
  verify-told _ r (checked names asked told) asks = absurd (no-other words (codes "check") (codes "verify") asked.rows asks.asks.rows refl asked.enters asks.asks.enters)
  verify-told _ r (factored names asked told) asks = absurd (no-other words (codes "factors") (codes "verify") asked.rows asks.asks.rows refl asked.enters asks.asks.enters)
  verify-told _ r (made buses seed asked told) asks = absurd (no-other words (codes "make") (codes "verify") asked.rows asks.asks.rows refl asked.enters asks.asks.enters)
  verify-told _ r (verified names edits certificate asked told) asks =
      let same = verifies-once words asks.names names asks.edits edits asks.certificate certificate asks.asks asked in
      let here : AreVerifyFiles files names edits certificate r =
      subst (λ (x : List ℕ). AreVerifyFiles files names edits x r) same.2
      (subst (λ (x : Option (List ℕ)). AreVerifyFiles files names x asks.certificate r) same.1
      (subst (λ (x : MarketNames). AreVerifyFiles files x asks.edits asks.certificate r) same.0 asks.stand)) in
      subst (λ (n : MarketNames). ComesTo (TellsVerdict (most_of n.bits)) r t) (sym same.0)
      (told-of (AreVerifyFiles files names edits certificate) (TellsVerdict (most_of names.bits)) r t (verify-files-once files names edits certificate) here told)

  pub rights-told : (w : List (List ℕ × List ℕ)) (r : Result MarketRights Refusal) → AnswersTo (Some files) words t w → (asks : AsksForRights files words r) → ComesTo (TellsRights (most_of asks.names.bits)) r t
  rights-told _ r (refused nothing usage) asks = absurd (not-refused words _ asks.asks.rows nothing asks.asks.enters)
  rights-told _ r (pooled case offers asked told) asks = absurd (no-other words (codes "pool") (codes "rights") asked.rows asks.asks.rows refl asked.enters asks.asks.enters)
  rights-told _ r (cleared names file asked told) asks = absurd (no-other words (codes "clear") (codes "rights") asked.rows asks.asks.rows refl asked.enters asks.asks.enters)
  rights-told _ r (replayed names edits file asked told) asks = absurd (no-other words (codes "replay") (codes "rights") asked.rows asks.asks.rows refl asked.enters asks.asks.enters)
  rights-told _ r (verified names edits certificate asked told) asks = absurd (no-other words (codes "verify") (codes "rights") asked.rows asks.asks.rows refl asked.enters asks.asks.enters)
  rights-told _ r (migrated old out bits asked told) asks = absurd (no-other words (codes "migrate") (codes "rights") asked.rows asks.asks.rows refl asked.enters asks.asks.enters)
  rights-told _ r (checked names asked told) asks = absurd (no-other words (codes "check") (codes "rights") asked.rows asks.asks.rows refl asked.enters asks.asks.enters)
  rights-told _ r (factored names asked told) asks = absurd (no-other words (codes "factors") (codes "rights") asked.rows asks.asks.rows refl asked.enters asks.asks.enters)
  rights-told _ r (made buses seed asked told) asks = absurd (no-other words (codes "make") (codes "rights") asked.rows asks.asks.rows refl asked.enters asks.asks.enters)
  rights-told _ r (entitled names held asked told) asks =
      let same = rights-once words asks.names names asks.rights held asks.asks asked in
      let here : AreRightsFiles files names held r =
      subst (λ (x : List ℕ). AreRightsFiles files names x r) same.1 (subst (λ (x : MarketNames). AreRightsFiles files x asks.rights r) same.0 asks.stand) in
      subst (λ (n : MarketNames). ComesTo (TellsRights (most_of n.bits)) r t) (sym same.0) (told-of (AreRightsFiles files names held) (TellsRights (most_of names.bits)) r t (rights-files-once files names held) here told)

  pub migrate-told : (w : List (List ℕ × List ℕ)) (r : Result (Cert Fraction) Refusal) → AnswersTo (Some files) words t w → AsksToMigrate files words r → ComesTo TellsMigration r t
  migrate-told _ r (refused nothing usage) asks = absurd (not-refused words _ asks.asks.rows nothing asks.asks.enters)
  migrate-told _ r (pooled case offers asked told) asks = absurd (no-other words (codes "pool") (codes "migrate") asked.rows asks.asks.rows refl asked.enters asks.asks.enters)
  migrate-told _ r (cleared names file asked told) asks = absurd (no-other words (codes "clear") (codes "migrate") asked.rows asks.asks.rows refl asked.enters asks.asks.enters)
  migrate-told _ r (replayed names edits file asked told) asks = absurd (no-other words (codes "replay") (codes "migrate") asked.rows asks.asks.rows refl asked.enters asks.asks.enters)
  migrate-told _ r (verified names edits certificate asked told) asks = absurd (no-other words (codes "verify") (codes "migrate") asked.rows asks.asks.rows refl asked.enters asks.asks.enters)
  migrate-told _ r (entitled names held asked told) asks = absurd (no-other words (codes "rights") (codes "migrate") asked.rows asks.asks.rows refl asked.enters asks.asks.enters)
  migrate-told _ r (checked names asked told) asks = absurd (no-other words (codes "check") (codes "migrate") asked.rows asks.asks.rows refl asked.enters asks.asks.enters)
  migrate-told _ r (factored names asked told) asks = absurd (no-other words (codes "factors") (codes "migrate") asked.rows asks.asks.rows refl asked.enters asks.asks.enters)
  migrate-told _ r (made buses seed asked told) asks = absurd (no-other words (codes "make") (codes "migrate") asked.rows asks.asks.rows refl asked.enters asks.asks.enters)
  migrate-told _ r (migrated old out bits asked told) asks =
      let same = migrates-once words asks.certificate old asks.out out asks.bits bits asks.asks asked in
      let here : IsMigratedFile files old bits r = subst (λ (x : NumberBits). IsMigratedFile files old x r) same.2 (subst (λ (x : List ℕ). IsMigratedFile files x asks.bits r) same.0 asks.stand) in
      told-of (IsMigratedFile files old bits) TellsMigration r t (migrated-file-once files old bits) here told

  pub check-told : (w : List (List ℕ × List ℕ)) (r : Result Inputs Refusal) → AnswersTo (Some files) words t w → AsksToCheck files words r → ComesTo TellsCheck r t
  check-told _ r (refused nothing usage) asks = absurd (not-refused words _ asks.asks.rows nothing asks.asks.enters)
  check-told _ r (pooled case offers asked told) asks = absurd (no-other words (codes "pool") (codes "check") asked.rows asks.asks.rows refl asked.enters asks.asks.enters)
  check-told _ r (cleared names file asked told) asks = absurd (no-other words (codes "clear") (codes "check") asked.rows asks.asks.rows refl asked.enters asks.asks.enters)
  check-told _ r (replayed names edits file asked told) asks = absurd (no-other words (codes "replay") (codes "check") asked.rows asks.asks.rows refl asked.enters asks.asks.enters)
  check-told _ r (verified names edits certificate asked told) asks = absurd (no-other words (codes "verify") (codes "check") asked.rows asks.asks.rows refl asked.enters asks.asks.enters)
  check-told _ r (entitled names held asked told) asks = absurd (no-other words (codes "rights") (codes "check") asked.rows asks.asks.rows refl asked.enters asks.asks.enters)
  check-told _ r (migrated old out bits asked told) asks = absurd (no-other words (codes "migrate") (codes "check") asked.rows asks.asks.rows refl asked.enters asks.asks.enters)
  check-told _ r (made buses seed asked told) asks = absurd (no-other words (codes "make") (codes "check") asked.rows asks.asks.rows refl asked.enters asks.asks.enters)
  check-told _ r (factored names asked told) asks = absurd (no-other words (codes "factors") (codes "check") asked.rows asks.asks.rows refl asked.enters asks.asks.enters)
  check-told _ r (checked names asked told) asks =
      let here : AreCheckFiles files names r = subst (λ (n : CheckNames). AreCheckFiles files n r) (checks-once words asks.names names asks.asks asked) asks.stand in
      told-of (AreCheckFiles files names) TellsCheck r t (check-files-once files names) here told

  pub factors-told : (w : List (List ℕ × List ℕ)) (r : Result FactorInputs Refusal) → AnswersTo (Some files) words t w → (asks : AsksForFactors files words r) → ComesTo (TellsFactorsOf asks.names) r t
  factors-told _ r (refused nothing usage) asks = absurd (not-refused words _ asks.asks.rows nothing asks.asks.enters)
  factors-told _ r (pooled case offers asked told) asks = absurd (no-other words (codes "pool") (codes "factors") asked.rows asks.asks.rows refl asked.enters asks.asks.enters)
  factors-told _ r (cleared names file asked told) asks = absurd (no-other words (codes "clear") (codes "factors") asked.rows asks.asks.rows refl asked.enters asks.asks.enters)
  factors-told _ r (replayed names edits file asked told) asks = absurd (no-other words (codes "replay") (codes "factors") asked.rows asks.asks.rows refl asked.enters asks.asks.enters)
  factors-told _ r (verified names edits certificate asked told) asks = absurd (no-other words (codes "verify") (codes "factors") asked.rows asks.asks.rows refl asked.enters asks.asks.enters)
  factors-told _ r (entitled names held asked told) asks = absurd (no-other words (codes "rights") (codes "factors") asked.rows asks.asks.rows refl asked.enters asks.asks.enters)
  factors-told _ r (migrated old out bits asked told) asks = absurd (no-other words (codes "migrate") (codes "factors") asked.rows asks.asks.rows refl asked.enters asks.asks.enters)
  factors-told _ r (checked names asked told) asks = absurd (no-other words (codes "check") (codes "factors") asked.rows asks.asks.rows refl asked.enters asks.asks.enters)
  factors-told _ r (made buses seed asked told) asks = absurd (no-other words (codes "make") (codes "factors") asked.rows asks.asks.rows refl asked.enters asks.asks.enters)
  factors-told _ r (factored names asked told) asks =
      let same = factors-once words asks.names names asks.asks asked in
      let here : AreFactorFiles files names r = subst (λ (n : FactorNames). AreFactorFiles files n r) same asks.stand in
      subst (λ (n : FactorNames). ComesTo (TellsFactorsOf n) r t) (sym same) (told-of (AreFactorFiles files names) (TellsFactorsOf names) r t (factor-files-once files names) here told)

-- a ring is made of words alone
module _ (files : Option Files) (words : List (List ℕ)) (t : Telling) (buses seed : ℕ) (asks : AsksMake words buses seed) where
  other-made : (name : List ℕ) (rows : List clap_words.Row) → bytes_eq name (codes "make") ≡ false → Enters words name rows → MakesTo (most_of Bits127) buses seed t
  other-made name rows apart enters = absurd (no-other words name (codes "make") rows asks.rows apart enters asks.enters)

  pub make-told : (w : List (List ℕ × List ℕ)) → AnswersTo files words t w → MakesTo (most_of Bits127) buses seed t
  make-told _ (refused nothing usage) = absurd (not-refused words _ asks.rows nothing asks.enters)
  make-told _ (pooled case offers asked told) = other-made (codes "pool") asked.rows refl asked.enters
  make-told _ (cleared names file asked told) = other-made (codes "clear") asked.rows refl asked.enters
  make-told _ (replayed names edits file asked told) = other-made (codes "replay") asked.rows refl asked.enters
  make-told _ (verified names edits certificate asked told) = other-made (codes "verify") asked.rows refl asked.enters
  make-told _ (entitled names held asked told) = other-made (codes "rights") asked.rows refl asked.enters
  make-told _ (migrated old out bits asked told) = other-made (codes "migrate") asked.rows refl asked.enters
  make-told _ (checked names asked told) = other-made (codes "check") asked.rows refl asked.enters
  make-told _ (factored names asked told) = other-made (codes "factors") asked.rows refl asked.enters
  make-told _ (made n s asked told) =
      let same = makes-once words n buses s seed asked asks in
      subst (λ x. MakesTo (most_of Bits127) buses x t) same.1 (subst (λ x. MakesTo (most_of Bits127) x s t) same.0 told)
