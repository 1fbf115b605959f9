-- Runs that a failed call or want of memory ends, and files that are not there.
use Rattle.std.specs.Prelude.{◌≡◌, ◌⊎◌, ℕ, List, ◌++◌, Option, Some, None, Result, codes, take}
use Rattle.std.proofs.Common.{inl, inr, refl, sym, subst, subst₂, ap, ◌∙◌}
use Rattle.std.proofs.lemmas.List.{append-nil}
use Rattle.outside_store.specs.Files.{Files}
use Rattle.outside_store.specs.Sinks.{Took}
use Rattle.market_model.specs.declared.participants.Parts.{Parts}
use Rattle.market_inputs.specs.declared.checking.Inputs.{Inputs}
use Rattle.market_inputs.specs.declared.making.FactorInputs.{FactorInputs}
use Rattle.market_tables.specs.Tables.{GridTexts, MarketTexts}
use Rattle.record_reading.specs.Records.{Record}
use Rattle.refusal_text.specs.declared.refusals.Refusal.{Refusal}
use Rattle.number_bits.specs.declared.NumberBits.{NumberBits}
use Rattle.command_words.specs.Words.{AsksCheck, AsksClear, AsksFactors, AsksMigrate, AsksPool, AsksReplay, AsksRights, AsksVerify, CheckNames, FactorNames, GridNames, IsCheckFile, IsFactorFile, IsGridFile, IsMarketFile, IsPoolFile, IsReplayFile, IsRightsFile, IsVerifyFile, MarketNames, NamesFile}
use Rattle.command_words.proofs.WordsLemmas.{asks-once, checks-once, clears-once, factors-once, migrates-once, replays-once, rights-once, verifies-once}
use Rattle.command_answers.specs.Inputs.{MarketCertificate, MarketRights, MarketSteps}
use Rattle.command_answers.specs.Tellings.{Telling}
use Rattle.command_answers.specs.declared.status.Status.{Status}
use Rattle.command_answers.specs.declared.status.Status.TheVariants as status
use Rattle.command_files.specs.OnlyReads.{IsSilent}
use Rattle.command_files.specs.Reading.{HaveGridTexts, HaveTexts, IsTableFile, source_of}
use Rattle.command_files.specs.Standing.{AreCheckFiles, AreClearFiles, AreFactorFiles, ArePoolFiles, AreReplayFiles, AreRightsFiles, AreVerifyFiles}
use Rattle.sced.specs.Headline.{LawOfAnswered, LawOfCauses, LawOfCutShort, LawOfMissing, LeavesBeginning}
use Rattle.sced.specs.Runs.{Ends, HasText, Outside}
use Rattle.sced.specs.Runs as ending
use Rattle.sced.specs.Told.{Answers, AnswersTo, checked, cleared, entitled, factored, made, migrated, pooled, refused, replayed, verified}
use Rattle.sced.proofs.AskedLemmas.{no-other, not-refused}
use Rattle.sced.proofs.LeftLemmas.{left-as}

pub silent-or : (s : Status) → IsSilent s ⊎ ¬ (IsSilent s)
silent-or s = by s
  where
    neither : (s : Status) → (s ≡ status.ReadFailed → ⊥) → (s ≡ status.Memory → ⊥) → ¬ (IsSilent s)
    neither s a b (inl e) = a e
    neither s a b (inr e) = b e

    by : (s : Status) → IsSilent s ⊎ ¬ (IsSilent s)
    by status.Done = inr (neither status.Done (λ e. cc e) (λ e. cc e))
    by status.Usage = inr (neither status.Usage (λ e. cc e) (λ e. cc e))
    by status.Refused = inr (neither status.Refused (λ e. cc e) (λ e. cc e))
    by status.Infeasible = inr (neither status.Infeasible (λ e. cc e) (λ e. cc e))
    by status.Range = inr (neither status.Range (λ e. cc e) (λ e. cc e))
    by status.ReadFailed = inl (inl refl)
    by status.WriteFailed = inr (neither status.WriteFailed (λ e. cc e) (λ e. cc e))
    by status.Memory = inl (inr refl)
    by status.Refuted = inr (neither status.Refuted (λ e. cc e) (λ e. cc e))

told-or : (s : Status) → ¬ (IsSilent s) → ¬ (s ≡ status.WriteFailed) → HasText s
told-or status.Done loud whole = tt
told-or status.Usage loud whole = tt
told-or status.Refused loud whole = tt
told-or status.Infeasible loud whole = tt
told-or status.Range loud whole = tt
told-or status.ReadFailed loud whole = absurd (loud (inl refl))
told-or status.WriteFailed loud whole = absurd (whole refl)
told-or status.Memory loud whole = absurd (loud (inr refl))
told-or status.Refuted loud whole = tt

-- ---- answered
taken-whole : (failed : Type 0) (t earlier : List ℕ) (a b : Option (List ℕ)) → a ≡ Some earlier → ¬ failed → Took failed t a b → b ≡ Some (earlier ++ t)
taken-whole failed t earlier a b was whole took = by b (subst (λ x. Took failed t x b) was took)
  where
    by : (b : Option (List ℕ)) → Took failed t (Some earlier) b → b ≡ Some (earlier ++ t)
    by None took = elim took [ ]
    by (Some now) took = ap Some (took.whole whole)

write-or : (s : Status) → (s ≡ status.WriteFailed) ⊎ ¬ (s ≡ status.WriteFailed)
write-or status.Done = inr (λ e. cc e)
write-or status.Usage = inr (λ e. cc e)
write-or status.Refused = inr (λ e. cc e)
write-or status.Infeasible = inr (λ e. cc e)
write-or status.Range = inr (λ e. cc e)
write-or status.ReadFailed = inr (λ e. cc e)
write-or status.WriteFailed = inl refl
write-or status.Memory = inr (λ e. cc e)
write-or status.Refuted = inr (λ e. cc e)

pub law_of_answered : LawOfAnswered
law_of_answered words before after s earlier runs was = elim (silent-or s) [
  | inl silent ↦ inl silent
  | inr loud ↦ elim (write-or s) [
    | inl failed ↦ inr (inl failed)
    | inr no-write ↦ inr (inr (told-or s loud no-write, put no-write (runs.told loud)))
  ]
]
  where
    put-by : ¬ (s ≡ status.WriteFailed) → (t : Telling) (w : List (List ℕ × List ℕ)) → Ends t w before.files after.files before.taken after.taken s → (text : List ℕ) × (after.taken ≡ Some (earlier ++ text))
    put-by no-write t w (ending.told kept took right) = (t.text, taken-whole (s ≡ status.WriteFailed) t.text earlier before.taken after.taken was no-write took)
    put-by no-write t w (ending.unwritten kept none failed) = absurd (no-write failed)

    put : ¬ (s ≡ status.WriteFailed) → Answers words before after s → (text : List ℕ) × (after.taken ≡ Some (earlier ++ text))
    put no-write a = put-by no-write a.telling a.written a.ends

-- ---- causes
pub law_of_causes : LawOfCauses
law_of_causes words before after s runs = (runs.reads, runs.writes)

-- ---- cut short
pub law_of_cut_short : LawOfCutShort
law_of_cut_short words before after s runs = record {
  silent = runs.silent;
  unwritten = runs.cut;
  left = λ is. leaves is (runs.told (loud is));
}
  where
    loud : s ≡ status.WriteFailed → ¬ (IsSilent s)
    loud is (inl read) = let wrong : status.WriteFailed ≡ status.ReadFailed = sym is ∙ read in cc wrong
    loud is (inr memory) = let wrong : status.WriteFailed ≡ status.Memory = sym is ∙ memory in cc wrong

    begun : s ≡ status.WriteFailed → (a : Answers words before after s) → (earlier now : List ℕ) → before.taken ≡ Some earlier → after.taken ≡ Some now → (k : ℕ) × (now ≡ earlier ++ take k a.telling.text)
    begun is a earlier now was has = by a.ends
      where
        by : Ends a.telling a.written before.files after.files before.taken after.taken s → (k : ℕ) × (now ≡ earlier ++ take k a.telling.text)
        by (ending.told kept took right) =
            let here : Took (s ≡ status.WriteFailed) a.telling.text (Some earlier) (Some now) = subst₂ (Took (s ≡ status.WriteFailed) a.telling.text) was has took in
            let cut = here.cut is in (cut.0, cut.1)
        by (ending.unwritten kept none failed) = let same : now ≡ earlier = cc (none, was, has) in (0, same ∙ sym (append-nil earlier))

    leaves : s ≡ status.WriteFailed → Answers words before after s → LeavesBeginning words before after s
    leaves is a = record { right = a; begun = begun is a; written = λ files later was has. left-as words before after a.written files later was has (a.failed is) }

-- ---- missing
-- a file is there
abbrev There : Files → List ℕ → Type 0
There files name = (text : List ℕ) × (files name ≡ Some text)

module _ (files : Files) (name : List ℕ) where
  here-as : (n text : List ℕ) → name ≡ n → files n ≡ Some text → There files name
  here-as n text same is = (text, ap files same ∙ is)

  optional-there : (header : Record) (o : Option (List ℕ)) (text : List ℕ) → o ≡ Some name → IsTableFile files (source_of header o) text → There files name
  optional-there header (Some n) text same is = here-as n text (let one : n ≡ name = cc same in sym one) is
  optional-there header None text same is = cc same

  grid-there : (names : GridNames) (texts : GridTexts) → HaveGridTexts files names texts → IsGridFile names name → There files name
  grid-there names texts have (inl same) = here-as names.case texts.case same have.case
  grid-there names texts have (inr (inl same)) = here-as names.ptdf texts.ptdf same have.ptdf
  grid-there names texts have (inr (inr (inl same))) = optional-there _ names.lodf texts.lodf same have.lodf
  grid-there names texts have (inr (inr (inr same))) = optional-there _ names.contingencies texts.contingencies same have.contingencies

  market-there : (names : MarketNames) (texts : MarketTexts) → HaveTexts files names texts → IsMarketFile names name → There files name
  market-there names texts have (inl grid) = grid-there names.tables.grid texts.grid have.grid grid
  market-there names texts have (inr (inl same)) = optional-there _ names.tables.unit_outages texts.unit_outages same have.unit_outages
  market-there names texts have (inr (inr (inl same))) = here-as names.tables.offers texts.offers same have.offers
  market-there names texts have (inr (inr (inr (inl same)))) = optional-there _ names.tables.reserves texts.reserves same have.reserves
  market-there names texts have (inr (inr (inr (inr (inl same))))) = optional-there _ names.tables.offsets texts.offsets same have.offsets
  market-there names texts have (inr (inr (inr (inr (inr same))))) = optional-there _ names.tables.penalties texts.penalties same have.penalties

  pool-there : (case offers : List ℕ) {told : Result Parts Refusal} → ArePoolFiles files case offers told → IsPoolFile case offers name → There files name
  pool-there case offers h (inl same) = here-as case h.case same h.case_is
  pool-there case offers h (inr same) = here-as offers h.offers same h.offers_is

  clear-there : (names : MarketNames) {told : Result Parts Refusal} → AreClearFiles files names told → IsMarketFile names name → There files name
  clear-there names h named = market-there names h.texts h.have named

  replay-there : (names : MarketNames) (edits : List ℕ) {told : Result MarketSteps Refusal} → AreReplayFiles files names edits told → IsReplayFile names edits name → There files name
  replay-there names edits h (inl market) = market-there names h.texts h.have market
  replay-there names edits h (inr same) = here-as edits h.edits same h.edits_are

  verify-there : (names : MarketNames) (edits : Option (List ℕ)) (certificate : List ℕ) {told : Result MarketCertificate Refusal} → AreVerifyFiles files names edits certificate told → IsVerifyFile names edits certificate name → There files name
  verify-there names edits certificate h (inl market) = market-there names h.texts h.have market
  verify-there names edits certificate h (inr (inl same)) = optional-there _ edits h.edits same h.edits_are
  verify-there names edits certificate h (inr (inr same)) = here-as certificate h.certificate same h.certificate_is

  check-there : (names : CheckNames) {told : Result Inputs Refusal} → AreCheckFiles files names told → IsCheckFile names name → There files name
  check-there names h named = grid-there names.tables h.texts h.have named

  factors-there : (names : FactorNames) {told : Result FactorInputs Refusal} → AreFactorFiles files names told → IsFactorFile names name → There files name
  factors-there names h (inl same) = here-as names.case h.case same h.case_is
  factors-there names h (inr same) = optional-there _ names.contingencies h.outages same h.outages_are

  rights-there : (names : MarketNames) (rights : List ℕ) {told : Result MarketRights Refusal} → AreRightsFiles files names rights told → IsRightsFile names rights name → There files name
  rights-there names rights h (inl market) = market-there names h.texts h.have market
  rights-there names rights h (inr same) = here-as rights h.rights same h.rights_are

  module _ (words : List (List ℕ)) (t : Telling) where
    told-pool : (case' offers' : List ℕ) (w : List (List ℕ × List ℕ)) → AnswersTo (Some files) words t w → AsksPool words case' offers' → IsPoolFile case' offers' name → There files name
    told-pool case' offers' _ (refused nothing usage) asks named = absurd (not-refused words _ asks.rows nothing asks.enters)
    told-pool case' offers' _ (pooled case offers asked tells) asks named = let same = asks-once words case offers case' offers' asked asks in pool-there case offers tells.stands (subst₂ (λ c o. IsPoolFile c o name) (sym same.0) (sym same.1) named)
    told-pool case' offers' _ (cleared names file asked tells) asks named = absurd (no-other words (codes "clear") (codes "pool") asked.rows asks.rows refl asked.enters asks.enters)
    told-pool case' offers' _ (replayed names edits file asked tells) asks named = absurd (no-other words (codes "replay") (codes "pool") asked.rows asks.rows refl asked.enters asks.enters)
    told-pool case' offers' _ (verified names edits certificate asked tells) asks named = absurd (no-other words (codes "verify") (codes "pool") asked.rows asks.rows refl asked.enters asks.enters)
    told-pool case' offers' _ (entitled names held asked tells) asks named = absurd (no-other words (codes "rights") (codes "pool") asked.rows asks.rows refl asked.enters asks.enters)
    told-pool case' offers' _ (migrated old out bits asked tells) asks named = absurd (no-other words (codes "migrate") (codes "pool") asked.rows asks.rows refl asked.enters asks.enters)
    told-pool case' offers' _ (checked names asked tells) asks named = absurd (no-other words (codes "check") (codes "pool") asked.rows asks.rows refl asked.enters asks.enters)
    told-pool case' offers' _ (factored names asked tells) asks named = absurd (no-other words (codes "factors") (codes "pool") asked.rows asks.rows refl asked.enters asks.enters)
    told-pool case' offers' _ (made buses seed asked makes) asks named = absurd (no-other words (codes "make") (codes "pool") asked.rows asks.rows refl asked.enters asks.enters)

    told-clear : (names' : MarketNames) (file' : Option (List ℕ)) (w : List (List ℕ × List ℕ)) → AnswersTo (Some files) words t w → AsksClear words names' file' → IsMarketFile names' name → There files name
    told-clear names' file' _ (refused nothing usage) asks named = absurd (not-refused words _ asks.rows nothing asks.enters)
    told-clear names' file' _ (pooled case offers asked tells) asks named = absurd (no-other words (codes "pool") (codes "clear") asked.rows asks.rows refl asked.enters asks.enters)
    told-clear names' file' _ (cleared names file asked tells) asks named = let same = clears-once words names names' file file' asked asks in clear-there names tells.stands (subst (λ n. IsMarketFile n name) (sym same.0) named)
    told-clear names' file' _ (replayed names edits file asked tells) asks named = absurd (no-other words (codes "replay") (codes "clear") asked.rows asks.rows refl asked.enters asks.enters)
    told-clear names' file' _ (verified names edits certificate asked tells) asks named = absurd (no-other words (codes "verify") (codes "clear") asked.rows asks.rows refl asked.enters asks.enters)
    told-clear names' file' _ (entitled names held asked tells) asks named = absurd (no-other words (codes "rights") (codes "clear") asked.rows asks.rows refl asked.enters asks.enters)
    told-clear names' file' _ (migrated old out bits asked tells) asks named = absurd (no-other words (codes "migrate") (codes "clear") asked.rows asks.rows refl asked.enters asks.enters)
    told-clear names' file' _ (checked names asked tells) asks named = absurd (no-other words (codes "check") (codes "clear") asked.rows asks.rows refl asked.enters asks.enters)
    told-clear names' file' _ (factored names asked tells) asks named = absurd (no-other words (codes "factors") (codes "clear") asked.rows asks.rows refl asked.enters asks.enters)
    told-clear names' file' _ (made buses seed asked makes) asks named = absurd (no-other words (codes "make") (codes "clear") asked.rows asks.rows refl asked.enters asks.enters)

    told-replay : (names' : MarketNames) (edits' : List ℕ) (file' : Option (List ℕ)) (w : List (List ℕ × List ℕ)) → AnswersTo (Some files) words t w → AsksReplay words names' edits' file' → IsReplayFile names' edits' name → There files name
    told-replay names' edits' file' _ (refused nothing usage) asks named = absurd (not-refused words _ asks.rows nothing asks.enters)
    told-replay names' edits' file' _ (pooled case offers asked tells) asks named = absurd (no-other words (codes "pool") (codes "replay") asked.rows asks.rows refl asked.enters asks.enters)
    told-replay names' edits' file' _ (cleared names file asked tells) asks named = absurd (no-other words (codes "clear") (codes "replay") asked.rows asks.rows refl asked.enters asks.enters)
    told-replay names' edits' file' _ (replayed names edits file asked tells) asks named = let same = replays-once words names names' edits edits' file file' asked asks in replay-there names edits tells.stands (subst₂ (λ n e. IsReplayFile n e name) (sym same.0) (sym same.1) named)
    told-replay names' edits' file' _ (verified names edits certificate asked tells) asks named = absurd (no-other words (codes "verify") (codes "replay") asked.rows asks.rows refl asked.enters asks.enters)
    told-replay names' edits' file' _ (entitled names held asked tells) asks named = absurd (no-other words (codes "rights") (codes "replay") asked.rows asks.rows refl asked.enters asks.enters)
    told-replay names' edits' file' _ (migrated old out bits asked tells) asks named = absurd (no-other words (codes "migrate") (codes "replay") asked.rows asks.rows refl asked.enters asks.enters)
    told-replay names' edits' file' _ (checked names asked tells) asks named = absurd (no-other words (codes "check") (codes "replay") asked.rows asks.rows refl asked.enters asks.enters)
    told-replay names' edits' file' _ (factored names asked tells) asks named = absurd (no-other words (codes "factors") (codes "replay") asked.rows asks.rows refl asked.enters asks.enters)
    told-replay names' edits' file' _ (made buses seed asked makes) asks named = absurd (no-other words (codes "make") (codes "replay") asked.rows asks.rows refl asked.enters asks.enters)

    told-verify : (names' : MarketNames) (edits' : Option (List ℕ)) (certificate' : List ℕ) (w : List (List ℕ × List ℕ)) → AnswersTo (Some files) words t w → AsksVerify words names' edits' certificate' → IsVerifyFile names' edits' certificate' name → There files name
    told-verify names' edits' certificate' _ (refused nothing usage) asks named = absurd (not-refused words _ asks.rows nothing asks.enters)
    told-verify names' edits' certificate' _ (pooled case offers asked tells) asks named = absurd (no-other words (codes "pool") (codes "verify") asked.rows asks.rows refl asked.enters asks.enters)
    told-verify names' edits' certificate' _ (cleared names file asked tells) asks named = absurd (no-other words (codes "clear") (codes "verify") asked.rows asks.rows refl asked.enters asks.enters)
    told-verify names' edits' certificate' _ (replayed names edits file asked tells) asks named = absurd (no-other words (codes "replay") (codes "verify") asked.rows asks.rows refl asked.enters asks.enters)
    told-verify names' edits' certificate' _ (verified names edits certificate asked tells) asks named = let same = verifies-once words names names' edits edits' certificate certificate' asked asks in verify-there names edits certificate tells.stands (subst (λ n. IsVerifyFile n edits certificate name) (sym same.0) (subst₂ (λ e c. IsVerifyFile names' e c name) (sym same.1) (sym same.2) named))
    told-verify names' edits' certificate' _ (entitled names held asked tells) asks named = absurd (no-other words (codes "rights") (codes "verify") asked.rows asks.rows refl asked.enters asks.enters)
    told-verify names' edits' certificate' _ (migrated old out bits asked tells) asks named = absurd (no-other words (codes "migrate") (codes "verify") asked.rows asks.rows refl asked.enters asks.enters)
    told-verify names' edits' certificate' _ (checked names asked tells) asks named = absurd (no-other words (codes "check") (codes "verify") asked.rows asks.rows refl asked.enters asks.enters)
    told-verify names' edits' certificate' _ (factored names asked tells) asks named = absurd (no-other words (codes "factors") (codes "verify") asked.rows asks.rows refl asked.enters asks.enters)
    told-verify names' edits' certificate' _ (made buses seed asked makes) asks named = absurd (no-other words (codes "make") (codes "verify") asked.rows asks.rows refl asked.enters asks.enters)

    told-check : (names' : CheckNames) (w : List (List ℕ × List ℕ)) → AnswersTo (Some files) words t w → AsksCheck words names' → IsCheckFile names' name → There files name
    told-check names' _ (refused nothing usage) asks named = absurd (not-refused words _ asks.rows nothing asks.enters)
    told-check names' _ (pooled case offers asked tells) asks named = absurd (no-other words (codes "pool") (codes "check") asked.rows asks.rows refl asked.enters asks.enters)
    told-check names' _ (cleared names file asked tells) asks named = absurd (no-other words (codes "clear") (codes "check") asked.rows asks.rows refl asked.enters asks.enters)
    told-check names' _ (replayed names edits file asked tells) asks named = absurd (no-other words (codes "replay") (codes "check") asked.rows asks.rows refl asked.enters asks.enters)
    told-check names' _ (verified names edits certificate asked tells) asks named = absurd (no-other words (codes "verify") (codes "check") asked.rows asks.rows refl asked.enters asks.enters)
    told-check names' _ (entitled names held asked tells) asks named = absurd (no-other words (codes "rights") (codes "check") asked.rows asks.rows refl asked.enters asks.enters)
    told-check names' _ (migrated old out bits asked tells) asks named = absurd (no-other words (codes "migrate") (codes "check") asked.rows asks.rows refl asked.enters asks.enters)
    told-check names' _ (factored names asked tells) asks named = absurd (no-other words (codes "factors") (codes "check") asked.rows asks.rows refl asked.enters asks.enters)
    told-check names' _ (checked names asked tells) asks named = check-there names tells.stands (subst (λ n. IsCheckFile n name) (sym (checks-once words names names' asked asks)) named)
    told-check names' _ (made buses seed asked makes) asks named = absurd (no-other words (codes "make") (codes "check") asked.rows asks.rows refl asked.enters asks.enters)

    told-rights : (names' : MarketNames) (rights' : List ℕ) (w : List (List ℕ × List ℕ)) → AnswersTo (Some files) words t w → AsksRights words names' rights' → IsRightsFile names' rights' name → There files name
    told-rights names' rights' _ (refused nothing usage) asks named = absurd (not-refused words _ asks.rows nothing asks.enters)
    told-rights names' rights' _ (pooled case offers asked tells) asks named = absurd (no-other words (codes "pool") (codes "rights") asked.rows asks.rows refl asked.enters asks.enters)
    told-rights names' rights' _ (cleared names file asked tells) asks named = absurd (no-other words (codes "clear") (codes "rights") asked.rows asks.rows refl asked.enters asks.enters)
    told-rights names' rights' _ (replayed names edits file asked tells) asks named = absurd (no-other words (codes "replay") (codes "rights") asked.rows asks.rows refl asked.enters asks.enters)
    told-rights names' rights' _ (verified names edits certificate asked tells) asks named = absurd (no-other words (codes "verify") (codes "rights") asked.rows asks.rows refl asked.enters asks.enters)
    told-rights names' rights' _ (entitled names held asked tells) asks named = let same = rights-once words names names' held rights' asked asks in rights-there names held tells.stands (subst₂ (λ n r. IsRightsFile n r name) (sym same.0) (sym same.1) named)
    told-rights names' rights' _ (migrated old out bits asked tells) asks named = absurd (no-other words (codes "migrate") (codes "rights") asked.rows asks.rows refl asked.enters asks.enters)
    told-rights names' rights' _ (checked names asked tells) asks named = absurd (no-other words (codes "check") (codes "rights") asked.rows asks.rows refl asked.enters asks.enters)
    told-rights names' rights' _ (factored names asked tells) asks named = absurd (no-other words (codes "factors") (codes "rights") asked.rows asks.rows refl asked.enters asks.enters)
    told-rights names' rights' _ (made buses seed asked makes) asks named = absurd (no-other words (codes "make") (codes "rights") asked.rows asks.rows refl asked.enters asks.enters)

    told-migrate : (certificate' out' : List ℕ) (bits' : NumberBits) (w : List (List ℕ × List ℕ)) → AnswersTo (Some files) words t w → AsksMigrate words certificate' out' bits' → name ≡ certificate' → There files name
    told-migrate certificate' out' bits' _ (refused nothing usage) asks named = absurd (not-refused words _ asks.rows nothing asks.enters)
    told-migrate certificate' out' bits' _ (pooled case offers asked tells) asks named = absurd (no-other words (codes "pool") (codes "migrate") asked.rows asks.rows refl asked.enters asks.enters)
    told-migrate certificate' out' bits' _ (cleared names file asked tells) asks named = absurd (no-other words (codes "clear") (codes "migrate") asked.rows asks.rows refl asked.enters asks.enters)
    told-migrate certificate' out' bits' _ (replayed names edits file asked tells) asks named = absurd (no-other words (codes "replay") (codes "migrate") asked.rows asks.rows refl asked.enters asks.enters)
    told-migrate certificate' out' bits' _ (verified names edits certificate asked tells) asks named = absurd (no-other words (codes "verify") (codes "migrate") asked.rows asks.rows refl asked.enters asks.enters)
    told-migrate certificate' out' bits' _ (entitled names held asked tells) asks named = absurd (no-other words (codes "rights") (codes "migrate") asked.rows asks.rows refl asked.enters asks.enters)
    told-migrate certificate' out' bits' _ (migrated old out bits asked tells) asks named = here-as old tells.stands.certificate (named ∙ sym (migrates-once words old certificate' out out' bits bits' asked asks).0) tells.stands.certificate_is
    told-migrate certificate' out' bits' _ (checked names asked tells) asks named = absurd (no-other words (codes "check") (codes "migrate") asked.rows asks.rows refl asked.enters asks.enters)
    told-migrate certificate' out' bits' _ (factored names asked tells) asks named = absurd (no-other words (codes "factors") (codes "migrate") asked.rows asks.rows refl asked.enters asks.enters)
    told-migrate certificate' out' bits' _ (made buses seed asked makes) asks named = absurd (no-other words (codes "make") (codes "migrate") asked.rows asks.rows refl asked.enters asks.enters)

    told-factors : (names' : FactorNames) (w : List (List ℕ × List ℕ)) → AnswersTo (Some files) words t w → AsksFactors words names' → IsFactorFile names' name → There files name
    told-factors names' _ (refused nothing usage) asks named = absurd (not-refused words _ asks.rows nothing asks.enters)
    told-factors names' _ (pooled case offers asked tells) asks named = absurd (no-other words (codes "pool") (codes "factors") asked.rows asks.rows refl asked.enters asks.enters)
    told-factors names' _ (cleared names file asked tells) asks named = absurd (no-other words (codes "clear") (codes "factors") asked.rows asks.rows refl asked.enters asks.enters)
    told-factors names' _ (replayed names edits file asked tells) asks named = absurd (no-other words (codes "replay") (codes "factors") asked.rows asks.rows refl asked.enters asks.enters)
    told-factors names' _ (verified names edits certificate asked tells) asks named = absurd (no-other words (codes "verify") (codes "factors") asked.rows asks.rows refl asked.enters asks.enters)
    told-factors names' _ (entitled names held asked tells) asks named = absurd (no-other words (codes "rights") (codes "factors") asked.rows asks.rows refl asked.enters asks.enters)
    told-factors names' _ (migrated old out bits asked tells) asks named = absurd (no-other words (codes "migrate") (codes "factors") asked.rows asks.rows refl asked.enters asks.enters)
    told-factors names' _ (checked names asked tells) asks named = absurd (no-other words (codes "check") (codes "factors") asked.rows asks.rows refl asked.enters asks.enters)
    told-factors names' _ (factored names asked tells) asks named = factors-there names tells.stands (subst (λ n. IsFactorFile n name) (sym (factors-once words names names' asked asks)) named)
    told-factors names' _ (made buses seed asked makes) asks named = absurd (no-other words (codes "make") (codes "factors") asked.rows asks.rows refl asked.enters asks.enters)

    named-there : (w : List (List ℕ × List ℕ)) → AnswersTo (Some files) words t w → NamesFile words name → There files name
    named-there w a (inl (case, offers, asks, named)) = told-pool case offers w a asks named
    named-there w a (inr (inl (names, file, asks, named))) = told-clear names file w a asks named
    named-there w a (inr (inr (inl (names, edits, file, asks, named)))) = told-replay names edits file w a asks named
    named-there w a (inr (inr (inr (inl (names, edits, certificate, asks, named))))) = told-verify names edits certificate w a asks named
    named-there w a (inr (inr (inr (inr (inl (names, asks, named)))))) = told-check names w a asks named
    named-there w a (inr (inr (inr (inr (inr (inl (names, held, asks, named))))))) = told-rights names held w a asks named
    named-there w a (inr (inr (inr (inr (inr (inr (inl (old, out, bits, asks, named)))))))) = told-migrate old out bits w a asks named
    named-there w a (inr (inr (inr (inr (inr (inr (inr (names, asks, named)))))))) = told-factors names w a asks named

pub law_of_missing : LawOfMissing
law_of_missing words before after s files name runs are named missing = elim (silent-or s) [
  | inl silent ↦ silent
  | inr loud ↦ absurd (not-there (runs.told loud))
]
  where
    not-there : ¬ (Answers words before after s)
    not-there a =
        let there = named-there files name words a.telling a.written (subst (λ f. AnswersTo f words a.telling a.written) are a.right) named in
        let wrong : None ≡ Some there.0 = sym missing ∙ there.1 in cc wrong
