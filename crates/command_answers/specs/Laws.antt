-- What the certificates that are written say of their markets.
use Rattle.std.specs.Prelude.{◌≡◌, ◌≢◌, ◌↔◌, ◌⊎◌, ◌++◌, ◌≤◌, [], ◌∷◌, ℕ, List, All, Some, None, Ok, codes, length, option_and_then}
use Rattle.fraction_theory.specs.Fraction.{Fraction}
use Rattle.exact_fraction.specs.declared.Passed.{Passed}
use Rattle.market_model.specs.declared.answered.Answer.{Answer}
use Rattle.market_model.specs.declared.answered.Farkas.{Farkas}
use Rattle.market_model.specs.declared.answered.Outcome.{Outcome}
use Rattle.market_model.specs.declared.answered.Outcome.TheVariants as outcome
use Rattle.market_model.specs.declared.participants.Parts.{Parts}
use Rattle.market_model.specs.declared.participants.TransmissionRight.{TransmissionRight}
use Rattle.market_model.specs.Market.{IsMarket}
use Rattle.market_model.specs.Reserves.{no_reserve}
use Rattle.cert_format.specs.declared.certificate.Cert.{Cert}
use Rattle.cert_format.specs.Certificates.{cert_of_outcome}
use Rattle.cert_format.specs.Grammar.{cert_read}
use Rattle.cert_verify.specs.Certificates.{IsTrueOf, first_reason}
use Rattle.cert_verify.specs.Reasons.{verdict_of}
use Rattle.cert_verify.specs.declared.verdicts.Verdict.TheVariants.{Yes}
use Rattle.edit_table.specs.EditTable.{IsStep}
use Rattle.edit_table.specs.declared.Step.{Step}
use Rattle.edit_table.specs.declared.Step.TheVariants as step
use Rattle.edit_replay.specs.Replays.{edited_by}
use Rattle.market_tables.specs.Tables.{MarketTexts}
use Rattle.market_inputs.specs.Files.{most_file, sized}
use Rattle.market_inputs.specs.Replaying.{steps_in}
use Rattle.market_inputs.specs.Tables.{ListsNoReserve}
use Rattle.market_inputs.specs.Texts.{IsLimited}
use Rattle.market_data.specs.declared.scales.FactorPlaces.{FactorPlaces}
use Rattle.net_case.specs.declared.live_parts.PostRating.{PostRating}
use Rattle.report_text.specs.ReportLaws.{DualsFitReport, FitsReport}
use Rattle.report_text.specs.Reports.{range_text, report_text}
use Rattle.settled_answer.specs.Settled.{HasFirstPrices}
use Rattle.settled_replay.specs.Refusals.{AllFirst}
use Rattle.rights_test.specs.declared.right_parts.Fit.{Fit}
use Rattle.rights_test.specs.declared.right_parts.Payments.{Payments}
use Rattle.refusal_text.specs.declared.refusals.Input.TheVariants as input
use Rattle.refusal_text.specs.declared.refusals.Refusal.TheVariants as refusal
use Rattle.command_answers.specs.Clearing.{TellsClear}
use Rattle.command_answers.specs.Inputs.{IsCertified, MarketSteps}
use Rattle.command_answers.specs.Replaying.{IsNoRange, ReplaysTo, TellsReplay, last_clear}
use Rattle.command_answers.specs.Rights.{EntitlesTo}
use Rattle.command_answers.specs.RightsLines.{rights_lines}
use Rattle.command_answers.specs.Tellings.{Telling, Tells, uncertified}
use Rattle.command_answers.specs.Verifying.{TellsVerdict}
use Rattle.command_answers.specs.declared.status.Status.TheVariants as status

-- ---- files
-- the market that files stand for is of energy alone exactly where their table of reserves has no records
abbrev pub LawOfListedReserve : Type 0
LawOfListedReserve = (rating : PostRating) (places : FactorPlaces) (files : MarketTexts) (m : Parts) → IsLimited rating places files (Ok m) → (m.reserve ≡ no_reserve) ↔ ListsNoReserve files.reserves

-- ---- bounds
-- what a clear comes to by numbers within a bound, where no two of them became too large and an answer has first prices, is right by a greater one
-- too
abbrev pub LawOfWiderClears : Type 0
LawOfWiderClears = (less bound : ℕ) (m : Parts) (t : Telling) → less ≤ bound → (h : TellsClear less m t) → t.status ≢ status.Range → HasFirstPrices m h.1.outcome → TellsClear bound m t

-- so is what a clear with rights comes to
abbrev pub LawOfWiderRights : Type 0
LawOfWiderRights =
    (less bound : ℕ) (m : Parts) (rights : List TransmissionRight) (t : Telling) → less ≤ bound → (h : EntitlesTo less m rights t) → t.status ≢ status.Range → HasFirstPrices m h.outcome → EntitlesTo bound m rights t

-- so is what a replay comes to, where none of its clears ended so and each answer has first prices
abbrev pub LawOfWiderReplays : Type 0
LawOfWiderReplays =
    (less bound : ℕ) (m : Parts) (steps : List Step) (t : Telling) → less ≤ bound → IsMarket m → All IsStep steps → (h : ReplaysTo less m steps t) → All IsNoRange h.outcomes → AllFirst m steps h.outcomes → ReplaysTo bound m steps t

-- ---- certificates
-- a text is read as this certificate, of numbers within the bound, which is true of the market, and the verdict on it is yes
pub record Certifies (bound : ℕ) (m : Parts) (text : List ℕ) (c : Cert Fraction) : Type 0 where
  pub read : cert_read bound text ≡ Ok c
  pub holds : IsTrueOf m c
  pub yes : verdict_of (first_reason m c) ≡ Yes

-- what a clear of a market writes is read as the certificate of what it came to, which is true of the market
abbrev pub LawOfTheRoundTrip : Type 0
LawOfTheRoundTrip =
    (bound : ℕ) (m : Parts) (t : Telling) (text : List ℕ) (tells : TellsClear bound m t) → t.outputs.certificate ≡ Some text → (c : Cert Fraction) × (cert_of_outcome m.factor_places m.reserve.listed tells.1.outcome ≡ Some c) × Certifies bound m text c

abbrev pub IsEdit : Step → Type 0
IsEdit (step.Edit e) = Unit {0}
IsEdit step.Clear = ⊥

-- the same for the market as the steps before the last clear have edited it
pub record CertifiesLast (bound : ℕ) (r : MarketSteps) (text : List ℕ) (c : Cert Fraction) : Type 0 where
  pub front : List Step
  pub rest : List Step
  pub steps_are : r.steps ≡ front ++ step.Clear ∷ rest
  pub last : All IsEdit rest
  pub certifies : Certifies bound (edited_by r.market front) text c

-- so is what a replay writes, as that of what its last clear came to
abbrev pub LawOfTheReplay : Type 0
LawOfTheReplay =
    (bound : ℕ) (r : MarketSteps) (t : Telling) (text : List ℕ) (tells : TellsReplay bound r t) → t.outputs.certificate ≡ Some text
    → (c : Cert Fraction) × (option_and_then (cert_of_outcome r.market.factor_places r.market.reserve.listed) (last_clear None tells.1.outcomes) ≡ Some c) × CertifiesLast bound r text c

-- ---- when it is verified
-- yes is told, or that numbers are too large
abbrev pub IsYesOrRange : Telling → Type 0
IsYesOrRange t = (t ≡ uncertified status.Done (codes "yes\n")) ⊎ (t.status ≡ status.Range)

-- so it is where such a certificate is verified against the market
abbrev pub LawOfYes : Type 0
LawOfYes = (bound : ℕ) (m : Parts) (text : List ℕ) (c : Cert Fraction) (t : Telling) → Certifies bound m text c → TellsVerdict bound (record { market = m; certificate = c }) t → IsYesOrRange t

-- and where what a clear of some files comes to as its certificate is verified with the same files and without edits, as one that is no
-- longer than a file may be
abbrev pub LawOfTheSameFiles : Type 0
LawOfTheSameFiles =
    (bound : ℕ) (rating : PostRating) (places : FactorPlaces) (files : MarketTexts) (edits text : List ℕ) (clear verify : Telling) → Tells (IsLimited rating places files) (TellsClear bound) clear → clear.outputs.certificate ≡ Some text → length text ≤ most_file
    → steps_in (sized (refusal.TooLong input.Edits) edits) ≡ Ok [] → Tells (IsCertified bound rating places files edits text) (TellsVerdict bound) verify → IsYesOrRange verify

-- ---- what is told of rights
-- What `rights` prints of a market: an answer with whether the rights fit and what they are paid; an answer with two numbers that became too
-- large there; or what is no answer, and nothing of rights.
pub data RightsReport : Type 0 where
  paid : Answer Fraction → Fit Fraction → Payments Fraction → RightsReport
  unpaid : Answer Fraction → Passed Fraction → RightsReport
  infeasible : Farkas Fraction → RightsReport
  range : Passed Fraction → RightsReport

-- its text
abbrev pub rights_report_text : Parts → RightsReport → List ℕ
rights_report_text m (paid a f p) = report_text m (outcome.Cleared a) ++ rights_lines f p
rights_report_text m (unpaid a p) = report_text m (outcome.Cleared a) ++ range_text p
rights_report_text m (infeasible f) = report_text m (outcome.Infeasible f)
rights_report_text m (range p) = report_text m (outcome.Range p)

-- the outcome that it tells
abbrev pub outcome_in : RightsReport → Outcome Fraction
outcome_in (paid a f p) = outcome.Cleared a
outcome_in (unpaid a p) = outcome.Cleared a
outcome_in (infeasible f) = outcome.Infeasible f
outcome_in (range p) = outcome.Range p

-- its answer, where there is one, fits the market's report, and so do Farkas duals; nothing is asked of the fit and the payments
abbrev pub FitsRightsReport : Parts → RightsReport → Type 0
FitsRightsReport m (paid a f p) = FitsReport m a
FitsRightsReport m (unpaid a p) = FitsReport m a
FitsRightsReport m (infeasible f) = DualsFitReport m f.duals
FitsRightsReport m (range p) = Unit {0}

-- two of these that fit a market and have one text are of the same kind with the same contents
abbrev pub LawOfTheRightsText : Type 0
LawOfTheRightsText = (m : Parts) (r s : RightsReport) → FitsRightsReport m r → FitsRightsReport m s → rights_report_text m r ≡ rights_report_text m s → r ≡ s

-- what is told of one market with two lists of rights is of one outcome and has one status where it has one text
abbrev pub LawOfTheRightsTelling : Type 0
LawOfTheRightsTelling =
    (bound : ℕ) (m : Parts) (rights others : List TransmissionRight) (t u : Telling) (x : EntitlesTo bound m rights t) (y : EntitlesTo bound m others u)
    → t.text ≡ u.text → (x.outcome ≡ y.outcome) × (t ≡ u)
